use Rattle.std.proofs.Common.{◌≡◌, ◌++◌, take}
use Rattle.lr_scripts.specs.Commands.{behind_spaces}
use Rattle.lr_scripts.proofs.words.add_words.Given as goal

abbrev pub invariant-loop-word : goal.invariant-loop-word
invariant-loop-word l = record { added : l.line.items ≡ l.initial.line.items ++ behind_spaces (take l.word-index l.words) }
