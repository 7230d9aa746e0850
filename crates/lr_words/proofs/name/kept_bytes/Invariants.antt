use Rattle.std.proofs.Common.{◌≡◌, map}
use Rattle.lr_words.specs.Names.{behind_word_slashes}
use Rattle.lr_words.proofs.name.kept_bytes.Given as goal

abbrev pub invariant-loop-part : goal.invariant-loop-part
invariant-loop-part l = l.bytes.items ≡ behind_word_slashes (map (λ x. x.now) l.yielded)
