use Rattle.std.proofs.Common.{◌≡◌, ◌++◌, drop}
use Rattle.lr_forms.specs.Says.{log_names, name_faults, named}
use Rattle.lr_forms.proofs.names.named.Given as goal

-- what is left says what all say, behind the names so far
abbrev pub invariant-loop-word : goal.invariant-loop-word
invariant-loop-word l = named (name_faults l.words) (log_names l.words) ≡ named (name_faults (drop l.word-index l.words)) (l.names ++ log_names (drop l.word-index l.words))
