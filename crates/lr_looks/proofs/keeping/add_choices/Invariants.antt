use Rattle.std.proofs.Common.{◌≡◌, ◌++◌, take}
use Rattle.lr_looks.specs.Choices.{choice_faults}
use Rattle.lr_looks.specs.Found.{all_found_in}
use Rattle.lr_looks.proofs.keeping.add_choices.Given as goal

abbrev pub invariant-loop-at : goal.invariant-loop-at
invariant-loop-at l = record { faults : l.faults.items ≡ l.initial.faults.items ++ choice_faults l.reserved (all_found_in l.found) (all_found_in (take l.at l.found)) (take l.at l.choices) }
