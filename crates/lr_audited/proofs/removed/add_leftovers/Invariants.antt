use Rattle.std.proofs.Common.{◌≡◌, ◌++◌, map, take}
use Rattle.lr_audited.specs.Removed.{left_over}
use Rattle.lr_audited.proofs.removed.add_leftovers.Given as goal

abbrev pub invariant-loop-removal : goal.invariant-loop-removal
invariant-loop-removal l = record { into : l.into.items ≡ l.initial.into.items ++ map left_over (take l.removal-index l.log.ready.leftovers) }
