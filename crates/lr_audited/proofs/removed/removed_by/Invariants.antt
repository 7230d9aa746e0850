use Rattle.std.proofs.Common.{◌≡◌, take}
use Rattle.std.specs.List.{flat_map}
use Rattle.lr_audited.specs.Removed.{set_removed}
use Rattle.lr_audited.proofs.removed.removed_by.Given as goal

abbrev pub invariant-loop-set : goal.invariant-loop-set
invariant-loop-set l = record { list : l.list.items ≡ flat_map (set_removed l.clock) (take l.set-index l.sets) }
