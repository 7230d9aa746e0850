use Rattle.std.proofs.Common.{◌≡◌, map, take}
use Rattle.lr_plan.specs.Done.{rotated_logs}
use Rattle.lr_state.specs.After.{stamped}
use Rattle.lr_run.proofs.acting.stamp_all.Given as goal

abbrev pub invariant-loop-mark : goal.invariant-loop-mark
invariant-loop-mark l = record { table : l.table ≡ map (stamped (rotated_logs (take l.mark-index l.marks)) l.now) l.initial.table }
