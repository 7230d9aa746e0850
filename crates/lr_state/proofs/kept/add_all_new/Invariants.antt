use Rattle.std.proofs.Common.{◌≡◌, take}
use Rattle.lr_state.specs.After.{with_new}
use Rattle.lr_state.proofs.kept.add_all_new.Given as goal

abbrev pub invariant-loop-log : goal.invariant-loop-log
invariant-loop-log l = record { table : l.table ≡ with_new (take l.log-index l.logs) l.now l.initial.table }
