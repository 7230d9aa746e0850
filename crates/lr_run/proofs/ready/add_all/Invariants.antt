use Rattle.std.proofs.Common.{◌≡◌, ◌++◌, take}
use Rattle.lr_run.proofs.ready.add_all.Given as goal

abbrev pub invariant-loop-fault : goal.invariant-loop-fault
invariant-loop-fault l = l.faults.items ≡ l.initial.faults.items ++ take l.fault-index l.more
