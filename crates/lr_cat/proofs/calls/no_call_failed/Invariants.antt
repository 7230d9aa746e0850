use Rattle.std.proofs.Common.{◌≡◌, take}
use Rattle.lr_host.specs.Counted.{calls_in}
use Rattle.lr_cat.proofs.calls.no_call_failed.Given as goal

abbrev pub invariant-loop-fault : goal.invariant-loop-fault
invariant-loop-fault l = calls_in (take l.fault-index l.faults) ≡ 0
