use Rattle.std.proofs.Common.{take}
use Rattle.lr_host.specs.World.{IsClosed}
use Rattle.lr_disk.specs.Pending.{pending_of}
use Rattle.lr_disk.proofs.closed.is_closed.Given as goal

abbrev pub invariant-loop-j : goal.invariant-loop-j
invariant-loop-j l = IsClosed l.kept (pending_of (take l.j l.changes))
