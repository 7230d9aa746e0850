use Rattle.std.proofs.Common.{◌≡◌, take, false}
use Rattle.std.specs.List.{list_any}
use Rattle.lr_host.specs.World.{shares, undone_at}
use Rattle.lr_disk.specs.Pending.{as_change, pending_of}
use Rattle.lr_disk.proofs.closed.is_apart.Given as goal

abbrev pub invariant-loop-i : goal.invariant-loop-i
invariant-loop-i l = list_any (shares (as_change l.change)) (undone_at l.kept (pending_of (take l.i l.earlier))) ≡ false
