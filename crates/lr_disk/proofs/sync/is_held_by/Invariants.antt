use Rattle.std.proofs.Common.{◌≡◌, take, false}
use Rattle.std.specs.List.{list_any}
use Rattle.lr_host.specs.World.{shares}
use Rattle.lr_disk.specs.Pending.{as_change, pending_of}
use Rattle.lr_disk.proofs.sync.is_held_by.Given as goal

abbrev pub invariant-loop-i : goal.invariant-loop-i
invariant-loop-i l = list_any (λ v. shares v (as_change l.change)) (pending_of (take l.i l.newer)) ≡ false
