use Rattle.std.proofs.Common.{◌≡◌, drop}
use Rattle.lr_host.specs.World.{is_listed}
use Rattle.lr_disk.proofs.closed.lists.Given as goal

abbrev pub invariant-loop-k : goal.invariant-loop-k
invariant-loop-k l = is_listed (drop l.k-index l.kept) l.place ≡ is_listed l.kept l.place
