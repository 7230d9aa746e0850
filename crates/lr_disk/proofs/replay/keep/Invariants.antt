use Rattle.std.proofs.Common.{◌≡◌, ℕ, List, take}
use Rattle.lr_host.specs.World.{names_after, kept_at}
use Rattle.lr_disk.specs.Pairs.{keys}
use Rattle.lr_disk.specs.Names.{named_in}
use Rattle.lr_disk.specs.Pending.{pending_of}
use Rattle.lr_disk.proofs.replay.keep.Given as goal

abbrev pub invariant-loop-i : goal.invariant-loop-i
invariant-loop-i l = record {
  named : (x : List ℕ) → named_in l.names x ≡ names_after (named_in l.fn.names) (kept_at l.kept (pending_of (take l.i l.changes))) x;
  same : keys l.names ≡ keys l.fn.names;
}
