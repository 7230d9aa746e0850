use Rattle.std.proofs.Common.{◌≡◌, ℕ, List, map, vec_len, vec_capacity}
use Rattle.lr_host.specs.World.{names_after}
use Rattle.lr_disk.specs.Pairs.{keys}
use Rattle.lr_disk.specs.Names.{named_in}
use Rattle.lr_disk.specs.Pending.{as_change, AreKnown}
use Rattle.lr_disk.proofs.replay.replay_all.Given as goal

abbrev pub invariant-loop-change : goal.invariant-loop-change
invariant-loop-change l = record {
  named : (x : List ℕ) → names_after (named_in l.names) (map as_change l.changes.items) x ≡ names_after (named_in l.fn.names) (map as_change l.fn.changes.items) x;
  same : keys l.names ≡ keys l.fn.names;
  known : AreKnown l.names (map as_change l.changes.items);
  room : vec_capacity l.changes ≡ vec_capacity l.fn.changes;
}

abbrev pub decreases-loop-change : goal.decreases-loop-change
decreases-loop-change l = vec_len l.changes
