use Rattle.std.proofs.Common.{◌≡◌, ◌≤◌, ◌+◌, ◌++◌, length, map, vec_len, vec_capacity}
use Rattle.lr_disk.specs.Pending.{as_change, pending_of}
use Rattle.lr_disk.proofs.sync.put_back.Given as goal

abbrev pub invariant-loop-change : goal.invariant-loop-change
invariant-loop-change l = record {
  all : map as_change l.rest.items ++ pending_of l.changes.items ≡ map as_change l.fn.rest.items;
  room : length l.rest.items + length l.changes.items ≤ vec_capacity l.changes;
  count : length l.rest.items + length l.changes.items ≡ length l.fn.rest.items;
  rest_room : vec_capacity l.rest ≡ vec_capacity l.fn.rest;
}

abbrev pub decreases-loop-change : goal.decreases-loop-change
decreases-loop-change l = vec_len l.rest
