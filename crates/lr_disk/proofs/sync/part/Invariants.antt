use Rattle.std.proofs.Common.{◌≡◌, ◌≤◌, ◌+◌, ◌++◌, [], length, map, vec_len, vec_capacity}
use Rattle.lr_host.proofs.Closed.{bound_of, unbound_of}
use Rattle.lr_disk.specs.Pending.{as_change, pending_of}
use Rattle.lr_disk.proofs.sync.part.Given as goal

abbrev pub invariant-loop-change : goal.invariant-loop-change
invariant-loop-change l = record {
  bound : map as_change l.bound.items ++ bound_of l.dir (pending_of l.bound.items) (pending_of l.changes.items) ≡ bound_of l.dir [] (pending_of l.fn.changes.items);
  rest : map as_change l.rest.items ++ unbound_of l.dir (pending_of l.bound.items) (pending_of l.changes.items) ≡ unbound_of l.dir [] (pending_of l.fn.changes.items);
  room : length l.bound.items + length l.changes.items ≤ vec_capacity l.bound;
  room_too : length l.rest.items + length l.changes.items ≤ vec_capacity l.rest;
  count : length l.bound.items + length l.rest.items + length l.changes.items ≡ length l.fn.changes.items;
  changes_room : vec_capacity l.changes ≡ vec_capacity l.fn.changes;
  bound_room : vec_capacity l.fn.bound ≤ vec_capacity l.bound;
  rest_room : vec_capacity l.fn.rest ≤ vec_capacity l.rest;
}

abbrev pub decreases-loop-change : goal.decreases-loop-change
decreases-loop-change l = vec_len l.changes
