use Rattle.std.proofs.Common.{◌≡◌, ◌≤◌, length, take}
use Rattle.lr_adapt.proofs.calls.names_in.Given as goal

abbrev pub invariant-loop-entry : goal.invariant-loop-entry
invariant-loop-entry g l = record {
  next : (goal.iterator-loop-entry g).can_next l.entry-iterator;
  finite : (goal.iterator-loop-entry g).is_finite l.entry-iterator;
  kept : take (length l.initial.names.items) l.names.items ≡ l.initial.names.items;
  longer : length l.initial.names.items ≤ length l.names.items;
}
