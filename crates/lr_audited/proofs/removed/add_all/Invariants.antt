use Rattle.std.proofs.Common.{◌≡◌, ◌++◌, length}
use Rattle.std.specs.Vec.Iter.{into_iter_items, into_iter_len}
use Rattle.lr_audited.proofs.removed.add_all.Given as goal

abbrev pub invariant-loop-one : goal.invariant-loop-one
invariant-loop-one l = record {
  all : l.yielded ++ into_iter_items l.one-iterator ≡ into_iter_items l.initial.one-iterator;
  long : into_iter_len l.one-iterator ≡ length (into_iter_items l.one-iterator);
  made : l.into.items ≡ l.initial.into.items ++ l.yielded;
}
