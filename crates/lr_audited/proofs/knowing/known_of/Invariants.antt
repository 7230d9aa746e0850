use Rattle.std.proofs.Common.{◌≡◌, ◌++◌, length}
use Rattle.std.specs.Vec.Iter.{into_iter_items, into_iter_len}
use Rattle.lr_audited.specs.InternalKnown.{IsIndexed}
use Rattle.lr_audited.proofs.knowing.known_of.Given as goal

abbrev pub invariant-loop-line : goal.invariant-loop-line
invariant-loop-line l = record {
  all : l.yielded ++ into_iter_items l.line-iterator ≡ into_iter_items l.initial.line-iterator;
  long : into_iter_len l.line-iterator ≡ length (into_iter_items l.line-iterator);
  lines : l.known.lines.items ≡ l.yielded;
  indexed : IsIndexed l.known;
}
