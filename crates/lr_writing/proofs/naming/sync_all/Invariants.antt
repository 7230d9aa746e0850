use Rattle.std.proofs.Common.{◌≡◌, ◌++◌, [], length, map}
use Rattle.std.specs.Vec.Iter.{into_iter_items, into_iter_len}
use Rattle.lr_plan.specs.declared.step.Step.TheVariants as step
use Rattle.lr_plan.specs.Asking.{CanMake}
use Rattle.lr_writing.specs.Writes.{ComesTo}
use Rattle.lr_writing.proofs.naming.sync_all.Given as goal

abbrev pub invariant-loop-dir : goal.invariant-loop-dir
invariant-loop-dir g l = record {
  next : (goal.iterator-loop-dir g).can_next l.dir-iterator;
  finite : (goal.iterator-loop-dir g).is_finite l.dir-iterator;
  all : l.yielded ++ into_iter_items l.dir-iterator ≡ into_iter_items l.initial.dir-iterator;
  long : into_iter_len l.dir-iterator ≡ length (into_iter_items l.dir-iterator);
  fits : CanMake (g.H.Host.told l.host) (map step.SyncsDir (into_iter_items l.dir-iterator));
  made : ComesTo (map step.SyncsDir l.yielded) [] (g.H.Host.told l.initial.host) (g.H.Host.told l.host) (g.H.Host.counts l.initial.host) (g.H.Host.counts l.host);
}
