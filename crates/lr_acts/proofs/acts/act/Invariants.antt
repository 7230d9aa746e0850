use Rattle.std.proofs.Common.{◌≡◌, ◌++◌, length}
use Rattle.std.specs.Vec.Iter.{into_iter_items, into_iter_len}
use Rattle.lr_plan.specs.Asking.{CanSets}
use Rattle.lr_plan.specs.Done.{SetsDone}
use Rattle.lr_acts.specs.Adding.{AddsSteps, HasRoom, FillsRoom}
use Rattle.lr_acts.specs.Making.{all_of_sets}
use Rattle.lr_acts.proofs.acts.act.Given as goal

abbrev pub invariant-loop-set : goal.invariant-loop-set
invariant-loop-set g l = record {
  next : (goal.iterator-loop-set g).can_next l.set-iterator;
  finite : (goal.iterator-loop-set g).is_finite l.set-iterator;
  all : l.yielded ++ into_iter_items l.set-iterator ≡ into_iter_items l.initial.set-iterator;
  long : into_iter_len l.set-iterator ≡ length (into_iter_items l.set-iterator);
  fits : CanSets (g.H.Host.told l.host) (into_iter_items l.set-iterator);
  room : HasRoom (length (all_of_sets (into_iter_items l.set-iterator))) l.progress;
  added : AddsSteps (SetsDone l.yielded) (all_of_sets l.yielded) l.initial.progress l.progress (g.H.Host.told l.initial.host) (g.H.Host.told l.host) (g.H.Host.counts l.initial.host) (g.H.Host.counts l.host);
  fills : FillsRoom (length (all_of_sets l.yielded)) l.initial.progress l.progress;
}
