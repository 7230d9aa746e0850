use Rattle.std.proofs.Common.{◌≡◌, ◌++◌, length}
use Rattle.std.specs.Vec.Iter.{into_iter_items, into_iter_len}
use Rattle.lr_plan.specs.Asking.{CanEach}
use Rattle.lr_plan.specs.Done.{EachDone}
use Rattle.lr_acts.specs.Adding.{AddsSteps, HasRoom, FillsRoom}
use Rattle.lr_acts.specs.Making.{all_of_each}
use Rattle.lr_acts.proofs.acts.make_each.Given as goal

abbrev pub invariant-loop-steps : goal.invariant-loop-steps
invariant-loop-steps g l = record {
  next : (goal.iterator-loop-steps g).can_next l.steps-iterator;
  finite : (goal.iterator-loop-steps g).is_finite l.steps-iterator;
  all : l.yielded ++ into_iter_items l.steps-iterator ≡ into_iter_items l.initial.steps-iterator;
  long : into_iter_len l.steps-iterator ≡ length (into_iter_items l.steps-iterator);
  fits : CanEach (g.H.Host.told l.host) (into_iter_items l.steps-iterator);
  room : HasRoom (length (all_of_each (into_iter_items l.steps-iterator))) l.progress;
  added : AddsSteps (EachDone l.yielded) (all_of_each l.yielded) l.initial.progress l.progress (g.H.Host.told l.initial.host) (g.H.Host.told l.host) (g.H.Host.counts l.initial.host) (g.H.Host.counts l.host);
  fills : FillsRoom (length (all_of_each l.yielded)) l.initial.progress l.progress;
}
