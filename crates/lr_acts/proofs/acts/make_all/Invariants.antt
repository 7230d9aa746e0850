use Rattle.std.proofs.Common.{◌≡◌, ◌++◌, length}
use Rattle.std.specs.Vec.Iter.{into_iter_items, into_iter_len}
use Rattle.lr_plan.specs.Asking.{CanMake}
use Rattle.lr_plan.specs.Course.{Course, Unbroken}
use Rattle.lr_acts.specs.Adding.{AddsSteps, HasRoom, FillsRoom}
use Rattle.lr_acts.proofs.acts.make_all.Given as goal

abbrev pub invariant-loop-step : goal.invariant-loop-step
invariant-loop-step g l = record {
  next : (goal.iterator-loop-step g).can_next l.step-iterator;
  finite : (goal.iterator-loop-step g).is_finite l.step-iterator;
  all : l.yielded ++ into_iter_items l.step-iterator ≡ into_iter_items l.initial.step-iterator;
  long : into_iter_len l.step-iterator ≡ length (into_iter_items l.step-iterator);
  fits : CanMake (g.H.Host.told l.host) (into_iter_items l.step-iterator);
  room : HasRoom (length (into_iter_items l.step-iterator)) l.progress;
  added : AddsSteps (Unbroken (Course l.yielded)) l.yielded l.initial.progress l.progress (g.H.Host.told l.initial.host) (g.H.Host.told l.host) (g.H.Host.counts l.initial.host) (g.H.Host.counts l.host);
  fills : FillsRoom (length l.yielded) l.initial.progress l.progress;
}
