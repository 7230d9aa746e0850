use Rattle.std.proofs.Common.{◌≡◌, ◌++◌, length}
use Rattle.std.specs.Vec.Iter.{into_iter_items, into_iter_len}
use Rattle.lr_plan.proofs.steps.add_all.Given as goal

abbrev pub invariant-loop-step : goal.invariant-loop-step
invariant-loop-step l = record {
  all : l.yielded ++ into_iter_items l.step-iterator ≡ into_iter_items l.initial.step-iterator;
  long : into_iter_len l.step-iterator ≡ length (into_iter_items l.step-iterator);
  made : l.steps.items ≡ l.initial.steps.items ++ l.yielded;
}
