use Rattle.std.proofs.Common.{◌≡◌, reverse, length}
use Rattle.lr_include.specs.Stages.{behind_names}
use Rattle.lr_include.specs.Course.{SameButTodo}
use Rattle.lr_include.proofs.course.Course.pass_names.Given as goal

abbrev pub invariant-loop-self : goal.invariant-loop-self
invariant-loop-self l = record {
  todo : behind_names (reverse l.self.todo.items) ≡ behind_names (reverse l.initial.self.todo.items);
  rest : SameButTodo l.initial.self l.self;
}

abbrev pub decreases-loop-self : goal.decreases-loop-self
decreases-loop-self l = length l.self.todo.items
