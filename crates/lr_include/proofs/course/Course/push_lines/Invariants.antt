use Rattle.std.proofs.Common.{◌≡◌, ◌++◌, reverse, length}
use Rattle.lr_include.specs.Stages.{line_tasks}
use Rattle.lr_include.specs.Course.{SameButTodo}
use Rattle.lr_include.proofs.course.Course.push_lines.Given as goal

abbrev pub invariant-loop-one : goal.invariant-loop-one
invariant-loop-one l = record {
  todo : line_tasks l.told.items ++ reverse l.self.todo.items ≡ line_tasks l.initial.told.items ++ reverse l.initial.self.todo.items;
  rest : SameButTodo l.initial.self l.self;
}

abbrev pub decreases-loop-one : goal.decreases-loop-one
decreases-loop-one l = length l.told.items
