use Rattle.std.proofs.Common.{◌≡◌, ◌++◌, reverse, length}
use Rattle.lr_include.specs.Stages.{name_tasks}
use Rattle.lr_include.specs.Course.{SameButTodo}
use Rattle.lr_include.proofs.course.Course.push_names.Given as goal

abbrev pub invariant-loop-name : goal.invariant-loop-name
invariant-loop-name l = record {
  todo : name_tasks l.ask l.names.items ++ reverse l.self.todo.items ≡ name_tasks l.ask l.initial.names.items ++ reverse l.initial.self.todo.items;
  rest : SameButTodo l.initial.self l.self;
}

abbrev pub decreases-loop-name : goal.decreases-loop-name
decreases-loop-name l = length l.names.items
