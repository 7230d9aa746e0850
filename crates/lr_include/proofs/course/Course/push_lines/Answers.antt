use Rattle.std.proofs.Common.{List, [], ◌∷◌, ◌++◌, reverse, sym, ap, ◌∙◌, append_assoc}
use Rattle.lr_lex.specs.Items.{Told}
use Rattle.lr_include.specs.declared.task.Task.{Task}
use Rattle.lr_include.specs.Stages.{line_tasks}
use Rattle.lr_include.proofs.Stages.{line_last, same_then}
use Rattle.lr_include.proofs.course.Course.push_lines.Goals as goal

pub loop-one-preserved : goal.loop-one-preserved
loop-one-preserved c = record {
  todo = ap (λ (ts : List Task). line_tasks c.pop.new.self.items ++ ts) c.in_ok-push_line.ensures.todo
      ∙ (sym (append_assoc (line_tasks c.pop.new.self.items) (line_tasks (c.in-Some.one ∷ [])) (reverse c.loop-one.self.todo.items))
      ∙ (ap (λ (ts : List Task). ts ++ reverse c.loop-one.self.todo.items) (sym (line_last c.pop.new.self.items c.in-Some.one) ∙ sym (ap (λ (us : List Told). line_tasks us) c.in-Some.ensures.items))
      ∙ c.loop-one.invariant.todo));
  rest = same_then c.args.self.now c.loop-one.self c.push_line.new.self c.loop-one.invariant.rest c.in_ok-push_line.ensures.rest;
}
