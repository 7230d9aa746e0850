use Rattle.std.proofs.Common.{List, ℕ, [], ◌∷◌, ◌++◌, reverse, sym, ap, ◌∙◌, append_assoc}
use Rattle.lr_include.specs.declared.task.Task.{Task}
use Rattle.lr_include.specs.Stages.{name_tasks}
use Rattle.lr_include.proofs.Stages.{name_last, same_then}
use Rattle.lr_include.proofs.course.Course.push_names.Goals as goal

pub loop-name-preserved : goal.loop-name-preserved
loop-name-preserved c = record {
  todo = ap (λ (ts : List Task). name_tasks c.args.ask.now c.pop.new.self.items ++ ts) c.in_ok-push_name.ensures.todo
      ∙ (sym (append_assoc (name_tasks c.args.ask.now c.pop.new.self.items) (name_tasks c.args.ask.now (c.in-Some.name ∷ [])) (reverse c.loop-name.self.todo.items))
      ∙ (ap (λ (ts : List Task). ts ++ reverse c.loop-name.self.todo.items) (sym (name_last c.args.ask.now c.pop.new.self.items c.in-Some.name) ∙ sym (ap (λ (ns : List (List ℕ)). name_tasks c.args.ask.now ns) c.in-Some.ensures.items))
      ∙ c.loop-name.invariant.todo));
  rest = same_then c.args.self.now c.loop-name.self c.push_name.new.self c.loop-name.invariant.rest c.in_ok-push_name.ensures.rest;
}
