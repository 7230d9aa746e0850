-- The acts of a plan without a fault.
use Rattle.std.proofs.Common.{◌≡◌, ℕ, Bool, inl, inr, refl, sym, ◌∙◌, ap, subst, List, [], ◌∷◌, ◌++◌}
use Rattle.std.specs.List.{flat_map}
use Rattle.std.specs.Prelude.{filter}
use Rattle.std.proofs.lemmas.List.Elements.{filter-append}
use Rattle.lr_rules.specs.declared.path.Path.{Path}
use Rattle.lr_host.specs.declared.entry.Entry.{Entry}
use Rattle.lr_host.specs.Lists.{IsIn}
use Rattle.lr_host.proofs.Lists.{in_front, in_back}
use Rattle.lr_acts.specs.Making.{all_of_sets}
use Rattle.lr_acts.specs.Named.{CreatesAt, OneCreates}
use Rattle.lr_plan.specs.declared.mark.Mark.{Mark}
use Rattle.lr_plan.specs.declared.mark.Mark.TheVariants as mark
use Rattle.lr_plan.specs.declared.plan.Plan.{Plan}
use Rattle.lr_plan.specs.declared.step.Step.{Step}
use Rattle.lr_plan.specs.declared.step.Step.TheVariants.{Creates}
use Rattle.lr_plan.specs.Done.{ActsDone, rotated_logs}
use Rattle.lr_plan.specs.Outcomes.{marks_of}
use Rattle.lr_plan.specs.Steps.{steps_of_plan, state_steps}
use Rattle.lr_writing.specs.Synced.{made_in, all_to_make_of}
use Rattle.lr_writing.proofs.Telling.{plan_dirs}
use Rattle.lr_run.specs.Paths.{logs_in}
use Rattle.lr_laws_plan.specs.Acts.{is_act, AreActsOf}
use Rattle.lr_laws_plan.proofs.FulfilledActs.{acts_both, Went, course_went, sets_went}
use Rattle.lr_laws_plan.proofs.Logs.{plan_logs, sets_stand}
use Rattle.lr_laws_acts.proofs.ActsWhole.{nil_split}

created_told : (x : Path) (steps : List Step) → OneCreates x steps → IsIn (mark.Created x) (flat_map marks_of steps)
created_told x [] one = absurd one
created_told x (s ∷ ss) (inl here) = in_front (mark.Created x) (marks_of s) (flat_map marks_of ss) (by s here)
  where
    by : (step : Step) → CreatesAt x step → IsIn (mark.Created x) (marks_of step)
    by (Creates new mode) same = inl (ap (λ (y : Path). mark.Created y) same)
    by _ none = absurd none
created_told x (s ∷ ss) (inr later) = in_back (mark.Created x) (marks_of s) (flat_map marks_of ss) (created_told x ss later)

module _ (plan : Plan) (state : Path) (stale : Bool) (dirs : List Mark → List Path) (text : List Path → List ℕ) (marks : List Mark) (ts : List Entry) (d : ActsDone plan state stale dirs text marks [] ts) where
  parts : (d.of_plan ≡ []) × (d.of_state ≡ [])
  parts = nil_split [] d.of_plan d.of_state d.faults_are refl

  went : Went (all_of_sets (steps_of_plan plan)) marks d.entries.front
  went = sets_went (steps_of_plan plan) marks d.of_plan d.entries.front (sets_stand plan.sets) parts.0 d.entries.first

  pub logs_planned : rotated_logs marks ≡ logs_in plan
  logs_planned = ap rotated_logs went.marks_are ∙ plan_logs plan

  -- each directory that was to be made was
  pub dirs_planned : made_in marks ≡ all_to_make_of plan.sets
  dirs_planned = ap made_in went.marks_are ∙ plan_dirs plan.sets

  -- each log that a step makes anew is told by a mark
  pub anew_planned : (x : Path) → OneCreates x (all_of_sets (steps_of_plan plan)) → IsIn (mark.Created x) marks
  anew_planned x one = subst (IsIn (mark.Created x)) (sym went.marks_are) (created_told x (all_of_sets (steps_of_plan plan)) one)

  wrote : AreActsOf (state_steps state stale (dirs marks) (text (rotated_logs marks))) (filter is_act d.entries.back)
  wrote = (course_went (state_steps state stale (dirs marks) (text (rotated_logs marks))) [] d.of_state d.entries.back parts.1 d.entries.second).acts

  pub acts_planned : AreActsOf (all_of_sets (steps_of_plan plan) ++ state_steps state stale (dirs marks) (text (rotated_logs marks))) (filter is_act ts)
  acts_planned = subst (AreActsOf (all_of_sets (steps_of_plan plan) ++ state_steps state stale (dirs marks) (text (rotated_logs marks)))) (sym (ap (filter is_act) d.entries.joined ∙ filter-append is_act d.entries.front d.entries.back))
      (acts_both (all_of_sets (steps_of_plan plan)) (state_steps state stale (dirs marks) (text (rotated_logs marks))) (filter is_act d.entries.front) (filter is_act d.entries.back) went.acts wrote)
