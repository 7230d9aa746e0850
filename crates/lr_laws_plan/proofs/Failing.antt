-- Where a run tells of nothing that failed, its acts met no fault.
use Rattle.std.proofs.Common.{◌≡◌, ◌⊎◌, inl, inr, ⊎_elim, ◌+◌, ℕ, Bool, true, false, refl, sym, ◌∙◌, ap, subst, arith, List, [], ◌∷◌, ◌++◌, map, Option, Some}
use Rattle.lr_rules.specs.declared.clock.Clock.{Clock}
use Rattle.lr_rules.specs.declared.fault.CallKind.TheVariants as call
use Rattle.lr_rules.specs.declared.fault.Fault.{Fault}
use Rattle.lr_rules.specs.declared.fault.Fault.TheVariants as fault
use Rattle.lr_rules.specs.declared.path.Path.{Path}
use Rattle.lr_rules.specs.declared.rule.Rule.{Rule}
use Rattle.lr_rules.specs.Path.{parent_of}
use Rattle.lr_rules.specs.StatePath.{state_part}
use Rattle.lr_host.specs.declared.entry.Entry.{Entry}
use Rattle.lr_host.specs.Counted.{call_in, calls_in}
use Rattle.lr_host.specs.Lists.{IsIn}
use Rattle.lr_host.proofs.Lists.{in_back}
use Rattle.lr_plan.specs.Asked.{Asked}
use Rattle.lr_plan.specs.declared.mark.Mark.{Mark}
use Rattle.lr_plan.specs.declared.step.Step.{Step}
use Rattle.lr_plan.specs.declared.step.Step.TheVariants.{Removes, Renames, Takes, Appends, SyncsFile, SyncsDir}
use Rattle.lr_plan.specs.Course.{Course}
use Rattle.lr_plan.specs.declared.plan.Plan.{Plan}
use Rattle.lr_plan.specs.Done.{PlanDone, rotated_logs}
use Rattle.lr_plan.specs.Outcomes.{Fails}
use Rattle.lr_plan.specs.Steps.{step_if, state_steps}
use Rattle.lr_run.specs.Met.{MetNothing}
use Rattle.lr_run.specs.Paths.{dirs_in}
use Rattle.lr_run.specs.Saw.{text_by}
use Rattle.lr_run.specs.Work.{Work, IsPlanOf, CarriesOut, act_faults, state_steps_of}
use Rattle.lr_run.proofs.Called.{none_behind, met_before, met_behind, acts_met_none}
use Rattle.lr_laws_plan.specs.Fulfilled.{NothingFailed}

-- ---- the writing of the state

-- it tells of a failed call, or that the path of the part file was named
abbrev IsOfWriting : Path → Fault → Type 0
IsOfWriting part f = (call_in f ≡ 1) ⊎ (f ≡ fault.Taken part)

-- however the step fails, it tells so
abbrev TellsSo : Path → Step → Type 0
TellsSo part s = (f : Fault) (ts : List Entry) → Fails s f ts → IsOfWriting part f

abbrev TellSo : Path → List Step → Type 0
TellSo part [] = Unit {0}
TellSo part (s ∷ ss) = TellsSo part s × TellSo part ss

tell_both : (part : Path) (xs ys : List Step) → TellSo part xs → TellSo part ys → TellSo part (xs ++ ys)
tell_both part [] ys a b = b
tell_both part (x ∷ xs) ys a b = (a.0, tell_both part xs ys a.1 b)

is_call : (part : Path) (f g : Fault) → f ≡ g → call_in g ≡ 1 → IsOfWriting part f
is_call part f g e one = inl (ap call_in e ∙ one)

removes : (part x : Path) → TellsSo part (Removes x)
removes part x f ts h = is_call part f (fault.Call call.Unlink x) h.0 refl

takes : (part : Path) (mode : Option ℕ) → TellsSo part (Takes part mode)
takes part mode f ts (inl h) = is_call part f (fault.Call call.Make part) h.0 refl
takes part mode f ts (inr h) = inr h.0

appends : (part x : Path) (text : List ℕ) → TellsSo part (Appends x text)
appends part x text f ts h = is_call part f (fault.Call call.Append x) h.0 refl

syncs_file : (part x : Path) → TellsSo part (SyncsFile x)
syncs_file part x f ts h = is_call part f (fault.Call call.Sync x) h.0 refl

syncs_dir : (part x : Path) → TellsSo part (SyncsDir x)
syncs_dir part x f ts h = is_call part f (fault.Call call.Sync x) h.0 refl

renames : (part from to : Path) → TellsSo part (Renames from to)
renames part from to f ts h = is_call part f (fault.Call call.Rename from) h.0 refl

all_synced : (part : Path) (dirs : List Path) → TellSo part (map SyncsDir dirs)
all_synced part [] = tt
all_synced part (d ∷ dirs) = (syncs_dir part d, all_synced part dirs)

cleared : (part : Path) (stale : Bool) → TellSo part (step_if stale (Removes part))
cleared part true = (removes part part, tt)
cleared part false = tt

state_tells : (state : Path) (stale : Bool) (dirs : List Path) (text : List ℕ) → TellSo (state_part state) (state_steps state stale dirs text)
state_tells state stale dirs text = tell_both part (step_if stale (Removes part)) _ (cleared part stale)
    (takes part (Some 416), (appends part part text, (syncs_file part part, tell_both part (map SyncsDir dirs) _ (all_synced part dirs) (renames part part state, (syncs_dir part (parent_of state), tt)))))
  where
    part : Path
    part = state_part state

-- such steps met no fault, where no call failed and the path wasn't named
course_none : (part : Path) (steps : List Step) (ms : List Mark) (fs : List Fault) (ts : List Entry) → TellSo part steps → Course steps ms fs ts → calls_in fs ≡ 0 → (IsIn (fault.Taken part) fs → ⊥) → fs ≡ []
course_none part [] ms fs ts tell c no_call free = c.1
course_none part (s ∷ ss) ms fs ts tell (inl h) no_call free = absurd (⊎_elim
    (λ (one : call_in h.fault ≡ 1). let all : calls_in fs ≡ call_in h.fault + 0 = ap calls_in h.told in omega (arith, one, all, no_call))
    (λ (taken : h.fault ≡ fault.Taken part). free (subst (IsIn (fault.Taken part)) (sym h.told) (inl taken)))
    (tell.0 h.fault ts h.failed))
course_none part (s ∷ ss) ms fs ts tell (inr g) no_call free = course_none part ss g.later fs g.entries.back tell.1 g.entries.second no_call free

-- ---- all acts

module _ (state : Path) (rules : List Rule) (clock : Clock) (asked : Asked) (w : Work) (planned : IsPlanOf rules w.saw clock asked w.plan) (out : CarriesOut state clock w) where
  -- the steps of the logs met no fault, where the acts' tell of nothing that was met
  logs_none : MetNothing (dirs_in w.plan) (act_faults w.acts) → w.acts.of_logs ≡ []
  logs_none met = acts_met_none rules w.saw.sets w.saw.table clock asked w.acts.marks w.acts.of_logs out.entries.front
      (subst (λ (plan : Plan). PlanDone plan w.acts.marks w.acts.of_logs out.entries.front) planned.is out.entries.first)
      (subst (λ (plan : Plan). MetNothing (dirs_in plan) w.acts.of_logs) planned.is (met_before (dirs_in w.plan) (act_faults w.acts) w.acts.of_logs w.acts.of_state refl met))

  -- nor did the writing of the state, where the part file's path wasn't named
  pub acts_met_nothing : NothingFailed state (dirs_in w.plan) (act_faults w.acts) → act_faults w.acts ≡ []
  acts_met_nothing n = ap (λ (fs : List Fault). fs ++ w.acts.of_state) (logs_none n.met)
      ∙ course_none (state_part state) (state_steps_of state clock w) [] w.acts.of_state out.entries.back (state_tells state w.saw.stale w.acts.dirs (text_by w.saw clock (rotated_logs w.acts.marks))) out.entries.second
      (none_behind (act_faults w.acts) w.acts.of_logs w.acts.of_state refl n.met.no_call)
      (λ i. n.not_taken (in_back (fault.Taken (state_part state)) w.acts.of_logs w.acts.of_state i))

  -- what the faults of the run don't tell, those of its acts don't
  of_acts : MetNothing (dirs_in w.plan) (w.saw.faults ++ (w.plan.faults ++ act_faults w.acts)) → MetNothing (dirs_in w.plan) (act_faults w.acts)
  of_acts met = met_behind (dirs_in w.plan) (w.plan.faults ++ act_faults w.acts) w.plan.faults (act_faults w.acts) refl
      (met_behind (dirs_in w.plan) (w.saw.faults ++ (w.plan.faults ++ act_faults w.acts)) w.saw.faults (w.plan.faults ++ act_faults w.acts) refl met)

  pub logs_met_nothing : MetNothing (dirs_in w.plan) (w.saw.faults ++ (w.plan.faults ++ act_faults w.acts)) → w.acts.of_logs ≡ []
  logs_met_nothing met = logs_none (of_acts met)

  pub run_met_nothing : NothingFailed state (dirs_in w.plan) (w.saw.faults ++ (w.plan.faults ++ act_faults w.acts)) → act_faults w.acts ≡ []
  run_met_nothing n = acts_met_nothing (record {
    met = of_acts n.met;
    not_taken = λ i. n.not_taken (in_back (fault.Taken (state_part state)) w.saw.faults (w.plan.faults ++ act_faults w.acts) (in_back (fault.Taken (state_part state)) w.plan.faults (act_faults w.acts) i));
  })
