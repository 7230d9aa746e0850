-- The acts of a plan, by the plan.
use Rattle.std.proofs.Common.{◌≡◌, ◌<◌, ⊎_elim, refl, sym, ap, ◌∙◌, subst, List, [], ◌∷◌, ◌++◌, length, Option, Some, None, Result, Ok, Err, append_assoc}
use Rattle.std.specs.Prelude.{OnOk}
use Rattle.std.proofs.lemmas.Option.{none-some, same_Some}
use Rattle.lr_rules.specs.declared.clock.Clock.{Clock}
use Rattle.lr_rules.specs.declared.fault.Fault.{Fault}
use Rattle.lr_rules.specs.declared.fault.Fault.TheVariants as fault
use Rattle.lr_rules.specs.declared.fault.StateKind.TheVariants as kind
use Rattle.lr_rules.specs.declared.memory.Memory.{Memory}
use Rattle.lr_rules.specs.declared.path.Path.{Path}
use Rattle.lr_rules.specs.declared.rules.Rules.{Rules}
use Rattle.lr_host.specs.declared.journal.Journal.{Journal}
use Rattle.lr_host.specs.Told.{Counts, Left, Then}
use Rattle.lr_host.proofs.Left.{left_as, left_first}
use Rattle.lr_host.proofs.Lists.{in_append}
use Rattle.lr_state.specs.Table.{StateEntry as Row}
use Rattle.lr_state.specs.Written.{table_text}
use Rattle.lr_plan.specs.Asked.{Asked}
use Rattle.lr_plan.specs.declared.looks.Looks.{Looks}
use Rattle.lr_plan.specs.declared.plan.Plan.{Plan}
use Rattle.lr_plan.specs.declared.step.SetSteps.{SetSteps}
use Rattle.lr_plan.specs.declared.step.Step.{Step}
use Rattle.lr_plan.specs.Course.{Course}
use Rattle.lr_plan.specs.Done.{SetsDone, rotated_logs}
use Rattle.lr_plan.specs.Steps.{steps_of_plan, state_steps}
use Rattle.lr_acts.specs.declared.progress.Progress.{Progress}
use Rattle.lr_acts.specs.Making.{all_of_sets}
use Rattle.lr_acts.specs.Named.{KeepsNames}
use Rattle.lr_acts.specs.Taken.{TakenOnly}
use Rattle.lr_state.specs.declared.remembered.Remembered.{Remembered}
use Rattle.lr_state.proofs.After.{stamps}
use Rattle.lr_writing.specs.Target.{StateTarget}
use Rattle.lr_run.specs.declared.ready.Ready.{Ready}
use Rattle.lr_run.specs.Internal.{ReadyFor, SeenBefore, ActsAndWrites, writing_steps, plan_for, measured_for, steps_of_writing, ActsBy, outgrew, acted, Carries}
use Rattle.lr_run.specs.Ran.{TellsNames}
use Rattle.lr_run.specs.Work.{Acts, act_faults}
use Rattle.lr_run.proofs.Anew.{anew_named}
use Rattle.lr_run.proofs.Taken.{hindered_taken}

-- ---- what was ready is what the plan needs

module _ (state : Path) (rules : Rules) (looks : Looks) (remembered : Remembered) (clock : Clock) (asked : Asked) (ready : Ready) (x y z : Progress) {m n : Option Journal} (k l : Counts)
    (r : ReadyFor state clock.now remembered looks.kept (plan_for rules looks remembered clock asked) ready x y) (h : ActsAndWrites ready clock.now.civil y z m n k l) where
  abbrev planned : Plan
  planned = plan_for rules looks remembered clock asked

  behind : writing_steps ready.writing ready.table clock.now.civil h.acts ≡ steps_of_writing state looks remembered clock h.acts
  behind =
      ap (λ (w : StateTarget). writing_steps w ready.table clock.now.civil h.acts) r.is.writes
      ∙ (ap (λ (rows : List Row). writing_steps (record { state = state; stale = remembered.stale }) rows clock.now.civil h.acts) r.is.table_is
      ∙ ap (λ (rows : List Row). state_steps state remembered.stale h.acts.dirs (table_text rows)) (sym (stamps remembered.table (rotated_logs h.acts.marks) looks.kept clock.now.civil)))

  did : Left (Then (SetsDone (steps_of_plan planned) h.acts.marks h.acts.of_logs) (Course (steps_of_writing state looks remembered clock h.acts) [] h.acts.of_state)) m n
  did = subst (λ (ss : List Step). Left (Then (SetsDone (steps_of_plan planned) h.acts.marks h.acts.of_logs) (Course ss [] h.acts.of_state)) m n) behind
      (subst (λ (ss : List SetSteps). Left (Then (SetsDone ss h.acts.marks h.acts.of_logs) (Course (writing_steps ready.writing ready.table clock.now.civil h.acts) [] h.acts.of_state)) m n) r.is.steps h.entries)

  wrote : Left (Course (steps_of_writing state looks remembered clock h.acts) [] h.acts.of_state) h.middle n
  wrote = subst (λ (ss : List Step). Left (Course ss [] h.acts.of_state) h.middle n) behind h.wrote

  named : KeepsNames (all_of_sets (steps_of_plan planned)) h.acts.marks m h.middle
  named = subst (λ (ss : List SetSteps). KeepsNames (all_of_sets ss) h.acts.marks m h.middle) r.is.steps h.names

  taken : TakenOnly (all_of_sets (steps_of_plan planned) ++ steps_of_writing state looks remembered clock h.acts) (act_faults h.acts) m n
  taken = subst (λ (ss : List Step). TakenOnly (all_of_sets (steps_of_plan planned) ++ ss) (act_faults h.acts) m n) behind
      (subst (λ (ss : List SetSteps). TakenOnly (all_of_sets ss ++ writing_steps ready.writing ready.table clock.now.civil h.acts) (act_faults h.acts) m n) r.is.steps h.taken)

  faults_are : z.faults.items ≡ x.faults.items ++ (planned.faults ++ act_faults h.acts)
  faults_are = h.faults_are ∙ (ap (λ (fs : List Fault). fs ++ act_faults h.acts) r.is.faults ∙ append_assoc x.faults.items planned.faults (act_faults h.acts))

  tells : SeenBefore state rules looks remembered m → TellsNames h.acts.marks (all_of_sets (steps_of_plan planned) ++ steps_of_writing state looks remembered clock h.acts) (planned.faults ++ act_faults h.acts) m n
  tells seen = record {
    named = λ path i. anew_named state rules looks remembered clock asked h.acts seen.faults seen.all_faults seen.looked did named wrote path i;
    taken = λ path last i. ⊎_elim (λ a. hindered_taken state rules looks remembered clock asked h.acts seen.faults seen.all_faults seen.looked did path a) (λ b. taken.taken path last b) (in_append (fault.Taken path) planned.faults (act_faults h.acts) i);
  }

  carries : (plan : Option Plan) → plan ≡ Some planned → SeenBefore state rules looks remembered m → Carries state rules looks remembered clock asked plan x.faults.items z.faults.items m n
  carries plan is seen = record {
    acts = Some h.acts;
    shows = left_as did (λ ts t. acted h.acts is refl faults_are r.small (h.dirs_are planned.sets r.is.directories) t);
    names = λ a e. subst (λ (b : Acts). TellsNames b.marks (all_of_sets (steps_of_plan planned) ++ steps_of_writing state looks remembered clock b) (planned.faults ++ act_faults b) m n) (same_Some h.acts a e) (tells seen);
  }

-- ---- by the answer

pub carried_out : {T : Type 0} (r : Result T Memory) (state : Path) (rules : Rules) (looks : Looks) (remembered : Remembered) (clock : Clock) (asked : Asked) (plan : Option Plan) (ready : Ready) (x y z : Progress) (m n : Option Journal) (k l : Counts)
    → plan ≡ Some (plan_for rules looks remembered clock asked) → ReadyFor state clock.now remembered looks.kept (plan_for rules looks remembered clock asked) ready x y → SeenBefore state rules looks remembered m → OnOk r (ActsAndWrites ready clock.now.civil y z m n k l)
    → OnOk r (Carries state rules looks remembered clock asked plan x.faults.items z.faults.items m n)
carried_out (Ok u) state rules looks remembered clock asked plan ready x y z m n k l is r seen h = carries state rules looks remembered clock asked ready x y z k l r h plan is seen
carried_out (Err u) state rules looks remembered clock asked plan ready x y z m n k l is r seen h = tt

pub too_big_told : {T E : Type 0} (r : Result T E) (state : Path) (rules : Rules) (looks : Looks) (remembered : Remembered) (clock : Clock) (asked : Asked) (plan : Option Plan) (x y : Progress) (b : List Fault) (o : Option Journal)
    → plan ≡ None → (67_108_864 < length (measured_for rules looks remembered clock asked)) × (y ≡ x) → OnOk r (b ≡ y.faults.items ++ fault.State 0 kind.TooBig ∷ []) → OnOk r (Carries state rules looks remembered clock asked plan x.faults.items b o o)
too_big_told (Ok u) state rules looks remembered clock asked plan x y b o none big e = record {
  acts = None;
  shows = left_first (ActsBy state rules looks remembered clock asked plan x.faults.items b None) o (outgrew none refl (e ∙ ap (λ (p : Progress). p.faults.items ++ fault.State 0 kind.TooBig ∷ []) big.1) big.0 refl);
  names = λ a no. absurd (none-some a no);
}
too_big_told (Err u) state rules looks remembered clock asked plan x y b o none big e = tt
