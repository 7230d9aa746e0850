-- What holds of reads of 65,536 bytes at most, and of all else that a run does between its begin and its end, holds of all of it.
use Rattle.std.proofs.Common.{◌≤◌, ℕ, Option, List, ◌++◌, length, sym, subst, ap, ◌∙◌}
use Rattle.std.proofs.lemmas.List.{append-nil}
use Rattle.lr_rules.specs.declared.clock.Clock.{Clock}
use Rattle.lr_rules.specs.declared.fault.Fault.{Fault}
use Rattle.lr_rules.specs.declared.path.Path.{Path}
use Rattle.lr_rules.specs.declared.rule.Rule.{Rule}
use Rattle.lr_host.specs.declared.entry.Entry.{Entry}
use Rattle.lr_host.specs.declared.entry.Entry.TheVariants as entry
use Rattle.lr_host.specs.Told.{Each}
use Rattle.lr_host.proofs.Each.{each_append, each_as}
use Rattle.lr_plan.specs.Asked.{Asked}
use Rattle.lr_plan.specs.declared.plan.Plan.{Plan}
use Rattle.lr_plan.specs.Steps.{steps_of_plan}
use Rattle.lr_state.specs.Sights.{StateSights, ShowsState}
use Rattle.lr_run.specs.Internal.{SomeWork, some_seen, some_done}
use Rattle.lr_run.specs.Halt.{SomeSeen}
use Rattle.lr_run.specs.InternalRuns.{Looked, plan_in, Worked, Works, not_known, too_big, worked, BrokeOff}
use Rattle.lr_run.proofs.Shape.{looked_parts, in_parts}
use Rattle.lr_run.proofs.Seeing.{state_so, seen_so, some_so}
use Rattle.lr_run.proofs.Stating.{state_writing, writing_does}
use Rattle.lr_run.proofs.Working.{IsDoing, acts_so, cut_acts_so}
use Rattle.lr_run.proofs.Works.{steps_simple}

module _ (P : Entry → Type 0) (read : (x : Path) (place : ℕ) (piece : List ℕ) → length piece ≤ 65536 → P (entry.Reads x place piece)) (other : (e : Entry) → IsDoing e → P e) where
  sights_so : (state : Path) (sights : StateSights) (ts : List Entry) → ShowsState state 65_536 sights ts → Each P ts
  sights_so = state_so P (λ x seen. other _ tt) read

  looked_so : (state : Path) (rules : List Rule) (ts : List Entry) → (l : Looked state rules ts) → Each P (l.reads ++ l.looks)
  looked_so = seen_so P (λ x seen. other _ tt) (λ x names. other _ tt) read

  pub first_so : (state : Path) (rules : List Rule) (ts : List Entry) → SomeSeen state rules ts → Each P ts
  first_so = some_so P (λ x seen. other _ tt) (λ x names. other _ tt) read

  worked_so : (state : Path) (rules : List Rule) (clock : Clock) (asked : Asked) (own : List Fault) (ts : List Entry) → (w : Worked state rules clock asked own ts) → Each P ts
  worked_so state rules clock asked own ts w = subst (Each P) (sym (in_parts state rules clock asked own ts w)) (each_append P ((w.looked.reads ++ w.looked.looks) ++ w.acted.entries.entries.front) w.acted.entries.entries.back
      (each_append P (w.looked.reads ++ w.looked.looks) w.acted.entries.entries.front (looked_so state rules ts w.looked)
      (acts_so P read other (steps_of_plan (plan_in state rules ts w.looked clock asked)) w.acted.marks w.acted.entries.of_plan w.acted.entries.entries.front (steps_simple rules w.looked.sets w.looked.remembered.table clock asked) w.acted.entries.entries.first))
      (each_as IsDoing P w.acted.entries.entries.back other (writing_does state w.acted.entries.entries.back (state_writing state w.looked.remembered.stale w.acted.dirs _ w.acted.entries.of_state w.acted.entries.entries.back w.acted.entries.entries.second))))

  pub works_so : (state : Path) (rules : List Rule) (clock : Clock) (asked : Asked) (plan : Option Plan) (own : List Fault) (ts : List Entry) → Works state rules clock asked plan own ts → Each P ts
  works_so state rules clock asked plan own ts (not_known sights f known lost is shown) = sights_so state sights ts shown
  works_so state rules clock asked plan own ts (too_big l big lost is none) = subst (Each P) (sym (l.joined ∙ (ap (λ xs. l.reads ++ (l.looks ++ xs)) none ∙ ap (λ xs. l.reads ++ xs) (append-nil l.looks)))) (looked_so state rules ts l)
  works_so state rules clock asked plan own ts (worked w is) = worked_so state rules clock asked own ts w

  -- those of a first part of the work
  pub broke_so : (state : Path) (rules : List Rule) (clock : Clock) (asked : Asked) (ts : List Entry) → BrokeOff state rules clock asked ts → Each P ts
  broke_so state rules clock asked ts b = subst (Each P) (sym (looked_parts state rules ts b.looked)) (each_append P (b.looked.reads ++ b.looked.looks) b.looked.acts (looked_so state rules ts b.looked)
      (cut_acts_so P read other (steps_of_plan (plan_in state rules ts b.looked clock asked)) b.marks b.of_acts b.looked.acts (steps_simple rules b.looked.sets b.looked.remembered.table clock asked) b.part))

  pub lacking_so : (state : Path) (rules : List Rule) (clock : Clock) (asked : Asked) (ts : List Entry) → SomeWork state rules clock asked ts → Each P ts
  lacking_so state rules clock asked ts (some_seen s) = first_so state rules ts s
  lacking_so state rules clock asked ts (some_done b) = broke_so state rules clock asked ts b
