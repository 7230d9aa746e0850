-- A run of which no step of the logs failed rotated each log of its plan whole: what is known of one of them.
use Rattle.std.proofs.Common.{◌≡◌, ◌≢◌, inl, inr, ⊎_elim, ℕ, Option, Some, None, List, [], ◌∷◌, ◌++◌, reverse, refl, sym, ap, ◌∙◌, subst, append_assoc}
use Rattle.std.specs.Prelude.{codes}
use Rattle.lr_rules.specs.declared.clock.Clock.{Clock}
use Rattle.lr_rules.specs.declared.fault.Fault.{Fault}
use Rattle.lr_rules.specs.declared.path.Path.{Path}
use Rattle.lr_rules.specs.declared.rule.Rule.{Rule}
use Rattle.lr_rules.specs.declared.rules.Rules.{Rules}
use Rattle.lr_rules.specs.Names.{IsOwnName, IsName, Meet}
use Rattle.lr_rules.specs.Path.{parent_of}
use Rattle.lr_host.specs.declared.entry.Entry.{Entry}
use Rattle.lr_host.specs.declared.entry.Entry.TheVariants as entry
use Rattle.lr_host.specs.Lists.{IsIn}
use Rattle.lr_host.specs.Looks.{IsDir}
use Rattle.lr_host.specs.Opening.{IsJournal}
use Rattle.lr_host.specs.Quiet.{AreQuiet}
use Rattle.lr_host.specs.Told.{Made}
use Rattle.lr_host.specs.World.{Past}
use Rattle.lr_host.proofs.Lists.{in_append}
use Rattle.lr_host.proofs.Quiet.{quiet_both}
use Rattle.lr_family.specs.Kin.{IsKin}
use Rattle.lr_kept.proofs.Finding.{meet_back}
use Rattle.lr_due.specs.declared.answer.Due.{Due}
use Rattle.lr_plan.specs.Asked.{Asked}
use Rattle.lr_plan.specs.declared.looks.LogLook.{LogLook}
use Rattle.lr_plan.specs.Done.{PlanDone}
use Rattle.lr_plan.specs.Planned.{decision}
use Rattle.lr_laws_rotations.specs.AllTurns.{dir_paths, other_paths, paths_beside}
use Rattle.lr_laws_rotations.specs.Target.{Target, HasDir}
use Rattle.lr_laws_family.specs.Turned.{IsFamilyRotation}
use Rattle.lr_laws_rotations.specs.Rotation.{rotation_by}
use Rattle.lr_laws_rotations.specs.Apart.{HasNames, TargetsHaveNames}
use Rattle.lr_laws_rotations.proofs.Beside.{none_own}
use Rattle.lr_laws_rotations.specs.Runs.{AllTurnedBy}
use Rattle.lr_laws_rotations.proofs.Plan.{plan_is_one}
use Rattle.lr_laws_rotations.proofs.LogSeen.{any_names, log_among}
use Rattle.lr_run.specs.InternalRuns.{rotated_in}
use Rattle.lr_laws_rotations.specs.Seen.{IsLogSeen}
use Rattle.lr_laws_acts.specs.Fitting.{NoneMeets, DontMeet}
use Rattle.lr_laws_acts.proofs.Planning.{ready_planned}
use Rattle.lr_laws_acts.proofs.ActsTurn.{done_turned}
use Rattle.lr_looks.specs.Reserved.{reserved_by}
use Rattle.lr_laws_looks.specs.Free.{IsFreeOf, AreFreeOf}
use Rattle.lr_laws_looks.specs.Targets.{groups_of}
use Rattle.lr_laws_looks.proofs.Apart.{targets_apart, targets_dont_meet}
use Rattle.lr_laws_looks.proofs.Free.{targets_free}
use Rattle.lr_laws_looks.proofs.Ready.{plans_have_logs}
use Rattle.lr_laws_looks.proofs.Seen.{targets_seen, targets_have_names}
use Rattle.lr_looks.specs.Inside.{Inside}
use Rattle.lr_run.specs.InternalRuns.{Looked, Worked, plan_in}
use Rattle.lr_run.proofs.Shape.{sees_quiet, ended_whole, written_whole, seen_later, seen_quiet, in_parts, all_of_state}

-- ---- one of the logs

none_of : (t x : Target) (xs : List Target) → NoneMeets t xs → IsIn x xs → Meet x.log x.naming t.log t.naming → ⊥
none_of t x [] n i m = i
none_of t x (y ∷ ys) n (inl e) m = n.0 (subst (λ (z : Target). Meet z.log z.naming t.log t.naming) (sym e) m)
none_of t x (y ∷ ys) n (inr i) m = none_of t x ys n.1 i m

meets_back : (x t : Target) → IsKin x.log x.naming → IsKin t.log t.naming → Meet x.log x.naming t.log t.naming → Meet t.log t.naming x.log x.naming
meets_back x t h g m = meet_back (record { log = x.log; naming = x.naming; kin = h }) (record { log = t.log; naming = t.naming; kin = g }) m

-- none of the others meets it, whichever stands first
apart_of : (t x : Target) (ts : List Target) → ((y : Target) → IsIn y ts → IsKin y.log y.naming) → DontMeet ts → IsIn x ts → IsIn t ts → x.log ≢ t.log → Meet x.log x.naming t.log t.naming → ⊥
apart_of t x [] kin d i j ne m = i
apart_of t x (y ∷ ys) kin d (inl e) (inl f) ne m = ne (ap (λ (z : Target). z.log) (sym e ∙ f))
apart_of t x (y ∷ ys) kin d (inl e) (inr j) ne m = none_of y t ys d.0 j (subst (λ (z : Target). Meet t.log t.naming z.log z.naming) (sym e) (meets_back x t (kin x (inl e)) (kin t (inr j)) m))
apart_of t x (y ∷ ys) kin d (inr i) (inl f) ne m = none_of y x ys d.0 i (subst (λ (z : Target). Meet x.log x.naming z.log z.naming) (sym f) m)
apart_of t x (y ∷ ys) kin d (inr i) (inr j) ne m = apart_of t x ys (λ z k. kin z (inr k)) d.1 i j ne m

-- ---- the directory that its rotation makes

dir_apart : (t : Target) → HasDir t → (x : Path) → IsIn x (dir_paths t.ready.dir) → IsOwnName t.log t.naming x → ⊥
dir_apart t has x i = go t.ready.dir refl i
  where
    go : (d : Option (Path × Option ℕ)) → t.ready.dir ≡ d → IsIn x (dir_paths d) → IsOwnName t.log t.naming x → ⊥
    go None is j = absurd j
    go (Some (dir, mode)) is (inl same) = λ own. (has dir mode is).1 (subst (IsOwnName t.log t.naming) (sym same) own)
    go (Some (dir, mode)) is (inr none) = absurd none

-- ---- the run

free_one : (reserved : List Path) (t : Target) (ts : List Target) → AreFreeOf reserved ts → IsIn t ts → IsFreeOf reserved t
free_one reserved t [] f i = absurd i
free_one reserved t (x ∷ xs) f (inl e) = subst (IsFreeOf reserved) e f.0
free_one reserved t (x ∷ xs) f (inr i) = free_one reserved t xs f.1 i

-- the rotations of a run whose acts met no fault
abbrev worked_whole : (state : Path) (rules : Rules) (clock : Clock) (asked : Asked) (own : List Fault) (ts : List Entry) → (w : Worked state rules.sets clock asked own ts) → w.acted.entries.of_plan ≡ []
    → AllTurnedBy state clock rules ((w.looked.reads ++ w.looked.looks) ++ w.acted.entries.entries.front)
worked_whole state rules clock asked own ts w none =
    done_turned state clock rules (w.looked.reads ++ w.looked.looks) (rotated_in state rules.sets ts w.looked clock asked) _ w.acted.marks w.acted.entries.entries.front
    (seen_quiet state rules.sets ts w.looked) (seen_later rules clock w.looked.reads w.looked.looks (rotated_in state rules.sets ts w.looked clock asked) (targets_seen rules w.looked.sets w.looked.of_looks w.looked.looks clock (decision w.looked.remembered.table clock.now asked.force) w.looked.shown))
    (ready_planned (groups_of clock (decision w.looked.remembered.table clock.now asked.force) rules.sets w.looked.sets) _ (plans_have_logs rules.sets w.looked.sets w.looked.of_looks w.looked.looks clock asked.mailer (decision w.looked.remembered.table clock.now asked.force) w.looked.shown)
    (targets_apart rules.sets w.looked.sets w.looked.of_looks w.looked.looks clock (decision w.looked.remembered.table clock.now asked.force) w.looked.shown))
    (subst (λ (fs : List Fault). PlanDone (plan_in state rules.sets ts w.looked clock asked) w.acted.marks fs w.acted.entries.entries.front) none w.acted.entries.entries.first)

module _ (state : Path) (asked : Asked) (clock : Clock) (rules : Rules) (own : List Fault) (p q : Past) (es reads acts : List Entry) (made : Made p es q) (journal : IsJournal p) (joined : reverse es ≡ reads ++ acts) (quiet : AreQuiet reads)
    (i : Inside state clock rules (Worked state rules.sets clock asked own) acts) (met_none : i.within.acted.entries.of_plan ≡ []) (t : Target) (one : IsIn t (rotated_in state rules.sets i.between i.within.looked clock asked)) where
  abbrev w : Worked state rules.sets clock asked own i.between
  w = i.within

  abbrev l : Looked state rules.sets i.between
  l = i.within.looked

  abbrev pub decide : Rule → LogLook → Due
  decide = decision i.within.looked.remembered.table clock.now asked.force

  abbrev pub targets : List Target
  targets = rotated_in state rules.sets i.between i.within.looked clock asked

  named : TargetsHaveNames targets
  named = targets_have_names rules l.sets l.of_looks l.looks clock decide l.shown

  free : IsFreeOf (reserved_by state) t
  free = free_one (reserved_by state) t targets (targets_free rules.sets l.sets l.of_looks l.looks clock decide l.shown) one

  no_state : IsName t.log t.naming state → ⊥
  no_state = free state (inl refl)

  no_part : IsName t.log t.naming (state ++ codes ".tmp") → ⊥
  no_part = free (state ++ codes ".tmp") (inr (inl refl))

  -- what stands between the begin and the end
  abbrev pub work : List Entry
  work = ((i.within.looked.reads ++ i.within.looked.looks) ++ i.within.acted.entries.entries.front) ++ i.within.acted.entries.entries.back

  abbrev pub turned : AllTurnedBy state clock rules ((((i.within.looked.reads ++ i.within.looked.looks) ++ i.within.acted.entries.entries.front) ++ i.within.acted.entries.entries.back) ++ entry.Ends ∷ [])
  turned = ended_whole state clock rules (((i.within.looked.reads ++ i.within.looked.looks) ++ i.within.acted.entries.entries.front) ++ i.within.acted.entries.entries.back)
      (written_whole state clock rules ((i.within.looked.reads ++ i.within.looked.looks) ++ i.within.acted.entries.entries.front) i.within.acted.entries.entries.back (worked_whole state rules clock asked own i.between i.within met_none) (all_of_state state rules.sets clock asked own i.between i.within))

  pub whole_run : reverse es ≡ (reads ++ i.before) ++ (entry.Starts state clock.now rules ∷ (work ++ entry.Ends ∷ []))
  whole_run = joined ∙ (ap (λ xs. reads ++ xs) (i.entries ∙ ap (λ xs. i.before ++ (entry.Starts state clock.now rules ∷ (xs ++ entry.Ends ∷ []))) (in_parts state rules.sets clock asked own i.between w)) ∙ sym (append_assoc reads i.before _))

  pub quiet_first : AreQuiet (reads ++ i.before)
  quiet_first = quiet_both reads i.before quiet (sees_quiet (parent_of state) IsDir i.before i.directory)

  -- it was seen before
  pub seen : IsLogSeen rules clock turned.turns.looks t
  seen = log_among rules clock turned.turns.looks turned.turns.targets turned.turns.seen t one

  others_apart : (x : Target) → IsIn x targets → x.log ≢ t.log → Meet x.log x.naming t.log t.naming → ⊥
  others_apart x j = apart_of t x targets (λ y k. (log_among rules clock turned.turns.looks turned.turns.targets turned.turns.seen y k).family.kin) (targets_dont_meet rules.sets l.sets l.of_looks l.looks clock decide l.shown) j one

  pub names_any : HasNames t
  names_any = any_names rules clock turned.turns.looks t seen

  pub is_one : IsFamilyRotation t.naming (rotation_by t)
  is_one = plan_is_one t names_any

  -- the paths beside it are no names of its own
  pub paths_no_own : (x : Path) → IsIn x (paths_beside state t targets) → IsOwnName t.log t.naming x → ⊥
  paths_no_own x j own = ⊎_elim (λ k. dir_apart t names_any.dir x k own) (λ k. none_own t.log t.naming state targets named others_apart no_state no_part x k own) (in_append x (dir_paths t.ready.dir) (other_paths state t.log targets) j)
