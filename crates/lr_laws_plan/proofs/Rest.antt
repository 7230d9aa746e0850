-- A run leaves alone what its logs and its state don't need, whatever failed.
use Rattle.std.proofs.Common.{◌≡◌, ◌⊎◌, inl, inr, ℤ, false, Some, List, [], ◌∷◌, ◌++◌, reverse, refl, sym, ap, ◌∙◌, subst, append_assoc, append-nil}
use Rattle.std.specs.Prelude.{filter}
use Rattle.std.proofs.lemmas.List.Elements.{filter-append}
use Rattle.lr_rules.specs.declared.clock.Clock.{Clock}
use Rattle.lr_rules.specs.declared.path.Path.{Path}
use Rattle.lr_rules.specs.declared.rule.Rule.{Rule}
use Rattle.lr_rules.specs.declared.rules.Rules.{Rules}
use Rattle.lr_rules.specs.Names.{IsOwnName}
use Rattle.lr_rules.specs.Path.{parent_of}
use Rattle.lr_rules.proofs.Options.{some_none}
use Rattle.lr_due.specs.declared.answer.Due.{Due}
use Rattle.lr_host.specs.declared.entry.Entry.{Entry}
use Rattle.lr_host.specs.declared.entry.Entry.TheVariants.{Starts, Ends}
use Rattle.lr_host.specs.Lists.{IsIn}
use Rattle.lr_host.specs.Opening.{IsJournal}
use Rattle.lr_host.specs.Quiet.{AreQuiet, ChangeNothing, Quiet}
use Rattle.lr_host.specs.Safe.{IsSafe}
use Rattle.lr_host.specs.Sets.{LogSet}
use Rattle.lr_host.specs.Steady.{IsSteady, IsKeyless}
use Rattle.lr_host.specs.Steps.{is_change}
use Rattle.lr_host.specs.Told.{Each, Made}
use Rattle.lr_host.specs.World.{Past, ◌▸◌, world, names}
use Rattle.lr_host.proofs.Each.{each_append, each_as}
use Rattle.lr_host.proofs.Made.{CutAt, cut_one, made_journal, made_on}
use Rattle.lr_host.proofs.Quiet.{quiet_both, quiet_still, sees_quiet, still_reverse, since_of, made_quiet, quiet_same}
use Rattle.lr_host.proofs.Steady.{steady_before, none_attached}
use Rattle.lr_laws.proofs.Stated.{quiet_safe}
use Rattle.lr_looks.specs.Found.{FoundLog}
use Rattle.lr_looks.specs.Shown.{ShowsLooks}
use Rattle.lr_plan.specs.Asked.{Asked}
use Rattle.lr_plan.specs.declared.looks.LogLook.{LogLook}
use Rattle.lr_plan.specs.declared.plan.Plan.{Plan}
use Rattle.lr_plan.specs.Cut.{SetsCut}
use Rattle.lr_plan.specs.Done.{SetsDone}
use Rattle.lr_plan.specs.Planned.{decision}
use Rattle.lr_plan.specs.Steps.{steps_of_plan}
use Rattle.lr_laws_rotations.proofs.Still.{quiet_safe_on}
use Rattle.lr_laws_rotations.specs.AllTurns.{IsOfSome, IsOfState}
use Rattle.lr_laws_rotations.specs.Runs.{AllTurnsBy}
use Rattle.lr_laws_rotations.specs.Target.{Target}
use Rattle.lr_laws_rotations.proofs.RunSafety.{others_are_left}
use Rattle.lr_laws_acts.specs.Parts.{ArePlanned, MakesOne, parts_of_sets}
use Rattle.lr_laws_acts.proofs.Parting.{BegunParts, cut_some, done_some, sets_parts, sets_cut_parts, turns_by}
use Rattle.lr_laws_acts.proofs.Planning.{ready_planned}
use Rattle.lr_looks.specs.Reserved.{reserved_by}
use Rattle.lr_laws_looks.specs.Planned.{targets_in}
use Rattle.lr_laws_looks.specs.Targets.{groups_of, all_targets}
use Rattle.lr_laws_looks.proofs.Apart.{targets_apart}
use Rattle.lr_laws_looks.proofs.Quiet.{whole_quiet}
use Rattle.lr_laws_looks.proofs.Ready.{plans_have_logs}
use Rattle.lr_laws_looks.proofs.Seen.{targets_seen}
use Rattle.lr_run.specs.Saw.{plan_by}
use Rattle.lr_run.specs.Work.{Work, ShowsWork, CarriesOut, BreaksOff, run_entries}
use Rattle.lr_run.proofs.Evidence.{text_shown}
use Rattle.lr_run.proofs.Shape.{ended, seen_later, written}
use Rattle.lr_run.proofs.Stating.{state_writing, changes_of_state}
use Rattle.lr_run.proofs.Turned.{logs_are}
use Rattle.lr_laws_plan.specs.Left.{IsLeftAlone}
use Rattle.lr_laws_plan.specs.Rest.{ChangesOnly, IsOfTheRest, NoTargetHas, LeavesRest, LeavesSets}
use Rattle.lr_laws_plan.proofs.Elsewhere.{turns_leave, kept_elsewhere}
use Rattle.lr_laws_plan.proofs.Looking.{Looking, looking}
use Rattle.lr_laws_plan.proofs.Truth.{file_quiet}

-- ---- sets

-- over entries that change nothing a member of a steady set names what it named
pub still_member : (s : LogSet) (p u : Past) (ts : List Entry) → ChangeNothing ts → Made p (reverse ts) u → IsSteady s u → (y : Path) (k : ℤ) → s.key y ≡ Some k → names (world u) y ≡ names (world p) y
still_member s p u ts still made steady y k key = quiet_same (IsKeyless s) p u y calm (some_none (s.key y) k key)
  where
    calm : Quiet (IsKeyless s) p u
    calm = made_quiet (IsKeyless s) p u (reverse ts) (since_of (IsKeyless s) p u (reverse ts) made (none_attached s u steady)) made (still_reverse ts still)

-- a run that starts behind entries that change nothing, looks, and rotates its logs then
pub sets_left : (state : Path) (clock : Clock) (rules : Rules) (p q : Past) (es front tail : List Entry) → Made p es q → IsJournal p → reverse es ≡ front ++ (Starts state clock.now rules ∷ tail) → AreQuiet front → (t : AllTurnsBy state clock rules tail) → LeavesSets t.targets p q
sets_left state clock rules p q es front tail made journal whole quiet t s apart safe steady y k key =
    others_are_left clock s a.mid q state rules tail t behind_start (journal_u, a.fits) (quiet_safe s a.mid starts (journal_u, a.fits) safe_u (tt, refl)) steady apart y k key
    ∙ still_member s p a.mid front (quiet_still front quiet) made_u steady_u y k key
  where
    starts : Entry
    starts = Starts state clock.now rules

    l : Looking p q front (starts ∷ []) tail
    l = looking p q es front (starts ∷ []) tail made whole

    a : CutAt l.at l.looked [] starts []
    a = cut_one l.at l.looked (starts ∷ []) [] starts refl l.between

    behind_start : Made (a.mid ▸ starts) (reverse tail) q
    behind_start = subst (λ (ts : List Entry). Made (a.mid ▸ starts) ts q) (append-nil (reverse tail)) (made_on (a.mid ▸ starts) l.looked q [] (reverse tail) a.second l.until)

    made_u : Made p (reverse front) a.mid
    made_u = made_on p l.at a.mid (reverse front) [] l.since a.first

    steady_u : IsSteady s a.mid
    steady_u = (steady_before s (a.mid ▸ starts) q (reverse tail) behind_start steady).0

    journal_u : IsJournal a.mid
    journal_u = made_journal p a.mid (reverse front) made_u journal

    safe_u : IsSafe s a.mid
    safe_u = quiet_safe_on s p a.mid front quiet journal safe made_u (none_attached s a.mid steady_u)

-- ---- what a run came to

module _ (state : Path) (asked : Asked) (clock : Clock) (rules : Rules) (w : Work) (shows : ShowsWork false state rules.sets clock asked w) where
  abbrev decide : Rule → LogLook → Due
  decide = decision w.saw.table clock.now asked.force

  -- the logs of its plan, by its looks
  abbrev targets : List Target
  targets = all_targets clock decide rules.sets w.saw.sets

  abbrev plan : Plan
  plan = plan_by rules.sets w.saw clock asked

  abbrev shown : ShowsLooks (reserved_by state) rules.sets w.saw.sets w.saw.faults w.looks
  shown = shows.seen.sets.shown

  planned : ArePlanned targets (steps_of_plan plan)
  planned = ready_planned (groups_of clock decide rules.sets w.saw.sets) plan.sets (plans_have_logs rules.sets w.saw.sets w.saw.faults w.looks clock asked.mailer decide shown) (targets_apart rules.sets w.saw.sets w.saw.faults w.looks clock decide shown)

  -- its acts, begun so
  abbrev begun_turn : (acts : List Entry) → BegunParts (MakesOne targets) (parts_of_sets (steps_of_plan plan)) acts → AllTurnsBy state clock rules ((w.reads ++ w.looks) ++ acts)
  begun_turn acts begun = turns_by state clock rules (w.reads ++ w.looks) targets (steps_of_plan plan) acts
      (quiet_both w.reads w.looks (file_quiet false state w.saw.text w.saw.stale w.dir w.reads shows.seen.file) (whole_quiet rules.sets w.saw.sets w.saw.faults w.looks shown))
      (seen_later rules clock w.reads w.looks targets (targets_seen rules w.saw.sets w.saw.faults w.looks clock decide shown)) planned begun

  abbrev done_turn : (out : CarriesOut state clock w) → AllTurnsBy state clock rules ((((w.reads ++ w.looks) ++ out.entries.front) ++ out.entries.back) ++ Ends ∷ [])
  done_turn out = ended state clock rules (((w.reads ++ w.looks) ++ out.entries.front) ++ out.entries.back)
      (written state clock rules ((w.reads ++ w.looks) ++ out.entries.front) out.entries.back
      (begun_turn out.entries.front (sets_parts (MakesOne targets) (steps_of_plan plan) w.acts.marks w.acts.of_logs out.entries.front planned.plain (subst (λ (pl : Plan). SetsDone (steps_of_plan pl) w.acts.marks w.acts.of_logs out.entries.front) shows.plan.is out.entries.first)))
      (changes_of_state state out.entries.back (state_writing state w.saw.stale w.acts.dirs _ w.acts.of_state out.entries.back out.entries.second)))

  abbrev cut_turn : BreaksOff w → AllTurnsBy state clock rules (((w.reads ++ w.looks) ++ w.did) ++ Ends ∷ [])
  cut_turn off = ended state clock rules ((w.reads ++ w.looks) ++ w.did)
      (begun_turn w.did (sets_cut_parts (MakesOne targets) (steps_of_plan plan) w.acts.marks w.acts.of_logs w.did planned.plain (subst (λ (pl : Plan). SetsCut (steps_of_plan pl) w.acts.marks w.acts.of_logs w.did) shows.plan.is off.part)))

  -- all that it did, as one part behind its looks
  in_parts : w.reads ++ (w.looks ++ (w.did ++ Ends ∷ [])) ≡ ((w.reads ++ w.looks) ++ w.did) ++ Ends ∷ []
  in_parts = sym (append_assoc w.reads w.looks (w.did ++ Ends ∷ [])) ∙ sym (append_assoc (w.reads ++ w.looks) w.did (Ends ∷ []))

  done_parts : (out : CarriesOut state clock w) → ((w.reads ++ w.looks) ++ w.did) ++ Ends ∷ [] ≡ (((w.reads ++ w.looks) ++ out.entries.front) ++ out.entries.back) ++ Ends ∷ []
  done_parts out = ap (λ (es : List Entry). es ++ Ends ∷ []) (ap (λ (es : List Entry). (w.reads ++ w.looks) ++ es) out.entries.joined ∙ sym (append_assoc (w.reads ++ w.looks) out.entries.front out.entries.back))

  -- its changes are of its logs and of its state
  pub done_only : CarriesOut state clock w → ChangesOnly state (targets_in w.plan) w.did
  done_only out = subst (λ (ts : List Target). ChangesOnly state ts w.did) (logs_are rules.sets clock asked w shows.plan)
      (subst (Each (λ e. IsOfSome targets e ⊎ IsOfState state e)) (sym (ap (filter is_change) out.entries.joined ∙ filter-append is_change out.entries.front out.entries.back))
      (each_append (λ e. IsOfSome targets e ⊎ IsOfState state e) (filter is_change out.entries.front) (filter is_change out.entries.back)
      (each_as (IsOfSome targets) (λ e. IsOfSome targets e ⊎ IsOfState state e) (filter is_change out.entries.front) (λ e h. inl h)
      (done_some targets (steps_of_plan plan) w.acts.marks w.acts.of_logs out.entries.front planned (subst (λ (pl : Plan). SetsDone (steps_of_plan pl) w.acts.marks w.acts.of_logs out.entries.front) shows.plan.is out.entries.first)))
      (each_as (IsOfState state) (λ e. IsOfSome targets e ⊎ IsOfState state e) (filter is_change out.entries.back) (λ e h. inr h)
      (changes_of_state state out.entries.back (state_writing state w.saw.stale w.acts.dirs _ w.acts.of_state out.entries.back out.entries.second)))))

  pub cut_only : BreaksOff w → ChangesOnly state (targets_in w.plan) w.did
  cut_only off = subst (λ (ts : List Target). ChangesOnly state ts w.did) (logs_are rules.sets clock asked w shows.plan)
      (each_as (IsOfSome targets) (λ e. IsOfSome targets e ⊎ IsOfState state e) (filter is_change w.did) (λ e h. inl h)
      (cut_some targets (steps_of_plan plan) w.acts.marks w.acts.of_logs w.did planned (subst (λ (pl : Plan). SetsCut (steps_of_plan pl) w.acts.marks w.acts.of_logs w.did) shows.plan.is off.part)))

  module _ (p q : Past) (es reads : List Entry) (made : Made p es q) (journal : IsJournal p) (joined : reverse es ≡ reads ++ run_entries false state clock rules w) (quiet : AreQuiet reads) where
    front_quiet : AreQuiet (reads ++ w.dir)
    front_quiet = quiet_both reads w.dir quiet (sees_quiet (parent_of state) w.dir (text_shown state w.saw.text w.saw.stale w.dir w.reads shows.seen.file).0)

    whole : reverse es ≡ (reads ++ w.dir) ++ (Starts state clock.now rules ∷ (((w.reads ++ w.looks) ++ w.did) ++ Ends ∷ []))
    whole = joined ∙ (ap (λ (us : List Entry). reads ++ (w.dir ++ (Starts state clock.now rules ∷ us))) in_parts ∙ sym (append_assoc reads w.dir (Starts state clock.now rules ∷ (((w.reads ++ w.looks) ++ w.did) ++ Ends ∷ []))))

    -- what it leaves alone, by the rotations that its entries are
    rest_by : (tail : List Entry) → ((w.reads ++ w.looks) ++ w.did) ++ Ends ∷ [] ≡ tail → (t : AllTurnsBy state clock rules tail) → t.targets ≡ targets → LeavesRest state w.saw.kept (targets_in w.plan) p q
    rest_by tail parts t same = subst (λ (ts : List Target). LeavesRest state w.saw.kept ts p q) (same ∙ logs_are rules.sets clock asked w shows.plan) (record { paths = paths; others = others })
      where
        paths : (x : Path) → IsOfTheRest state t.targets x → IsLeftAlone p q x
        paths x away = turns_leave state clock rules p q es (reads ++ w.dir) tail x t made journal (whole ∙ ap (λ (us : List Entry). (reads ++ w.dir) ++ (Starts state clock.now rules ∷ us)) parts) front_quiet away

        others : (f : FoundLog) → IsIn f w.saw.kept → NoTargetHas t.targets f.log.path → (x : Path) → IsOwnName f.log.path f.log.naming x → IsLeftAlone p q x
        others f kept none x own = paths x (subst (λ (ts : List Target). IsOfTheRest state ts x) (sym same)
            (kept_elsewhere state rules.sets w.saw.sets w.saw.faults w.looks clock decide f x shown (subst (IsIn f) shows.seen.sets.kept_are kept) (subst (λ (ts : List Target). NoTargetHas ts f.log.path) same none) own))

    sets_by : (tail : List Entry) → ((w.reads ++ w.looks) ++ w.did) ++ Ends ∷ [] ≡ tail → (t : AllTurnsBy state clock rules tail) → t.targets ≡ targets → LeavesSets (targets_in w.plan) p q
    sets_by tail parts t same = subst (λ (ts : List Target). LeavesSets ts p q) (same ∙ logs_are rules.sets clock asked w shows.plan)
        (sets_left state clock rules p q es (reads ++ w.dir) tail made journal (whole ∙ ap (λ (us : List Entry). (reads ++ w.dir) ++ (Starts state clock.now rules ∷ us)) parts) front_quiet t)

    pub done_rest : CarriesOut state clock w → LeavesRest state w.saw.kept (targets_in w.plan) p q
    done_rest out = rest_by ((((w.reads ++ w.looks) ++ out.entries.front) ++ out.entries.back) ++ Ends ∷ []) (done_parts out) (done_turn out) refl

    pub done_sets : CarriesOut state clock w → LeavesSets (targets_in w.plan) p q
    done_sets out = sets_by ((((w.reads ++ w.looks) ++ out.entries.front) ++ out.entries.back) ++ Ends ∷ []) (done_parts out) (done_turn out) refl

    pub cut_rest : BreaksOff w → LeavesRest state w.saw.kept (targets_in w.plan) p q
    cut_rest off = rest_by (((w.reads ++ w.looks) ++ w.did) ++ Ends ∷ []) refl (cut_turn off) refl

    pub cut_sets : BreaksOff w → LeavesSets (targets_in w.plan) p q
    cut_sets off = sets_by (((w.reads ++ w.looks) ++ w.did) ++ Ends ∷ []) refl (cut_turn off) refl
