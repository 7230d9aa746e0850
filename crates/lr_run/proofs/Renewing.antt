-- The state stays whole over a run.
use Rattle.std.proofs.Common.{◌≡◌, ◌⊎◌, inl, inr, ⊎_elim, ℕ, false, refl, sym, ◌∙◌, ap, subst, List, [], ◌∷◌, ◌++◌, map, reverse, append_assoc, Option, Some, None}
use Rattle.std.specs.Prelude.{filter}
use Rattle.std.specs.List.{flat_map}
use Rattle.lr_rules.specs.declared.clock.Clock.{Clock}
use Rattle.lr_rules.specs.declared.fault.Fault.{Fault}
use Rattle.lr_rules.specs.declared.path.Path.{Path}
use Rattle.lr_rules.specs.declared.rule.Rule.{Rule}
use Rattle.lr_rules.specs.declared.rules.Rules.{Rules}
use Rattle.lr_rules.specs.Path.{path_fault, parent_of}
use Rattle.lr_rules.specs.StatePath.{state_part}
use Rattle.lr_host.specs.declared.entry.Entry.{Entry}
use Rattle.lr_host.specs.declared.entry.Entry.TheVariants as entry
use Rattle.lr_host.specs.declared.journal.Journal.{Journal}
use Rattle.lr_host.specs.Lists.{IsIn}
use Rattle.lr_host.specs.Quiet.{IsQuiet, AreQuiet, is_disk_change}
use Rattle.lr_host.specs.Steps.{is_change}
use Rattle.lr_host.specs.Told.{Each, IsTools, Left, not_told, is_told, Maybe}
use Rattle.lr_host.specs.World.{past}
use Rattle.lr_host.proofs.Each.{each_append, each_as, each_first, each_last}
use Rattle.lr_laws.specs.Renewing.{LeavesAlone, IsWithinDirs, MayRenew, left_alone, renewed}
use Rattle.lr_laws.specs.StateWhole.{KeepsWhole}
use Rattle.lr_laws.proofs.Whole.{whole_at}
use Rattle.lr_due.specs.declared.answer.Due.{Due}
use Rattle.lr_plan.specs.Asked.{Asked}
use Rattle.lr_plan.specs.declared.looks.LogLook.{LogLook}
use Rattle.lr_host.specs.Appending.{Appended, no_more, piece_more}
use Rattle.lr_plan.specs.declared.mark.Mark.{Mark}
use Rattle.lr_plan.specs.Done.{SetsDone, rotated_logs}
use Rattle.lr_plan.specs.Planned.{decision}
use Rattle.lr_plan.specs.Steps.{steps_of_set}
use Rattle.lr_laws_rotations.specs.AllTurns.{IsOfSome}
use Rattle.lr_laws_rotations.specs.Apart.{TargetsHaveNames}
use Rattle.lr_laws_rotations.specs.Target.{Target}
use Rattle.lr_laws_acts.specs.Parts.{ArePlanned}
use Rattle.lr_laws_acts.specs.Planned.{HaveLogs}
use Rattle.lr_laws_acts.proofs.Parting.{done_some, cut_some}
use Rattle.lr_laws_acts.proofs.Planning.{ready_planned}
use Rattle.lr_laws_looks.specs.Targets.{groups_of, all_targets}
use Rattle.lr_laws_looks.proofs.Apart.{targets_apart}
use Rattle.lr_laws_looks.proofs.Free.{targets_free}
use Rattle.lr_laws_looks.proofs.Ready.{plans_have_logs}
use Rattle.lr_laws_looks.proofs.Quiet.{whole_quiet}
use Rattle.lr_laws_looks.proofs.Seen.{targets_seen, targets_have_names, targets_have_paths}
use Rattle.lr_writing.specs.Synced.{AreSynced}
use Rattle.lr_writing.specs.Named.{Spares, NamedLast, not_named, named}
use Rattle.lr_writing.proofs.Named.{named_last}
use Rattle.lr_run.specs.InternalRuns.{Looked, Worked, BrokeOff, plan_in, state_text}
use Rattle.lr_run.proofs.Covering.{none_changed, none_aside, none_within, of_changes, some_aside}
use Rattle.lr_run.proofs.Guarding.{changes_within}
use Rattle.lr_run.proofs.Made.{AreMade, are_made, made_by_tools, made_first, made_later, DontClash, dont_clash}
use Rattle.lr_run.proofs.Shape.{seen_quiet, looked_parts, in_parts}

-- ---- what the writing leaves

-- the tool's entry spares the path
spares_aside : (x : Path) (e : Entry) → IsTools e → Spares x e → LeavesAlone x e
spares_aside x (entry.Renames from to) i s (inl e) = s.0 e
spares_aside x (entry.Renames from to) i s (inr (inl e)) = s.1 e
spares_aside x (entry.Renames from to) i s (inr (inr none)) = none
spares_aside x (entry.Makes y mode) i s (inl e) = s e
spares_aside x (entry.Makes y mode) i s (inr none) = none
spares_aside x (entry.Appends y piece) i s (inl e) = s e
spares_aside x (entry.Appends y piece) i s (inr none) = none
spares_aside x (entry.Truncates y) i s (inl e) = s e
spares_aside x (entry.Truncates y) i s (inr none) = none
spares_aside x (entry.Unlinks y) i s (inl e) = s e
spares_aside x (entry.Unlinks y) i s (inr none) = none
spares_aside x (entry.MakesDir y mode) i s (inl e) = s e
spares_aside x (entry.MakesDir y mode) i s (inr none) = none
spares_aside x (entry.Attach v y at) i s c = i
spares_aside x _ i s c = c

all_aside : (x : Path) (ts : List Entry) → Each IsTools ts → Each (Spares x) ts → Each (LeavesAlone x) ts
all_aside x [] i s = tt
all_aside x (t ∷ ts) i s = (spares_aside x t i.0 s.0, all_aside x ts i.1 s.1)

-- the pieces of a text
record InPieces (to : Path) (text : List ℕ) (ts : List Entry) : Type 0 where
  pieces : List (List ℕ)
  ts_are : ts ≡ map (entry.Appends to) pieces
  text_is : flat_map (λ piece. piece) pieces ≡ text

in_pieces : (to : Path) (text : List ℕ) (ts : List Entry) → Appended to text ts → InPieces to text ts
in_pieces to _ _ no_more = record { pieces = []; ts_are = refl; text_is = refl }
in_pieces to _ _ (piece_more piece text {ts = ts} a) = let r = in_pieces to text ts a in record { pieces = piece ∷ r.pieces; ts_are = ap (λ es. entry.Appends to piece ∷ es) r.ts_are; text_is = ap (λ bs. piece ++ bs) r.text_is }

cleared_within : (part : Path) (dirs : List Path) (ts : List Entry) → Maybe (entry.Unlinks part) ts → Each (IsWithinDirs part dirs) ts
cleared_within part dirs ts (inl e) = subst (Each (IsWithinDirs part dirs)) (sym e) tt
cleared_within part dirs ts (inr e) = subst (Each (IsWithinDirs part dirs)) (sym e) ((λ x i. ⊎_elim (λ is. inl (sym is)) (λ none. absurd none) i), tt)

synced_calm : (dir : Path) (ts : List Entry) → Maybe (entry.SyncsDir dir) ts → Each (λ e. is_disk_change e ≡ false) ts
synced_calm dir ts (inl e) = subst (Each (λ e. is_disk_change e ≡ false)) (sym e) tt
synced_calm dir ts (inr e) = subst (Each (λ e. is_disk_change e ≡ false)) (sym e) (refl, tt)

-- Behind entries that leave the state alone, in these directories, the state is left alone or renewed.
module _ (state : Path) (dirs : List Path) (text : List ℕ) (IsText : List ℕ → Type 0) (is : IsText text) (front : List Entry) (aside : Each (LeavesAlone state) front) (within : Each (IsWithinDirs (state_part state) dirs) front) where
  back_may : (back ends : List Entry) → Each IsTools back → Each (LeavesAlone state) ends → Each (λ e. is_disk_change e ≡ false) ends → NamedLast state dirs text back → MayRenew state IsText (front ++ (back ++ ends))
  back_may back ends tools far calm (not_named s) = left_alone (each_append (LeavesAlone state) front (back ++ ends) aside (each_append (LeavesAlone state) back ends (all_aside state back tools s) far))
  back_may back ends tools far calm (named before after e ready spared behind) = renewed dirs text is (record {
    front = front ++ ready.cleared;
    mode = Some 416;
    pieces = p.pieces;
    after = after ++ ends;
    ts_are = ap (λ es. front ++ (es ++ ends)) (e ∙ ap (λ es. es ++ (entry.Renames part state ∷ after)) (ready.before_is ∙ ap (λ es. ready.cleared ++ (entry.Makes part (Some 416) ∷ (es ++ (entry.SyncsFile part ∷ map entry.SyncsDir dirs)))) p.ts_are)) ∙ in_order;
    aside = each_append (LeavesAlone state) front ready.cleared aside (each_first (LeavesAlone state) ready.cleared _ (subst (Each (LeavesAlone state)) ready.before_is (all_aside state before (each_first IsTools before _ (subst (Each IsTools) e tools)) spared)));
    within = each_append (IsWithinDirs part dirs) front ready.cleared within (cleared_within part dirs ready.cleared ready.cleared_is);
    text_is = p.text_is;
    nothing_more = each_append (λ e. is_disk_change e ≡ false) after ends (synced_calm (parent_of state) after behind) calm;
  })
    where
      part : Path
      part = state_part state

      p : InPieces part text ready.pieces
      p = in_pieces part text ready.pieces ready.text_is

      syncs : List Entry
      syncs = map entry.SyncsDir dirs

      -- from the make on
      rest : List Entry
      rest = map (entry.Appends part) p.pieces ++ (entry.SyncsFile part ∷ (syncs ++ (entry.Renames part state ∷ (after ++ ends))))

      in_order : front ++ (((ready.cleared ++ (entry.Makes part (Some 416) ∷ (map (entry.Appends part) p.pieces ++ (entry.SyncsFile part ∷ syncs)))) ++ (entry.Renames part state ∷ after)) ++ ends) ≡ (front ++ ready.cleared) ++ (entry.Makes part (Some 416) ∷ rest)
      in_order = ap (λ es. front ++ es) (append_assoc (ready.cleared ++ (entry.Makes part (Some 416) ∷ (map (entry.Appends part) p.pieces ++ (entry.SyncsFile part ∷ syncs)))) (entry.Renames part state ∷ after) ends
          ∙ (append_assoc ready.cleared (entry.Makes part (Some 416) ∷ (map (entry.Appends part) p.pieces ++ (entry.SyncsFile part ∷ syncs))) (entry.Renames part state ∷ (after ++ ends))
          ∙ ap (λ es. ready.cleared ++ (entry.Makes part (Some 416) ∷ es)) (append_assoc (map (entry.Appends part) p.pieces) (entry.SyncsFile part ∷ syncs) (entry.Renames part state ∷ (after ++ ends)))))
          ∙ sym (append_assoc front ready.cleared (entry.Makes part (Some 416) ∷ rest))

-- ---- what a run leaves

pub calm_aside : (x : Path) (ts : List Entry) → AreQuiet ts → Each (LeavesAlone x) ts
calm_aside x ts q = each_as IsQuiet (LeavesAlone x) ts (λ e i. none_aside x e (none_changed e i.0 i.1)) q

pub calm_within : (part : Path) (dirs : List Path) (ts : List Entry) → AreQuiet ts → Each (IsWithinDirs part dirs) ts
calm_within part dirs ts q = each_as IsQuiet (IsWithinDirs part dirs) ts (λ e i. none_within part dirs e (none_changed e i.0 i.1)) q

pub quiet_alone : (state : Path) (IsText : List ℕ → Type 0) (ts : List Entry) → AreQuiet ts → MayRenew state IsText ts
quiet_alone state IsText ts q = left_alone (calm_aside state ts q)

-- behind entries that change nothing
pub behind_quiet : (state : Path) (I J : List ℕ → Type 0) → ((text : List ℕ) → I text → J text) → (xs ts : List Entry) → AreQuiet xs → MayRenew state I ts → MayRenew state J (xs ++ ts)
behind_quiet state I J f xs ts q (left_alone a) = left_alone (each_append (LeavesAlone state) xs ts (calm_aside state xs q) a)
behind_quiet state I J f xs ts q (renewed dirs text is r) = renewed dirs text (f text is) (record {
  front = xs ++ r.front;
  mode = r.mode;
  pieces = r.pieces;
  after = r.after;
  ts_are = ap (λ es. xs ++ es) r.ts_are ∙ sym (append_assoc xs r.front _);
  aside = each_append (LeavesAlone state) xs r.front (calm_aside state xs q) r.aside;
  within = each_append (IsWithinDirs (state_part state) dirs) xs r.front (calm_within (state_part state) dirs xs q) r.within;
  text_is = r.text_is;
  nothing_more = r.nothing_more;
})

-- around what leaves the state alone
pub around : (state x : Path) (clock : Clock) (rules : Rules) (before between : List Entry) → Each (LeavesAlone x) before → Each (LeavesAlone x) between → Each (LeavesAlone x) (before ++ (entry.Starts state clock.now rules ∷ (between ++ entry.Ends ∷ [])))
around state x clock rules before between a b = each_append (LeavesAlone x) before (entry.Starts state clock.now rules ∷ (between ++ entry.Ends ∷ [])) a ((λ i. i), each_append (LeavesAlone x) between (entry.Ends ∷ []) b ((λ i. i), tt))

module _ (state : Path) (rules : Rules) (clock : Clock) (asked : Asked) where
  -- acts behind the looks
  module _ (ts : List Entry) (l : Looked state rules.sets ts) where
    abbrev decide : Rule → LogLook → Due
    decide = decision l.remembered.table clock.now asked.force

    abbrev targets : List Target
    targets = all_targets clock decide rules.sets l.sets

    logs : HaveLogs (groups_of clock decide rules.sets l.sets) (plan_in state rules.sets ts l clock asked).sets
    logs = plans_have_logs rules.sets l.sets l.of_looks l.looks clock asked.mailer decide l.shown

    planned : ArePlanned targets (map steps_of_set (plan_in state rules.sets ts l clock asked).sets)
    planned = ready_planned (groups_of clock decide rules.sets l.sets) (plan_in state rules.sets ts l clock asked).sets logs (targets_apart rules.sets l.sets l.of_looks l.looks clock decide l.shown)

    have_names : TargetsHaveNames targets
    have_names = targets_have_names rules l.sets l.of_looks l.looks clock decide l.shown

    valid : (t : Target) → IsIn t targets → path_fault t.log ≡ None
    valid t i = targets_have_paths rules.sets l.sets l.of_looks l.looks clock decide l.shown t i

    -- the looks were made on a disk, so what one of them tells of a directory none denies
    looks_agree : AreMade ts → DontClash l.looks
    looks_agree made = dont_clash l.looks (made_first l.looks l.acts (made_later l.reads (l.looks ++ l.acts) (subst AreMade l.joined made))) (whole_quiet rules.sets l.sets l.of_looks l.looks l.shown)

    abbrev seen : List Entry
    seen = l.reads ++ l.looks

    -- whose changes are of the logs
    behind_aside : (acts : List Entry) → Each IsTools acts → Each (IsOfSome targets) (filter is_change acts) → Each (LeavesAlone state) (seen ++ acts)
    behind_aside acts tools of_logs = each_append (LeavesAlone state) seen acts (calm_aside state seen (seen_quiet state rules.sets ts l))
        (of_changes (LeavesAlone state) acts (λ e i h. none_aside state e (none_changed e i h)) tools (each_as (IsOfSome targets) (LeavesAlone state) (filter is_change acts) (λ e i. some_aside state targets e have_names (targets_free rules.sets l.sets l.of_looks l.looks clock decide l.shown) i) of_logs))

    behind_within : (dirs : List Path) (marks : List Mark) (faults : List Fault) (acts : List Entry) → AreMade ts → Each IsTools acts → AreSynced (plan_in state rules.sets ts l clock asked).sets marks dirs → SetsDone (map steps_of_set (plan_in state rules.sets ts l clock asked).sets) marks faults acts
        → Each (IsWithinDirs (state_part state) dirs) (seen ++ acts)
    behind_within dirs marks faults acts made tools synced done = each_append (IsWithinDirs (state_part state) dirs) seen acts (calm_within (state_part state) dirs seen (seen_quiet state rules.sets ts l))
        (of_changes (IsWithinDirs (state_part state) dirs) acts (λ e i h. none_within (state_part state) dirs e (none_changed e i h)) tools
        (changes_within (plan_in state rules.sets ts l clock asked).sets rules clock l.looks (groups_of clock decide rules.sets l.sets) logs (targets_seen rules l.sets l.of_looks l.looks clock decide l.shown) valid (looks_agree made) (state_part state) dirs marks faults acts synced done))

  -- a first part of the acts
  pub broke_aside : (ts : List Entry) → AreMade ts → BrokeOff state rules.sets clock asked ts → Each (LeavesAlone state) ts
  broke_aside ts made b = subst (Each (LeavesAlone state)) (sym parts)
      (behind_aside ts b.looked b.looked.acts (each_last IsTools (b.looked.reads ++ b.looked.looks) b.looked.acts (subst (Each IsTools) parts (made_by_tools ts made)))
      (cut_some (targets ts b.looked) (map steps_of_set (plan_in state rules.sets ts b.looked clock asked).sets) b.marks b.of_acts b.looked.acts (planned ts b.looked) b.part))
    where
      parts : ts ≡ (b.looked.reads ++ b.looked.looks) ++ b.looked.acts
      parts = looked_parts state rules.sets ts b.looked

  -- all of the acts, and the writing of the state
  module _ (own : List Fault) (ts : List Entry) (w : Worked state rules.sets clock asked own ts) (made : AreMade ts) where
    abbrev l : Looked state rules.sets ts
    l = w.looked

    abbrev acts : List Entry
    acts = w.acted.entries.entries.front

    of_logs : Each (IsOfSome (targets ts l)) (filter is_change acts)
    of_logs = done_some (targets ts l) (map steps_of_set (plan_in state rules.sets ts l clock asked).sets) w.acted.marks w.acted.entries.of_plan acts (planned ts l) w.acted.entries.entries.first

    in_three : ts ≡ (seen ts l ++ acts) ++ w.acted.entries.entries.back
    in_three = in_parts state rules.sets clock asked own ts w

    tools_of : Each IsTools ((seen ts l ++ acts) ++ w.acted.entries.entries.back)
    tools_of = subst (Each IsTools) in_three (made_by_tools ts made)

    acts_tools : Each IsTools acts
    acts_tools = each_last IsTools (seen ts l) acts (each_first IsTools (seen ts l ++ acts) w.acted.entries.entries.back tools_of)

    back_tools : Each IsTools w.acted.entries.entries.back
    back_tools = each_last IsTools (seen ts l ++ acts) w.acted.entries.entries.back tools_of

    acts_aside : Each (LeavesAlone state) (seen ts l ++ acts)
    acts_aside = behind_aside ts l acts acts_tools of_logs

    acts_within : Each (IsWithinDirs (state_part state) w.acted.dirs) (seen ts l ++ acts)
    acts_within = behind_within ts l w.acted.dirs w.acted.marks w.acted.entries.of_plan acts made acts_tools w.acted.dirs_are w.acted.entries.entries.first

    abbrev text : List ℕ
    text = state_text state rules.sets ts l clock (rotated_logs w.acted.marks)

    -- behind more that leaves the state alone, and before its end
    pub worked_may : (IsText : List ℕ → Type 0) → IsText text → (front : List Entry) → Each (LeavesAlone state) front → Each (IsWithinDirs (state_part state) w.acted.dirs) front → MayRenew state IsText (front ++ (ts ++ entry.Ends ∷ []))
    worked_may IsText is front aside within = subst (MayRenew state IsText) (sym in_order)
        (back_may state w.acted.dirs text IsText is (front ++ (seen ts l ++ acts)) (each_append (LeavesAlone state) front (seen ts l ++ acts) aside acts_aside) (each_append (IsWithinDirs (state_part state) w.acted.dirs) front (seen ts l ++ acts) within acts_within)
        w.acted.entries.entries.back (entry.Ends ∷ []) back_tools ((λ i. i), tt) (refl, tt)
        (named_last state l.remembered.stale w.acted.dirs text w.acted.entries.of_state w.acted.entries.entries.back w.acted.entries.entries.second))
      where
        in_order : front ++ (ts ++ entry.Ends ∷ []) ≡ (front ++ (seen ts l ++ acts)) ++ (w.acted.entries.entries.back ++ entry.Ends ∷ [])
        in_order = ap (λ es. front ++ (es ++ entry.Ends ∷ [])) in_three ∙ (ap (λ es. front ++ es) (append_assoc (seen ts l ++ acts) w.acted.entries.entries.back (entry.Ends ∷ [])) ∙ sym (append_assoc front (seen ts l ++ acts) (w.acted.entries.entries.back ++ entry.Ends ∷ [])))

  -- what a run made between its begin and its end
  pub between_made : (before between ts : List Entry) → ts ≡ before ++ (entry.Starts state clock.now rules ∷ (between ++ entry.Ends ∷ [])) → AreMade ts → AreMade between
  between_made before between ts e made = made_first between (entry.Ends ∷ []) (made_later (entry.Starts state clock.now rules ∷ []) (between ++ entry.Ends ∷ []) (made_later before (entry.Starts state clock.now rules ∷ (between ++ entry.Ends ∷ [])) (subst AreMade e made)))

-- ---- a call

-- calls that leave the state alone, or renew it
pub left_whole : (state : Path) (IsText : List Entry → List ℕ → Type 0) (P : List Entry → Type 0) {o n : Option Journal} → Left P o n → ((ts : List Entry) → AreMade ts → P ts → MayRenew state (IsText ts) ts) → KeepsWhole state IsText o n
left_whole state IsText P not_told f = tt
left_whole state IsText P (is_told {j = j} {k = k} {es = es} m h) f = λ journal settled spare. record {
  entries = es;
  made = m;
  each = λ u since until. whole_at state (IsText (reverse es)) (past j) (past k) es m journal (f (reverse es) (are_made (past j) (past k) es m journal) h) settled spare u since until;
}
