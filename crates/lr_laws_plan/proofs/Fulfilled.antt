-- A run of which no act failed fulfils its plan.
use Rattle.std.proofs.Common.{◌≡◌, ◌≢◌, inl, inr, ℕ, false, refl, sym, ◌∙◌, ap, subst, List, [], ◌∷◌, ◌++◌, reverse, append_assoc, append-nil}
use Rattle.std.specs.Prelude.{filter}
use Rattle.std.proofs.lemmas.List.Elements.{filter-append}
use Rattle.lr_rules.specs.declared.clock.Clock.{Clock}
use Rattle.lr_rules.specs.declared.fault.Fault.{Fault}
use Rattle.lr_rules.specs.declared.path.Path.{Path}
use Rattle.lr_rules.specs.declared.rules.Rules.{Rules}
use Rattle.lr_rules.specs.Path.{parent_of}
use Rattle.lr_rules.specs.StatePath.{state_part}
use Rattle.lr_host.specs.declared.entry.Entry.{Entry}
use Rattle.lr_host.specs.declared.entry.Entry.TheVariants as entry
use Rattle.lr_host.specs.declared.thing.Thing.TheVariants as thing
use Rattle.lr_host.specs.Lists.{IsIn}
use Rattle.lr_host.specs.Looks.{Sees, IsDir}
use Rattle.lr_host.specs.Opening.{IsJournal}
use Rattle.lr_host.specs.Quiet.{AreQuiet, AttachedOnlySince}
use Rattle.lr_host.specs.Told.{Made}
use Rattle.lr_host.specs.World.{Past, world, names}
use Rattle.lr_host.proofs.Lists.{in_front, in_back}
use Rattle.lr_host.proofs.Each.{each_as, none_pass}
use Rattle.lr_host.proofs.Quiet.{quiet_both}
use Rattle.lr_laws.specs.Renewing.{LeavesAlone, MayRenew, left_alone, renewed, HasText}
use Rattle.lr_laws.proofs.Behind.{renewed_text}
use Rattle.lr_acts.specs.Making.{all_of_sets}
use Rattle.lr_acts.specs.Named.{OneCreates}
use Rattle.lr_looks.specs.Found.{FoundLog, paths_of}
use Rattle.lr_plan.specs.Asked.{Asked}
use Rattle.lr_plan.specs.declared.mark.Mark.TheVariants as mark
use Rattle.lr_plan.specs.Course.{Course}
use Rattle.lr_plan.specs.Done.{ActsDone, rotated_logs}
use Rattle.lr_plan.specs.Steps.{steps_of_plan}
use Rattle.lr_state.specs.After.{after}
use Rattle.lr_state.specs.Written.{table_text}
use Rattle.lr_laws_family.proofs.Weaving.{each_in}
use Rattle.lr_laws_acts.proofs.ActsWhole.{nil_split}
use Rattle.lr_writing.specs.Directories.{AreDirectoriesOf}
use Rattle.lr_writing.specs.Named.{StateIsNamed}
use Rattle.lr_writing.proofs.Named.{named_whole}
use Rattle.lr_writing.specs.Synced.{all_changed_of}
use Rattle.lr_writing.proofs.SyncedLaws.{all_synced}
use Rattle.lr_host.specs.Looking.{IsSight, AreSights}
use Rattle.lr_host.proofs.Looking.{sights_quiet}
use Rattle.lr_run.specs.Paths.{dirs_in, logs_in}
use Rattle.lr_run.specs.Saw.{text_by}
use Rattle.lr_run.specs.Work.{Work, ShowsWork, CarriesOut, act_faults, run_entries, steps_in, state_steps_of}
use Rattle.lr_run.proofs.Made.{are_made}
use Rattle.lr_run.proofs.Evidence.{faults_of, text_shown}
use Rattle.lr_run.proofs.Renewing.{behind_quiet, between_made, worked_may}
use Rattle.lr_run.proofs.Seeing.{seen_so}
use Rattle.lr_run.proofs.Shape.{sees_quiet}
use Rattle.lr_run.proofs.Turned as turned
use Rattle.lr_laws_plan.specs.Acts.{is_act, AreActsOf}
use Rattle.lr_laws_plan.specs.Fulfilled.{IsFulfilled}
use Rattle.lr_laws_plan.proofs.FulfilledPlanned.{anew_planned, acts_planned, dirs_planned, logs_planned}

-- ---- looks, listings and reads

sight_none : (e : Entry) → IsSight e → is_act e ≡ false
sight_none (entry.Look path seen) i = refl
sight_none (entry.List dir names) i = refl
sight_none (entry.Reads path from piece) i = refl
sight_none _ i = absurd i

sights_none : (ts : List Entry) → AreSights ts → filter is_act ts ≡ []
sights_none ts a = none_pass is_act ts (each_as IsSight (λ e. is_act e ≡ false) ts sight_none a)

-- behind them
behind_sights : (xs ys : List Entry) → AreSights xs → filter is_act (xs ++ ys) ≡ filter is_act ys
behind_sights xs ys a = filter-append is_act xs ys ∙ ap (λ (zs : List Entry). zs ++ filter is_act ys) (sights_none xs a)

-- ---- the run

module _ (state : Path) (asked : Asked) (clock : Clock) (rules : Rules) (w : Work) (p q : Past) (es reads : List Entry) (made : Made p es q) (journal : IsJournal p) (joined : reverse es ≡ reads ++ run_entries false state clock rules w) (sights : AreSights reads)
    (shows : ShowsWork false state rules.sets clock asked w) (out : CarriesOut state clock w) (none : act_faults w.acts ≡ []) (made_anew : (x : Path) → IsIn (mark.Created x) w.acts.marks → names (world q) x ≢ thing.Nothing) where
  done : ActsDone w.plan state w.saw.stale (λ marks. w.acts.dirs) (text_by w.saw clock) w.acts.marks [] w.did
  done = record { of_plan = w.acts.of_logs; of_state = w.acts.of_state; faults_are = sym none; entries = out.entries }

  -- ---- its acts

  abbrev work : List Entry
  work = w.reads ++ (w.looks ++ w.did)

  saw_dir : Sees (parent_of state) IsDir w.dir
  saw_dir = (text_shown state w.saw.text w.saw.stale w.dir w.reads shows.seen.file).0

  dir_sees : AreSights w.dir
  dir_sees = subst AreSights (sym saw_dir.look) (tt, tt)

  looks_see : AreSights (w.reads ++ w.looks)
  looks_see = seen_so IsSight (λ x seen. tt) (λ x names. tt) (λ x from piece short. tt) state rules.sets work (turned.worked state asked clock rules w shows out).looked

  acts_of : filter is_act (reverse es) ≡ filter is_act w.did
  acts_of =
      ap (filter is_act) joined
      ∙ (behind_sights reads _ sights
      ∙ (behind_sights w.dir _ dir_sees
      ∙ (ap (filter is_act) (sym (append_assoc w.reads w.looks (w.did ++ entry.Ends ∷ [])))
      ∙ (behind_sights (w.reads ++ w.looks) (w.did ++ entry.Ends ∷ []) looks_see
      ∙ (filter-append is_act w.did (entry.Ends ∷ []) ∙ append-nil (filter is_act w.did))))))

  run_acts : AreActsOf (steps_in state clock w) (filter is_act (reverse es))
  run_acts = subst (AreActsOf (steps_in state clock w)) (sym acts_of) (acts_planned w.plan state w.saw.stale (λ marks. w.acts.dirs) (text_by w.saw clock) w.acts.marks w.did done)

  -- ---- its state

  abbrev text : List ℕ
  text = text_by w.saw clock (rotated_logs w.acts.marks)

  -- by what the looks show of the logs that were kept
  text_is : text ≡ table_text (after w.saw.table (rotated_logs w.acts.marks) (paths_of shows.seen.sets.shown.kept) clock.now.civil)
  text_is = ap (λ (fs : List FoundLog). table_text (after w.saw.table (rotated_logs w.acts.marks) (paths_of fs) clock.now.civil)) shows.seen.sets.kept_are

  front_quiet : AreQuiet (reads ++ w.dir)
  front_quiet = quiet_both reads w.dir (sights_quiet reads sights) (sees_quiet (parent_of state) IsDir w.dir saw_dir)

  -- all its entries, around its work
  whole : reverse es ≡ (reads ++ w.dir) ++ (entry.Starts state clock.now rules ∷ (work ++ entry.Ends ∷ []))
  whole = joined ∙ (ap (λ (xs : List Entry). reads ++ xs) (turned.inside state asked clock rules w shows out).entries ∙ sym (append_assoc reads w.dir (entry.Starts state clock.now rules ∷ (work ++ entry.Ends ∷ []))))

  may_renew : MayRenew state (λ bytes. bytes ≡ text) (reverse es)
  may_renew = subst (MayRenew state (λ bytes. bytes ≡ text)) (sym whole)
      (behind_quiet state (λ bytes. bytes ≡ text) (λ bytes. bytes ≡ text) (λ bytes is. is) (reads ++ w.dir) (entry.Starts state clock.now rules ∷ (work ++ entry.Ends ∷ [])) front_quiet
      (worked_may state rules clock asked (faults_of w) work (turned.worked state asked clock rules w shows out) (between_made state rules clock asked (reads ++ w.dir) work (reverse es) whole (are_made p q es made journal)) (λ bytes. bytes ≡ text) (sym text_is)
      (entry.Starts state clock.now rules ∷ []) ((λ h. h), tt) ((λ x h. absurd h), tt)))

  wrote : StateIsNamed state w.acts.dirs text out.entries.back
  wrote = named_whole state w.saw.stale w.acts.dirs text out.entries.back
      (subst (λ (fs : List Fault). Course (state_steps_of state clock w) [] fs out.entries.back) (nil_split (act_faults w.acts) w.acts.of_logs w.acts.of_state refl none).1 out.entries.second)

  -- the rename to the state's path is among the entries
  renames : IsIn (entry.Renames (state_part state) state) (reverse es)
  renames = subst (IsIn turn) (sym whole)
      (in_back turn (reads ++ w.dir) _ (inr (in_front turn work (entry.Ends ∷ [])
      (in_back turn w.reads (w.looks ++ w.did) (in_back turn w.looks w.did
      (subst (IsIn turn) (sym out.entries.joined) (in_back turn out.entries.front out.entries.back
      (subst (IsIn turn) (sym wrote.ts_are) (in_back turn wrote.before _ (inl refl))))))))))
    where
      turn : Entry
      turn = entry.Renames (state_part state) state

  written : AttachedOnlySince (λ x. (x ≢ state) × (x ≢ state_part state)) p q → HasText state (text_by w.saw clock (logs_in w.plan)) q
  written only = subst (λ (logs : List Path). HasText state (text_by w.saw clock logs) q) (logs_planned w.plan state w.saw.stale (λ marks. w.acts.dirs) (text_by w.saw clock) w.acts.marks w.did done) (go may_renew)
    where
      go : MayRenew state (λ bytes. bytes ≡ text) (reverse es) → HasText state text q
      go (left_alone a) = absurd (each_in (LeavesAlone state) (reverse es) (entry.Renames (state_part state) state) a renames (inr (inl refl)))
      go (renewed dirs bytes is r) = subst (λ (bs : List ℕ). HasText state bs q) is (renewed_text state dirs bytes p q es made journal r only)

  dirs_synced : AreDirectoriesOf (all_changed_of w.plan.sets ++ dirs_in w.plan) w.acts.dirs
  dirs_synced = all_synced w.plan.sets w.acts.marks w.acts.dirs out.dirs
      (λ dir j. subst (IsIn dir) (sym (dirs_planned w.plan state w.saw.stale (λ marks. w.acts.dirs) (text_by w.saw clock) w.acts.marks w.did done)) j)

  anew : (x : Path) → OneCreates x (all_of_sets (steps_of_plan w.plan)) → names (world q) x ≢ thing.Nothing
  anew x one = made_anew x (anew_planned w.plan state w.saw.stale (λ marks. w.acts.dirs) (text_by w.saw clock) w.acts.marks w.did done x one)

  pub fulfilled : IsFulfilled state clock w (reverse es) p q
  fulfilled = record { acts = run_acts; dirs = dirs_synced; anew = anew; written = written }
