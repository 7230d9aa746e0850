-- Each name that the acts of a plan change stands in a directory that is synced behind them.
use Rattle.std.proofs.Common.{◌≡◌, inl, inr, ⊎_elim, ℕ, false, true≢false, refl, sym, ◌∙◌, ap, subst, Option, Some, None, List, [], ◌∷◌, ◌++◌, map}
use Rattle.std.specs.Prelude.{filter}
use Rattle.std.specs.List.{flat_map}
use Rattle.std.proofs.lemmas.Bool.{false_from_ne_true}
use Rattle.lr_rules.specs.declared.clock.Clock.{Clock}
use Rattle.lr_rules.specs.declared.fault.Fault.{Fault}
use Rattle.lr_rules.specs.declared.path.Path.{Path}
use Rattle.lr_rules.specs.declared.rules.Rules.{Rules}
use Rattle.lr_rules.specs.Path.{path_fault, parent_of}
use Rattle.lr_host.specs.declared.entry.Entry.{Entry}
use Rattle.lr_host.specs.Fits.{IsDirectoryAt}
use Rattle.lr_host.specs.Lists.{IsIn}
use Rattle.lr_host.specs.Steps.{is_change}
use Rattle.lr_host.specs.Told.{Each}
use Rattle.lr_host.proofs.Each.{each_as}
use Rattle.lr_host.proofs.Lists.{in_append, in_front, in_back}
use Rattle.lr_laws.specs.Renewing.{IsWithinDirs}
use Rattle.lr_laws.specs.StateWhole.{renamed_paths}
use Rattle.lr_chain.specs.declared.ready.Ready.{Ready}
use Rattle.lr_plan.specs.declared.mark.Mark.{Mark}
use Rattle.lr_plan.specs.declared.mark.Mark.TheVariants as mark
use Rattle.lr_plan.specs.declared.plan.LogPlan.{LogPlan}
use Rattle.lr_plan.specs.declared.plan.SetPlan.{SetPlan}
use Rattle.lr_plan.specs.Done.{SetsDone}
use Rattle.lr_plan.specs.Steps.{steps_of_set}
use Rattle.lr_laws_rotations.specs.AllTurns.{IsItsDir, IsOf}
use Rattle.lr_laws_rotations.specs.Target.{Target, IsDirSeenBy}
use Rattle.lr_laws_rotations.specs.Seen.{IsLogSeen, AreLogsSeen}
use Rattle.lr_laws_rotations.proofs.LogSeen.{log_among}
use Rattle.lr_laws_acts.proofs.Allowed.{HasAll, Allowed, AllowsMore, AllowsLog}
use Rattle.lr_laws_acts.specs.Planned.{IsReadyFor, AreReadyFor, HaveLogs}
use Rattle.lr_laws_acts.proofs.Guarding.{acts_guarded}
use Rattle.lr_laws_acts.proofs.Planning.{dir_is}
use Rattle.lr_writing.specs.Synced.{changed_of, all_changed_of, made_of, to_make_of, all_to_make_of, made_in, is_unmade, AreSynced}
use Rattle.lr_writing.proofs.SyncedLaws.{IsTouched, mark_made, made_mark, unmade_is, made_isnt, other_isnt, has_parent}
use Rattle.lr_laws_looks.proofs.Lasting.{Says}
use Rattle.lr_laws_looks.proofs.PlacedListed.{says_seen, says_own, was_missing, says_parent}
use Rattle.lr_run.proofs.Covering.{IsPlaced, log_placed}
use Rattle.lr_run.proofs.Made.{DontClash}

-- ---- the paths of a plan, and those of its logs

-- the log's path, the one that it gets and the directory that its rotation makes are among these
record IsCovered (changed to_make : List Path) (t : Target) : Type 0 where
  log : IsIn t.log changed
  target : IsIn t.ready.target changed
  dir : (x : Path) → IsItsDir t x → IsIn x to_make

covered_in : (t : Target) (changed more to_make later : List Path) → IsCovered changed to_make t → IsCovered (changed ++ more) (to_make ++ later) t
covered_in t changed more to_make later c = record { log = in_front t.log changed more c.log; target = in_front t.ready.target changed more c.target; dir = λ x i. in_front x to_make later (c.dir x i) }

covered_by : (t : Target) (changed more to_make later : List Path) → IsCovered more later t → IsCovered (changed ++ more) (to_make ++ later) t
covered_by t changed more to_make later c = record { log = in_back t.log changed more c.log; target = in_back t.ready.target changed more c.target; dir = λ x i. in_back x to_make later (c.dir x i) }

-- by its plan
covered_own : (t : Target) (log : LogPlan) → IsReadyFor t log → IsCovered (log.log ∷ log.ready.target ∷ []) (made_of log.ready.dir) t
covered_own t log r = record {
  log = inl r.log_is;
  target = inr (inl (ap (λ (x : Ready). x.target) r.ready_is));
  dir = λ x i. subst (λ (d : Option (Path × Option ℕ)). IsIn x (made_of d)) (sym (dir_is t log r ∙ i.1)) (inl refl);
}

covered_log : (t : Target) (ts : List Target) (logs : List LogPlan) → AreReadyFor ts logs → IsIn t ts → IsCovered (changed_of logs) (to_make_of logs) t
covered_log t [] logs r i = absurd i
covered_log t (u ∷ us) [] r i = absurd r
covered_log t (u ∷ us) (l ∷ ls) r (inl e) = covered_in t (l.log ∷ l.ready.target ∷ []) (changed_of ls) (made_of l.ready.dir) (to_make_of ls) (subst (IsCovered (l.log ∷ l.ready.target ∷ []) (made_of l.ready.dir)) e (covered_own u l r.0))
covered_log t (u ∷ us) (l ∷ ls) r (inr i) = covered_by t (l.log ∷ l.ready.target ∷ []) (changed_of ls) (made_of l.ready.dir) (to_make_of ls) (covered_log t us ls r.1 i)

covered : (t : Target) (groups : List (List Target)) (sets : List SetPlan) → HaveLogs groups sets → IsIn t (flat_map (λ ts. ts) groups) → IsCovered (all_changed_of sets) (all_to_make_of sets) t
covered t [] sets h i = absurd i
covered t (ts ∷ groups) [] h i = absurd h
covered t (ts ∷ groups) (s ∷ ss) h i = ⊎_elim
    (λ a. covered_in t (changed_of s.logs) (all_changed_of ss) (to_make_of s.logs) (all_to_make_of ss) (covered_log t ts s.logs h.0 a))
    (λ b. covered_by t (changed_of s.logs) (all_changed_of ss) (to_make_of s.logs) (all_to_make_of ss) (covered t groups ss h.1 b))
    (in_append t ts (flat_map (λ ts. ts) groups) i)

-- the rotation of one of these makes the directory
pub record IsOfOne (ts : List Target) (dir : Path) : Type 0 where
  pub target : Target
  pub one : IsIn target ts
  pub its : IsItsDir target dir

made_log : (ts : List Target) (logs : List LogPlan) (dir : Path) → AreReadyFor ts logs → IsIn dir (to_make_of logs) → IsOfOne ts dir
made_log [] [] dir r i = absurd i
made_log [] (l ∷ ls) dir r i = absurd r
made_log (t ∷ ts) [] dir r i = absurd r
made_log (t ∷ ts) (l ∷ ls) dir r i = ⊎_elim (own l.ready.dir refl) (λ j. let o = made_log ts ls dir r.1 j in record { target = o.target; one = inr o.one; its = o.its }) (in_append dir (made_of l.ready.dir) (to_make_of ls) i)
  where
    own : (d : Option (Path × Option ℕ)) → l.ready.dir ≡ d → IsIn dir (made_of d) → IsOfOne (t ∷ ts) dir
    own None is j = absurd j
    own (Some (x, mode)) is (inl same) = record { target = t; one = inl refl; its = (mode, sym (dir_is t l r.0) ∙ (is ∙ ap (λ (y : Path). Some (y, mode)) same)) }
    own (Some (x, mode)) is (inr none) = absurd none

made_one : (groups : List (List Target)) (sets : List SetPlan) (dir : Path) → HaveLogs groups sets → IsIn dir (all_to_make_of sets) → IsOfOne (flat_map (λ ts. ts) groups) dir
made_one [] [] dir h i = absurd i
made_one [] (s ∷ ss) dir h i = absurd h
made_one (ts ∷ groups) [] dir h i = absurd h
made_one (ts ∷ groups) (s ∷ ss) dir h i = ⊎_elim
    (λ a. let o = made_log ts s.logs dir h.0 a in record { target = o.target; one = in_front o.target ts (flat_map (λ ts. ts) groups) o.one; its = o.its })
    (λ b. let o = made_one groups ss dir h.1 b in record { target = o.target; one = in_back o.target ts (flat_map (λ ts. ts) groups) o.one; its = o.its })
    (in_append dir (to_make_of s.logs) (all_to_make_of ss) i)

-- ---- what the marks allow

-- what was made isn't unmade, whatever was made besides
still_made : (to_make : List Path) (more fewer : List Mark) (dir : Path) → HasAll more fewer → is_unmade to_make (made_in fewer) dir ≡ false → is_unmade to_make (made_in more) dir ≡ false
still_made to_make more fewer dir has made = false_from_ne_true (is_unmade to_make (made_in more) dir) (λ t.
    let h = (unmade_is to_make (made_in more) dir).0 t in
    true≢false (sym ((unmade_is to_make (made_in fewer) dir).1 (h.0, λ i. h.1 (mark_made dir more (has (mark.Directory dir) (made_mark dir fewer i))))) ∙ made))

module _ (sets : List SetPlan) where
  -- The path stands in the directory of a path that the plan changes or makes, and that isn't one that was to be made and isn't marked.
  record IsSyncedAt (marks : List Mark) (x : Path) : Type 0 where
    path : Path
    touched : IsTouched sets path
    beside : parent_of path ≡ parent_of x
    made : is_unmade (all_to_make_of sets) (made_in marks) (parent_of x) ≡ false

  abbrev AreSyncedAt : Allowed
  AreSyncedAt marks e = (x : Path) → IsIn x (renamed_paths e) → IsSyncedAt marks x

  more_synced : AllowsMore AreSyncedAt
  more_synced more fewer has e f x i = let s = f x i in record { path = s.path; touched = s.touched; beside = s.beside; made = still_made (all_to_make_of sets) more fewer (parent_of x) has s.made }

  within_by : (part : Path) (dirs : List Path) (marks : List Mark) (e : Entry) → AreSynced sets marks dirs → AreSyncedAt marks e → IsWithinDirs part dirs e
  within_by part dirs marks e synced f x i =
      let s = f x i in
      inr (subst (λ (d : Path). IsIn d dirs) s.beside (has_parent sets marks dirs synced s.path s.touched (subst (λ (d : Path). is_unmade (all_to_make_of sets) (made_in marks) d ≡ false) (sym s.beside) s.made)))

  -- of logs that were seen on a disk
  module _ (rules : Rules) (clock : Clock) (looks : List Entry) (groups : List (List Target)) (logs : HaveLogs groups sets) (seen : AreLogsSeen rules clock looks (flat_map (λ ts. ts) groups))
      (valid : (t : Target) → IsIn t (flat_map (λ ts. ts) groups) → path_fault t.log ≡ None) (apart : DontClash looks) where
    abbrev targets : List Target
    targets = flat_map (λ ts. ts) groups

    -- a directory that stands isn't to be made
    stands : (dir : Path) → Says (λ n. IsDirectoryAt n dir) looks → IsIn dir (all_to_make_of sets) → ⊥
    stands dir says i = let o = made_one groups sets dir logs i in apart dir (was_missing rules clock looks o.target dir o.its (log_among rules clock looks targets seen o.target o.one)).gone says

    module _ (t : Target) (i : IsIn t targets) where
      l : IsLogSeen rules clock looks t
      l = log_among rules clock looks targets seen t i

      placed : IsPlaced t
      placed = log_placed rules clock looks t l

      c : IsCovered (all_changed_of sets) (all_to_make_of sets) t
      c = covered t groups sets logs i

      at_log : (marks : List Mark) (x : Path) → parent_of x ≡ parent_of t.log → IsSyncedAt marks x
      at_log marks x is = record {
        path = t.log;
        touched = inl c.log;
        beside = sym is;
        made = subst (λ (d : Path). is_unmade (all_to_make_of sets) (made_in marks) d ≡ false) (sym is)
            (other_isnt (all_to_make_of sets) (made_in marks) (parent_of t.log) (stands (parent_of t.log) (says_own rules clock looks t (valid t i) l)));
      }

      in_dir : (marks : List Mark) (x : Path) → parent_of x ≡ t.naming.dir → is_unmade (all_to_make_of sets) (made_in marks) t.naming.dir ≡ false → IsSyncedAt marks x
      in_dir marks x is made = record { path = t.ready.target; touched = inl c.target; beside = placed.target ∙ sym is; made = subst (λ (d : Path). is_unmade (all_to_make_of sets) (made_in marks) d ≡ false) (sym is) made }

      at_dir : (marks : List Mark) (x : Path) → IsItsDir t x → IsSyncedAt marks x
      at_dir marks x its = record {
        path = x;
        touched = inr (c.dir x its);
        beside = refl;
        made = other_isnt (all_to_make_of sets) (made_in marks) (parent_of x) (stands (parent_of x) (says_parent rules clock looks t x its l));
      }

      all_at : (marks : List Mark) (e : Entry) → is_unmade (all_to_make_of sets) (made_in marks) t.naming.dir ≡ false → IsOf t e → AreSyncedAt marks e
      all_at marks e made o x j = ⊎_elim (at_dir marks x) (⊎_elim (at_log marks x) (λ is. in_dir marks x is made)) (placed.on e o x j)

      seen_dir_made : (marks : List Mark) → t.ready.dir ≡ None → is_unmade (all_to_make_of sets) (made_in marks) t.naming.dir ≡ false
      seen_dir_made marks none = other_isnt (all_to_make_of sets) (made_in marks) t.naming.dir
          (stands t.naming.dir (says_seen t.naming.dir looks (subst (λ (d : Option (Path × Option ℕ)). IsDirSeenBy d t.log t.naming t.stand.members t.job looks) none l.dir)))

      allows : AllowsLog AreSyncedAt t
      allows = record {
        plain = λ none marks e o. all_at marks e (seen_dir_made marks none) o;
        made = λ dir mode is marks x j. ⊎_elim (λ same. at_dir marks x (mode, is ∙ ap (λ (y : Path). Some (y, mode)) same)) (λ none. absurd none) j;
        behind = λ dir mode is marks told e o.
            all_at marks e (made_isnt (all_to_make_of sets) (made_in marks) t.naming.dir (subst (λ (d : Path). IsIn d (made_in marks)) (was_missing rules clock looks t dir (mode, is) l).dir_is (mark_made dir marks told))) o;
        no_leftovers = λ dir mode is. placed.no_leftovers (was_missing rules clock looks t dir (mode, is) l).no_members;
      }

    -- each change of the acts is in one of these directories
    pub changes_within : (part : Path) (dirs : List Path) (marks : List Mark) (faults : List Fault) (acts : List Entry) → AreSynced sets marks dirs → SetsDone (map steps_of_set sets) marks faults acts → Each (IsWithinDirs part dirs) (filter is_change acts)
    changes_within part dirs marks faults acts synced done =
        each_as (AreSyncedAt marks) (IsWithinDirs part dirs) (filter is_change acts) (λ e f. within_by part dirs marks e synced f) (acts_guarded AreSyncedAt more_synced groups sets marks faults acts logs allows done)
