-- Stretches of a run between the renames of a log that is set aside: over each the set stays safe, and its newest name may be taken.
use Rattle.std.proofs.Common.{◌≡◌, ◌⊎◌, inl, inr, ℕ, ◌<◌, true, false, sym, ◌∙◌, ap, subst, arith, Some, List, [], ◌++◌, reverse, append-nil, ℤ, pos}
use Rattle.std.specs.Prelude.{filter}
use Rattle.std.proofs.lemmas.List.{reverse-append}
use Rattle.lr_rules.specs.declared.path.Path.{Path}
use Rattle.lr_host.specs.declared.thing.Thing.TheVariants as thing
use Rattle.lr_host.specs.declared.entry.Entry.{Entry}
use Rattle.lr_host.specs.declared.entry.Entry.TheVariants.{Renames}
use Rattle.lr_host.specs.Fits.{Fits}
use Rattle.lr_host.specs.Forward.{IsForward}
use Rattle.lr_host.specs.Opening.{IsJournal}
use Rattle.lr_host.specs.Safe.{IsSafe}
use Rattle.lr_host.specs.Sets.{LogSet, Numbered, Dated, order, IsAsideOf}
use Rattle.lr_host.specs.Steady.{NoneAttached}
use Rattle.lr_host.specs.Steps.{changes_of, is_change}
use Rattle.lr_host.specs.Told.{Each, Made}
use Rattle.lr_host.specs.World.{Past, ◌▸◌, world, names, names_after, Change}
use Rattle.lr_host.proofs.Each.{filter_reverse}
use Rattle.lr_host.proofs.Left.{changes_filter}
use Rattle.lr_laws.specs.DatedRotation.{turned_behind, IsDatedRotationBy, IsDatedRetirement}
use Rattle.lr_laws.specs.Follow.{NamesNone, MayFollow}
use Rattle.lr_laws.specs.Room.{HasRoomForOne}
use Rattle.lr_laws.specs.Rotation.{IsRotation, LogFits}
use Rattle.lr_laws.proofs.Calls.{rotation_filter, later_rotation}
use Rattle.lr_laws.proofs.DatedWalk as dates
use Rattle.lr_laws.proofs.Going.{safe_on}
use Rattle.lr_laws.proofs.Moves.{may_turn, may_put_aside}
use Rattle.lr_laws.proofs.Reach.{aside_apart, unplaced_no_key, keyed_reach}
use Rattle.lr_laws.proofs.Sound.{IsSound, sound}
use Rattle.lr_laws.proofs.Stamps.{may_turn_dated}
use Rattle.lr_laws.proofs.Tame.{tame_moves, forward_on, room_on}
use Rattle.lr_laws.proofs.Walk.{IsSameRun, same_run_on, IsReached, walk, log_filter}
use Rattle.lr_laws.proofs.Writing.{member_apart}
use Rattle.lr_chain.proofs.DatedWhole.{moved_other}
use Rattle.lr_laws_family.specs.Weave.{Weave, FirstWoven}
use Rattle.lr_laws_family.proofs.Weaving.{weave_back}
use Rattle.lr_laws_rotations.proofs.Aged.{same_run}
use Rattle.lr_laws_rotations.proofs.Behind.{MayRetire}
use Rattle.lr_laws_rotations.proofs.LogFitting.{IsNoRename, log_fits_on, log_fits_first}
use Rattle.lr_laws_rotations.proofs.Weaving.{IsApartOrMakes, IsWoven, woven}
use Rattle.lr_laws_rotations.proofs.DatedWeaving.{IsDatedWoven, dated_woven, turned_filter, rotation_filter as dated_filter, later_rotation as later_dated}

-- ---- the newest name may be taken

-- It is place 0 of a set of numbers; or none of a set of dates is later, and each member may get one more later member.
abbrev pub MayCome : LogSet → Past → Path → Type 0
MayCome s p to = ((order s ≡ Numbered) × (s.key to ≡ Some (pos 0))) ⊎ ((order s ≡ Dated) × ((t : ℤ) × (s.key to ≡ Some t) × HasRoomForOne s p × IsForward s p t))

-- a file may be renamed to it, whatever path it has
pub may_come : (s : LogSet) (p : Past) (from to : Path) → IsJournal p → IsSafe s p → MayCome s p to → names (world p) to ≡ thing.Nothing → MayFollow s p (Renames from to)
may_come s p from to journal safe (inl (numbered, is)) free = may_turn s p from to numbered is free
may_come s p from to journal safe (inr (dated, (t, is, room, forward))) free = may_turn_dated s p from to t dated (sound s p journal safe.none_to_log) is free room forward

pub key_to : (s : LogSet) (p : Past) (to : Path) → MayCome s p to → (k : ℤ) × (s.key to ≡ Some k)
key_to s p to (inl (numbered, is)) = (pos 0, is)
key_to s p to (inr (dated, (t, is, room, forward))) = (t, is)

-- ---- what a stretch keeps

pub record Kept (s : LogSet) (p q : Past) (to : Path) : Type 0 where
  pub journal : IsJournal q
  pub safe : IsSafe s q
  pub same : IsSameRun p q
  pub alike : (y : Path) (k : ℤ) → s.key y ≡ Some k → names (world q) y ≡ names (world p) y
  pub come : MayCome s q to

pub same_on : (p q r : Past) → IsSameRun p q → IsSameRun q r → IsSameRun p r
same_on p q r a b = record { rules = b.rules ∙ a.rules; now = b.now ∙ a.now; saw = λ g moment h. b.saw g moment (a.saw g moment h) }

-- the changes of what was done, the newest first
changes_back : (acts : List Entry) → changes_of (reverse acts) ≡ changes_of (reverse (filter is_change acts))
changes_back acts = sym (changes_filter (reverse acts)) ∙ ap changes_of (filter_reverse is_change acts)

-- over entries that lie apart of the set, or make its log anew
module _ (s : LogSet) (p q : Past) (to : Path) (acts : List Entry) (journal : IsJournal p) (safe : IsSafe s p) (made : Made p (reverse acts) q) (w : Weave (IsApartOrMakes s) [] (filter is_change acts)) (none : NoneAttached s q) where
  passed_back : Weave (IsApartOrMakes s) [] (reverse (filter is_change acts))
  passed_back = weave_back (IsApartOrMakes s) [] (filter is_change acts) w

  passed_fits : LogFits s (names (world p)) (reverse (filter is_change acts)) → LogFits s (names (world p)) (reverse acts)
  passed_fits fits = log_filter s (names (world p)) (reverse acts) (subst (LogFits s (names (world p))) (sym (filter_reverse is_change acts)) fits)

  by_numbers : order s ≡ Numbered → s.key to ≡ Some (pos 0) → Kept s p q to
  by_numbers numbered is = record {
    journal = r.journal;
    safe = r.safe;
    same = r.same;
    alike = λ y k key. r.alike y k key ∙ (ap (λ (cs : List Change). names_after (names (world p)) cs y) (changes_back acts) ∙ sym (v.alike y (keyed_reach s y k key)));
    come = inl (numbered, is);
  }
    where
      v : IsWoven s p 0 [] (reverse (filter is_change acts))
      v = woven s p 0 [] (reverse (filter is_change acts)) passed_back tt tt

      nothing_below : (k : ℕ) → k < 0 → ⊥
      nothing_below k lt = omega arith

      r : IsReached s p q 0 (reverse acts)
      r = walk s p q 0 (reverse acts) numbered made (passed_fits v.fits)
          (rotation_filter s 0 p q (reverse acts) made (subst (IsRotation s p 0) (sym (filter_reverse is_change acts)) v.rotation)) none journal safe (λ x place key lt. absurd (nothing_below place lt))

  by_dates : order s ≡ Dated → (t : ℤ) → s.key to ≡ Some t → HasRoomForOne s p → IsForward s p t → Kept s p q to
  by_dates dated t is room forward = record {
    journal = r.journal;
    safe = r.safe;
    same = r.same;
    alike = λ y k key. r.alike y k key ∙ (ap (λ (cs : List Change). names_after (names (world p)) cs y) (changes_back acts) ∙ sym (v.alike y (keyed_reach s y k key)));
    come = inr (dated, (t, is, r.room unturned, r.forward unturned));
  }
    where
      v : IsDatedWoven s p t false [] (reverse (filter is_change acts))
      v = dated_woven s p t false [] (reverse (filter is_change acts)) passed_back tt tt

      r : dates.HasCome s p q t false (reverse acts)
      r = dates.walk s p q t false (reverse acts) dated made (passed_fits v.fits)
          (dated_filter s t false p q (reverse acts) made (subst (IsDatedRotationBy s p t false) (sym (filter_reverse is_change acts)) v.rotation)) none journal safe (λ e. room) (λ e. forward)

      unturned : turned_behind s false (reverse acts) ≡ false
      unturned = sym (turned_filter s false (reverse acts)) ∙ (ap (turned_behind s false) (filter_reverse is_change acts) ∙ sym v.turned)

  pub kept_between : MayCome s p to → Kept s p q to
  kept_between (inl (numbered, is)) = by_numbers numbered is
  kept_between (inr (dated, (t, is, room, forward))) = by_dates dated t is room forward

-- ---- the log is set aside

module _ (s : LogSet) (p : Past) (from waits to : Path) (journal : IsJournal p) (safe : IsSafe s p) (fits : Fits (world p) (Renames from waits)) (aside : IsAsideOf s waits) (free : NamesNone s p waits) (log : from ≡ s.log) where
  abbrev e : Entry
  e = Renames from waits

  sound_p : IsSound s p
  sound_p = sound s p journal safe.none_to_log

  come_on : MayCome s p to → MayCome s (p ▸ e) to
  come_on (inl (numbered, is)) = inl (numbered, is)
  come_on (inr (dated, (t, is, room, forward))) = inr (dated, (t, is, room_on s p e tt (tame_moves s from waits aside.keyless) sound_p (aside_apart s waits aside) (λ none. none) room, forward_on s p e tt (tame_moves s from waits aside.keyless) t forward))

  pub kept_aside : MayCome s p to → Kept s p (p ▸ e) to
  kept_aside come = record {
    journal = (journal, fits);
    safe = safe_on s p e (journal, fits) safe (may_put_aside s p from waits sound_p aside free);
    same = same_run_on p p e (λ none. none) (same_run p);
    alike = λ y k key. moved_other (names (world p)) from waits y (λ same. member_apart s y k key (same ∙ log)) (λ same. unplaced_no_key s waits k (inr aside) (ap s.key (sym same) ∙ key));
    come = come_on come;
  }

-- ---- behind its copy

module _ (s : LogSet) (p q : Past) (steps acts : List Entry) (journal : IsJournal p) (safe : IsSafe s p) (made : Made p (reverse acts) q) (w : FirstWoven (IsApartOrMakes s) steps (filter is_change acts)) (none : NoneAttached s q) where
  split : reverse steps ≡ reverse w.first.0 ++ reverse w.made
  split = ap reverse w.first.1 ∙ reverse-append w.made w.first.0

  back : Weave (IsApartOrMakes s) (reverse w.made) (reverse (filter is_change acts))
  back = weave_back (IsApartOrMakes s) w.made (filter is_change acts) w.woven

  own_fits : Each (IsNoRename s) (reverse steps) → LogFits s (names (world p)) (reverse w.made)
  own_fits still = log_fits_first s (names (world p)) (reverse w.first.0) (reverse w.made)
      (subst (LogFits s (names (world p))) (append-nil (reverse w.first.0 ++ reverse w.made)) (log_fits_on s (names (world p)) (reverse w.first.0 ++ reverse w.made) [] (subst (Each (IsNoRename s)) split still) tt))

  back_fits : LogFits s (names (world p)) (reverse (filter is_change acts)) → LogFits s (names (world p)) (reverse acts)
  back_fits fits = log_filter s (names (world p)) (reverse acts) (subst (LogFits s (names (world p))) (sym (filter_reverse is_change acts)) fits)

  numbers_retire : Each (IsNoRename s) (reverse steps) → order s ≡ Numbered → IsRotation s p 0 (reverse steps) → IsSafe s q
  numbers_retire still numbered rot = (walk s p q 0 (reverse acts) numbered made (back_fits v.fits) (rotation_filter s 0 p q (reverse acts) made (subst (IsRotation s p 0) (sym (filter_reverse is_change acts)) v.rotation)) none journal safe
      (λ x place key lt. absurd (nothing_below place lt))).safe
    where
      nothing_below : (k : ℕ) → k < 0 → ⊥
      nothing_below k lt = omega arith

      v : IsWoven s p 0 (reverse w.made) (reverse (filter is_change acts))
      v = woven s p 0 (reverse w.made) (reverse (filter is_change acts)) back (later_rotation s p 0 (reverse w.first.0) (reverse w.made) (subst (IsRotation s p 0) split rot)) (own_fits still)

  dates_retire : Each (IsNoRename s) (reverse steps) → order s ≡ Dated → IsDatedRetirement s p (reverse steps) → IsSafe s q
  dates_retire still dated rot = dates.dated_retired s p q (reverse acts) dated journal safe made (dated_filter s (pos 0) true p q (reverse acts) made (subst (IsDatedRetirement s p) (sym (filter_reverse is_change acts)) v.rotation)) none
    where
      v : IsDatedWoven s p (pos 0) true (reverse w.made) (reverse (filter is_change acts))
      v = dated_woven s p (pos 0) true (reverse w.made) (reverse (filter is_change acts)) back (later_dated s p (pos 0) true (reverse w.first.0) (reverse w.made) (subst (IsDatedRetirement s p) split rot)) (own_fits still)

  pub safe_retired : Each (IsNoRename s) (reverse steps) → MayRetire s p (reverse steps) → IsSafe s q
  safe_retired still (inl (numbered, rot)) = numbers_retire still numbered rot
  safe_retired still (inr (dated, rot)) = dates_retire still dated rot
