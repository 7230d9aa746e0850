-- The set of a log stays safe where a run rotates the log behind all its looks, with others between its steps.
use Rattle.std.proofs.Common.{◌≡◌, ◌≤◌, ⊎_elim, false, sym, ◌∙◌, ap, subst, append_assoc, None, List, [], ◌∷◌, ◌++◌, map, reverse, append-nil}
use Rattle.std.specs.Prelude.{filter, All}
use Rattle.std.proofs.lemmas.List.{reverse-append, reverse-reverse}
use Rattle.std.proofs.lemmas.List.Elements.{All-head, All-tail}
use Rattle.lr_rules.specs.declared.clock.Clock.{Clock}
use Rattle.lr_rules.specs.declared.path.Path.{Path}
use Rattle.lr_rules.specs.declared.rule.Naming.{Naming}
use Rattle.lr_rules.specs.declared.rule.Way.{Way}
use Rattle.lr_rules.specs.declared.rules.Rules.{Rules}
use Rattle.lr_host.specs.declared.entry.Entry.{Entry}
use Rattle.lr_host.specs.declared.entry.Entry.TheVariants.{Renames}
use Rattle.lr_host.specs.Fits.{IsFileAt}
use Rattle.lr_host.specs.Quiet.{IsQuiet, AreQuiet}
use Rattle.lr_host.specs.Runs.{rules_of, SomeRule}
use Rattle.lr_host.specs.Safe.{IsSafe}
use Rattle.lr_host.specs.Sets.{LogSet, IsUnplaced}
use Rattle.lr_host.specs.Steady.{NoneAttached}
use Rattle.lr_host.specs.Steps.{changes_of, is_change}
use Rattle.lr_host.specs.Told.{Each, Made}
use Rattle.lr_host.specs.World.{Past, world, Names, names, names_after}
use Rattle.lr_host.proofs.Each.{each_append, each_reverse, filter_reverse}
use Rattle.lr_host.proofs.Quiet.{quiet_still}
use Rattle.lr_laws.specs.DatedRotation.{IsDatedRotation}
use Rattle.lr_laws.specs.Forward.{IsForwardFor}
use Rattle.lr_laws.specs.Rotation.{IsRotation, LogFits}
use Rattle.lr_laws.specs.Stays.{Rotates, RotatesDated, RotatesSet}
use Rattle.lr_laws.proofs.Calls.{rotation_filter, later_rotation}
use Rattle.lr_laws.proofs.DatedWalk.{dated_walked}
use Rattle.lr_laws.proofs.Walk.{walk, log_filter}
use Rattle.lr_family.specs.Parts.{IsMember}
use Rattle.lr_scripts.specs.declared.removal.Removal.{Removal}
use Rattle.lr_chain.specs.declared.ready.Move.{Move}
use Rattle.lr_chain.specs.declared.ready.Ready.{Ready}
use Rattle.lr_chain.specs.Hindrances.{what_hinders}
use Rattle.lr_chain.specs.Prepared.{ready_of}
use Rattle.lr_chain.specs.Ready.{with_dir, move_step}
use Rattle.lr_laws_family.specs.Members.{IsFamily}
use Rattle.lr_laws_family.specs.Shown.{SawFile, Shown}
use Rattle.lr_laws_family.specs.Weave.{FirstWoven}
use Rattle.lr_laws_family.proofs.OrMade.{Spares}
use Rattle.lr_laws_family.proofs.Stood.{file_stands}
use Rattle.lr_laws_family.proofs.These.{spared_alone}
use Rattle.lr_laws_family.proofs.Weaving.{weave_back}
use Rattle.lr_laws_rotations.specs.Steps.{unlinks, bare_steps}
use Rattle.lr_laws_rotations.proofs.Families.{family_is_one}
use Rattle.lr_laws_rotations.proofs.LogFitting.{IsNoRename, log_fits_on, log_fits_first}
use Rattle.lr_laws_rotations.proofs.Moments.{saw_one}
use Rattle.lr_laws_rotations.proofs.Weaving.{IsApartOrMakes, IsWoven, woven}
use Rattle.lr_laws_rotations.specs.Apart.{HasNames}
use Rattle.lr_laws_rotations.specs.Seen.{IsLogSeen}
use Rattle.lr_laws_rotations.specs.Target.{Target, target_entries}
use Rattle.lr_laws_rotations.proofs.CallsFit.{unlinks_spare, moves_spare}
use Rattle.lr_laws_rotations.proofs.DatedWeaving.{IsDatedWoven, dated_woven, rotation_filter as dated_filter, later_rotation as later_dated}
use Rattle.lr_laws_rotations.proofs.Given.{journal_before}
use Rattle.lr_laws_rotations.proofs.LogSeen.{any_names}
use Rattle.lr_laws_rotations.proofs.Own.{family_members}
use Rattle.lr_laws_rotations.proofs.Reached.{first_family}
use Rattle.lr_laws_rotations.proofs.Rotating.{renamed_are}
use Rattle.lr_laws_rotations.proofs.Safety.{Here}

-- ---- the log stands where it is renamed

-- steps of members don't rename it
module _ (s : LogSet) (n : Naming) (out : IsMember n s.log → ⊥) where
  unlinks_rename_none : (rs : List Removal) → Each (IsNoRename s) (unlinks rs)
  unlinks_rename_none [] = tt
  unlinks_rename_none (r ∷ rs) = ((λ to is. cc), unlinks_rename_none rs)

  from_of : (a b c d : Path) → Renames a b ≡ Renames c d → a ≡ c
  from_of a b c d e = cc

  abbrev MovesMember : Move → Type 0
  MovesMember m = IsMember n m.from × IsMember n m.to

  moves_rename_none : (ms : List Move) → All MovesMember ms → Each (IsNoRename s) (map move_step ms)
  moves_rename_none [] a = tt
  moves_rename_none (m ∷ ms) a = ((λ to is. out (subst (IsMember n) (from_of m.from m.to s.log to is) (All-head MovesMember m ms a).0)), moves_rename_none ms (All-tail MovesMember m ms a))

module _ (s : LogSet) (t : Target) (h : HasNames t) (same : t.log ≡ s.log) (m : Names) (file : IsFileAt m s.log) where
  out : IsMember t.naming s.log → ⊥
  out is = h.family.apart (subst (IsMember t.naming) (sym same) is)

  -- what comes before its rename, and what behind
  abbrev ahead : List Entry
  ahead = unlinks t.ready.leftovers ++ map move_step t.ready.moves

  abbrev behind : List Entry
  behind = unlinks t.ready.retire

  turned_round : reverse (bare_steps t.ready) ≡ reverse behind ++ (Renames t.ready.log t.ready.target ∷ reverse ahead)
  turned_round = ap reverse (sym (append_assoc (unlinks t.ready.leftovers) (map move_step t.ready.moves) (Renames t.ready.log t.ready.target ∷ behind)))
      ∙ (reverse-append ahead (Renames t.ready.log t.ready.target ∷ behind)
      ∙ (ap (λ (es : List Entry). es ++ reverse ahead) (reverse-append (Renames t.ready.log t.ready.target ∷ []) behind) ∙ append_assoc (reverse behind) (Renames t.ready.log t.ready.target ∷ []) (reverse ahead)))

  spared : Each (Spares s.log) ahead
  spared = each_append (Spares s.log) (unlinks t.ready.leftovers) (map move_step t.ready.moves) (unlinks_spare t.naming s.log out t.ready.leftovers (family_members t h).early) (moves_spare t.naming s.log out t.ready.moves (family_members t h).moves)

  no_rename : Each (IsNoRename s) ahead
  no_rename = each_append (IsNoRename s) (unlinks t.ready.leftovers) (map move_step t.ready.moves) (unlinks_rename_none s t.naming out t.ready.leftovers) (moves_rename_none s t.naming out t.ready.moves (family_members t h).moves)

  ahead_fits : LogFits s m (reverse ahead)
  ahead_fits = subst (LogFits s m) (append-nil (reverse ahead)) (log_fits_on s m (reverse ahead) [] (each_reverse (IsNoRename s) ahead no_rename) tt)

  there : IsFileAt (names_after m (changes_of (reverse ahead))) s.log
  there = (file.0, spared_alone m s.log (reverse ahead) (each_reverse (Spares s.log) ahead spared) ∙ file.1)

  log_fits : LogFits s m (reverse (bare_steps t.ready))
  log_fits = subst (LogFits s m) (sym turned_round)
      (log_fits_on s m (reverse behind) (Renames t.ready.log t.ready.target ∷ reverse ahead) (each_reverse (IsNoRename s) behind (unlinks_rename_none s t.naming out t.ready.retire)) (ahead_fits, λ to is. there))

-- ---- the set's own log

module _ (clock : Clock) (way : Way) (s : LogSet) (state : Path) (rules : Rules) (u v : Past) (looks : List Entry) (quiet : AreQuiet looks) (made : Made u (reverse looks) v) (here : Here way s state clock.now.seconds rules v) (none_at : NoneAttached s v) (forward : IsForwardFor clock s v)
    (t : Target) (seen : IsLogSeen rules clock looks t) (same : t.log ≡ s.log) (naming : s.naming ≡ t.naming) (at : IsUnplaced s t.ready.log) (rule : SomeRule (rules_of v) s.log (λ r. (r.count ≡ t.count) × (r.maxage ≡ t.maxage))) where
  abbrev h : HasNames t
  h = any_names rules clock looks t seen

  in_order : reverse (reverse looks) ≡ looks
  in_order = reverse-reverse looks

  pub quiet_back : AreQuiet (reverse looks)
  quiet_back = each_reverse IsQuiet looks quiet

  pub saw : SawFile s.log (reverse (reverse looks))
  saw = subst (SawFile s.log) (sym in_order) (subst (λ (x : Path). SawFile x looks) same (saw_one t.log looks seen.log_seen))

  file : IsFileAt (names (world v)) s.log
  file = file_stands u v (reverse looks) made (quiet_still (reverse looks) quiet_back) s.log saw

  -- what is renamed was seen too
  saw_first : SawFile t.ready.log (reverse (reverse looks))
  saw_first = subst (SawFile t.ready.log) (sym in_order) (saw_one t.ready.log looks seen.way_seen.first)

  pub shown : Shown s.naming t.stand.members (reverse (reverse looks))
  shown = subst (Shown s.naming t.stand.members) (sym in_order) (subst (λ (n : Naming). Shown n t.stand.members looks) (sym naming) seen.seen)

  pub family : IsFamily s.log s.naming
  family = subst (λ (x : Path). IsFamily x s.naming) same (subst (λ (n : Naming). IsFamily t.log n) (sym naming) seen.family)

  pub start : s.naming.start ≤ 999999
  start = subst (λ (n : Naming). n.start ≤ 999999) (sym naming) h.start

  pub free : what_hinders s.naming t.count clock t.stand ≡ []
  free = subst (λ (n : Naming). what_hinders n t.count clock t.stand ≡ []) (sym naming) seen.free

  pub ready : with_dir None t.ready ≡ ready_of t.ready.log s.naming t.count t.maxage clock t.ready.make t.stand.members
  ready = seen.ready ∙ ap (λ (n : Naming). ready_of t.ready.log n t.count t.maxage clock t.ready.make t.stand.members) (sym naming)

  -- its steps are those of one rotation of the set
  pub one : RotatesSet (bare_steps t.ready) s v
  one = subst (λ (r : Ready). RotatesSet (bare_steps r) s v) (sym ready)
      (family_is_one clock s t.ready.log at (first_family s t h same naming family) t.count t.maxage t.ready.make t.stand u v (reverse looks) family start h.count (journal_before u v (reverse looks) made here.journal) none_at made quiet_back saw_first shown free here.not_begun here.safe forward here.now_is rule)

  module _ (acts : List Entry) (q : Past) (w : FirstWoven (IsApartOrMakes s) (bare_steps t.ready) (filter is_change acts)) (behind : Made v (reverse acts) q) (none_q : NoneAttached s q) where
    split : reverse (bare_steps t.ready) ≡ reverse w.first.0 ++ reverse w.made
    split = ap reverse w.first.1 ∙ reverse-append w.made w.first.0

    fits : LogFits s (names (world v)) (reverse w.made)
    fits = log_fits_first s (names (world v)) (reverse w.first.0) (reverse w.made) (subst (LogFits s (names (world v))) split (log_fits s t h same (names (world v)) file))

    by_numbers : Rotates (bare_steps t.ready) s v → IsSafe s q
    by_numbers one = (walk s v q one.limit (reverse acts) one.numbered behind
        (log_filter s (names (world v)) (reverse acts) (subst (LogFits s (names (world v))) (sym (filter_reverse is_change acts)) all.fits))
        (rotation_filter s one.limit v q (reverse acts) behind (subst (IsRotation s v one.limit) (sym (filter_reverse is_change acts)) all.rotation))
        none_q here.journal here.safe one.ready).safe
      where
        all : IsWoven s v one.limit (reverse w.made) (reverse (filter is_change acts))
        all = woven s v one.limit (reverse w.made) (reverse (filter is_change acts)) (weave_back (IsApartOrMakes s) w.made (filter is_change acts) w.woven)
            (later_rotation s v one.limit (reverse w.first.0) (reverse w.made) (subst (IsRotation s v one.limit) split one.rotation)) fits

    by_dates : RotatesDated (bare_steps t.ready) s v → IsSafe s q
    by_dates one =
        dated_walked s v q one.newest (reverse acts) one.dated here.journal here.safe here.not_begun one.forward behind
        (log_filter s (names (world v)) (reverse acts) (subst (LogFits s (names (world v))) (sym (filter_reverse is_change acts)) all.fits))
        (dated_filter s one.newest false v q (reverse acts) behind (subst (IsDatedRotation s v one.newest) (sym (filter_reverse is_change acts)) all.rotation)) none_q
      where
        all : IsDatedWoven s v one.newest false (reverse w.made) (reverse (filter is_change acts))
        all = dated_woven s v one.newest false (reverse w.made) (reverse (filter is_change acts)) (weave_back (IsApartOrMakes s) w.made (filter is_change acts) w.woven)
            (later_dated s v one.newest false (reverse w.first.0) (reverse w.made) (subst (IsDatedRotation s v one.newest) split one.rotation)) fits

    -- over a first part of these steps, with those of others between
    pub steps_safe : IsSafe s q
    steps_safe = ⊎_elim by_numbers by_dates one

  -- it is renamed to its final path
  pub own_safe : t.job ≡ None → (acts : List Entry) (q : Past) → FirstWoven (IsApartOrMakes s) (target_entries t) (filter is_change acts) → Made v (reverse acts) q → NoneAttached s q → IsSafe s q
  own_safe none acts q w behind none_q = steps_safe acts q (subst (λ (steps : List Entry). FirstWoven (IsApartOrMakes s) steps (filter is_change acts)) (renamed_are t none) w) behind none_q
