-- The set of a log stays safe where a run sets the log aside, copies it from there and lets it go, with others between its steps.
use Rattle.std.proofs.Common.{◌≡◌, ◌≢◌, ◌⊎◌, inl, inr, ⊎_elim, Bool, true, false, cond, refl, sym, ◌∙◌, ap, subst, append_assoc, Option, Some, None, List, [], ◌∷◌, ◌++◌, map, reverse, append-nil, ℤ, pos}
use Rattle.std.specs.Prelude.{filter, All}
use Rattle.std.proofs.lemmas.List.{reverse-append, reverse-reverse}
use Rattle.std.proofs.lemmas.List.Elements.{All-head, All-tail}
use Rattle.lr_rules.specs.declared.clock.Clock.{Clock}
use Rattle.lr_rules.specs.declared.path.Path.{Path}
use Rattle.lr_rules.specs.declared.rule.Naming.{Naming}
use Rattle.lr_rules.specs.declared.rule.Way.{Way}
use Rattle.lr_rules.specs.declared.rules.Rules.{Rules}
use Rattle.lr_rules.specs.Names.{aside_path}
use Rattle.lr_rules.proofs.Bools.{not_both}
use Rattle.lr_host.specs.declared.thing.Thing.TheVariants as thing
use Rattle.lr_host.specs.declared.entry.Entry.{Entry}
use Rattle.lr_host.specs.declared.entry.Entry.TheVariants as entry
use Rattle.lr_host.specs.declared.entry.Entry.TheVariants.{Renames, Unlinks, Makes, MakesDir}
use Rattle.lr_host.specs.Fits.{Fits}
use Rattle.lr_host.specs.Lists.{IsIn}
use Rattle.lr_host.specs.Opening.{IsJournal}
use Rattle.lr_host.specs.Quiet.{IsQuiet, AreQuiet}
use Rattle.lr_host.specs.Runs.{rules_of, SomeRule}
use Rattle.lr_host.specs.Safe.{IsSafe, IsToLog, NoneToLog as NoneBefore}
use Rattle.lr_host.specs.Sets.{LogSet, IsAsideOf, in_reach}
use Rattle.lr_host.specs.Steady.{NoneAttached}
use Rattle.lr_host.specs.Steps.{changes_of, is_change}
use Rattle.lr_host.specs.Told.{Each, Made, at_first, by_writer, by_tool}
use Rattle.lr_host.specs.World.{Past, ◌▸◌, world, Names, put, names, names_after, Change}
use Rattle.lr_host.proofs.Each.{each_append, each_as, each_first, each_reverse, filter_reverse}
use Rattle.lr_host.proofs.Left.{changes_filter}
use Rattle.lr_host.proofs.Lists.{from_reverse}
use Rattle.lr_host.proofs.Looked.{seen_none}
use Rattle.lr_host.proofs.Made.{made_on}
use Rattle.lr_host.proofs.More.{IsMoreAt}
use Rattle.lr_host.proofs.Names.{put_here, put_other}
use Rattle.lr_host.proofs.Quiet.{IsAny, Moment, moment, quiet_more, quiet_still, since_any}
use Rattle.lr_laws.specs.DatedRotation.{turned_behind, IsDatedStep, IsDatedRotationBy}
use Rattle.lr_laws.specs.Follow.{NamesNone}
use Rattle.lr_laws.specs.Forward.{IsForwardFor}
use Rattle.lr_laws.specs.Rotation.{IsAside, IsTurn, straight, put_aside, taken_up, IsStep, limit_after, IsRotation, LogFits}
use Rattle.lr_laws.specs.Stays.{Rotates, RotatesDated, RotatesSet}
use Rattle.lr_laws.proofs.AsidePath.{GivesLogAlone, aside_gives, aside_walk}
use Rattle.lr_laws.proofs.Calls.{rotation_filter, later_rotation}
use Rattle.lr_laws.proofs.DatedWalk as dates
use Rattle.lr_laws.proofs.Going.{safe_on}
use Rattle.lr_laws.proofs.Reach.{aside_apart, out_log, unplaced_reach, keyed_reach}
use Rattle.lr_laws.proofs.Sound.{sound}
use Rattle.lr_laws.proofs.Stamps.{room_for_one}
use Rattle.lr_laws.proofs.Walk.{IsSameRun, same_run_on, IsReached, walk, log_filter}
use Rattle.lr_laws.proofs.Writing.{member_apart}
use Rattle.lr_family.specs.Parts.{IsMember}
use Rattle.lr_scripts.specs.declared.removal.Removal.{Removal}
use Rattle.lr_copy.specs.declared.job.Job.{Job}
use Rattle.lr_copy.specs.Copying.{clearing}
use Rattle.lr_chain.specs.declared.ready.Move.{Move}
use Rattle.lr_chain.specs.declared.ready.Ready.{Ready}
use Rattle.lr_chain.specs.Prepared.{ready_of}
use Rattle.lr_chain.specs.Ready.{with_dir, move_step}
use Rattle.lr_chain.proofs.DatedWhole.{moved_other}
use Rattle.lr_laws_family.specs.Beside.{MakesAt}
use Rattle.lr_laws_family.specs.Members.{IsNoMember}
use Rattle.lr_laws_family.specs.Weave.{Weave, FirstWoven}
use Rattle.lr_laws_family.proofs.Weaving.{weave_back}
use Rattle.lr_laws_rotations.specs.Steps.{unlinks, bare_steps}
use Rattle.lr_laws_rotations.proofs.Behind.{ahead_of, HasCopy, MayRetire, retires_behind}
use Rattle.lr_laws_rotations.proofs.LogFitting.{IsNoRename, log_fits_on}
use Rattle.lr_laws_rotations.proofs.SetMembers.{keyless_no_member}
use Rattle.lr_laws_rotations.proofs.Weaving.{IsApart, IsApartOrMakes, apart_alike, IsWoven, woven}
use Rattle.lr_laws_rotations.specs.Apart.{HasNames}
use Rattle.lr_laws_rotations.specs.Rotation.{removal_paths}
use Rattle.lr_laws_rotations.specs.Seen.{IsLogSeen}
use Rattle.lr_laws_rotations.specs.Target.{Target, IsTargetAside, transfer_of, target_entries}
use Rattle.lr_laws_rotations.proofs.Aged.{same_run}
use Rattle.lr_laws_rotations.proofs.DatedWeaving.{IsDatedWoven, dated_woven, turned_filter, rotation_filter as dated_filter, later_rotation as later_dated}
use Rattle.lr_laws_rotations.proofs.Given.{journal_before}
use Rattle.lr_laws_rotations.proofs.LogSeen.{any_names}
use Rattle.lr_laws_rotations.proofs.Own.{family_members, target_member}
use Rattle.lr_laws_rotations.proofs.OwnSafety as owns
use Rattle.lr_laws_rotations.proofs.Reached.{waits_at, part_out}
use Rattle.lr_laws_rotations.proofs.Safety.{Here}
use Rattle.lr_laws_rotations.proofs.Splitting.{FirstSplit, not_yet, further, first_split, absorbed, each_woven, each_unfiltered, FilterAt, filter_at, MadeAt, made_at, attached_at}
use Rattle.lr_laws_rotations.proofs.Stretches.{MayCome, may_come, key_to, Kept, same_on, kept_between, kept_aside, safe_retired}

-- ---- entries that leave the path alone where the log waits

-- the entry leaves what this path names, whatever comes before it
abbrev LeavesName : Path → Entry → Type 0
LeavesName x e = (es : List Entry) (n : Names) → names_after n (changes_of (e ∷ es)) x ≡ names_after n (changes_of es) x

-- it renames nothing to the log's path, gives this one no file but the log's, doesn't rename the log, and leaves what this one names
record LeavesWaiting (s : LogSet) (x : Path) (e : Entry) : Type 0 where
  to_log : IsToLog s e → ⊥
  gives : GivesLogAlone s x e
  no_rename : IsNoRename s e
  leaves : LeavesName x e

module _ (s : LogSet) (x : Path) (a : IsAsideOf s x) where
  -- what changes nothing
  still_leaves : (e : Entry) → is_change e ≡ false → LeavesWaiting s x e
  still_leaves (Renames from to) q = absurd (cc)
  still_leaves (Unlinks y) q = absurd (cc)
  still_leaves (MakesDir y mode) q = absurd (cc)
  still_leaves (Makes y mode) q = absurd (cc)
  still_leaves _ q = record { to_log = λ none. none; gives = tt; no_rename = λ to is. cc; leaves = λ es n. refl }

  -- what lies apart of the set
  apart_leaves : (e : Entry) → IsApart s e → LeavesWaiting s x e
  apart_leaves (Renames from to) out = record {
    to_log = λ same. out_log s to out.1 same;
    gives = aside_gives s x (Renames from to) a out;
    no_rename = λ y is. out_log s from out.0 (from_is y is);
    leaves = λ es n. sym (apart_alike s n es (Renames from to) out x (unplaced_reach s x (inr a)));
  }
    where
      from_is : (y : Path) → Renames from to ≡ Renames s.log y → from ≡ s.log
      from_is y is = cc
  apart_leaves (Unlinks y) out = record { to_log = λ none. none; gives = tt; no_rename = λ to is. cc; leaves = λ es n. sym (apart_alike s n es (Unlinks y) out x (unplaced_reach s x (inr a))) }
  apart_leaves (MakesDir y mode) out = record { to_log = λ none. none; gives = tt; no_rename = λ to is. cc; leaves = λ es n. sym (apart_alike s n es (MakesDir y mode) out x (unplaced_reach s x (inr a))) }
  apart_leaves (Makes y mode) out = record { to_log = λ none. none; gives = aside_gives s x (Makes y mode) a out; no_rename = λ to is. cc; leaves = λ es n. refl }
  apart_leaves _ out = record { to_log = λ none. none; gives = tt; no_rename = λ to is. cc; leaves = λ es n. refl }

  -- what makes the log anew
  anew_leaves : (e : Entry) → MakesAt s.log e → LeavesWaiting s x e
  anew_leaves (Makes y mode) is = record { to_log = λ none. none; gives = λ same. aside_apart s x a (sym same ∙ is); no_rename = λ to e. cc; leaves = λ es n. refl }
  anew_leaves _ is = absurd is

  other_leaves : (e : Entry) → IsApartOrMakes s e → LeavesWaiting s x e
  other_leaves e (inl out) = apart_leaves e out
  other_leaves e (inr anew) = anew_leaves e anew

  -- the steps of members
  module _ (n : Naming) (away : IsNoMember n x) (out : IsMember n s.log → ⊥) where
    unlinks_leave : (rs : List Removal) → All (IsMember n) (removal_paths rs) → Each (LeavesWaiting s x) (unlinks rs)
    unlinks_leave [] all = tt
    unlinks_leave (r ∷ rs) all = (
      record {
        to_log = λ none. none;
        gives = tt;
        no_rename = λ to is. cc;
        leaves = λ es m. put_other (names_after m (changes_of es)) r.path x thing.Nothing (λ same. away (subst (IsMember n) (sym same) (All-head (IsMember n) r.path (removal_paths rs) all)));
      },
      unlinks_leave rs (All-tail (IsMember n) r.path (removal_paths rs) all),
    )

    abbrev MovesMember : Move → Type 0
    MovesMember m = IsMember n m.from × IsMember n m.to

    moves_leave : (ms : List Move) → All MovesMember ms → Each (LeavesWaiting s x) (map move_step ms)
    moves_leave [] all = tt
    moves_leave (m ∷ ms) all =
        let both = All-head MovesMember m ms all in (
          record {
            to_log = λ same. out (subst (IsMember n) same both.1);
            gives = λ same. absurd (away (subst (IsMember n) same both.1));
            no_rename = λ to is. out (subst (IsMember n) (from_is to is) both.0);
            leaves = λ es k. moved_other (names_after k (changes_of es)) m.from m.to x (λ same. away (subst (IsMember n) (sym same) both.0)) (λ same. away (subst (IsMember n) (sym same) both.1));
          },
          moves_leave ms (All-tail MovesMember m ms all),
        )
      where
        from_is : (y : Path) → Renames m.from m.to ≡ Renames s.log y → m.from ≡ s.log
        from_is y is = cc

-- over such entries it names what it named
names_left : (x : Path) (n : Names) (es : List Entry) → Each (LeavesName x) es → names_after n (changes_of es) x ≡ n x
names_left x n [] a = refl
names_left x n (e ∷ es) a = a.0 es n ∙ names_left x n es a.1

-- no rename had gone to the log's path before
before_none : (s : LogSet) (p q : Past) (es : List Entry) → Made p es q → NoneBefore s q → NoneBefore s p
before_none s p _ _ at_first n = n
before_none s p _ es (by_writer {q = q} m i f) n = before_none s p q es m n.0
before_none s p _ _ (by_tool {es = es} {q = q} m i f) n = before_none s p q es m n.0

-- ---- where it is about to be set aside

-- At this moment those of the rotation's steps that come before that are done, and nothing else of it.
record AtTurn (s : LogSet) (v : Past) (ahead : List Entry) (target : Path) (q : Past) : Type 0 where
  journal : IsJournal q
  safe : IsSafe s q
  same_since : IsSameRun v q
  alike : (y : Path) (k : ℤ) → s.key y ≡ Some k → names (world q) y ≡ names_after (names (world v)) (changes_of (reverse ahead)) y
  free_there : names (world q) target ≡ thing.Nothing
  come : MayCome s q target

-- ---- the set's own log

module _ (clock : Clock) (way : Way) (s : LogSet) (state : Path) (rules : Rules) (u v : Past) (looks : List Entry) (quiet : AreQuiet looks) (made : Made u (reverse looks) v) (here : Here way s state clock.now.seconds rules v) (none_at : NoneAttached s v) (forward : IsForwardFor clock s v)
    (t : Target) (seen : IsLogSeen rules clock looks t) (same : t.log ≡ s.log) (naming : s.naming ≡ t.naming) (asked : t.naming.aside ≡ true) (a : IsTargetAside t) (rule : SomeRule (rules_of v) s.log (λ r. (r.count ≡ t.count) × (r.maxage ≡ t.maxage))) where
  abbrev W : Entry → Type 0
  W = IsApartOrMakes s

  abbrev waits : Path
  waits = aside_path s.log

  aside : IsAsideOf s waits
  aside = waits_at s t (any_names rules clock looks t seen) same naming asked

  at_log : t.ready.log ≡ s.log
  at_log = a.first_is ∙ same

  -- what is so of its steps as if it were renamed to its final path
  abbrev names_are : HasNames t
  names_are = any_names rules clock looks t seen

  straight_one : RotatesSet (bare_steps t.ready) s v
  straight_one = owns.one clock way s state rules u v looks quiet made here none_at forward t seen same naming (inl at_log) rule

  abbrev target : Path
  target = t.ready.target

  -- ---- its steps, in four parts

  abbrev ahead : List Entry
  ahead = unlinks t.ready.leftovers ++ map move_step t.ready.moves

  abbrev job : Job
  job = a.job

  abbrev aside_step : Entry
  aside_step = Renames t.ready.log waits

  abbrev copy_step : Entry
  copy_step = Renames job.part job.to

  abbrev behind : List Entry
  behind = Unlinks waits ∷ unlinks t.ready.retire

  steps_are : target_entries t ≡ ahead ++ (aside_step ∷ (clearing job ++ (copy_step ∷ behind)))
  steps_are =
      ap (λ (j : Option Job). unlinks t.ready.leftovers ++ (map move_step t.ready.moves ++ (transfer_of t.ready j t.aside ++ unlinks t.ready.retire))) a.job_is
      ∙ (ap (λ (o : Option Path). unlinks t.ready.leftovers ++ (map move_step t.ready.moves ++ (transfer_of t.ready (Some job) o ++ unlinks t.ready.retire))) (a.aside_is ∙ ap (λ (x : Path). Some (aside_path x)) same)
      ∙ (ap (λ (es : List Entry). unlinks t.ready.leftovers ++ (map move_step t.ready.moves ++ (aside_step ∷ es))) (append_assoc (clearing job) (copy_step ∷ Unlinks waits ∷ []) (unlinks t.ready.retire))
      ∙ sym (append_assoc (unlinks t.ready.leftovers) (map move_step t.ready.moves) (aside_step ∷ (clearing job ++ (copy_step ∷ behind))))))

  -- those of the log's rename in their place
  straight_steps : bare_steps t.ready ≡ ahead ++ (Renames t.ready.log target ∷ unlinks t.ready.retire)
  straight_steps = sym (append_assoc (unlinks t.ready.leftovers) (map move_step t.ready.moves) (Renames t.ready.log target ∷ unlinks t.ready.retire))

  straight_back : reverse (bare_steps t.ready) ≡ reverse (unlinks t.ready.retire) ++ (Renames t.ready.log target ∷ reverse ahead)
  straight_back = ap reverse straight_steps ∙ (reverse-append ahead (Renames t.ready.log target ∷ unlinks t.ready.retire)
      ∙ (ap (λ (es : List Entry). es ++ reverse ahead) (reverse-append (Renames t.ready.log target ∷ []) (unlinks t.ready.retire)) ∙ append_assoc (reverse (unlinks t.ready.retire)) (Renames t.ready.log target ∷ []) (reverse ahead)))

  -- an old part file lies apart
  clearing_apart : Each W (clearing job)
  clearing_apart = go job.stale
    where
      go : (b : Bool) → Each W (cond b (Unlinks job.part ∷ []) [])
      go true = (inl (part_out s t names_are same naming job a.job_is), tt)
      go false = tt

  -- ---- the log's path may not be a member's

  log_out : IsMember t.naming s.log → ⊥
  log_out is = names_are.family.apart (subst (IsMember t.naming) (sym same) is)

  waits_away : IsNoMember t.naming waits
  waits_away member = keyless_no_member s waits aside.keyless (subst (λ (n : Naming). IsMember n waits) (sym naming) member)

  ahead_leaves : Each (LeavesWaiting s waits) ahead
  ahead_leaves = each_append (LeavesWaiting s waits) (unlinks t.ready.leftovers) (map move_step t.ready.moves)
      (unlinks_leave s waits aside t.naming waits_away log_out t.ready.leftovers (family_members t names_are).early) (moves_leave s waits aside t.naming waits_away log_out t.ready.moves (family_members t names_are).moves)

  -- a member's key
  target_no_aside : IsAsideOf s target → ⊥
  target_no_aside out = keyless_no_member s target out.keyless (subst (λ (n : Naming). IsMember n target) (sym naming) (target_member t names_are))

  -- ---- nothing stood where it waits, as the run began

  nothing_first : names (world u) waits ≡ thing.Nothing
  nothing_first = before (quiet_more IsAny u m.at m.since waits)
    where
      m : Moment IsAny u v (entry.Look waits None)
      m = moment IsAny u v (entry.Look waits None) (reverse looks) (since_any u v (reverse looks) made) made (quiet_still (reverse looks) (each_reverse IsQuiet looks quiet))
          (from_reverse (entry.Look waits None) (reverse looks) (subst (IsIn (entry.Look waits None)) (sym (reverse-reverse looks)) (seen.way_seen.free waits (a.aside_is ∙ ap (λ (x : Path). Some (aside_path x)) same))))

      gone : names (world m.at) waits ≡ thing.Nothing
      gone = seen_none (world m.at) (names (world m.at) waits) m.fits

      before : IsMoreAt waits (names (world u)) (names (world m.at)) → names (world u) waits ≡ thing.Nothing
      before (inl still) = sym still ∙ gone
      before (inr (first, new)) = first

  -- ---- up to where it is set aside

  module _ (front : List Entry) (q : Past) (w : Weave W ahead (filter is_change front)) (up_to : Made v (reverse front) q) (none_q : NoneAttached s q) where
    back : Weave W (reverse ahead) (reverse (filter is_change front))
    back = weave_back W ahead (filter is_change front) w

    no_renames : Each (IsNoRename s) (reverse ahead)
    no_renames = each_reverse (IsNoRename s) ahead (each_as (LeavesWaiting s waits) (IsNoRename s) ahead (λ e l. l.no_rename) ahead_leaves)

    fits_ahead : LogFits s (names (world v)) (reverse ahead)
    fits_ahead = subst (LogFits s (names (world v))) (append-nil (reverse ahead)) (log_fits_on s (names (world v)) (reverse ahead) [] no_renames tt)

    fits_front : LogFits s (names (world v)) (reverse (filter is_change front)) → LogFits s (names (world v)) (reverse front)
    fits_front fits = log_filter s (names (world v)) (reverse front) (subst (LogFits s (names (world v))) (sym (filter_reverse is_change front)) fits)

    front_changes : changes_of (reverse front) ≡ changes_of (reverse (filter is_change front))
    front_changes = sym (changes_filter (reverse front)) ∙ ap changes_of (filter_reverse is_change front)

    -- no rename of the log lies aside
    not_aside : IsAside s (Renames t.ready.log target) → ⊥
    not_aside out = out_log s t.ready.log out.0 at_log

    turn_key : (newest : ℤ) (n : Names) → IsTurn s n newest t.ready.log target → s.key target ≡ Some newest
    turn_key newest n (straight is key) = key
    turn_key newest n (put_aside is out) = absurd (target_no_aside out)
    turn_key newest n (taken_up out is key) = key

    by_numbers : Rotates (bare_steps t.ready) s v → AtTurn s v ahead target q
    by_numbers r = go rot.1
      where
        rot : IsRotation s v r.limit (Renames t.ready.log target ∷ reverse ahead)
        rot = later_rotation s v r.limit (reverse (unlinks t.ready.retire)) (Renames t.ready.log target ∷ reverse ahead) (subst (IsRotation s v r.limit) straight_back r.rotation)

        k : IsWoven s v r.limit (reverse ahead) (reverse (filter is_change front))
        k = woven s v r.limit (reverse ahead) (reverse (filter is_change front)) back rot.0 fits_ahead

        reached : IsReached s v q r.limit (reverse front)
        reached = walk s v q r.limit (reverse front) r.numbered up_to (fits_front k.fits) (rotation_filter s r.limit v q (reverse front) up_to (subst (IsRotation s v r.limit) (sym (filter_reverse is_change front)) k.rotation)) none_q here.journal here.safe r.ready

        alike : (y : Path) (i : ℤ) → s.key y ≡ Some i → names (world q) y ≡ names_after (names (world v)) (changes_of (reverse ahead)) y
        alike y i key = reached.alike y i key ∙ (ap (λ (cs : List Change). names_after (names (world v)) cs y) front_changes ∙ sym (k.alike y (keyed_reach s y i key)))

        there : names_after (names (world v)) (changes_of (reverse ahead)) target ≡ thing.Nothing → s.key target ≡ Some (pos 0) → AtTurn s v ahead target q
        there free key = record { journal = reached.journal; safe = reached.safe; same_since = reached.same; alike = alike; free_there = alike target (pos 0) key ∙ free; come = inl (r.numbered, key) }

        go : IsAside s (Renames t.ready.log target) ⊎ IsStep s v (limit_after s r.limit (reverse ahead)) (names_after (names (world v)) (changes_of (reverse ahead))) (Renames t.ready.log target) → AtTurn s v ahead target q
        go (inl out) = absurd (not_aside out)
        go (inr (free, inl (place, lt, from_key, to_key))) = absurd (member_apart s t.ready.log (pos place) from_key at_log)
        go (inr (free, inr turn)) = there free (turn_key (pos 0) (names_after (names (world v)) (changes_of (reverse ahead))) turn)

    by_dates : RotatesDated (bare_steps t.ready) s v → AtTurn s v ahead target q
    by_dates r = go rot.1
      where
        rot : IsDatedRotationBy s v r.newest false (Renames t.ready.log target ∷ reverse ahead)
        rot = later_dated s v r.newest false (reverse (unlinks t.ready.retire)) (Renames t.ready.log target ∷ reverse ahead) (subst (IsDatedRotationBy s v r.newest false) straight_back r.rotation)

        k : IsDatedWoven s v r.newest false (reverse ahead) (reverse (filter is_change front))
        k = dated_woven s v r.newest false (reverse ahead) (reverse (filter is_change front)) back rot.0 fits_ahead

        reached : dates.HasCome s v q r.newest false (reverse front)
        reached = dates.walk s v q r.newest false (reverse front) r.dated up_to (fits_front k.fits) (dated_filter s r.newest false v q (reverse front) up_to (subst (IsDatedRotationBy s v r.newest false) (sym (filter_reverse is_change front)) k.rotation)) none_q here.journal here.safe
            (λ e. room_for_one s v (sound s v here.journal here.safe.none_to_log) here.safe r.dated r.not_begun) (λ e. r.forward)

        alike : (y : Path) (i : ℤ) → s.key y ≡ Some i → names (world q) y ≡ names_after (names (world v)) (changes_of (reverse ahead)) y
        alike y i key = reached.alike y i key ∙ (ap (λ (cs : List Change). names_after (names (world v)) cs y) front_changes ∙ sym (k.alike y (keyed_reach s y i key)))

        turned_is : turned_behind s false (reverse front) ≡ turned_behind s false (reverse ahead)
        turned_is = sym (turned_filter s false (reverse front)) ∙ (ap (turned_behind s false) (filter_reverse is_change front) ∙ sym k.turned)

        there : turned_behind s false (reverse ahead) ≡ false → names_after (names (world v)) (changes_of (reverse ahead)) target ≡ thing.Nothing → s.key target ≡ Some r.newest → AtTurn s v ahead target q
        there unturned free key = record {
          journal = reached.journal;
          safe = reached.safe;
          same_since = reached.same;
          alike = alike;
          free_there = alike target r.newest key ∙ free;
          come = inr (r.dated, (r.newest, key, reached.room (turned_is ∙ unturned), reached.forward (turned_is ∙ unturned)));
        }

        go : IsAside s (Renames t.ready.log target) ⊎ IsDatedStep s v r.newest (names_after (names (world v)) (changes_of (reverse ahead))) (turned_behind s false (reverse ahead)) (Renames t.ready.log target) → AtTurn s v ahead target q
        go (inl out) = absurd (not_aside out)
        go (inr (unturned, free, turn)) = there unturned free (turn_key r.newest (names_after (names (world v)) (changes_of (reverse ahead))) turn)

    at_turn : AtTurn s v ahead target q
    at_turn = ⊎_elim by_numbers by_dates straight_one

    -- where it is to wait no generation stands
    waits_none : NamesNone s q waits
    waits_none = (aside_walk s u q all waits (aside_apart s waits aside) (journal_before u v (reverse looks) made here.journal) none_before (made_on u v q (reverse looks) (reverse front) made up_to)
        (each_as (LeavesWaiting s waits) (λ e. IsToLog s e → ⊥) all (λ e l. l.to_log) leave) (each_as (LeavesWaiting s waits) (GivesLogAlone s waits) all (λ e l. l.gives) leave) fits_all).none
        (names_left waits (names (world u)) all (each_as (LeavesWaiting s waits) (LeavesName waits) all (λ e l. l.leaves) leave) ∙ nothing_first)
      where
        all : List Entry
        all = reverse front ++ reverse looks

        quiet_leaves : Each (LeavesWaiting s waits) (reverse looks)
        quiet_leaves = each_reverse (LeavesWaiting s waits) looks (each_as IsQuiet (LeavesWaiting s waits) looks (λ e i. still_leaves s waits aside e i.1) quiet)

        front_leaves : Each (LeavesWaiting s waits) front
        front_leaves = each_unfiltered (LeavesWaiting s waits) front (still_leaves s waits aside) (each_woven W (LeavesWaiting s waits) ahead (filter is_change front) ahead_leaves (other_leaves s waits aside) w)

        leave : Each (LeavesWaiting s waits) all
        leave = each_append (LeavesWaiting s waits) (reverse front) (reverse looks) (each_reverse (LeavesWaiting s waits) front front_leaves) quiet_leaves

        fits_all : LogFits s (names (world u)) all
        fits_all = subst (LogFits s (names (world u))) (append-nil all) (log_fits_on s (names (world u)) all [] (each_as (LeavesWaiting s waits) (IsNoRename s) all (λ e l. l.no_rename) leave) tt)

        none_before : NoneBefore s u
        none_before = before_none s u v (reverse looks) made here.safe.none_to_log

  -- ---- all

  -- a first part of those before it is one of the steps of its rename
  ahead_first : (all : List Entry) → FirstWoven W ahead all → FirstWoven W (bare_steps t.ready) all
  ahead_first all f = record {
    made = f.made;
    first = (f.first.0 ++ (Renames t.ready.log target ∷ unlinks t.ready.retire), straight_steps ∙ (ap (λ (es : List Entry). es ++ (Renames t.ready.log target ∷ unlinks t.ready.retire)) f.first.1 ∙ append_assoc f.made f.first.0 (Renames t.ready.log target ∷ unlinks t.ready.retire)));
    woven = f.woven;
  }

  pub aside_safe : (acts : List Entry) (q : Past) → FirstWoven W (target_entries t) (filter is_change acts) → Made v (reverse acts) q → NoneAttached s q → IsSafe s q
  aside_safe acts q w all_made none_q = set_aside (first_split W ahead aside_step (clearing job ++ (copy_step ∷ behind)) (filter is_change acts) (subst (λ (steps : List Entry). FirstWoven W steps (filter is_change acts)) steps_are w))
    where
      -- behind the copy's rename
      let_go : (m r : Past) (acts : List Entry) → AtTurn s v ahead target m → Kept s m r target → Fits (world r) copy_step → FirstWoven W behind (filter is_change acts) → Made (r ▸ copy_step) (reverse acts) q → IsSafe s q
      let_go m r acts turn k fits f until = safe_retired s (r ▸ copy_step) q behind acts (k.journal, fits) safe_there until f none_q no_renames_behind retires
        where
          to_is : job.to ≡ target
          to_is = (names_are.job job a.job_is).to_is

          key : (i : ℤ) × (s.key target ≡ Some i)
          key = key_to s r target k.come

          free_now : names (world r) job.to ≡ thing.Nothing
          free_now = ap (names (world r)) to_is ∙ (k.alike target key.0 key.1 ∙ turn.free_there)

          safe_there : IsSafe s (r ▸ copy_step)
          safe_there = safe_on s r copy_step (k.journal, fits) k.safe (may_come s r job.part job.to k.journal k.safe (subst (MayCome s r) (sym to_is) k.come) free_now)

          part_apart : (y : Path) (i : ℤ) → s.key y ≡ Some i → y ≢ job.part
          part_apart y i is same_path = not_both (in_reach s job.part) (ap (in_reach s) (sym same_path) ∙ keyed_reach s y i is) (part_out s t names_are same naming job a.job_is)

          copied : HasCopy s v (r ▸ copy_step) ahead target
          copied = record {
            same = same_on v r (r ▸ copy_step) (same_on v m r turn.same_since k.same) (same_run_on r r copy_step (λ none. none) (same_run r));
            file = (fits.0.0, put_here (put (names (world r)) job.part thing.Nothing) job.to target (names (world r) job.part) (sym to_is) ∙ fits.0.1);
            alike = λ y i is other. moved_other (names (world r)) job.part job.to y (part_apart y i is) (λ same_path. other (same_path ∙ to_is)) ∙ (k.alike y i is ∙ turn.alike y i is);
          }

          planned : Ready
          planned = ready_of s.log s.naming t.count t.maxage clock t.ready.make t.stand.members

          ready_is : with_dir None t.ready ≡ planned
          ready_is = owns.ready clock way s state rules u v looks quiet made here none_at forward t seen same naming (inl at_log) rule ∙ ap (λ (x : Path). ready_of x s.naming t.count t.maxage clock t.ready.make t.stand.members) at_log

          retires : MayRetire s (r ▸ copy_step) (reverse behind)
          retires =
              let own_family = owns.family clock way s state rules u v looks quiet made here none_at forward t seen same naming (inl at_log) rule in
              let own_start = owns.start clock way s state rules u v looks quiet made here none_at forward t seen same naming (inl at_log) rule in
              let own_quiet = owns.quiet_back clock way s state rules u v looks quiet made here none_at forward t seen same naming (inl at_log) rule in
              let own_saw = owns.saw clock way s state rules u v looks quiet made here none_at forward t seen same naming (inl at_log) rule in
              let own_shown = owns.shown clock way s state rules u v looks quiet made here none_at forward t seen same naming (inl at_log) rule in
              let own_free = owns.free clock way s state rules u v looks quiet made here none_at forward t seen same naming (inl at_log) rule in
              subst (MayRetire s (r ▸ copy_step)) (ap (λ (x : Ready). reverse (unlinks x.retire) ++ Unlinks waits ∷ []) (sym ready_is) ∙ sym (reverse-append (Unlinks waits ∷ []) (unlinks t.ready.retire)))
              (retires_behind clock s t.count t.maxage t.ready.make t.stand u v (reverse looks) own_family own_start names_are.count (journal_before u v (reverse looks) made here.journal) none_at made own_quiet own_saw own_shown own_free here.now_is rule (r ▸ copy_step) waits aside
              (subst (λ (x : Ready). HasCopy s v (r ▸ copy_step) (ahead_of x) x.target) ready_is copied))

          no_renames_behind : Each (IsNoRename s) (reverse behind)
          no_renames_behind = each_reverse (IsNoRename s) behind ((λ to is. cc), unlinks_rename_none t.ready.retire)
            where
              unlinks_rename_none : (rs : List Removal) → Each (IsNoRename s) (unlinks rs)
              unlinks_rename_none [] = tt
              unlinks_rename_none (x ∷ xs) = ((λ to is. cc), unlinks_rename_none xs)

      -- behind where it was set aside
      waiting : (m : Past) (acts : List Entry) → AtTurn s v ahead target m → Kept s m (m ▸ aside_step) target → FirstSplit W (clearing job) copy_step behind (filter is_change acts) → Made (m ▸ aside_step) (reverse acts) q → IsSafe s q
      waiting m acts turn k (not_yet f) until = (kept_between s (m ▸ aside_step) q target acts k.journal k.safe until (absorbed W f.made (filter is_change acts) (first_of f.made f.first.0 f.first.1) f.woven) none_q k.come).safe
        where
          first_of : (xs ys : List Entry) → clearing job ≡ xs ++ ys → Each W xs
          first_of xs ys is = each_first W xs ys (subst (Each W) is clearing_apart)
      waiting m acts turn k (further us vs is w f) until = copied (filter_at acts us copy_step vs is)
        where
          copied : FilterAt acts us copy_step vs → IsSafe s q
          copied x = go (made_at (m ▸ aside_step) q acts x.front copy_step x.back x.joined until)
            where
              go : MadeAt (m ▸ aside_step) q x.front copy_step x.back → IsSafe s q
              go at = let_go m at.at x.back turn (both (kept_between s (m ▸ aside_step) at.at target x.front k.journal k.safe at.ahead
                  (absorbed W (clearing job) (filter is_change x.front) clearing_apart (subst (Weave W (clearing job)) (sym x.first) w)) (attached_at s (at.at ▸ copy_step) q (reverse x.back) at.behind none_q).0 k.come))
                  at.fits (subst (FirstWoven W behind) (sym x.second) f) at.behind
                where
                  both : Kept s (m ▸ aside_step) at.at target → Kept s m at.at target
                  both l = record { journal = l.journal; safe = l.safe; same = same_on m (m ▸ aside_step) at.at k.same l.same; alike = λ y i key. l.alike y i key ∙ k.alike y i key; come = l.come }

      set_aside : FirstSplit W ahead aside_step (clearing job ++ (copy_step ∷ behind)) (filter is_change acts) → IsSafe s q
      set_aside (not_yet f) = owns.steps_safe clock way s state rules u v looks quiet made here none_at forward t seen same naming (inl at_log) rule acts q (ahead_first (filter is_change acts) f) all_made none_q
      set_aside (further us vs is w f) = go (filter_at acts us aside_step vs is)
        where
          go : FilterAt acts us aside_step vs → IsSafe s q
          go x = from_there (made_at v q acts x.front aside_step x.back x.joined all_made)
            where
              woven_front : Weave W ahead (filter is_change x.front)
              woven_front = subst (Weave W ahead) (sym x.first) w

              from_there : MadeAt v q x.front aside_step x.back → IsSafe s q
              from_there at =
                  let none_m = (attached_at s (at.at ▸ aside_step) q (reverse x.back) at.behind none_q).0 in
                  let turn = at_turn x.front at.at woven_front at.ahead none_m in
                  waiting at.at x.back turn (kept_aside s at.at t.ready.log waits target turn.journal turn.safe at.fits aside (waits_none x.front at.at woven_front at.ahead none_m) at_log turn.come)
                  (first_split W (clearing job) copy_step behind (filter is_change x.back) (subst (FirstWoven W (clearing job ++ (copy_step ∷ behind))) (sym x.second) f)) at.behind
