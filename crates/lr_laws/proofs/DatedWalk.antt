-- Safe goes on over the steps of a dated rotation.
use Rattle.std.proofs.Common.{◌≡◌, ◌⊎◌, inl, inr, Bool, true, false, ◌||◌, refl, sym, ◌∙◌, ap, subst, Option, Some, None, is_some, List, [], ◌∷◌, ℤ, pos}
use Rattle.std.proofs.lemmas.Bool.{or_right}
use Rattle.lr_rules.specs.declared.path.Path.{Path}
use Rattle.lr_rules.specs.declared.rule.Rule.{Rule}
use Rattle.lr_rules.specs.declared.rule.Count.TheVariants.{Keep}
use Rattle.lr_rules.proofs.Bools.{not_both}
use Rattle.lr_rules.proofs.Options.{some_none}
use Rattle.lr_host.specs.declared.entry.Entry.{Entry}
use Rattle.lr_host.specs.declared.entry.Entry.TheVariants.{Renames, Makes, MakesDir, Appends, Truncates, Unlinks}
use Rattle.lr_host.specs.declared.entry.Entry.TheVariants as entry
use Rattle.lr_host.specs.declared.thing.Thing.TheVariants as thing
use Rattle.lr_host.specs.World.{Names, names, names_after, Past, ◌▸◌, world, Adds, Puts, Moves, Drops}
use Rattle.lr_host.specs.Fits.{Fits, IsFileAt}
use Rattle.lr_host.specs.Sets.{LogSet, Dated, order, IsAsideOf, AreLaterMembers}
use Rattle.lr_host.specs.Opening.{IsJournal}
use Rattle.lr_host.specs.Safe.{IsSafe, whole, IsToLog}
use Rattle.lr_host.specs.Runs.{SomeRule, rules_of, has_begun}
use Rattle.lr_host.specs.Released.{ByAge}
use Rattle.lr_host.specs.Told.{Each, Made, at_first, by_writer, by_tool}
use Rattle.lr_host.specs.Steps.{changes_of}
use Rattle.lr_host.specs.Steady.{NoneAttached}
use Rattle.lr_host.specs.Forward.{IsForward}
use Rattle.lr_host.proofs.More.{IsMoreAt, file_at}
use Rattle.lr_host.proofs.Names.{put_other}
use Rattle.lr_host.proofs.Places.{synced_names}
use Rattle.lr_laws.specs.Follow.{MayFollow}
use Rattle.lr_laws.specs.Room.{HasRoomForOne}
use Rattle.lr_laws.specs.Rotation.{IsPastAge, IsAside, IsTurn, straight, put_aside, taken_up, LogFits}
use Rattle.lr_laws.proofs.AsidePath.{GivesLogAlone, aside_gives, WaitsSo, aside_walk}
use Rattle.lr_laws.proofs.Calls.{aside_elsewhere}
use Rattle.lr_laws.proofs.Disk.{fits_closed}
use Rattle.lr_laws.proofs.Going.{safe_on}
use Rattle.lr_laws.proofs.LogPath.{moved_aside, NoneToLog, log_walk}
use Rattle.lr_laws.proofs.Moves.{some_rule, may_unlink_old, may_unlink_aside, may_put_aside, elsewhere, keyless}
use Rattle.lr_laws.proofs.Reach.{aside_apart, unplaced_no_key, out_log}
use Rattle.lr_laws.proofs.Sound.{IsSound, sound}
use Rattle.lr_laws.proofs.Stamps.{room_for_one, may_turn_dated, may_unlink_dated}
use Rattle.lr_laws.proofs.Walk.{IsSameRun, same_run_on, by_age_on, changed_alike}
use Rattle.lr_laws.proofs.Writing.{attached_before, wrote_member, member_apart, may_follow, not_starts, not_to_log, keeps_attached}
use Rattle.lr_laws.specs.DatedRotation.{IsPastLater, turned_behind, is_log_turned, IsDatedStep, IsDatedRotationBy, IsDatedRotation, IsDatedRetirement}
use Rattle.lr_laws.proofs.DatedAside.{aside_starts, aside_log, aside_turned}
use Rattle.lr_laws.proofs.Tame.{IsTame, tame_puts, tame_moves, tame_drops, tame_aside, tame_writer, forward_on, room_on}

-- no step of a dated rotation renames anything to the log's path
rotation_not_to_log : (s : LogSet) (p : Past) (newest : ℤ) (turned : Bool) (es : List Entry) → IsDatedRotationBy s p newest turned es → NoneToLog s es
rotation_not_to_log s p newest turned [] rot = tt
rotation_not_to_log s p newest turned (e ∷ es) rot = (go e rot.1, rotation_not_to_log s p newest turned es rot.0)
  where
    go : (e : Entry) → IsAside s e ⊎ IsDatedStep s p newest (names_after (names (world p)) (changes_of es)) (turned_behind s turned es) e → IsToLog s e → ⊥
    go e (inl out) same = aside_log s e out same
    go (Renames from to) (inr (unturned, free, turn)) same = by turn
      where
        by : IsTurn s (names_after (names (world p)) (changes_of es)) newest from to → ⊥
        by (straight at_log pt) = member_apart s to newest pt same
        by (put_aside at_log a) = aside_apart s to a same
        by (taken_up a file pt) = member_apart s to newest pt same
    go _ (inr st) same = same

-- each of them gives the path where a log waits no file but the log's
rotation_gives : (s : LogSet) (p : Past) (newest : ℤ) (turned : Bool) (es : List Entry) (x : Path) → IsAsideOf s x → IsDatedRotationBy s p newest turned es → Each (GivesLogAlone s x) es
rotation_gives s p newest turned [] x a rot = tt
rotation_gives s p newest turned (e ∷ es) x a rot = (go e rot.1, rotation_gives s p newest turned es x a rot.0)
  where
    go : (e : Entry) → IsAside s e ⊎ IsDatedStep s p newest (names_after (names (world p)) (changes_of es)) (turned_behind s turned es) e → GivesLogAlone s x e
    go e (inl out) = aside_gives s x e a out
    go (Renames from to) (inr (unturned, free, turn)) = λ same. by turn same
      where
        by : IsTurn s (names_after (names (world p)) (changes_of es)) newest from to → to ≡ x → from ≡ s.log
        by (straight at_log pt) same = at_log
        by (put_aside at_log b) same = at_log
        by (taken_up b file pt) same = absurd (unplaced_no_key s x newest (inr a) (ap s.key (sym same) ∙ pt))
    go (Makes y mode) (inr at_log) = λ same. aside_apart s x a (sym same ∙ at_log)
    go (Unlinks y) (inr st) = tt
    go _ (inr st) = absurd st

-- What a walk has come to. As long as no member got a file, members have room for one more, and none is later than that one.
pub record HasCome (s : LogSet) (p q : Past) (newest : ℤ) (turned : Bool) (es : List Entry) : Type 0 where
  pub journal : IsJournal q
  pub safe : IsSafe s q
  pub alike : (y : Path) (k : ℤ) → s.key y ≡ Some k → names (world q) y ≡ names_after (names (world p)) (changes_of es) y
  pub same : IsSameRun p q
  pub room : turned_behind s turned es ≡ false → HasRoomForOne s q
  pub forward : turned_behind s turned es ≡ false → IsForward s q newest

sound_of : (s : LogSet) (p q : Past) (newest : ℤ) (turned : Bool) (es : List Entry) → HasCome s p q newest turned es → IsSound s q
sound_of s p q newest turned es r = sound s q r.journal r.safe.none_to_log

-- an entry aside, by what it does to members' names
aside_by : (s : LogSet) (p q : Past) (newest : ℤ) (turned : Bool) (es : List Entry) (e : Entry) → Fits (world q) e → IsAside s e
    → ((y : Path) (k : ℤ) → s.key y ≡ Some k → names (world (q ▸ e)) y ≡ names_after (names (world p)) (changes_of (e ∷ es)) y) → HasCome s p q newest turned es → HasCome s p (q ▸ e) newest turned (e ∷ es)
aside_by s p q newest turned es e f out alike r = record {
  journal = (r.journal, f);
  safe = safe_on s q e (r.journal, f) r.safe (elsewhere s q e (sound_of s p q newest turned es r) (r.safe.each q whole).kept (aside_elsewhere s e out));
  alike = alike;
  same = same_run_on p q e (aside_starts s e out) r.same;
  room = λ t. room_on s q e (fits_closed (world q) e f) (tame_aside s (world q) e out) (sound_of s p q newest turned es r) (aside_log s e out) (aside_starts s e out) (r.room (sym (aside_turned s turned e es out) ∙ t));
  forward = λ t. forward_on s q e (fits_closed (world q) e f) (tame_aside s (world q) e out) newest (r.forward (sym (aside_turned s turned e es out) ∙ t));
}

aside_step : (s : LogSet) (p q : Past) (newest : ℤ) (turned : Bool) (es : List Entry) (e : Entry) → Fits (world q) e → IsAside s e → HasCome s p q newest turned es → HasCome s p (q ▸ e) newest turned (e ∷ es)
aside_step s p q newest turned es (Renames from to) f out r = aside_by s p q newest turned es (Renames from to) f out
    (λ y k pl. moved_aside from to (names_after (names (world p)) (changes_of es)) (names (world q)) y (λ same. keyless s to k out.1 (ap s.key same ∙ pl)) (r.alike y k pl)) r
aside_step s p q newest turned es (Unlinks x) f out r = aside_by s p q newest turned es (Unlinks x) f out
    (λ y k pl. changed_alike s (Drops x) (names_after (names (world p)) (changes_of es)) (names (world q)) y (λ u z same. absurd (cc)) (r.alike y k pl)) r
aside_step s p q newest turned es (MakesDir x mode) f out r = aside_by s p q newest turned es (MakesDir x mode) f out
    (λ y k pl. changed_alike s (Puts x thing.Directory) (names_after (names (world p)) (changes_of es)) (names (world q)) y (λ u z same. absurd (cc)) (r.alike y k pl)) r
aside_step s p q newest turned es (Makes x mode) f out r = aside_by s p q newest turned es (Makes x mode) f out
    (λ y k pl. put_other (names (world q)) x y (thing.File (world q).drawn) (λ same. keyless s x k out (ap s.key (sym same) ∙ pl)) ∙ r.alike y k pl) r
aside_step s p q newest turned es (entry.SyncsDir x) f out r = aside_by s p q newest turned es (entry.SyncsDir x) f out (λ y k pl. synced_names (world q) x y ∙ r.alike y k pl) r
aside_step s p q newest turned es entry.Ends f out r = aside_by s p q newest turned es entry.Ends f out r.alike r
aside_step s p q newest turned es (entry.Look x seen) f out r = aside_by s p q newest turned es (entry.Look x seen) f out r.alike r
aside_step s p q newest turned es (entry.List dir listed) f out r = aside_by s p q newest turned es (entry.List dir listed) f out r.alike r
aside_step s p q newest turned es (entry.Reads x from piece) f out r = aside_by s p q newest turned es (entry.Reads x from piece) f out r.alike r
aside_step s p q newest turned es (Appends x bytes) f out r = aside_by s p q newest turned es (Appends x bytes) f out r.alike r
aside_step s p q newest turned es (Truncates x) f out r = aside_by s p q newest turned es (Truncates x) f out r.alike r
aside_step s p q newest turned es (entry.SyncsFile x) f out r = aside_by s p q newest turned es (entry.SyncsFile x) f out r.alike r
aside_step s p q newest turned es (entry.Runs program args input ended) f out r = aside_by s p q newest turned es (entry.Runs program args input ended) f out r.alike r
aside_step s p q newest turned es _ f out r = absurd out

-- ---- one entry of the tool

-- the later members still name files
later_still : (s : LogSet) (n m : Names) (t : ℤ) (ys : List Path) → ((y : Path) (k : ℤ) → s.key y ≡ Some k → m y ≡ n y) → AreLaterMembers s.key n t ys → AreLaterMembers s.key m t ys
later_still s n m t [] h a = tt
later_still s n m t (y ∷ ys) h a = (((a.0.0.0, h y a.0.1.0 a.0.1.1 ∙ a.0.0.1), a.0.1), later_still s n m t ys h a.1)

-- the turn gives a member its file
turn_step : (s : LogSet) (p q : Past) (newest : ℤ) (turned : Bool) (es : List Entry) (from to : Path) → order s ≡ Dated → Fits (world q) (Renames from to) → turned_behind s turned es ≡ false → s.key to ≡ Some newest
    → names_after (names (world p)) (changes_of es) to ≡ thing.Nothing → names (world q) from ≡ names_after (names (world p)) (changes_of es) from → HasCome s p q newest turned es → HasCome s p (q ▸ Renames from to) newest turned (Renames from to ∷ es)
turn_step s p q newest turned es from to dated f unturned pt free there r = record {
  journal = (r.journal, f);
  safe = safe_on s q (Renames from to) (r.journal, f) r.safe (may_turn_dated s q from to newest dated (sound_of s p q newest turned es r) pt (r.alike to newest pt ∙ free) (r.room unturned) (r.forward unturned));
  alike = λ y i pl. changed_alike s (Moves from to) (names_after (names (world p)) (changes_of es)) (names (world q)) y (λ x z same. let e : from ≡ x = cc in ap (names (world q)) (sym e) ∙ (there ∙ ap (names_after (names (world p)) (changes_of es)) e)) (r.alike y i pl);
  same = same_run_on p q (Renames from to) (λ none. none) r.same;
  room = λ t. absurd (not_both (turned_behind s turned (Renames from to ∷ es)) now t);
  forward = λ t. absurd (not_both (turned_behind s turned (Renames from to ∷ es)) now t);
}
  where
    now : turned_behind s turned (Renames from to ∷ es) ≡ true
    now = ap (λ (o : Option ℤ). is_some o || turned_behind s turned es) pt

drop_step : (s : LogSet) (p q : Past) (newest : ℤ) (turned : Bool) (es : List Entry) (x : Path) → Fits (world q) (Unlinks x) → MayFollow s q (Unlinks x) → HasCome s p q newest turned es → HasCome s p (q ▸ Unlinks x) newest turned (Unlinks x ∷ es)
drop_step s p q newest turned es x f may r = record {
  journal = (r.journal, f);
  safe = safe_on s q (Unlinks x) (r.journal, f) r.safe may;
  alike = λ y i pk. changed_alike s (Drops x) (names_after (names (world p)) (changes_of es)) (names (world q)) y (λ u z same. absurd (cc)) (r.alike y i pk);
  same = same_run_on p q (Unlinks x) (λ none. none) r.same;
  room = λ t. room_on s q (Unlinks x) tt (tame_drops s x) (sound_of s p q newest turned es r) (λ none. none) (λ none. none) (r.room t);
  forward = λ t. forward_on s q (Unlinks x) tt (tame_drops s x) newest (r.forward t);
}

tool_step : (s : LogSet) (p q : Past) (newest : ℤ) (turned : Bool) (es : List Entry) (e : Entry) → order s ≡ Dated → Fits (world q) e
    → ((to : Path) → e ≡ Renames s.log to → IsFileAt (names_after (names (world p)) (changes_of es)) s.log) → IsMoreAt s.log (names_after (names (world p)) (changes_of es)) (names (world q))
    → ((x : Path) → IsAsideOf s x → WaitsSo s q x (names_after (names (world p)) (changes_of es)))
    → IsAside s e ⊎ IsDatedStep s p newest (names_after (names (world p)) (changes_of es)) (turned_behind s turned es) e → HasCome s p q newest turned es → HasCome s p (q ▸ e) newest turned (e ∷ es)
tool_step s p q newest turned es e dated f fit more waits (inl out) r = aside_step s p q newest turned es e f out r
tool_step s p q newest turned es (Renames from to) dated f fit more waits (inr (unturned, free, straight at_log pt)) r =
    turn_step s p q newest turned es from to dated f unturned pt free (ap (names (world q)) at_log ∙ (log_same ∙ ap (names_after (names (world p)) (changes_of es)) (sym at_log))) r
  where
    log_same : names (world q) s.log ≡ names_after (names (world p)) (changes_of es) s.log
    log_same = file_at (names_after (names (world p)) (changes_of es)) (names (world q)) s.log more (fit to (ap (λ (x : Path). Renames x to) at_log))
tool_step s p q newest turned es (Renames from to) dated f fit more waits (inr (unturned, free, taken_up out file pt)) r =
    turn_step s p q newest turned es from to dated f unturned pt free (file_at (names_after (names (world p)) (changes_of es)) (names (world q)) from (waits from out).more file) r
tool_step s p q newest turned es (Renames from to) dated f fit more waits (inr (unturned, free, put_aside at_log out)) r = record {
  journal = (r.journal, f);
  safe = safe_on s q (Renames from to) (r.journal, f) r.safe (may_put_aside s q from to (sound_of s p q newest turned es r) out ((waits to out).none free));
  alike = λ y k pl. moved_aside from to (names_after (names (world p)) (changes_of es)) (names (world q)) y (λ same. unplaced_no_key s to k (inr out) (ap s.key same ∙ pl)) (r.alike y k pl);
  same = same_run_on p q (Renames from to) (λ none. none) r.same;
  room = λ t. room_on s q (Renames from to) tt (tame_moves s from to out.keyless) (sound_of s p q newest turned es r) (aside_apart s to out) (λ none. none) (r.room unturned);
  forward = λ t. forward_on s q (Renames from to) tt (tame_moves s from to out.keyless) newest (r.forward unturned);
}
tool_step s p q newest turned es (Unlinks x) dated f fit more waits (inr (inl out)) r = drop_step s p q newest turned es x f (may_unlink_aside s q x out) r
tool_step s p q newest turned es (Unlinks x) dated f fit more waits (inr (inr (done, k, pl, why))) r = drop_step s p q newest turned es x f (may why) r
  where
    may : IsPastLater s p (names_after (names (world p)) (changes_of es)) k ⊎ IsPastAge s p (names_after (names (world p)) (changes_of es)) x → MayFollow s q (Unlinks x)
    may (inl l) = may_unlink_dated s q x l.count k l.later (sound_of s p q newest turned es r) (r.safe.each q whole).kept dated pl l.distinct (later_still s (names_after (names (world p)) (changes_of es)) (names (world q)) k l.later r.alike l.each) l.enough
        (subst (λ (rs : List Rule). SomeRule rs s.log (λ r. r.count ≡ Keep l.count)) (sym r.same.rules) l.rule)
    may (inr old) = may_unlink_old s q x (λ g is. subst (λ (rs : List Rule). SomeRule rs s.log (ByAge q g)) (sym r.same.rules) (some_rule (rules_of p) s.log (ByAge p g) (ByAge q g) (λ rule h. by_age_on p q g rule r.same h) (old g (sym (r.alike x k pl) ∙ is))))
tool_step s p q newest turned es (Makes x mode) dated f fit more waits (inr at_log) r = record {
  journal = (r.journal, f);
  safe = safe_on s q (Makes x mode) (r.journal, f) r.safe (λ m undone lv. keeps_attached s q (Makes x mode) tt (sound_of s p q newest turned es r) (λ none. none) (λ g l. cc) (order s) x (thing.File (world q).drawn) m (λ d u is. some_none (s.key x) u is keyless_log));
  alike = λ y i pl. put_other (names (world q)) x y (thing.File (world q).drawn) (λ same. member_apart s y i pl (same ∙ at_log)) ∙ r.alike y i pl;
  same = same_run_on p q (Makes x mode) (λ none. none) r.same;
  room = λ t. room_on s q (Makes x mode) tt tame (sound_of s p q newest turned es r) (λ none. none) (λ none. none) (r.room t);
  forward = λ t. forward_on s q (Makes x mode) tt tame newest (r.forward t);
}
  where
    keyless_log : s.key x ≡ None
    keyless_log = ap s.key at_log ∙ s.log_apart

    tame : IsTame s (Adds (Puts x (thing.File (world q).drawn)))
    tame = tame_puts s x (thing.File (world q).drawn) (λ g i. keyless_log)
tool_step s p q newest turned es _ dated f fit more waits (inr is) r = absurd is

-- The entries behind p: as long as no member had got a file there, members had room for one more, and none was later than that one.
pub walk : (s : LogSet) (p q : Past) (newest : ℤ) (turned : Bool) (es : List Entry) → order s ≡ Dated → Made p es q → LogFits s (names (world p)) es → IsDatedRotationBy s p newest turned es
    → NoneAttached s q → IsJournal p → IsSafe s p → (turned ≡ false → HasRoomForOne s p) → (turned ≡ false → IsForward s p newest) → HasCome s p q newest turned es
walk s p _ newest turned _ dated at_first fit rot a j safe room forward = record {
  journal = j;
  safe = safe;
  alike = λ y k pl. refl;
  same = record { rules = refl; now = refl; saw = λ g moment h. h };
  room = room;
  forward = forward;
}
walk s p _ newest turned es dated (by_writer {q = q} {e = e} m i f) fit rot a j safe room forward = go (walk s p q newest turned es dated m fit rot (attached_before s q e a) j safe room forward)
  where
    go : HasCome s p q newest turned es → HasCome s p (q ▸ e) newest turned es
    go r = record {
      journal = (r.journal, f);
      safe = safe_on s q e (r.journal, f) r.safe (may_follow s q e (sound_of s p q newest turned es r) i (λ d. a.1));
      alike = λ y k pl. wrote_member s q e y k i a pl ∙ r.alike y k pl;
      same = same_run_on p q e (not_starts e i) r.same;
      room = λ t. room_on s q e (fits_closed (world q) e f) (tame_writer s (world q) e i a.1) (sound_of s p q newest turned es r) (not_to_log s e i) (not_starts e i) (r.room t);
      forward = λ t. forward_on s q e (fits_closed (world q) e f) (tame_writer s (world q) e i a.1) newest (r.forward t);
    }
walk s p _ newest turned _ dated (by_tool {es = es} {q = q} {e = e} m i f) fit rot a j safe room forward =
    tool_step s p q newest turned es e dated f fit.1 (log_walk s p q es m (rotation_not_to_log s p newest turned es rot.0))
    (λ x out. aside_walk s p q es x (aside_apart s x out) j safe.none_to_log m (rotation_not_to_log s p newest turned es rot.0) (rotation_gives s p newest turned es x out rot.0) fit.0) rot.1
    (walk s p q newest turned es dated m fit.0 rot.0 (attached_before s q e a) j safe room forward)

walk_begun : (s : LogSet) (p q : Past) (newest : ℤ) (es : List Entry) → order s ≡ Dated → IsJournal p → IsSafe s p → has_begun s p ≡ false → IsForward s p newest → Made p es q → LogFits s (names (world p)) es → IsDatedRotation s p newest es → NoneAttached s q → HasCome s p q newest false es
walk_begun s p q newest es dated j safe nb forward m fit rot a = walk s p q newest false es dated m fit rot a j safe (λ t. room_for_one s p (sound s p j safe.none_to_log) safe dated nb) (λ t. forward)

pub dated_walked : (s : LogSet) (p q : Past) (newest : ℤ) (es : List Entry) → order s ≡ Dated → IsJournal p → IsSafe s p → has_begun s p ≡ false → IsForward s p newest → Made p es q → LogFits s (names (world p)) es → IsDatedRotation s p newest es → NoneAttached s q → IsSafe s q
dated_walked s p q newest es dated j safe nb forward m fit rot a = (walk_begun s p q newest es dated j safe nb forward m fit rot a).safe

-- and as long as no member got a file, one may yet
pub still_open : (s : LogSet) (p q : Past) (newest : ℤ) (es : List Entry) → order s ≡ Dated → IsJournal p → IsSafe s p → has_begun s p ≡ false → IsForward s p newest → Made p es q → LogFits s (names (world p)) es → IsDatedRotation s p newest es → NoneAttached s q → is_log_turned s es ≡ false
    → HasRoomForOne s q × IsForward s q newest
still_open s p q newest es dated j safe nb forward m fit rot a t = let r = walk_begun s p q newest es dated j safe nb forward m fit rot a in (r.room t, r.forward t)

-- ---- behind the turn

turned_still : (s : LogSet) (es : List Entry) → turned_behind s true es ≡ true
turned_still s [] = refl
turned_still s (Renames from to ∷ es) = or_right (is_some (s.key to)) (turned_behind s true es) (turned_still s es)
turned_still s (_ ∷ es) = turned_still s es

-- no step renames the log
retired_fits : (s : LogSet) (p : Past) (n : Names) (es : List Entry) → IsDatedRetirement s p es → LogFits s n es
retired_fits s p n [] rot = tt
retired_fits s p n (e ∷ es) rot = (retired_fits s p n es rot.0, λ to is. absurd (go to (subst (λ (x : Entry). IsAside s x ⊎ IsDatedStep s p (pos 0) (names_after (names (world p)) (changes_of es)) (turned_behind s true es) x) is rot.1)))
  where
    go : (to : Path) → IsAside s (Renames s.log to) ⊎ IsDatedStep s p (pos 0) (names_after (names (world p)) (changes_of es)) (turned_behind s true es) (Renames s.log to) → ⊥
    go to (inl out) = out_log s s.log out.0 refl
    go to (inr st) = not_both (turned_behind s true es) (turned_still s es) st.0

pub dated_retired : (s : LogSet) (p q : Past) (es : List Entry) → order s ≡ Dated → IsJournal p → IsSafe s p → Made p es q → IsDatedRetirement s p es → NoneAttached s q → IsSafe s q
dated_retired s p q es dated j safe m rot a = (walk s p q (pos 0) true es dated m (retired_fits s p (names (world p)) es rot) rot a j safe (λ t. absurd (cc)) (λ t. absurd (cc))).safe
