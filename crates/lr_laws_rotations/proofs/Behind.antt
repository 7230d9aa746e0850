-- What goes behind a copy of the log, once the copy has the newest name: the members go as they do behind the log's rename, and the copy itself by the count alone.
use Rattle.std.proofs.Common.{◌≡◌, ◌≢◌, ◌⊎◌, inl, inr, ⊎_elim, ℕ, suc, ◌≤◌, Bool, true, false, bytes_eq, refl, sym, ◌∙◌, ap, subst, append_assoc, arith, Option, Some, None, List, [], ◌∷◌, ◌++◌, map, reverse, ℤ, pos}
use Rattle.std.specs.Prelude.{Contains, All}
use Rattle.std.proofs.lemmas.List.{reverse-reverse}
use Rattle.std.proofs.lemmas.List.Elements.{All-head, All-tail}
use Rattle.std.proofs.lemmas.Slice.Eq.{bytes_eq-Decides}
use Rattle.lr_rules.specs.declared.clock.Clock.{Clock}
use Rattle.lr_rules.specs.declared.path.Path.{Path}
use Rattle.lr_rules.specs.declared.rule.Count.{Count}
use Rattle.lr_rules.specs.declared.rule.Format.{Format}
use Rattle.lr_rules.specs.declared.rule.Make.{Make}
use Rattle.lr_rules.specs.declared.rule.Naming.{Naming}
use Rattle.lr_rules.specs.declared.rule.Rule.{Rule}
use Rattle.lr_rules.specs.Dated.{stamp_key, IsDatedAt}
use Rattle.lr_rules.specs.Limits.{IsCount}
use Rattle.lr_stamps.specs.Dated.{clock_seconds}
use Rattle.lr_host.specs.declared.thing.Thing.TheVariants as thing
use Rattle.lr_host.specs.declared.entry.Entry.{Entry}
use Rattle.lr_host.specs.declared.entry.Entry.TheVariants.{Renames, Unlinks}
use Rattle.lr_host.specs.Fits.{IsFileAt}
use Rattle.lr_host.specs.Opening.{IsJournal}
use Rattle.lr_host.specs.Quiet.{AreQuiet}
use Rattle.lr_host.specs.Released.{ByAge}
use Rattle.lr_host.specs.Runs.{rules_of, SomeRule}
use Rattle.lr_host.specs.Sets.{LogSet, Numbered, Dated, order, order_of, IsAsideOf}
use Rattle.lr_host.specs.Steady.{NoneAttached}
use Rattle.lr_host.specs.Steps.{changes_of}
use Rattle.lr_host.specs.Told.{Made}
use Rattle.lr_host.specs.World.{Names, Moves, changed, Past, world, names, names_after}
use Rattle.lr_host.proofs.Names.{put_other}
use Rattle.lr_host.proofs.Quiet.{quiet_still}
use Rattle.lr_laws.specs.DatedRotation.{IsDatedRotationBy, IsDatedRetirement}
use Rattle.lr_laws.specs.Rotation.{IsRotation}
use Rattle.lr_laws.proofs.Moments.{keyed}
use Rattle.lr_laws.proofs.Moves.{some_rule}
use Rattle.lr_laws.proofs.Reach.{unplaced_no_key}
use Rattle.lr_laws.proofs.Walk.{IsSameRun, by_age_on}
use Rattle.lr_laws.proofs.Writing.{member_apart}
use Rattle.lr_family.specs.declared.stand.Member.{Member}
use Rattle.lr_family.specs.declared.stand.Stand.{Stand}
use Rattle.lr_family.specs.Places.{IsPlaceOf, AreNamed}
use Rattle.lr_family.specs.Spots.{path_at}
use Rattle.lr_family.proofs.Numbers.{every_from}
use Rattle.lr_family.proofs.Paths.{places_apart}
use Rattle.lr_family.specs.Looks.{WasSeen}
use Rattle.lr_chain.specs.declared.ready.Ready.{Ready}
use Rattle.lr_chain.specs.DatedReady.{dated_target, all_by, ranked}
use Rattle.lr_chain.specs.DatedRotation.{Ranked, gone, unlink}
use Rattle.lr_chain.specs.DatedTurning.{AreFiles, StandSo}
use Rattle.lr_chain.specs.Hindrances.{what_hinders}
use Rattle.lr_chain.specs.Prepared.{ready_of}
use Rattle.lr_chain.specs.Ready.{move_step, move_from}
use Rattle.lr_chain.specs.Rotation.{places_of, leftovers, kept, going, leftover_steps, shift_steps, turn_steps, retired, retire_steps}
use Rattle.lr_chain.specs.Serials.{next_serial}
use Rattle.lr_chain.specs.Standing.{AreGoing}
use Rattle.lr_chain.proofs.DatedFalling.{AreKeyed}
use Rattle.lr_chain.proofs.DatedSteps.{map_reverse}
use Rattle.lr_chain.proofs.DatedWhole.{moved_other}
use Rattle.lr_chain.proofs.Either.{ready_numbers, ready_dates}
use Rattle.lr_chain.proofs.Falling.{falls_all}
use Rattle.lr_chain.proofs.Going.{going_are}
use Rattle.lr_chain.proofs.Serials.{is_next}
use Rattle.lr_chain.proofs.Turned.{run, run_both, run_is}
use Rattle.lr_chain.proofs.Whole.{moves}
use Rattle.lr_laws_family.specs.Members.{IsFamily, NoMemberHas, AreThere}
use Rattle.lr_laws_family.specs.Numbered.{HasName, HaveNextNames}
use Rattle.lr_laws_family.specs.Shown.{SawFile, Shown}
use Rattle.lr_laws_family.proofs.Numbers.{rising, first_named}
use Rattle.lr_laws_family.proofs.Stood.{file_stands}
use Rattle.lr_laws_rotations.specs.Steps.{unlinks}
use Rattle.lr_laws_rotations.proofs.Aged.{may_go, old_goes}
use Rattle.lr_laws_rotations.proofs.DatedRemovals.{AreOld, HasKey, AreLaterThan, removals_rotate}
use Rattle.lr_laws_rotations.proofs.DatedRotating.{order_some, old_with}
use Rattle.lr_laws_rotations.proofs.DatedRotation.{all_keyed}
use Rattle.lr_laws_rotations.proofs.DatedStands.{is_dated, stand_so}
use Rattle.lr_laws_rotations.proofs.Families.{by_places, there_by_places, next_places, dated_there}
use Rattle.lr_laws_rotations.proofs.Places as places
use Rattle.lr_laws_rotations.proofs.SetMembers.{set_stands}
use Rattle.lr_laws_rotations.proofs.Stamped.{day_of, next_free}
use Rattle.lr_laws_rotations.proofs.Steps.{unlinks_at, unlinks_of}
use Rattle.lr_laws_rotations.proofs.Turning.{key_at, HasCome, MayLeave, came, retires_alone}

-- ---- the copy is there

-- what comes before the log's own way
abbrev pub ahead_of : Ready → List Entry
ahead_of ready = unlinks ready.leftovers ++ map move_step ready.moves

-- At r, in the run of q, the copy has the target's path, and each other member is what those before made of it.
pub record HasCopy (s : LogSet) (q r : Past) (ahead : List Entry) (target : Path) : Type 0 where
  pub same : IsSameRun q r
  pub file : IsFileAt (names (world r)) target
  pub alike : (y : Path) (k : ℤ) → s.key y ≡ Some k → y ≢ target → names (world r) y ≡ names_after (names (world q)) (changes_of (reverse ahead)) y

-- These steps are what may go then, of numbers or of dates.
abbrev pub MayRetire : LogSet → Past → List Entry → Type 0
MayRetire s r es = ((order s ≡ Numbered) × IsRotation s r 0 es) ⊎ ((order s ≡ Dated) × IsDatedRetirement s r es)

-- a rule of the one moment is one of the other
rule_on : (s : LogSet) (q r : Past) (P : Rule → Type 0) → IsSameRun q r → SomeRule (rules_of q) s.log P → SomeRule (rules_of r) s.log P
rule_on s q r P same rule = subst (λ (rs : List Rule). SomeRule rs s.log P) (sym same.rules) rule

age_on : (s : LogSet) (q r : Past) (g : ℕ) → IsSameRun q r → SomeRule (rules_of q) s.log (ByAge q g) → SomeRule (rules_of r) s.log (ByAge r g)
age_on s q r g same rule = rule_on s q r (ByAge r g) same (some_rule (rules_of q) s.log (ByAge q g) (ByAge r g) (λ rule h. by_age_on q r g rule same h) rule)

module _ (clock : Clock) (s : LogSet) (c : Count) (maxage : Option ℕ) (anew : Make) (stand : Stand) (p q : Past) (es : List Entry) (family : IsFamily s.log s.naming) (start : s.naming.start ≤ 999999) (small : IsCount c) (journal : IsJournal p) (attached : NoneAttached s q) (made : Made p es q)
    (quiet : AreQuiet es) (saw : SawFile s.log (reverse es)) (shown : Shown s.naming stand.members (reverse es)) (free : what_hinders s.naming c clock stand ≡ []) (now_is : (world q).now ≡ clock.now.seconds)
    (rule : SomeRule (rules_of q) s.log (λ r. (r.count ≡ c) × (r.maxage ≡ maxage))) (r : Past) (waits : Path) (aside : IsAsideOf s waits) where
  abbrev n : Naming
  n = s.naming

  abbrev all : List Member
  all = stand.members

  abbrev ready : Ready
  ready = ready_of s.log n c maxage clock anew all

  by_count : SomeRule (rules_of q) s.log (λ r. r.count ≡ c)
  by_count = some_rule (rules_of q) s.log (λ r. (r.count ≡ c) × (r.maxage ≡ maxage)) (λ r. r.count ≡ c) (λ r h. h.0) rule

  by_age : SomeRule (rules_of q) s.log (λ r. r.maxage ≡ maxage)
  by_age = some_rule (rules_of q) s.log (λ r. (r.count ≡ c) × (r.maxage ≡ maxage)) (λ r. r.maxage ≡ maxage) (λ r h. h.1) rule

  file : IsFileAt (names (world q)) s.log
  file = file_stands p q es made (quiet_still es quiet) s.log saw

  there : AreThere n (names (world q)) all
  there = set_stands s all p q es family journal attached made (quiet_still es quiet) shown

  -- what waited goes first
  abbrev base : List Entry
  base = Unlinks waits ∷ []

  -- and takes no member's name
  member_kept : (y : Path) (k : ℤ) → s.key y ≡ Some k → names_after (names (world r)) (changes_of base) y ≡ names (world r) y
  member_kept y k is = put_other (names (world r)) waits y thing.Nothing (λ same. unplaced_no_key s waits k (inr aside) (ap s.key (sym same) ∙ is))

  -- ---- numbers

  module _ (none : n.dated ≡ None) where
    abbrev places_are : List ℕ
    places_are = places_of all

    abbrev from : List ℕ
    from = going c maxage clock.now.seconds all

    abbrev ahead : List Entry
    ahead = leftover_steps n c places_are ++ shift_steps n c places_are

    by_its_places : places.IsFamily s.log n
    by_its_places = by_places s.log n none family

    next : HaveNextNames n c places_are
    next = next_places clock s.log n c maxage anew stand family start small shown.named free none

    goes : AreGoing c places_are from
    goes = going_are c maxage clock.now.seconds all (rising n none all there.named there.newest_first)

    may : places.MayGo s q c from
    may = subst (λ (now : ℤ). places.MayGo s q c (going c maxage now all)) now_is (may_go s p q es c maxage all none made quiet attached by_age shown)

    numbers_are : order s ≡ Numbered
    numbers_are = ap order_of none

    module _ (copy : HasCopy s q r ahead (path_at n 0)) where
      behind_is : (y : Path) (k : ℤ) → s.key y ≡ Some k → y ≢ path_at n 0 → run (names (world q)) (leftover_steps n c places_are ++ turn_steps n c s.log places_are) y ≡ names_after (names (world r)) (changes_of base) y
      behind_is y k is other =
          ap (λ (xs : List Entry). run (names (world q)) xs y) (sym (append_assoc (leftover_steps n c places_are) (shift_steps n c places_are) (Renames s.log (path_at n 0) ∷ [])))
          ∙ (ap (λ (m : Names). m y) (run_both (names (world q)) ahead (Renames s.log (path_at n 0) ∷ []))
          ∙ (moved_other (run (names (world q)) ahead) s.log (path_at n 0) y (member_apart s y k is) other
          ∙ (sym (ap (λ (m : Names). m y) (run_is (names (world q)) ahead)) ∙ (sym (copy.alike y k is other) ∙ sym (member_kept y k is)))))

      come : (k : ℕ) → Contains from k → HasCome s r s.log (inl refl) by_its_places c (rule_on s q r (λ r. r.count ≡ c) copy.same by_count) (names (world q)) (names_after (names (world r)) (changes_of base)) k
      come k h = (it.0, sym (behind_is (path_at n (suc k)) (pos (suc k)) (key_at s (suc k) numbers_are it.0) differ) ∙ it.1)
        where
          it : HasName n (suc k) × (run (names (world q)) (leftover_steps n c places_are ++ turn_steps n c s.log places_are) (path_at n (suc k)) ≡ names (world q) (path_at n k))
          it = came s q s.log (inl refl) by_its_places c by_count places_are from file (there_by_places n (names (world q)) s.log all none file there) next goes may k h

          differ : path_at n (suc k) ≢ path_at n 0
          differ e = let zero_is : suc k ≡ 0 = places_apart n (suc k) 0 it.0 (first_named n c places_are next) e in omega (arith, zero_is)

      leave : (k : ℕ) → Contains from k → MayLeave s r s.log (inl refl) by_its_places c (rule_on s q r (λ r. r.count ≡ c) copy.same by_count) (names (world q)) k
      leave k h = ⊎_elim (λ full. inl full) (λ old. inr (λ g is. age_on s q r g copy.same (old g is))) (may k h)

      numbers_retire : IsRotation s r 0 (reverse (retire_steps n c from) ++ base)
      numbers_retire = retires_alone s r s.log (inl refl) by_its_places c (rule_on s q r (λ r. r.count ≡ c) copy.same by_count) (names (world q)) 0 base from (tt, inr (inl aside)) (first_named n c places_are next) (falls_all from goes.falling)
          (every_from (HasCome s r s.log (inl refl) by_its_places c (rule_on s q r (λ r. r.count ≡ c) copy.same by_count) (names (world q)) (names_after (names (world r)) (changes_of base))) from come)
          (every_from (MayLeave s r s.log (inl refl) by_its_places c (rule_on s q r (λ r. r.count ≡ c) copy.same by_count) (names (world q))) from leave)

    ahead_is : ahead_of ready ≡ ahead
    ahead_is = ap ahead_of (ready_numbers s.log n c maxage clock anew all none)
        ∙ (ap (λ (xs : List Entry). xs ++ map move_step (map (move_from n) (kept c places_are))) (unlinks_at n (leftovers c places_are)) ∙ ap (λ (xs : List Entry). leftover_steps n c places_are ++ xs) (moves n (kept c places_are)))

    retire_is : unlinks ready.retire ≡ retire_steps n c from
    retire_is = ap (λ (x : Ready). unlinks x.retire) (ready_numbers s.log n c maxage clock anew all none) ∙ unlinks_at n (retired c from)

    target_is : ready.target ≡ path_at n 0
    target_is = ap (λ (x : Ready). x.target) (ready_numbers s.log n c maxage clock anew all none)

    by_numbers : HasCopy s q r (ahead_of ready) ready.target → MayRetire s r (reverse (unlinks ready.retire) ++ base)
    by_numbers copy = inl (numbers_are, subst (λ (xs : List Entry). IsRotation s r 0 (reverse xs ++ base)) (sym retire_is) (numbers_retire (subst (λ (xs : List Entry). HasCopy s q r xs (path_at n 0)) ahead_is (subst (HasCopy s q r (ahead_of ready)) target_is copy))))

  -- ---- dates

  module _ (f : Format) (is : n.dated ≡ Some f) where
    abbrev t : ℤ
    t = clock_seconds n.dated clock

    abbrev serial : ℕ
    serial = next_serial all t

    abbrev target : Path
    target = dated_target n clock all

    abbrev ranks : List Ranked
    ranks = all_by n maxage clock all

    dated : order s ≡ Dated
    dated = is_dated s f is

    at : IsDatedAt n t serial target
    at = dated_there clock s.log n c maxage anew stand family start small shown.named free f is

    st : StandSo n s.log target ranks (names (world q))
    st = stand_so s.log n (names (world q)) all target maxage clock.now.seconds t serial family file there (is_next all t) at

    no_target : NoMemberHas all target
    no_target = next_free n family.format all shown.named t serial (is_next all t) target at

    module _ (copy : HasCopy s q r [] target) where
      abbrev m : Names
      m = names_after (names (world r)) (changes_of base)

      -- a member that isn't the copy is as it was
      as_it_was : (y : Path) (k : ℤ) → s.key y ≡ Some k → y ≢ target → m y ≡ names (world q) y
      as_it_was y k key other = member_kept y k key ∙ copy.alike y k key other

      is_file : (y : Path) (k : ℤ) → s.key y ≡ Some k → IsFileAt (changed (Moves s.log target) (names (world q))) y → IsFileAt m y
      is_file y k key old = go (bytes_eq y target) refl
        where
          go : (b : Bool) → bytes_eq y target ≡ b → IsFileAt m y
          go true e = let same : y ≡ target = (bytes_eq-Decides y target).0 e in (copy.file.0, member_kept y k key ∙ (ap (names (world r)) same ∙ copy.file.1))
          go false e = let other : y ≢ target = λ (same : y ≡ target). (let yes_it_is : bytes_eq y target ≡ true = (bytes_eq-Decides y target).1 same in cc) in
              (old.0, as_it_was y k key other ∙ (sym (moved_other (names (world q)) s.log target y (member_apart s y k key) other) ∙ old.1))

      are_files : (ms : List Ranked) → AreKeyed (HasKey s) ms → AreFiles (changed (Moves s.log target) (names (world q))) ms → AreFiles m ms
      are_files [] keys old = tt
      are_files (x ∷ xs) keys old = (is_file x.path _ keys.0 old.0, are_files xs keys.1 old.1)

      -- members that are too old
      are_old : (ms : List Member) → AreNamed n ms → NoMemberHas ms target → All (WasSeen (reverse es)) ms → AreOld s r m (map (ranked maxage (world q).now) ms)
      are_old [] d none seen = tt
      are_old (x ∷ xs) d none seen =
          let day = day_of n (x ∷ xs) x (order_some n.dated dated) d (inl refl) in
          let key : s.key x.path ≡ Some (stamp_key day.0 day.1) = keyed s dated x.path day.0 day.1 day.3 in (
            (λ old g names_it. age_on s q r g copy.same
                (old_goes s p q es maxage x (stamp_key day.0 day.1) made quiet attached by_age key (All-head (WasSeen (reverse es)) x xs seen) old g (sym (as_it_was x.path (stamp_key day.0 day.1) key (λ same. none.0 (sym same))) ∙ names_it))),
            are_old xs (All-tail (λ (m : Member). IsPlaceOf n m.place m.path) x xs d) none.1 (All-tail (WasSeen (reverse es)) x xs seen),
          )

      none_later : (ms : List Ranked) → AreLaterThan s m [] ms
      none_later [] = tt
      none_later (x ∷ ms) = tt

      dates_retire : IsDatedRotationBy s r (pos 0) true (map unlink (gone c 0 ranks) ++ base)
      dates_retire = removals_rotate s r (pos 0) true c base refl (tt, inr (inl aside)) (rule_on s q r (λ r. r.count ≡ c) copy.same by_count) ranks 0 [] refl tt (none_later ranks) st.falling (all_keyed s dated ranks st.named)
          (are_files ranks (all_keyed s dated ranks st.named) st.files)
          (old_with s r m t serial target (map (ranked maxage clock.now.seconds) all) (subst (λ (now : ℤ). AreOld s r m (map (ranked maxage now) all)) now_is (are_old all shown.named no_target shown.files)))

    abbrev g : List Ranked
    g = gone c 0 ranks

    dates_is : reverse (unlinks ready.retire) ≡ map unlink g
    dates_is = ap (λ (x : Ready). reverse (unlinks x.retire)) (ready_dates s.log n c maxage clock anew all f is) ∙ (ap reverse (unlinks_of (reverse g) ∙ map_reverse unlink g) ∙ reverse-reverse (map unlink g))

    nothing_ahead : ahead_of ready ≡ []
    nothing_ahead = ap ahead_of (ready_dates s.log n c maxage clock anew all f is)

    dated_target_is : ready.target ≡ target
    dated_target_is = ap (λ (x : Ready). x.target) (ready_dates s.log n c maxage clock anew all f is)

    by_dates : HasCopy s q r (ahead_of ready) ready.target → MayRetire s r (reverse (unlinks ready.retire) ++ base)
    by_dates copy = inr (dated, subst (λ (xs : List Entry). IsDatedRetirement s r (xs ++ base)) (sym dates_is) (dates_retire (subst (λ (xs : List Entry). HasCopy s q r xs target) nothing_ahead (subst (HasCopy s q r (ahead_of ready)) dated_target_is copy))))

  pub retires_behind : HasCopy s q r (ahead_of ready) ready.target → MayRetire s r (reverse (unlinks ready.retire) ++ base)
  retires_behind copy = go n.dated refl
    where
      go : (d : Option Format) → n.dated ≡ d → MayRetire s r (reverse (unlinks ready.retire) ++ base)
      go None none = by_numbers none copy
      go (Some f) is = by_dates f is copy
