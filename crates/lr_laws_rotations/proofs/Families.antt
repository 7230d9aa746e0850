-- The rotation of a family that nothing hinders, be its names numbers or dates: it fits, is one of its set, and lies aside of others.
use Rattle.std.proofs.Common.{◌≡◌, inl, inr, ℕ, ◌≤◌, false, refl, sym, ap, ◌∙◌, subst, List, [], reverse, Option, Some, None, ℤ}
use Rattle.std.specs.Prelude.{Contains}
use Rattle.std.proofs.lemmas.List.Elements.{All-weaker, All-contains_itself}
use Rattle.lr_rules.specs.declared.clock.Clock.{Clock}
use Rattle.lr_rules.specs.declared.path.Path.{Path}
use Rattle.lr_rules.specs.declared.rule.Count.{Count}
use Rattle.lr_rules.specs.declared.rule.Format.{Format}
use Rattle.lr_rules.specs.declared.rule.Make.{Make}
use Rattle.lr_rules.specs.declared.rule.Naming.{Naming}
use Rattle.lr_rules.specs.Dated.{IsDatedAt}
use Rattle.lr_rules.specs.Names.{Meet}
use Rattle.lr_rules.specs.Limits.{IsCount}
use Rattle.lr_stamps.specs.Dated.{clock_seconds}
use Rattle.lr_host.specs.declared.entry.Entry.{Entry}
use Rattle.lr_host.specs.Fits.{IsFileAt, IsDirectoryAt}
use Rattle.lr_host.specs.Opening.{IsJournal}
use Rattle.lr_host.specs.Quiet.{AreQuiet}
use Rattle.lr_host.specs.Runs.{rules_of, SomeRule, has_begun}
use Rattle.lr_host.specs.Safe.{IsSafe}
use Rattle.lr_host.specs.Sets.{LogSet, IsUnplaced}
use Rattle.lr_host.specs.Steady.{NoneAttached}
use Rattle.lr_host.specs.Steps.{FitAll}
use Rattle.lr_host.specs.Told.{Each, Made}
use Rattle.lr_host.specs.World.{Names, Past, world, names}
use Rattle.lr_host.proofs.Quiet.{quiet_still}
use Rattle.lr_laws.specs.Forward.{IsForwardFor}
use Rattle.lr_laws.specs.Rotation.{IsAside}
use Rattle.lr_laws.specs.Stays.{Rotates, RotatesDated, RotatesSet}
use Rattle.lr_laws.proofs.Moves.{some_rule}
use Rattle.lr_family.specs.declared.stand.Member.{Member}
use Rattle.lr_family.specs.declared.stand.Stand.{Stand}
use Rattle.lr_family.specs.Parts.{IsMember}
use Rattle.lr_family.specs.Places.{AreNamed}
use Rattle.lr_chain.specs.declared.ready.Ready.{Ready}
use Rattle.lr_chain.specs.DatedReady.{dated_target, all_by}
use Rattle.lr_chain.specs.DatedRotation.{dated_rotation}
use Rattle.lr_chain.specs.Hindrances.{what_hinders}
use Rattle.lr_chain.specs.Prepared.{ready_of}
use Rattle.lr_chain.specs.Ready.{ready_steps as all_steps}
use Rattle.lr_chain.specs.Rotation.{places_of, going, rotation}
use Rattle.lr_chain.specs.Serials.{next_serial}
use Rattle.lr_chain.specs.Standing.{StandSo}
use Rattle.lr_chain.specs.WhereTheyStand.{StandBy}
use Rattle.lr_chain.proofs.DatedOrder.{all_dated}
use Rattle.lr_chain.proofs.Either.{ready_numbers, ready_dates, hinders_numbers, free_there, free_numbers, target_at}
use Rattle.lr_chain.proofs.Going.{going_are}
use Rattle.lr_chain.proofs.ReadyTurns.{steps_numbers as all_numbers, steps_by as all_dates, ready_fits}
use Rattle.lr_chain.proofs.Serials.{is_next}
use Rattle.lr_laws_family.specs.Members.{IsFamily, AreThere}
use Rattle.lr_laws_family.specs.Numbered.{HasName, HaveNextNames}
use Rattle.lr_laws_family.specs.Shown.{SawFile, Shown}
use Rattle.lr_laws_family.proofs.Directory.{parent_in}
use Rattle.lr_laws_family.proofs.Numbers.{own_at, rising, names_of, member_at, at_number, stand_so, first_named}
use Rattle.lr_laws_family.proofs.Picking.{named_all}
use Rattle.lr_laws_family.proofs.Stood.{file_stands}
use Rattle.lr_laws_rotations.specs.Steps.{bare_steps}
use Rattle.lr_laws_rotations.proofs.Aged.{may_go}
use Rattle.lr_laws_rotations.proofs.DatedRotating.{one_behind}
use Rattle.lr_laws_rotations.proofs.DatedRotation.{is_aside}
use Rattle.lr_laws_rotations.proofs.DatedStands.{stand_so as dated_so}
use Rattle.lr_laws_rotations.proofs.Ready.{have_next, gone_named}
use Rattle.lr_laws_rotations.proofs.Outside.{lies_aside}
use Rattle.lr_laws_rotations.proofs.Places as places
use Rattle.lr_laws_rotations.proofs.SetMembers.{set_stands}
use Rattle.lr_laws_rotations.proofs.Steps.{steps_numbers, steps_dates}
use Rattle.lr_laws_rotations.proofs.Turning.{is_one}

-- ---- a family of numbers by its places

pub by_places : (log : Path) (n : Naming) → n.dated ≡ None → IsFamily log n → places.IsFamily log n
by_places log n none family = record { numbered = none; kin = family.kin; dir = family.dir }

pub there_by_places : (n : Naming) (m : Names) (log : Path) (members : List Member) → n.dated ≡ None → IsFileAt m log → AreThere n m members → places.AreThere n m (places_of members)
there_by_places n m log members none file there = record {
  falling = so.falling;
  named = All-weaker (Contains (places_of members)) (HasName n) named (places_of members) (All-contains_itself (places_of members));
  files = so.members;
  others = so.others;
}
  where
    so : StandSo log n (places_of members) m
    so = stand_so n none log m members file there

    named : (place : ℕ) → Contains (places_of members) place → HasName n place
    named place c = let h = member_at n none members place c in subst (HasName n) h.2 (at_number n none h.0.place h.0.path (named_all n members h.0 there.named h.1)).0

module _ (clock : Clock) (log : Path) (n : Naming) (c : Count) (maxage : Option ℕ) (anew : Make) (stand : Stand) (family : IsFamily log n) (start : n.start ≤ 999999) (small : IsCount c) (named : AreNamed n stand.members) (free : what_hinders n c clock stand ≡ []) where
  abbrev members : List Member
  members = stand.members

  abbrev ready : Ready
  ready = ready_of log n c maxage clock anew stand.members

  abbrev t : ℤ
  t = clock_seconds n.dated clock

  -- the target of dates is that of the clock's stamp
  pub dated_there : (f : Format) → n.dated ≡ Some f → IsDatedAt n (clock_seconds n.dated clock) (next_serial stand.members (clock_seconds n.dated clock)) (dated_target n clock stand.members)
  dated_there f is = target_at n c clock stand free f is family.format named

  pub next_places : n.dated ≡ None → HaveNextNames n c (places_of stand.members)
  next_places none = have_next n c stand.members none start small named (sym (hinders_numbers n c clock stand none (free_there n c clock stand free)) ∙ free)

  -- ---- its steps fit

  -- it is a member's
  pub target_member : IsMember n (ready_of log n c maxage clock anew stand.members).target
  target_member = go n.dated refl
    where
      go : (d : Option Format) → n.dated ≡ d → IsMember n ready.target
      go None none = subst (λ (r : Ready). IsMember n r.target) (sym (ready_numbers log n c maxage clock anew members none)) (own_at n none 0 (first_named n c (places_of members) (next_places none)))
      go (Some f) is = subst (λ (r : Ready). IsMember n r.target) (sym (ready_dates log n c maxage clock anew members f is)) (inr (t, next_serial members t, dated_there f is))

  fits : (m : Names) → IsFileAt m log → IsDirectoryAt m n.dir → AreThere n m stand.members → FitAll m (reverse (bare_steps (ready_of log n c maxage clock anew stand.members)))
  fits m file dir there = subst (λ (es : List Entry). FitAll m (reverse es)) (same n.dated refl)
      (ready_fits log n c maxage clock anew members family.kin start small named (free_numbers n c clock stand free) family.format family.dir m (ap m (parent_in log n ready.target family target_member) ∙ dir) (go n.dated refl))
    where
      same : (d : Option Format) → n.dated ≡ d → all_steps ready ≡ bare_steps ready
      same None none = all_numbers log n c maxage clock anew members none ∙ sym (steps_numbers log n c maxage clock anew members none)
      same (Some f) is = all_dates log n c maxage clock anew members f is ∙ sym (steps_dates log n c maxage clock anew members f is)

      go : (d : Option Format) → n.dated ≡ d → StandBy d log n maxage clock members m
      go None none = stand_so n none log m members file there
      go (Some f) is = dated_so log n m members (dated_target n clock members) maxage clock.now.seconds t (next_serial members t) family file there (is_next members t) (dated_there f is)

  -- ---- they lie aside of sets that the log's doesn't meet

  lies_apart : (s : LogSet) → (Meet s.log s.naming log n → ⊥) → Each (IsAside s) (bare_steps (ready_of log n c maxage clock anew stand.members))
  lies_apart s apart = go n.dated refl
    where
      go : (d : Option Format) → n.dated ≡ d → Each (IsAside s) (bare_steps ready)
      go None none = subst (Each (IsAside s)) (sym (steps_numbers log n c maxage clock anew members none))
          (lies_aside s log n none apart c (places_of members) (going c maxage clock.now.seconds members) (names_of n none members named) (next_places none) (gone_named n c maxage clock.now.seconds members none (next_places none)))
      go (Some f) is = subst (Each (IsAside s)) (sym (steps_dates log n c maxage clock anew members f is))
          (is_aside s log n c (dated_target n clock members) (all_by n maxage clock members) t (next_serial members t) apart (dated_there f is)
          (all_dated n maxage clock.now.seconds t (next_serial members t) (dated_target n clock members) members named (dated_there f is)))

-- ---- they are one rotation of the set

module _ (clock : Clock) (s : LogSet) (log : Path) (on : IsUnplaced s log) (there_too : IsFamily log s.naming) (c : Count) (maxage : Option ℕ) (anew : Make) (stand : Stand) (p q : Past) (es : List Entry) (family : IsFamily s.log s.naming) (start : s.naming.start ≤ 999999) (small : IsCount c) (journal : IsJournal p) (attached : NoneAttached s q) (made : Made p es q)
    (quiet : AreQuiet es) (saw : SawFile log (reverse es)) (shown : Shown s.naming stand.members (reverse es)) (free : what_hinders s.naming c clock stand ≡ []) (not_begun : has_begun s q ≡ false) (now_is : (world q).now ≡ clock.now.seconds)
    (rule : SomeRule (rules_of q) s.log (λ r. (r.count ≡ c) × (r.maxage ≡ maxage))) where
  abbrev n : Naming
  n = s.naming

  abbrev all : List Member
  all = stand.members

  by_count : SomeRule (rules_of q) s.log (λ r. r.count ≡ c)
  by_count = some_rule (rules_of q) s.log (λ r. (r.count ≡ c) × (r.maxage ≡ maxage)) (λ r. r.count ≡ c) (λ r h. h.0) rule

  by_age : SomeRule (rules_of q) s.log (λ r. r.maxage ≡ maxage)
  by_age = some_rule (rules_of q) s.log (λ r. (r.count ≡ c) × (r.maxage ≡ maxage)) (λ r. r.maxage ≡ maxage) (λ r h. h.1) rule

  by_numbers : IsSafe s q → n.dated ≡ None → Rotates (rotation n c log (places_of all) (going c maxage clock.now.seconds all)) s q
  by_numbers safe none = is_one s q log on c (places_of all) (going c maxage clock.now.seconds all) (by_places log n none there_too) file (there_by_places n (names (world q)) log all none file there)
      (next_places clock log n c maxage anew stand there_too start small shown.named free none) (going_are c maxage clock.now.seconds all (rising n none all there.named there.newest_first))
      (subst (λ (now : ℤ). places.MayGo s q c (going c maxage now all)) now_is (may_go s p q es c maxage all none made quiet attached by_age shown)) not_begun safe by_count
    where
      file : IsFileAt (names (world q)) log
      file = file_stands p q es made (quiet_still es quiet) log saw

      there : AreThere n (names (world q)) all
      there = set_stands s all p q es family journal attached made (quiet_still es quiet) shown

  by_dates : IsForwardFor clock s q → (f : Format) → n.dated ≡ Some f → RotatesDated (dated_rotation c log (dated_target n clock all) (all_by n maxage clock all)) s q
  by_dates forward f is = one_behind clock s log on there_too c maxage all (dated_target n clock all) (next_serial all (clock_seconds n.dated clock)) p q es family journal attached made quiet saw shown
      (is_next all (clock_seconds n.dated clock)) (dated_there clock log n c maxage anew stand there_too start small shown.named free f is) not_begun forward now_is rule

  rotates : IsSafe s q → IsForwardFor clock s q → RotatesSet (bare_steps (ready_of log s.naming c maxage clock anew stand.members)) s q
  rotates safe forward = go n.dated refl
    where
      go : (d : Option Format) → n.dated ≡ d → RotatesSet (bare_steps (ready_of log n c maxage clock anew all)) s q
      go None none = inl (subst (λ (steps : List Entry). Rotates steps s q) (sym (steps_numbers log n c maxage clock anew all none)) (by_numbers safe none))
      go (Some f) is = inr (subst (λ (steps : List Entry). RotatesDated steps s q) (sym (steps_dates log n c maxage clock anew all f is)) (by_dates forward f is))

-- ---- the laws

pub family_fits : (clock : Clock) (m : Names) (log : Path) (n : Naming) (c : Count) (maxage : Option ℕ) (anew : Make) (stand : Stand) → IsFamily log n → n.start ≤ 999999 → IsCount c → IsFileAt m log → IsDirectoryAt m n.dir → AreThere n m stand.members → what_hinders n c clock stand ≡ []
    → FitAll m (reverse (bare_steps (ready_of log n c maxage clock anew stand.members)))
family_fits clock m log n c maxage anew stand family start small file dir there free = fits clock log n c maxage anew stand family start small there.named free m file dir there

pub family_is_one : (clock : Clock) (s : LogSet) (log : Path) → IsUnplaced s log → IsFamily log s.naming → (c : Count) (maxage : Option ℕ) (anew : Make) (stand : Stand) (p q : Past) (es : List Entry) → IsFamily s.log s.naming → s.naming.start ≤ 999999 → IsCount c → IsJournal p → NoneAttached s q → Made p es q → AreQuiet es
    → SawFile log (reverse es) → Shown s.naming stand.members (reverse es) → what_hinders s.naming c clock stand ≡ [] → has_begun s q ≡ false → IsSafe s q → IsForwardFor clock s q → (world q).now ≡ clock.now.seconds
    → SomeRule (rules_of q) s.log (λ r. (r.count ≡ c) × (r.maxage ≡ maxage)) → RotatesSet (bare_steps (ready_of log s.naming c maxage clock anew stand.members)) s q
family_is_one clock s log on there_too c maxage anew stand p q es family start small journal attached made quiet saw shown free not_begun safe forward now_is rule =
    rotates clock s log on there_too c maxage anew stand p q es family start small journal attached made quiet saw shown free not_begun now_is rule safe forward

pub family_is_aside : (clock : Clock) (s : LogSet) (log : Path) (n : Naming) (c : Count) (maxage : Option ℕ) (anew : Make) (stand : Stand) → IsFamily log n → n.start ≤ 999999 → IsCount c → AreNamed n stand.members → what_hinders n c clock stand ≡ [] → (Meet s.log s.naming log n → ⊥)
    → Each (IsAside s) (bare_steps (ready_of log n c maxage clock anew stand.members))
family_is_aside clock s log n c maxage anew stand family start small named free apart = lies_apart clock log n c maxage anew stand family start small named free s apart
