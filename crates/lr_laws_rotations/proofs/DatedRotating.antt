-- The rotation of a dated set is one, behind looks that saw its log and its members.
use Rattle.std.proofs.Common.{◌≡◌, ◌≢◌, inl, ℕ, ℤ, Bool, true, false, cond, refl, sym, ◌∙◌, subst, List, [], ◌∷◌, map, reverse, Option, Some, None, inr}
use Rattle.std.specs.Prelude.{All, int_lt, IsSome}
use Rattle.std.proofs.lemmas.List.Elements.{All-head, All-tail}
use Rattle.lr_rules.specs.declared.clock.Clock.{Clock}
use Rattle.lr_rules.specs.declared.path.Path.{Path}
use Rattle.lr_rules.specs.declared.rule.Count.{Count}
use Rattle.lr_rules.specs.declared.rule.Format.{Format}
use Rattle.lr_rules.specs.Dated.{stamp_key, IsDatedAt}
use Rattle.lr_stamps.specs.Dated.{clock_seconds}
use Rattle.lr_host.specs.declared.entry.Entry.{Entry}
use Rattle.lr_host.specs.Opening.{IsJournal}
use Rattle.lr_host.specs.Quiet.{ChangeNothing, AreQuiet}
use Rattle.lr_host.specs.Runs.{rules_of, SomeRule, has_begun}
use Rattle.lr_host.specs.Sets.{LogSet, Dated, order, order_of, IsUnplaced}
use Rattle.lr_host.specs.Steady.{NoneAttached}
use Rattle.lr_host.specs.Told.{Made}
use Rattle.lr_host.specs.World.{Names, Moves, changed, Past, world, names}
use Rattle.lr_host.proofs.Quiet.{quiet_still}
use Rattle.lr_laws.specs.Rotation.{IsPastAge}
use Rattle.lr_laws.proofs.Moves.{some_rule}
use Rattle.lr_family.specs.declared.stand.Member.{Member}
use Rattle.lr_family.specs.Places.{IsPlaceOf, AreNamed}
use Rattle.lr_laws.specs.Forward.{IsForwardFor}
use Rattle.lr_laws.specs.Stays.{RotatesDated}
use Rattle.lr_chain.specs.DatedRotation.{Ranked, key_of, dated_rotation}
use Rattle.lr_laws_rotations.proofs.DatedRemovals.{AreOld}
use Rattle.lr_laws.proofs.Moments.{moment_forward, keyed}
use Rattle.lr_chain.proofs.DatedWhole.{moved_other}
use Rattle.lr_laws_rotations.proofs.DatedRotation.{is_one}
use Rattle.lr_chain.specs.Rotation.{is_expired}
use Rattle.lr_chain.specs.Serials.{IsNext}
use Rattle.lr_chain.specs.DatedReady.{ranked, renamed, with_one, all_of}
use Rattle.lr_family.proofs.Newness.{dated_small}
use Rattle.lr_family.specs.Looks.{WasSeen}
use Rattle.lr_laws_family.specs.Shown.{SawFile, Shown}
use Rattle.lr_laws_rotations.proofs.Aged.{old_goes}
use Rattle.lr_laws_family.specs.Members.{IsNoMember, IsFamily, NoMemberHas, AreThere}
use Rattle.lr_laws_family.proofs.Stood.{file_stands}
use Rattle.lr_laws_rotations.proofs.Stamped.{day_of, next_free}
use Rattle.lr_laws_rotations.proofs.DatedStands.{is_dated, stand_so, next_serial}
use Rattle.lr_laws_rotations.proofs.SetMembers.{set_stands}

pub order_some : (d : Option Format) → order_of d ≡ Dated → IsSome d
order_some None h = absurd (cc)
order_some (Some f) h = refl

-- what the paths name once the log has its new name
abbrev moved : Path → Past → Path → Names
moved log q target = changed (Moves log target) (names (world q))

-- the members that were seen too old a rule lets go by their age then
module _ (s : LogSet) (p q : Past) (es : List Entry) (log : Path) (maxage : Option ℕ) (target : Path) (dated : order s ≡ Dated) (apart : IsNoMember s.naming log) (attached : NoneAttached s q) (made : Made p es q) (quiet : AreQuiet es) (rule : SomeRule (rules_of q) s.log (λ r. r.maxage ≡ maxage)) where
  one_old : (m : Member) (t : ℤ) (k : ℕ) → IsDatedAt s.naming t k m.path → m.path ≢ target → WasSeen (reverse es) m → is_expired maxage (world q).now m ≡ true → IsPastAge s q (moved log q target) m.path
  one_old m t k is other seen old g there = old_goes s p q es maxage m (stamp_key t k) made quiet attached rule (keyed s dated m.path t k is) seen old g
      (sym (moved_other (names (world q)) log target m.path (λ same. apart (inr (t, k, subst (IsDatedAt s.naming t k) same is))) other) ∙ there)

  all_old : (ms : List Member) → AreNamed s.naming ms → NoMemberHas ms target → All (WasSeen (reverse es)) ms → AreOld s q (moved log q target) (map (ranked maxage (world q).now) ms)
  all_old [] d none seen = tt
  all_old (m ∷ ms) d none seen =
      let day = day_of s.naming (m ∷ ms) m (order_some s.naming.dated dated) d (inl refl) in (
        one_old m day.0 day.1 day.3 (λ same. none.0 (sym same)) (All-head (WasSeen (reverse es)) m ms seen),
        all_old ms (All-tail (λ (m : Member). IsPlaceOf s.naming m.place m.path) m ms d) none.1 (All-tail (WasSeen (reverse es)) m ms seen),
      )

-- the log isn't tested
pub old_with : (s : LogSet) (p : Past) (n : Names) (t : ℤ) (serial : ℕ) (target : Path) (ms : List Ranked) → AreOld s p n ms → AreOld s p n (with_one (renamed t serial target) ms)
old_with s p n t serial target [] h = ((λ e. absurd (cc e)), tt)
old_with s p n t serial target (m ∷ ms) h = go (int_lt (key_of (renamed t serial target)) (key_of m)) (old_with s p n t serial target ms h.1)
  where
    go : (b : Bool) → AreOld s p n (with_one (renamed t serial target) ms) → AreOld s p n (cond b (m ∷ with_one (renamed t serial target) ms) (renamed t serial target ∷ m ∷ ms))
    go true r = (h.0, r)
    go false r = ((λ e. absurd (cc e)), h)

pub one_behind : (clock : Clock) (s : LogSet) (log : Path) → IsUnplaced s log → IsFamily log s.naming → (c : Count) (maxage : Option ℕ) (members : List Member) (target : Path) (serial : ℕ) (p q : Past) (es : List Entry) → IsFamily s.log s.naming → IsJournal p → NoneAttached s q → Made p es q → AreQuiet es → SawFile log (reverse es) → Shown s.naming members (reverse es)
    → IsNext members (clock_seconds s.naming.dated clock) serial → IsDatedAt s.naming (clock_seconds s.naming.dated clock) serial target → has_begun s q ≡ false → IsForwardFor clock s q → (world q).now ≡ clock.now.seconds → SomeRule (rules_of q) s.log (λ r. (r.count ≡ c) × (r.maxage ≡ maxage))
    → RotatesDated (dated_rotation c log target (all_of maxage clock.now.seconds (clock_seconds s.naming.dated clock) serial target members)) s q
one_behind clock s log on there_too c maxage members target serial p q es family journal attached made quiet saw shown next is nb forward now_is rule =
    is_one s q log on c target (all_of maxage clock.now.seconds t serial target members) t serial dated nb is
    (moment_forward s q t serial dated (forward dated) (next_serial s.naming (names (world q)) members t serial family.format there next) (dated_small s.naming t serial target is))
    (stand_so log s.naming (names (world q)) members target maxage clock.now.seconds t serial there_too (file_stands p q es made still log saw) there next is)
    (old_with s q (moved log q target) t serial target (map (ranked maxage clock.now.seconds) members) (subst (λ (now : ℤ). AreOld s q (moved log q target) (map (ranked maxage now) members)) now_is
    (all_old s p q es log maxage target dated there_too.apart attached made quiet (some_rule (rules_of q) s.log (λ r. (r.count ≡ c) × (r.maxage ≡ maxage)) (λ r. r.maxage ≡ maxage) (λ r h. h.1) rule) members shown.named none shown.files)))
    (some_rule (rules_of q) s.log (λ r. (r.count ≡ c) × (r.maxage ≡ maxage)) (λ r. r.count ≡ c) (λ r h. h.0) rule)
  where
    t : ℤ
    t = clock_seconds s.naming.dated clock

    dated : order s ≡ Dated
    dated = is_dated s is.format is.dated

    still : ChangeNothing es
    still = quiet_still es quiet

    there : AreThere s.naming (names (world q)) members
    there = set_stands s members p q es family journal attached made still shown

    none : NoMemberHas members target
    none = next_free s.naming family.format members shown.named t serial next target is
