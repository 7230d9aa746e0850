-- A whole dated rotation: it is one of its set, and aside of others.
use Rattle.std.proofs.Common.{◌≡◌, inl, inr, ℕ, suc, Bool, true, false, cond, ◌||◌, refl, sym, ap, subst, Option, Some, is_some, List, [], ◌∷◌, map, ℤ}
use Rattle.lr_rules.specs.declared.path.Path.{Path}
use Rattle.lr_rules.specs.declared.rule.Count.{Count}
use Rattle.lr_rules.specs.declared.rule.Naming.{Naming}
use Rattle.lr_rules.specs.Names.{the_log, a_member, IsName, Meet}
use Rattle.lr_rules.specs.Dated.{stamp_key, IsDatedAt}
use Rattle.lr_stamps.proofs.StampShapes.{dated_shape}
use Rattle.lr_host.specs.declared.entry.Entry.TheVariants.{Renames}
use Rattle.lr_host.specs.Forward.{IsForward}
use Rattle.lr_host.specs.Runs.{rules_of, SomeRule, has_begun}
use Rattle.lr_host.specs.Sets.{LogSet, Dated, order, IsUnplaced}
use Rattle.lr_host.specs.Told.{Each}
use Rattle.lr_host.specs.Fits.{IsFileAt}
use Rattle.lr_host.specs.World.{Names, Moves, changed, Past, world, names}
use Rattle.lr_host.proofs.Each.{each_reverse}
use Rattle.lr_laws.specs.Rotation.{IsAside, IsTurn, straight, taken_up}
use Rattle.lr_laws.proofs.Moments.{keyed}
use Rattle.lr_laws.proofs.Outside.{apart_outside}
use Rattle.lr_laws.specs.Stays.{RotatesDated}
use Rattle.lr_chain.specs.DatedRotation.{Ranked, gone, unlink, AreDatedAt, dated_rotation}
use Rattle.lr_chain.specs.Rotation.{is_left}
use Rattle.lr_laws.specs.DatedRotation.{IsDatedRotation}
use Rattle.lr_chain.specs.DatedTurning.{StandSo}
use Rattle.lr_laws_rotations.proofs.DatedRemovals.{AreOld, HasKey, AreLaterThan, removals_rotate}
use Rattle.lr_chain.proofs.DatedFalling.{AreKeyed}
use Rattle.lr_chain.proofs.DatedWhole.{steps_are}

-- ---- they are one rotation

pub all_keyed : (s : LogSet) → order s ≡ Dated → (ms : List Ranked) → AreDatedAt s.naming ms → AreKeyed (HasKey s) ms
all_keyed s dated [] h = tt
all_keyed s dated (m ∷ ms) h = (keyed s dated m.path m.seconds m.serial h.0, all_keyed s dated ms h.1)

-- what turns is the log, or what waits
turns_so : (s : LogSet) (m : Names) (newest : ℤ) (log to : Path) → IsUnplaced s log → IsFileAt m log → s.key to ≡ Some newest → IsTurn s m newest log to
turns_so s m newest log to (inl at_log) file is = straight at_log is
turns_so s m newest log to (inr waits) file is = taken_up waits file is

pub is_one : (s : LogSet) (p : Past) (log : Path) → IsUnplaced s log → (c : Count) (target : Path) (all : List Ranked) (seconds : ℤ) (serial : ℕ) → order s ≡ Dated → has_begun s p ≡ false → IsDatedAt s.naming seconds serial target → IsForward s p (stamp_key seconds serial)
    → StandSo s.naming log target all (names (world p)) → AreOld s p (changed (Moves log target) (names (world p))) all → SomeRule (rules_of p) s.log (λ r. r.count ≡ c) → RotatesDated (dated_rotation c log target all) s p
is_one s p log on c target all seconds serial dated nb at forward st old rule = record {
  dated = dated;
  not_begun = nb;
  newest = stamp_key seconds serial;
  forward = forward;
  rotation = subst (IsDatedRotation s p (stamp_key seconds serial)) (sym (steps_are c log target all))
      (removals_rotate s p (stamp_key seconds serial) false c (Renames log target ∷ []) turned (tt, inr (refl, st.free, turns_so s (names (world p)) (stamp_key seconds serial) log target on st.log_file (keyed s dated target seconds serial at))) rule all 0 [] refl tt (none_later all) st.falling (all_keyed s dated all st.named) st.files old);
}
  where
    turned : (is_some (s.key target) || false) ≡ true
    turned = ap (λ (o : Option ℤ). is_some o || false) (keyed s dated target seconds serial at)

    none_later : (ms : List Ranked) → AreLaterThan s (changed (Moves log target) (names (world p))) [] ms
    none_later [] = tt
    none_later (x ∷ ms) = tt

-- ---- they lie aside of other sets

dated_name : (log : Path) (n : Naming) (t : ℤ) (k : ℕ) (x : Path) → IsDatedAt n t k x → IsName log n x
dated_name log n t k x m = let h = dated_shape n t k x m in inl (a_member h.0 h.1 h.2)

unlinks_aside : (s : LogSet) (log : Path) (n : Naming) (c : Count) (i : ℕ) (ms : List Ranked) → (Meet s.log s.naming log n → ⊥) → AreDatedAt n ms → Each (IsAside s) (map unlink (gone c i ms))
unlinks_aside s log n c i [] apart h = tt
unlinks_aside s log n c i (m ∷ ms) apart h = go (is_left c i || m.old) (unlinks_aside s log n c (suc i) ms apart h.1)
  where
    go : (b : Bool) → Each (IsAside s) (map unlink (gone c (suc i) ms)) → Each (IsAside s) (map unlink (cond b (m ∷ gone c (suc i) ms) (gone c (suc i) ms)))
    go true r = (apart_outside s log n m.path apart (dated_name log n m.seconds m.serial m.path h.0), r)
    go false r = r

pub is_aside : (s : LogSet) (log : Path) (n : Naming) (c : Count) (target : Path) (all : List Ranked) (seconds : ℤ) (serial : ℕ) → (Meet s.log s.naming log n → ⊥) → IsDatedAt n seconds serial target → AreDatedAt n all
    → Each (IsAside s) (dated_rotation c log target all)
is_aside s log n c target all seconds serial apart t h = (
  (apart_outside s log n log apart (inl (the_log refl)), apart_outside s log n target apart (dated_name log n seconds serial target t)),
  each_reverse (IsAside s) (map unlink (gone c 0 all)) (unlinks_aside s log n c 0 all apart h),
)
