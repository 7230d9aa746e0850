-- The rotation of a log's plan is one of the family: that of its members' places, or that to the clock's stamp.
use Rattle.std.proofs.Common.{◌≡◌, refl, sym, ◌∙◌, ap, subst, ℕ, ℤ, List, [], ◌∷◌, map, reverse, Option, Some, None}
use Rattle.lr_rules.specs.declared.clock.Clock.{Clock}
use Rattle.lr_rules.specs.declared.path.Path.{Path}
use Rattle.lr_rules.specs.declared.rule.Format.{Format}
use Rattle.lr_rules.specs.declared.rule.Naming.{Naming}
use Rattle.lr_stamps.specs.Dated.{clock_seconds}
use Rattle.lr_family.specs.declared.stand.Member.{Member}
use Rattle.lr_family.specs.Spots.{path_at}
use Rattle.lr_chain.specs.declared.ready.Move.{Move}
use Rattle.lr_chain.specs.declared.ready.Ready.{Ready}
use Rattle.lr_chain.specs.Prepared.{numbered_ready}
use Rattle.lr_chain.specs.Ready.{removal_at, with_dir}
use Rattle.lr_chain.specs.Rotation.{places_of, leftovers, retired, going}
use Rattle.lr_chain.specs.Serials.{next_serial}
use Rattle.lr_chain.specs.DatedRotation.{Ranked, gone}
use Rattle.lr_chain.specs.DatedReady.{removal_of, dated_ready, dated_target, all_by}
use Rattle.lr_laws_rotations.specs.Target.{Target, source_of}
use Rattle.lr_chain.proofs.DatedOrder.{all_dated}
use Rattle.lr_chain.proofs.Either.{ready_numbers, ready_dates, hinders_numbers, free_there, target_at}
use Rattle.lr_chain.proofs.Going.{going_are}
use Rattle.lr_laws_rotations.specs.Apart.{HasNames}
use Rattle.lr_laws_rotations.proofs.Way.{source_apart}
use Rattle.lr_laws_family.specs.Dated.{dated}
use Rattle.lr_laws_family.specs.Numbered.{numbered}
use Rattle.lr_laws_family.specs.Turned.{IsFamilyRotation}
use Rattle.lr_laws_family.proofs.Dates.{dated_is_one}
use Rattle.lr_laws_family.proofs.Numbers.{rising, numbered_is_one}
use Rattle.lr_laws_family.specs.Rotation.{Rotation, By}
use Rattle.lr_laws_rotations.proofs.Ready.{have_next}
use Rattle.lr_laws_rotations.specs.Rotation.{by_of, removal_paths, rotation_by}
use Rattle.lr_chain.proofs.Serials.{is_next}
use Rattle.lr_laws_rotations.proofs.Stamped.{next_free}

-- a rotation by its parts
abbrev with_parts : Path → List Member → By → Path → List Path → List Move → Path → List Path → Rotation
with_parts log stood by source early moves target gone = record { log = log; source = source; stood = stood; early = early; moves = moves; target = target; gone = gone; by = by }

same_parts : (log : Path) (stood : List Member) (by : By) {a a' : Path} {b b' : List Path} {c c' : List Move} {d d' : Path} {e e' : List Path} → a ≡ a' → b ≡ b' → c ≡ c' → d ≡ d' → e ≡ e'
    → with_parts log stood by a b c d e ≡ with_parts log stood by a' b' c' d' e'
same_parts log stood by {a} {a'} {b} {b'} {c} {c'} {d} {d'} {e} {e'} p q r s t =
    ap (λ x. with_parts log stood by x b c d e) p ∙ (ap (λ x. with_parts log stood by a' x c d e) q ∙ (ap (λ x. with_parts log stood by a' b' x d e) r ∙ (ap (λ x. with_parts log stood by a' b' c' x e) s ∙ ap (λ x. with_parts log stood by a' b' c' d' x) t)))

removals_at : (n : Naming) (ks : List ℕ) → removal_paths (map (removal_at n) ks) ≡ map (path_at n) ks
removals_at n [] = refl
removals_at n (k ∷ ks) = ap (λ xs. path_at n k ∷ xs) (removals_at n ks)

removals_of : (ms : List Ranked) → removal_paths (map removal_of ms) ≡ map (λ (m : Ranked). m.path) ms
removals_of [] = refl
removals_of (m ∷ ms) = ap (λ xs. m.path ∷ xs) (removals_of ms)

pub by_places : (t : Target) (clock : Clock) → with_dir None t.ready ≡ numbered_ready t.ready.log t.naming t.count t.maxage clock.now.seconds t.ready.make t.stand.members
    → rotation_by t ≡ numbered t.naming t.count (going t.count t.maxage clock.now.seconds t.stand.members) t.stand.members t.log (source_of t) (by_of t.job t.aside)
by_places t clock is = same_parts t.log t.stand.members (by_of t.job t.aside)
    refl (ap (λ (r : Ready). removal_paths r.leftovers) is ∙ removals_at t.naming (leftovers t.count (places_of t.stand.members))) (ap (λ (r : Ready). r.moves) is) (ap (λ (r : Ready). r.target) is)
    (ap (λ (r : Ready). removal_paths r.retire) is ∙ removals_at t.naming (retired t.count (going t.count t.maxage clock.now.seconds t.stand.members)))

pub by_stamps : (t : Target) (clock : Clock) → with_dir None t.ready ≡ dated_ready t.ready.log t.naming t.count t.maxage clock t.ready.make t.stand.members
    → rotation_by t ≡ dated t.count (all_by t.naming t.maxage clock t.stand.members) t.stand.members t.log (source_of t) (dated_target t.naming clock t.stand.members) (by_of t.job t.aside)
by_stamps t clock is = same_parts t.log t.stand.members (by_of t.job t.aside)
    refl (ap (λ (r : Ready). removal_paths r.leftovers) is) (ap (λ (r : Ready). r.moves) is) (ap (λ (r : Ready). r.target) is)
    (ap (λ (r : Ready). removal_paths r.retire) is ∙ removals_of (reverse (gone t.count 0 (all_by t.naming t.maxage clock t.stand.members))))

-- ---- it is one of the family

module _ (t : Target) (h : HasNames t) where
  abbrev n : Naming
  n = t.naming

  abbrev members : List Member
  members = t.stand.members

  abbrev now : ℤ
  now = h.clock.now.seconds

  of_numbers : n.dated ≡ None → IsFamilyRotation n (rotation_by t)
  of_numbers none = subst (IsFamilyRotation n) (sym (by_places t h.clock (h.ready ∙ ready_numbers t.ready.log n t.count t.maxage h.clock t.ready.make members none)))
      (numbered_is_one n t.count (going t.count t.maxage now members) members t.log (source_of t) (by_of t.job t.aside) h.family none (source_apart t h) h.named
      (have_next n t.count members none h.start h.count h.named (sym (hinders_numbers n t.count h.clock t.stand none (free_there n t.count h.clock t.stand h.free)) ∙ h.free))
      (going_are t.count t.maxage now members (rising n none members h.named h.newest_first)))

  of_dates : (f : Format) → n.dated ≡ Some f → IsFamilyRotation n (rotation_by t)
  of_dates f is =
      let at = target_at n t.count h.clock t.stand h.free f is h.family.format h.named in
      subst (IsFamilyRotation n) (sym (by_stamps t h.clock (h.ready ∙ ready_dates t.ready.log n t.count t.maxage h.clock t.ready.make members f is)))
      (dated_is_one n t.count (all_by n t.maxage h.clock members) members t.log (source_of t) (dated_target n h.clock members) (by_of t.job t.aside) (clock_seconds n.dated h.clock) (next_serial members (clock_seconds n.dated h.clock)) at (source_apart t h)
      (next_free n h.family.format members h.named (clock_seconds n.dated h.clock) (next_serial members (clock_seconds n.dated h.clock)) (is_next members (clock_seconds n.dated h.clock)) (dated_target n h.clock members) at)
      (all_dated n t.maxage now (clock_seconds n.dated h.clock) (next_serial members (clock_seconds n.dated h.clock)) (dated_target n h.clock members) members h.named at))

  pub plan_is_one : IsFamilyRotation t.naming (rotation_by t)
  plan_is_one = go t.naming.dated refl
    where
      go : (d : Option Format) → t.naming.dated ≡ d → IsFamilyRotation t.naming (rotation_by t)
      go None is = of_numbers is
      go (Some format) is = of_dates format is
