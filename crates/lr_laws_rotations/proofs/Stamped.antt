-- Dated members by their stamps and serial numbers.
use Rattle.std.proofs.Common.{◌≡◌, ◌⊎◌, inl, inr, ℕ, ℤ, ◌<◌, true, refl, sym, ◌∙◌, ap, subst, arith, List, [], ◌∷◌}
use Rattle.std.specs.Prelude.{IsSome}
use Rattle.std.proofs.lemmas.List.Elements.{All-head, All-tail, All-contains}
use Rattle.lr_rules.specs.declared.path.Path.{Path}
use Rattle.lr_rules.specs.declared.rule.Naming.{Naming}
use Rattle.lr_rules.specs.Dated.{IsDatedAt}
use Rattle.lr_rules.specs.Limits.{is_format, or_none}
use Rattle.lr_stamps.proofs.Naming.{one_stamp_at}
use Rattle.lr_host.specs.Lists.{IsIn}
use Rattle.lr_host.proofs.Lists.{in_to}
use Rattle.lr_family.specs.declared.place.Place.{Place}
use Rattle.lr_family.specs.declared.place.Place.TheVariants as at
use Rattle.lr_family.specs.declared.stand.Member.{Member}
use Rattle.lr_family.specs.Places.{IsPlaceOf, AreNamed}
use Rattle.lr_family.proofs.Placed.{some_dated, no_number}
use Rattle.lr_chain.specs.Serials.{IsNext}
use Rattle.lr_chain.proofs.Newest.{HasOne, IsStamp, any_in}
use Rattle.lr_laws_family.specs.Members.{NoMemberHas}
use Rattle.lr_laws_family.proofs.Picking.{has_or_none}

-- a member with this place has the path of a stamp and a serial number
day_at : (n : Naming) (place : Place) (x : Path) → IsSome n.dated → IsPlaceOf n place x → (t : ℤ) × (k : ℕ) × (place ≡ at.Stamp t k) × IsDatedAt n t k x
day_at n (at.Stamp t k) x some is = (t, k, refl, is)
day_at n (at.Number p) x some is = absurd (no_number n p x some is)

pub day_of : (n : Naming) (ms : List Member) (m : Member) → IsSome n.dated → AreNamed n ms → IsIn m ms → (t : ℤ) × (k : ℕ) × (m.place ≡ at.Stamp t k) × IsDatedAt n t k m.path
day_of n [] m some d i = absurd i
day_of n (y ∷ ys) m some d (inl same) = subst (λ (v : Member). (t : ℤ) × (k : ℕ) × (v.place ≡ at.Stamp t k) × IsDatedAt n t k v.path) same (day_at n y.place y.path some (All-head (λ (m : Member). IsPlaceOf n m.place m.path) y ys d))
day_of n (y ∷ ys) m some d (inr i) = day_of n ys m some (All-tail (λ (m : Member). IsPlaceOf n m.place m.path) y ys d) i

one_of : (P : Member → Type 0) (ms : List Member) (m : Member) → IsIn m ms → P m → HasOne P ms
one_of P [] m i p = i
one_of P (y ∷ ys) m (inl same) p = inl (subst P (sym same) p)
one_of P (y ∷ ys) m (inr i) p = inr (one_of P ys m i p)

of_one : (P : Member → Type 0) (ms : List Member) → HasOne P ms → (m : Member) × IsIn m ms × P m
of_one P [] h = absurd h
of_one P (y ∷ ys) (inl p) = (y, inl refl, p)
of_one P (y ∷ ys) (inr h) = let r = of_one P ys h in (r.0, inr r.1, r.2)

module _ (n : Naming) (good : or_none is_format n.dated ≡ true) (ms : List Member) (dated : AreNamed n ms) (t : ℤ) (serial : ℕ) (next : IsNext ms t serial) where
  -- a member with the moment has a lower serial number
  pub lower : (m : Member) (k : ℕ) (x : Path) → IsIn m ms → m.path ≡ x → IsDatedAt n t k x → k < serial
  lower m k x i e is =
      let d = day_of n ms m (some_dated n t k x is) dated i in
      let s = one_stamp_at n d.0 t d.1 k x good (subst (IsDatedAt n d.0 d.1) e d.3) is in
      next.above k (any_in (IsStamp t k) ms (one_of (IsStamp t k) ms m i (d.2 ∙ (ap (λ (u : ℤ). at.Stamp u d.1) s.0 ∙ ap (at.Stamp t) s.1))))

  -- none has the path of the serial number that comes next
  pub next_free : (x : Path) → IsDatedAt n t serial x → NoMemberHas ms x
  next_free x is = go (has_or_none x ms)
    where
      go : ((m : Member) × IsIn m ms × (m.path ≡ x)) ⊎ NoMemberHas ms x → NoMemberHas ms x
      go (inl h) = let lt = lower h.0 serial x h.1 h.2 is in absurd (omega (arith, lt))
      go (inr none) = none

  -- one of those with this stamp and serial number
  pub stamped : (k : ℕ) → HasOne (IsStamp t k) ms → (m : Member) × IsIn m ms × IsDatedAt n t k m.path
  stamped k h =
      let r = of_one (IsStamp t k) ms h in
      (r.0, r.1, subst (λ (p : Place). IsPlaceOf n p r.0.path) r.2 (All-contains (λ (m : Member). IsPlaceOf n m.place m.path) ms r.0 dated (in_to r.0 ms r.1)))
