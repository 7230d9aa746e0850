-- The names of members: which place each has.
use Rattle.std.proofs.Common.{◌≡◌, inl, inr, ⊎_elim, ℕ, ℤ, ◌+◌, true, List, ◌∷◌, ◌++◌, Option, Some, None, refl, sym, ap, ◌∙◌, subst, append_assoc, ◌≤◌, arith}
use Rattle.std.specs.Prelude.{◌↔◌, MatchOption, decimal}
use Rattle.std.specs.Option.{is_some}
use Rattle.lr_rules.specs.declared.path.Path.{Path}
use Rattle.lr_rules.specs.declared.rule.Format.{Format}
use Rattle.lr_rules.specs.declared.rule.Naming.{Naming}
use Rattle.lr_rules.specs.Dated.{IsDatedAt}
use Rattle.lr_rules.specs.Path.{joined}
use Rattle.lr_rules.specs.Names.{IsMemberAt, IsMiddleShape, IsOwnName, a_member}
use Rattle.lr_rules.proofs.Digits.{decimal_run}
use Rattle.lr_stamps.specs.Dated.{IsNamedBy}
use Rattle.lr_stamps.proofs.Members.{by_path}
use Rattle.lr_stamps.proofs.StampShapes.{dated_shape}
use Rattle.lr_family.specs.declared.place.Place.{Place}
use Rattle.lr_family.specs.declared.place.Place.TheVariants as at
use Rattle.lr_family.specs.Named.{IsNamedAt}
use Rattle.lr_family.specs.Parts.{IsDated, IsMember}
use Rattle.lr_family.specs.Places.{IsPlaceOf}
use Rattle.lr_family.proofs.Unique.{as_named}

pub no_format : {f : Format} (d : Option Format) → d ≡ None → d ≡ Some f → ⊥
no_format d p q = cc

-- what stands at a place is a member
pub placed_member : (n : Naming) (p : Place) (x : Path) → IsPlaceOf n p x → IsMember n x
placed_member n (at.Number place) x m = inl (m.0, (place, m.1))
placed_member n (at.Stamp seconds serial) x m = inr (seconds, serial, m)

-- a member stands in the directory, and its name begins with the base
pub member_begins : (n : Naming) (x : Path) → IsMember n x → (rest : List ℕ) × (x ≡ joined n.dir (n.base ++ rest))
member_begins n x (inl a) = (46 ∷ (decimal (n.start + a.1.0) ++ n.ext), a.1.1.named ∙ ap (joined n.dir) (append_assoc n.base (46 ∷ decimal (n.start + a.1.0)) n.ext))
member_begins n x (inr b) = (b.2.middle ++ n.ext, b.2.named ∙ ap (joined n.dir) (append_assoc n.base b.2.middle n.ext))

-- ---- what is read of a name

pub not_numbered : (n : Naming) (name : List ℕ) → n.dated ≡ None → ((place : ℕ) → IsNamedAt n place name → ⊥) → IsMember n (joined n.dir name) → ⊥
not_numbered n name d h m = ⊎_elim (λ a. h a.1.0 (as_named n a.1.0 (joined n.dir name) name refl a.1.1)) (λ (b : IsDated n (joined n.dir name)). no_format n.dated d b.2.dated) m

abbrev pub Reads : Naming → Format → List ℕ → Option (ℤ × ℕ) → Type 0
Reads n f name r = (t : ℤ) (k : ℕ) → (r ≡ Some (t, k)) ↔ IsNamedBy n f t k name

pub stamped : (n : Naming) (f : Format) (name : List ℕ) (r : Option (ℤ × ℕ)) (t v : ℤ) (k : ℕ) → n.dated ≡ Some f → Reads n f name r → r ≡ Some (t, k) → v ≡ t → IsPlaceOf n (at.Stamp v k) (joined n.dir name)
stamped n f name r t v k d h is back = subst (λ (u : ℤ). IsDatedAt n u k (joined n.dir name)) (sym back) ((by_path n f (joined n.dir name) name r d refl h t k).0 is)

pub not_stamped : (n : Naming) (f : Format) (name : List ℕ) (r : Option (ℤ × ℕ)) → n.dated ≡ Some f → Reads n f name r → r ≡ None → IsMember n (joined n.dir name) → ⊥
not_stamped n f name r d h none m = ⊎_elim (λ a. no_format n.dated a.0 d) (λ b. lost r (b.0, b.1) none ((by_path n f (joined n.dir name) name r d refl h b.0 b.1).1 b.2)) m
  where
    lost : (r : Option (ℤ × ℕ)) (v : ℤ × ℕ) → r ≡ None → r ≡ Some v → ⊥
    lost r v p q = cc

-- whether it is a member's
pub is_place : (n : Naming) (x : Path) (r : Option Place) → MatchOption r (IsMember n x → ⊥) (λ place. IsPlaceOf n place x) → (is_some r ≡ true) ↔ IsMember n x
is_place n x None h = (λ e. absurd (cc), λ m. absurd (h m))
is_place n x (Some place) h = (λ e. placed_member n place x h, λ m. refl)

pub numbered_name : (log : Path) (n : Naming) (place : ℕ) (x : Path) → n.dated ≡ None → IsMemberAt n place x → IsOwnName log n x
numbered_name log n place x numbered m = a_member (n.base ++ (46 ∷ decimal (n.start + place)) ++ n.ext) (46 ∷ decimal (n.start + place), middle, refl) m.named
  where
    bound : n.start + place ≤ 4294967295
    bound = m.bound

    middle : IsMiddleShape n.dated (46 ∷ decimal (n.start + place))
    middle = subst (λ (d : Option Format). IsMiddleShape d (46 ∷ decimal (n.start + place))) (sym numbered) (decimal (n.start + place), refl, decimal_run (n.start + place) (omega arith))

-- a member is a name of the family
pub member_own : (log : Path) (n : Naming) (x : Path) → IsMember n x → IsOwnName log n x
member_own log n x (inl m) = numbered_name log n m.1.0 x m.0 m.1.1
member_own log n x (inr m) = let h = dated_shape n m.0 m.1 x m.2 in a_member h.0 h.1 h.2
