-- Members that have a stamp.
use Rattle.std.proofs.Common.{◌≡◌, ◌⊎◌, inl, inr, ℕ, zero, suc, ℤ, List, [], ◌∷◌, refl, sym, subst, arith}
use Rattle.std.specs.Prelude.{Any}
use Rattle.lr_family.specs.declared.place.Place.TheVariants as at
use Rattle.lr_family.specs.declared.stand.Member.{Member}

abbrev pub HasOne : (Member → Type 0) → List Member → Type 0
HasOne P [] = ⊥
HasOne P (m ∷ ms) = P m ⊎ HasOne P ms

pub one_in : (P : Member → Type 0) (xs : List Member) → Any P xs → HasOne P xs
one_in P [] (k, x, lt, is, p) = absurd (omega (arith, lt))
one_in P (y ∷ ys) (zero, x, lt, is, p) = inl (subst P (sym is) p)
one_in P (y ∷ ys) (suc k, x, lt, is, p) = inr (one_in P ys (k, x, omega (arith, lt), is, p))

pub any_in : (P : Member → Type 0) (xs : List Member) → HasOne P xs → Any P xs
any_in P [] h = absurd h
any_in P (y ∷ ys) (inl p) = (0, y, omega arith, refl, p)
any_in P (y ∷ ys) (inr h) = let a = any_in P ys h in let lt = a.2 in (suc a.0, a.1, omega (arith, lt), a.3, a.4)

-- this moment and serial number
abbrev pub IsStamp : ℤ → ℕ → Member → Type 0
IsStamp t k m = m.place ≡ at.Stamp t k
