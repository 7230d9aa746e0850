-- A path tells its stamp and serial number.
use Rattle.std.proofs.Common.{◌≡◌, ℕ, ℤ, Option, Some, None, sym, ap, ◌∙◌}
use Rattle.std.specs.Prelude.{◌↔◌}
use Rattle.lr_rules.specs.declared.path.Path.{Path}
use Rattle.lr_rules.specs.declared.rule.Naming.{Naming}
use Rattle.lr_rules.specs.Dated.{IsDatedAt}
use Rattle.lr_family.specs.declared.place.Place.TheVariants as at

-- what was read of a path: exactly its stamp and serial number
abbrev pub Reads : Naming → Path → Option (ℤ × ℕ) → Type 0
Reads n x r = (seconds : ℤ) (serial : ℕ) → (r ≡ Some (seconds, serial)) ↔ IsDatedAt n seconds serial x

abbrev pair : ℤ → ℕ → ℤ × ℕ
pair s k = (s, k)

pair_same : (s t : ℤ) (k l : ℕ) → s ≡ t → k ≡ l → Some (pair s k) ≡ Some (pair t l)
pair_same s t k l p q = ap (λ (v : ℤ). Some (pair v k)) p ∙ ap (λ (j : ℕ). Some (pair t j)) q

place_same : (s t : ℤ) (k l : ℕ) → s ≡ t → k ≡ l → Some (at.Stamp s k) ≡ Some (at.Stamp t l)
place_same s t k l p q = ap (λ (v : ℤ). Some (at.Stamp v k)) p ∙ ap (λ (j : ℕ). Some (at.Stamp t j)) q

of_pair : (a b : ℤ × ℕ) → Some a ≡ Some b → a ≡ b
of_pair a b e = cc

pub some_stamp : (n : Naming) (x : Path) (r : Option (ℤ × ℕ)) (s v : ℤ) (k : ℕ) → Reads n x r → r ≡ Some (s, k) → v ≡ s → (seconds : ℤ) (serial : ℕ) → (Some (at.Stamp v k) ≡ Some (at.Stamp seconds serial)) ↔ IsDatedAt n seconds serial x
some_stamp n x r s v k h is back t l = (
  λ e. (h t l).0 (is ∙ pair_same s t k l (sym back ∙ (let p : v ≡ t = cc in p)) (let q : k ≡ l = cc in q)),
  λ m. let same : pair s k ≡ pair t l = of_pair (pair s k) (pair t l) (sym is ∙ (h t l).1 m) in place_same v t k l (back ∙ ap (λ (u : ℤ × ℕ). u.0) same) (ap (λ (u : ℤ × ℕ). u.1) same),
)

no_pair : (r : Option (ℤ × ℕ)) (v : ℤ × ℕ) → r ≡ None → r ≡ Some v → ⊥
no_pair r v p q = cc

pub none_stamp : (n : Naming) (x : Path) (r : Option (ℤ × ℕ)) → Reads n x r → r ≡ None → (seconds : ℤ) (serial : ℕ) → (None ≡ Some (at.Stamp seconds serial)) ↔ IsDatedAt n seconds serial x
none_stamp n x r h is t l = ((λ e. absurd (cc)), (λ m. absurd (no_pair r (t, l) is ((h t l).1 m))))
