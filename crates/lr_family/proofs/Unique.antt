-- A name tells its number, and a path its place.
use Rattle.std.proofs.Common.{◌≡◌, ℕ, ◌+◌, ◌-◌, ◌≤◌, List, ◌∷◌, ◌++◌, refl, sym, ap, ◌∙◌, arith, Option, Some, None}
use Rattle.std.specs.Prelude.{decimal, MatchOption}
use Rattle.std.specs.Option.{SomeIff}
use Rattle.std.proofs.lemmas.List.{append_cancel_left, append_cancel_right}
use Rattle.std.proofs.lemmas.Fmt.{decimal_injective}
use Rattle.lr_rules.specs.declared.path.Path.{Path}
use Rattle.lr_rules.specs.declared.rule.Naming.{Naming}
use Rattle.lr_rules.specs.Names.{IsMemberAt}
use Rattle.lr_rules.specs.Path.{joined}
use Rattle.lr_rules.proofs.Heads.{tails}
use Rattle.lr_stamps.proofs.Members.{joined_same}
use Rattle.lr_family.specs.declared.place.Place.TheVariants as at
use Rattle.lr_family.specs.Named.{framed, member_name, IsNamedAt}

pub frame_same : (base a b ext : List ℕ) → framed base a ext ≡ framed base b ext → a ≡ b
frame_same base a b ext e = tails 46 46 a b (append_cancel_left base (46 ∷ a) (46 ∷ b) (append_cancel_right (base ++ 46 ∷ a) (base ++ 46 ∷ b) ext e))

pub named_same : (n : Naming) (p q : ℕ) (name : List ℕ) → IsNamedAt n p name → IsNamedAt n q name → p ≡ q
named_same n p q name a b =
    let text : decimal (n.start + p) ≡ decimal (n.start + q) = frame_same n.base (decimal (n.start + p)) (decimal (n.start + q)) n.ext (sym a.named ∙ b.named) in
    let low : n.start + p ≤ 4294967295 = a.bound in
    let high : n.start + q ≤ 4294967295 = b.bound in
    let number : n.start + p ≡ n.start + q = decimal_injective (n.start + p) (n.start + q) (omega arith) (omega arith) text in
    omega arith

pub as_named : (n : Naming) (p : ℕ) (x : Path) (name : List ℕ) → x ≡ joined n.dir name → IsMemberAt n p x → IsNamedAt n p name
as_named n p x name e m = record { bound = m.bound; named = joined_same n.dir name (member_name n (n.start + p)) (sym e ∙ m.named) }

pub as_member : (n : Naming) (p : ℕ) (x : Path) (name : List ℕ) → x ≡ joined n.dir name → IsNamedAt n p name → IsMemberAt n p x
as_member n p x name e m = record { bound = m.bound; named = e ∙ ap (joined n.dir) m.named }

pub place_same : (n : Naming) (p q : ℕ) (x : Path) → IsMemberAt n p x → IsMemberAt n q x → p ≡ q
place_same n p q x a b = named_same n p q (member_name n (n.start + p)) (record { bound = a.bound; named = refl }) (as_named n q x (member_name n (n.start + p)) a.named b)

-- a number that is below the start is no place's
pub by_start : (n : Naming) (number : ℕ) (name : List ℕ) (r : Option ℕ) → SomeIff r (n.start ≤ number) (number - n.start) → number ≤ 4294967295 → name ≡ member_name n number
    → MatchOption r ((place : ℕ) → IsNamedAt n place name → ⊥) (λ place. IsNamedAt n place name)
by_start n number name None low i e = λ place m.
    let bound : n.start + place ≤ 4294967295 = m.bound in
    let text : decimal number ≡ decimal (n.start + place) = frame_same n.base (decimal number) (decimal (n.start + place)) n.ext (sym e ∙ m.named) in
    let same : number ≡ n.start + place = decimal_injective number (n.start + place) (omega arith) (omega arith) text in
    low (omega (arith, same))
by_start n number name (Some place) t i e =
    let same : number ≡ n.start + place = omega (arith, t.0, t.1) in
    record { bound = omega (arith, same, i); named = e ∙ ap (member_name n) same }

-- the place that was read is the only one
pub read_place : (n : Naming) (p q : ℕ) (x : Path) → IsMemberAt n p x → IsMemberAt n q x → Some (at.Number p) ≡ Some (at.Number q)
read_place n p q x a b = ap (λ k. Some (at.Number k)) (place_same n p q x a b)
