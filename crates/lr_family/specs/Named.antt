-- The names of numbered members.
use Rattle.std.specs.Prelude.{◌≡◌, ◌≤◌, ◌+◌, ℕ, List, ◌∷◌, ◌++◌, decimal}
use Rattle.lr_rules.specs.declared.rule.Naming.{Naming}

-- a name of a base, a dot, digits and an extension
abbrev pub framed : List ℕ → List ℕ → List ℕ → List ℕ
framed base digits ext = base ++ 46 ∷ digits ++ ext

-- the name of the member with this number
abbrev pub member_name : Naming → ℕ → List ℕ
member_name n number = framed n.base (decimal number) n.ext

-- The name is that of the numbered member at this place.
pub record IsNamedAt (n : Naming) (place : ℕ) (name : List ℕ) : Type 0 where
  pub bound : n.start + place ≤ 4294967295
  pub named : name ≡ member_name n (n.start + place)
