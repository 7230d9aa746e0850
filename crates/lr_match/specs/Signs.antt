-- The signs of a pattern, one by one.
use Rattle.std.specs.Prelude.{◌≡◌, ℕ, ◌+◌, ◌*◌, ◌==◌, Bool, true, false, not, List, ◌∷◌, length, if◌then◌else◌}
use Rattle.std.specs.Str.{chars}
use Rattle.lr_rules.specs.Match.{IsPlain, IsClass, class_has}
use Rattle.lr_match.specs.declared.sign.Sign.{Sign}
use Rattle.lr_match.specs.declared.sign.Sign.TheVariants as sign
use Rattle.lr_match.specs.declared.class.Class.{Class}
use Rattle.lr_match.specs.Classes.{signs_of}

-- The pattern begins with this sign, and these characters stand behind it.
pub data BeginsWithSign (pattern : List ℕ) : Sign → List ℕ → Type 0 where
  run : (rest : List ℕ) → pattern ≡ 42 ∷ rest → BeginsWithSign pattern sign.Run rest
  one : (rest : List ℕ) → pattern ≡ 63 ∷ rest → BeginsWithSign pattern sign.One rest
  itself : (c : ℕ) (rest : List ℕ) → pattern ≡ c ∷ rest → IsPlain c rest → BeginsWithSign pattern (sign.Itself c) rest
  escaped : (c : ℕ) (rest : List ℕ) → pattern ≡ 92 ∷ c ∷ rest → BeginsWithSign pattern (sign.Itself c) rest
  of_class : (k : Class) (part rest : List ℕ) → pattern ≡ 91 ∷ part → IsClass part k.turned (signs_of (chars k.signs.now)) rest
      → BeginsWithSign pattern (sign.Class k) rest

-- a sign that goes with one character goes with this one
abbrev pub sign_has : Sign → ℕ → Bool
sign_has sign.Run c = false
sign_has sign.One c = true
sign_has (sign.Itself d) c = d == c
sign_has (sign.Class k) c = if k.turned then not (class_has (signs_of (chars k.signs.now)) c) else class_has
    (signs_of (chars k.signs.now)) c

-- it goes with one character
abbrev pub IsSingle : Sign → Type 0
IsSingle sign.Run = ⊥
IsSingle _ = Unit {0}

-- how many steps it takes to ask whether the sign goes with a character, at most
abbrev pub length_of_sign : Sign → ℕ
length_of_sign (sign.Class k) = 3 * length (signs_of (chars k.signs.now)) + 1
length_of_sign _ = 0
