-- What has a shape, and when two shapes have something in common.
use Rattle.std.specs.Prelude.{◌≡◌, ◌⊎◌, ℕ, true, List, [], ◌∷◌}
use Rattle.std.specs.Char.{is_ascii_digit}
use Rattle.lr_shapes.specs.declared.token.Token.{Token}
use Rattle.lr_shapes.specs.declared.token.Token.TheVariants.{Byte, Digit, Digits}

-- the run of digits ends somewhere, and P holds of the rest
abbrev pub RunThen : (List ℕ → Type 0) → List ℕ → Type 0
RunThen P [] = P []
RunThen P (c ∷ w) = P (c ∷ w) ⊎ ((is_ascii_digit c ≡ true) × RunThen P w)

-- the bytes have the shape
abbrev pub FitsShape : List Token → List ℕ → Type 0
FitsShape [] [] = Unit {0}
FitsShape [] (c ∷ w) = ⊥
FitsShape (Byte b ∷ ts) [] = ⊥
FitsShape (Byte b ∷ ts) (c ∷ w) = (b ≡ c) × FitsShape ts w
FitsShape (Digit ∷ ts) [] = ⊥
FitsShape (Digit ∷ ts) (c ∷ w) = (is_ascii_digit c ≡ true) × FitsShape ts w
FitsShape (Digits ∷ ts) w = RunThen (FitsShape ts) w

-- some bytes have both shapes
pub record HaveCommon (ts us : List Token) : Type 0 where
  pub bytes : List ℕ
  pub first : FitsShape ts bytes
  pub second : FitsShape us bytes
