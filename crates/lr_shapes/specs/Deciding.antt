-- How it is decided whether two shapes have something in common: from the front, each list by itself. No clause of a public
-- call has these words.
use Rattle.std.specs.Prelude.{ℕ, ◌==◌, Bool, true, false, List, [], ◌∷◌, if◌then◌else◌}
use Rattle.std.specs.Char.{is_ascii_digit}
use Rattle.lr_shapes.specs.declared.token.Token.{Token}
use Rattle.lr_shapes.specs.declared.token.Token.TheVariants.{Byte, Digit, Digits}

-- no bytes have the shape: it is of runs alone
abbrev pub may_be_empty : List Token → Bool
may_be_empty [] = true
may_be_empty (Digits ∷ us) = may_be_empty us
may_be_empty (_ ∷ us) = false

-- one shape begins with this byte, and goes on as `rest` decides; the other is `us`
abbrev pub meet_byte : ℕ → (List Token → Bool) → List Token → Bool
meet_byte b rest [] = false
meet_byte b rest (Byte c ∷ us) = if b == c then rest us else false
meet_byte b rest (Digit ∷ us) = if is_ascii_digit b then rest us else false
meet_byte b rest (Digits ∷ us) = if meet_byte b rest us then true else (if is_ascii_digit b then rest (Digits ∷ us) else false)

abbrev pub meet_digit : (List Token → Bool) → List Token → Bool
meet_digit rest [] = false
meet_digit rest (Byte c ∷ us) = if is_ascii_digit c then rest us else false
meet_digit rest (Digit ∷ us) = rest us
meet_digit rest (Digits ∷ us) = if meet_digit rest us then true else rest (Digits ∷ us)

abbrev pub meet_run : (List Token → Bool) → List Token → Bool
meet_run rest [] = rest []
meet_run rest (Byte c ∷ us) = if rest (Byte c ∷ us) then true else (if is_ascii_digit c then meet_run rest us else false)
meet_run rest (Digit ∷ us) = if rest (Digit ∷ us) then true else meet_run rest us
meet_run rest (Digits ∷ us) = if rest (Digits ∷ us) then true else meet_run rest us

-- the two shapes have something in common
abbrev pub meet : List Token → List Token → Bool
meet [] us = may_be_empty us
meet (Byte b ∷ ts) us = meet_byte b (meet ts) us
meet (Digit ∷ ts) us = meet_digit (meet ts) us
meet (Digits ∷ ts) us = meet_run (meet ts) us
