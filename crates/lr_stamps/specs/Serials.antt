-- Stamps with a serial number behind them.
use Rattle.std.specs.Prelude.{◌≡◌, ◌<◌, ◌≤◌, ℤ, ℕ, List, ◌∷◌, ◌++◌, Bool, nat_eq, decimal}
use Rattle.lr_rules.specs.declared.rule.Piece.{Piece}
use Rattle.lr_rules.specs.Moments.{IsStamp}

abbrev pub is_dot : ℕ → Bool
is_dot b = nat_eq b 46

-- The bytes are a stamp that tells these seconds, a dot, and this serial number, which is above 0.
pub record IsCounted (pieces : List Piece) (seconds : ℤ) (serial : ℕ) (bytes : List ℕ) : Type 0 where
  pub stamp : List ℕ
  pub is : IsStamp pieces seconds stamp
  pub above : 0 < serial
  pub within : serial ≤ 4294967295
  pub text : bytes ≡ stamp ++ 46 ∷ decimal serial
