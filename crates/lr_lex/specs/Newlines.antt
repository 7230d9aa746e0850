-- The first newline of some bytes.
use Rattle.std.specs.Prelude.{◌≡◌, ◌<◌, ℕ, suc, false, List, ◌∷◌, length, take, drop}
use Rattle.lr_lex.specs.Pieces.{has_line}

-- A newline stands at this place, and none before it.
pub record IsNewline (bytes : List ℕ) (at : ℕ) : Type 0 where
  pub before : has_line (take at bytes) ≡ false
  pub behind : drop at bytes ≡ 10 ∷ drop (suc at) bytes
  pub within : at < length bytes
