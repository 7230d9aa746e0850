-- The path where a log waits is a path.
use Rattle.std.proofs.Common.{◌≡◌, ◌≤◌, ℕ, List, ◌++◌, length, None, refl, arith}
use Rattle.std.specs.Prelude.{codes}
use Rattle.std.proofs.lemmas.Str.{IsUtf8-from_ascii}
use Rattle.lr_rules.specs.Path.{path_fault}
use Rattle.lr_rules.proofs.Endings.{IsEnding, ended_path, low_ascii}

pub aside_ending : IsEnding (codes ".tmp")
aside_ending = record { long = omega arith; text = IsUtf8-from_ascii (codes ".tmp") (low_ascii (codes ".tmp") refl); plain = refl; good = refl }

pub aside_fault : (log : List ℕ) → path_fault log ≡ None → length log ≤ 2048 → path_fault (log ++ codes ".tmp") ≡ None
aside_fault log none short = ended_path (codes ".tmp") aside_ending log none (omega arith)
