-- The path of the part file is a path, in the directory of the state's.
use Rattle.std.proofs.Common.{◌≡◌, ◌≤◌, ℕ, List, ◌++◌, length, None, refl, arith}
use Rattle.std.specs.Prelude.{codes}
use Rattle.lr_rules.specs.Path.{path_fault, parent_of}
use Rattle.lr_rules.proofs.Endings.{ended_path, ended_parent}
use Rattle.lr_rules.proofs.AsidePath.{aside_ending}

pub part_fault : (state : List ℕ) → path_fault state ≡ None → length state ≤ 4092 → path_fault (state ++ codes ".tmp") ≡ None
part_fault state none short = ended_path (codes ".tmp") aside_ending state none (omega arith)

pub part_parent : (state : List ℕ) → path_fault state ≡ None → parent_of (state ++ codes ".tmp") ≡ parent_of state
part_parent state none = ended_parent (codes ".tmp") state refl none
