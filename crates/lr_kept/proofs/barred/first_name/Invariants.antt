use Rattle.std.proofs.Common.{◌≡◌, ◌<◌, ℕ, Some, slice_get}
use Rattle.lr_rules.specs.declared.path.Path.{Path}
use Rattle.lr_rules.specs.Names.{IsName}
use Rattle.lr_kept.proofs.barred.first_name.Given as goal

abbrev pub invariant-loop-at : goal.invariant-loop-at
invariant-loop-at l = record { none : (j : ℕ) (q : Path) → j < l.at → slice_get l.reserved j ≡ Some q → IsName l.log.log l.log.naming q → ⊥ }
