-- What is asked of a log and the naming of its members.
use Rattle.std.specs.Prelude.{◌≡◌, ◌≤◌, ◌+◌, ℕ, Bool, false, ◌||◌, length, None}
use Rattle.std.specs.List.{list_any}
use Rattle.lr_rules.specs.declared.path.Path.{Path}
use Rattle.lr_rules.specs.declared.rule.Naming.{Naming}
use Rattle.lr_rules.specs.Path.{is_bad_byte, is_slash}
use Rattle.lr_rules.specs.Names.{IsMemberAt}

-- a byte that no name of a directory has
abbrev pub is_barred : ℕ → Bool
is_barred b = is_slash b || is_bad_byte b

-- The names are short enough to be paths, without slashes, and none is the log's.
pub record IsKin (log : Path) (n : Naming) : Type 0 where
  pub dir : length n.dir ≤ 2600
  pub size : length n.base + length n.ext ≤ 400
  pub base : list_any is_barred n.base ≡ false
  pub ext : list_any is_barred n.ext ≡ false
  pub apart : n.dated ≡ None → (place : ℕ) → IsMemberAt n place log → ⊥
