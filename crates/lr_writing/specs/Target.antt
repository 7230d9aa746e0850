-- What is written where.
use Rattle.std.specs.Prelude.{Bool}
use Rattle.lr_rules.specs.declared.path.Path.{Path}

-- The path of a state file, and whether an old part file was seen there.
pub record StateTarget : Type 0 where
  pub state : Path
  pub stale : Bool
