-- The paths that a run reserves for itself.
use Rattle.std.specs.Prelude.{List, [], ◌∷◌}
use Rattle.lr_rules.specs.declared.path.Path.{Path}
use Rattle.lr_rules.specs.StatePath.{state_part, state_lock}

-- its state's, that of the file that a new state is first written to, and its lock's
abbrev pub reserved_by : Path → List Path
reserved_by state = state ∷ state_part state ∷ state_lock state ∷ []
