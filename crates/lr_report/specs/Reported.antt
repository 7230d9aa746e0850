-- The faults of a report, and what the counts of its host tell of them.
use Rattle.std.specs.Prelude.{List, [], ◌∷◌}
use Rattle.lr_rules.specs.declared.fault.Fault.{Fault}
use Rattle.lr_rules.specs.declared.fault.Fault.TheVariants as fault
use Rattle.lr_host.specs.Told.{Counts}
use Rattle.lr_host.specs.Counted.{calls_in, bad_scripts_in, RoseBy}

-- none is of the output
abbrev pub IsOut : Fault → Type 0
IsOut fault.Out = Unit {0}
IsOut _ = ⊥

abbrev pub HasNoOut : List Fault → Type 0
HasNoOut [] = Unit {0}
HasNoOut (f ∷ fs) = (IsOut f → ⊥) × HasNoOut fs

-- These faults came: no more failed calls, and no more bad ends, than the counts of the host rose by, and none of the output.
pub record AreReported (faults : List Fault) (counted counts : Counts) : Type 0 where
  pub calls : RoseBy (calls_in faults) counted.faults counts.faults
  pub scripts : RoseBy (bad_scripts_in faults) counted.bad_ends counts.bad_ends
  pub no_out : HasNoOut faults
