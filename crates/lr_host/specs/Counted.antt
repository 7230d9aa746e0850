-- Faults that a call adds, and what the counts of its host tell of them.
use Rattle.std.specs.Prelude.{◌≡◌, ◌≤◌, ◌+◌, ◌-◌, ◌^◌, min, ℕ, List, [], ◌∷◌, ◌++◌, Result, Ok, Err}
use Rattle.lr_rules.specs.declared.fault.Fault.{Fault}
use Rattle.lr_rules.specs.declared.fault.Fault.TheVariants as fault
use Rattle.lr_host.specs.Told.{Counts, Onward}

-- how many of the faults are failed calls
abbrev pub call_in : Fault → ℕ
call_in (fault.Call kind path) = 1
call_in _ = 0

abbrev pub calls_in : List Fault → ℕ
calls_in [] = 0
calls_in (f ∷ fs) = call_in f + calls_in fs

-- how many are scripts that ended badly
abbrev pub bad_script_in : Fault → ℕ
bad_script_in (fault.Script phase on end) = 1
bad_script_in _ = 0

abbrev pub bad_scripts_in : List Fault → ℕ
bad_scripts_in [] = 0
bad_scripts_in (f ∷ fs) = bad_script_in f + bad_scripts_in fs

-- what is told around a run: a fault of the clock, of the zone or of the output
abbrev pub IsAround : Fault → Type 0
IsAround fault.Clock = Unit {0}
IsAround (fault.Zone why) = Unit {0}
IsAround fault.Out = Unit {0}
IsAround _ = ⊥

-- none is such a fault
abbrev pub NoneAround : List Fault → Type 0
NoneAround [] = Unit {0}
NoneAround (f ∷ fs) = (IsAround f → ⊥) × NoneAround fs

-- the count rose by no fewer than so many; at its greatest value it counts as risen
abbrev pub RoseBy : ℕ → ℕ → ℕ → Type 0
RoseBy n before now = min (before + n) (2 ^ 64 - 1) ≤ now

-- These faults came: no more failed calls than `faults` rose by, no more bad ends than `bad_ends` rose by, none of the clock, the
-- zone or the output.
pub record AreCounted (faults : List Fault) (counted counts : Counts) : Type 0 where
  pub calls : RoseBy (calls_in faults) counted.faults counts.faults
  pub scripts : RoseBy (bad_scripts_in faults) counted.bad_ends counts.bad_ends
  pub none_around : NoneAround faults

-- such faults were added
pub record AddsFaults (before after : List Fault) (counted counts : Counts) : Type 0 where
  pub added : List Fault
  pub after_is : after ≡ before ++ added
  pub are_counted : AreCounted added counted counts

-- Such faults were added, each failed call and each bad end among them counted; no count fell, and the lock is as it was.
pub record Went (before after : List Fault) (counted counts : Counts) : Type 0 where
  pub adds : AddsFaults before after counted counts
  pub onward : Onward counted counts

-- so it went where the call ended well; of one that found no memory only that no count fell
abbrev pub WentBy : {T E : Type 0} → Result T E → List Fault → List Fault → Counts → Counts → Type 0
WentBy (Ok x) before after counted counts = Went before after counted counts
WentBy (Err why) before after counted counts = Onward counted counts
