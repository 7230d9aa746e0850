-- For proofs: what a part of a call came to, with what the output took.
use Rattle.std.specs.Prelude.{◌≡◌, ◌⊎◌, ℕ, Bool, false, List, [], ◌∷◌, Option, Some, None, Result, Ok, Err}
use Rattle.lr_rules.specs.declared.fault.Fault.{Fault}
use Rattle.lr_rules.specs.declared.fault.Notice.{Notice}
use Rattle.lr_host.specs.declared.entry.Entry.{Entry}
use Rattle.lr_host.specs.declared.journal.Journal.{Journal}
use Rattle.lr_host.specs.Told.{Left}
use Rattle.lr_clock.specs.declared.clock.ClockStop.{ClockStop}
use Rattle.lr_clock.specs.declared.clock.ClockStop.TheVariants as clock_stop
use Rattle.lr_cat.specs.declared.outcome.CatOutcome.{CatOutcome}
use Rattle.lr_cat.specs.declared.outcome.CatOutcome.TheVariants.{Done, Held, OutOfMemory}
use Rattle.lr_cat.specs.declared.stop.CatStop.{CatStop}
use Rattle.lr_cat.specs.declared.stop.CatStop.TheVariants as stop
use Rattle.lr_cat.specs.Came.{Came, with_own}
use Rattle.lr_cat.specs.Says.{TookOf}

-- the answer of a call that was carried through, or stopped so, behind a configuration with these notices and faults
abbrev pub answer_by : List Notice → List Fault → Result Bool CatStop → CatOutcome
answer_by notices faults (Ok waits) = Done (record { notices = notices; faults = with_own faults None }) waits
answer_by notices faults (Err (stop.Fault f)) = Done (record { notices = notices; faults = with_own faults (Some f) }) false
answer_by notices faults (Err stop.Held) = Held
answer_by notices faults (Err stop.Memory) = OutOfMemory

-- the answer of a call that has no clock, for this cause; there may be no memory for the report
abbrev pub IsNoClock : ClockStop → CatOutcome → Type 0
IsNoClock (clock_stop.Fault f) outcome = (outcome ≡ Done (record { notices = []; faults = f ∷ [] }) false) ⊎ (outcome ≡ OutOfMemory)
IsNoClock clock_stop.Memory outcome = outcome ≡ OutOfMemory

-- What was left shows what it came to, and so does what the output took.
pub record CameSo (P : Option Came → List Entry → Type 0) (told later : Option Journal)
    (before after : Option (List ℕ)) : Type 0 where
  pub came : Option Came
  pub shown : Left (P came) told later
  pub took : TookOf came before after
