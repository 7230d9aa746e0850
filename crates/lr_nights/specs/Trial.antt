-- What a trial's journal has, and its numbers.
use Rattle.std.specs.Prelude.{ℕ, All}
use Rattle.lr_host.specs.declared.journal.Journal.{Journal}
use Rattle.lr_host.specs.World.{past}
use Rattle.lr_nights.specs.declared.summary.Summary.{Summary}
use Rattle.lr_nights.specs.Summary.{IsSummary}
use Rattle.lr_nights.specs.Month.{drawn_nights, HasStartAt}
use Rattle.lr_nights.specs.Opening.{named_logs_from}

-- a run began at each of the thirty nights of so many logs
abbrev pub HasStarts : ℕ → Journal → Type 0
HasStarts logs j = All (λ night. HasStartAt night.seconds j.entries) (drawn_nights logs)

-- the numbers are those of the journal, of the logs of the trial
abbrev pub IsTrialSummary : ℕ → Journal → Summary → Type 0
IsTrialSummary logs j s = IsSummary (named_logs_from 0 logs) 30 (past j) s
