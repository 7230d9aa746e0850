-- What a call shows of what it came to, and what it prints.
use Rattle.std.specs.Prelude.{◌≡◌, ℕ, ℤ, List, [], ◌∷◌, ◌++◌, Option, Some, None}
use Rattle.lr_rules.specs.declared.path.Path.{Path}
use Rattle.lr_rules.specs.declared.fault.Fault.TheVariants as fault
use Rattle.lr_host.specs.declared.journal.Journal.{Journal}
use Rattle.lr_host.specs.Told.{Counts, Left, Rose}
use Rattle.lr_host.specs.World.{past}
use Rattle.lr_due.specs.declared.tz.Zone.{Zone}
use Rattle.lr_clock.specs.Came.{WhereCame}
use Rattle.lr_clock.specs.Clock.{IsClocked}
use Rattle.lr_report.specs.declared.outcome.Outcome.{Outcome}
use Rattle.lr_report.specs.declared.outcome.Outcome.TheVariants.{Done, BadWords, Held, OutOfMemory}
use Rattle.lr_report.specs.declared.outcome.Report.{Report}
use Rattle.lr_report.specs.Outcome.{outcome_text}
use Rattle.lr_report.specs.Puts.{Took, TookPart}
use Rattle.lr_report.specs.Reported.{AreReported}
use Rattle.lr_audited.specs.declared.line.Audit.{Audit}
use Rattle.lr_audit.specs.Came.{Came, CallShows}
use Rattle.lr_audit.specs.Text.{audit_text}
use Rattle.lr_audit.specs.Truth.{SawTruly}

-- ---- what is printed

-- the text of the audit, where there is one
abbrev pub text_told : Option Audit → List ℕ
text_told None = []
text_told (Some a) = audit_text a

-- all that is printed: that, and then what there is to say of the answer
abbrev pub said_text : Option Audit → Outcome → List ℕ
said_text audit outcome = text_told audit ++ outcome_text outcome

-- the answer with `Out` behind its other faults
abbrev pub with_out : Outcome → Outcome
with_out (Done report) = Done (record { notices = report.notices; faults = report.faults ++ fault.Out ∷ [] })
with_out BadWords = BadWords
with_out Held = Held
with_out OutOfMemory = OutOfMemory

-- The text of what was to be answered came whole, and it is the answer; or a first part of it, where a put failed, and a report
-- tells that.
pub data PrintsAnswer (text : List ℕ) (said outcome : Outcome) (before after : Option (List ℕ)) (low high : ℕ) : Type 0 where
  whole : outcome ≡ said → Took text before after → PrintsAnswer text said outcome before after low high
  broken_off : outcome ≡ with_out said → TookPart text before after → Rose low high
      → PrintsAnswer text said outcome before after low high

-- ---- all of it

-- the report of an answer is so
abbrev pub WhereDone : Outcome → (Report → Type 0) → Type 0
WhereDone outcome P = (report : Report) → outcome ≡ Done report → P report

-- All that is told of a call with these words, in this zone and at these seconds.
pub record AuditSays (here : Path) (words : List (List ℕ)) (zone : Zone) (seconds : ℤ) (outcome : Outcome)
    (told later : Option Journal) (counted counts : Counts) (before after : Option (List ℕ)) (low high : ℕ) : Type 0 where
  -- what it came to; and its audit and its answer but for `Out`, which are known too where the host tells nothing
  pub came : Option Came
  pub audit : Option Audit
  pub said : Outcome
  -- its entries show it: the zone, what was read, the looks, the listings; or why there is no audit
  pub shown : Left (CallShows here words zone seconds audit said came) told later
  -- what it saw is true of the disk: the looks at the logs, and the files beside them
  pub truly : WhereCame came told later (λ c j k. SawTruly c (past j) (past k))
  -- the report has a clock behind it, or says why there is none; and no more failed calls than the host counted
  pub clock : WhereDone said (λ report. IsClocked zone seconds report.notices report.faults)
  pub counted_are : WhereDone said (λ report. AreReported report.faults counted counts)
  -- what was printed, and so what was answered
  pub answers : PrintsAnswer (said_text audit said) said outcome before after low high
