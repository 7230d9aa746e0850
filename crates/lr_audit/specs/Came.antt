-- What a call came to, as a value, and what its entries and its answer show of it.
use Rattle.std.specs.Prelude.{◌≡◌, ◌⊎◌, ℕ, ℤ, List, [], ◌∷◌, ◌++◌, Option, Some, None, Result, Ok, Err}
use Rattle.lr_rules.specs.declared.clock.Clock.{Clock}
use Rattle.lr_rules.specs.declared.fault.Fault.{Fault}
use Rattle.lr_rules.specs.declared.memory.Memory.{Memory}
use Rattle.lr_rules.specs.declared.path.Path.{Path}
use Rattle.lr_rules.specs.declared.rules.Rules.{Rules}
use Rattle.lr_host.specs.declared.entry.Entry.{Entry}
use Rattle.lr_host.specs.Quiet.{AreQuiet}
use Rattle.lr_due.specs.declared.tz.Zone.{Zone}
use Rattle.lr_conf.specs.Meaning.{Meaning}
use Rattle.lr_include.specs.Stages.{Reads}
use Rattle.lr_plan.specs.declared.looks.Looks.{Looks}
use Rattle.lr_looks.specs.Found.{paths_of}
use Rattle.lr_looks.specs.Reserved.{reserved_by}
use Rattle.lr_looks.specs.Shown.{ShowsLooks}
use Rattle.lr_looks.specs.Sights.{WordSight}
use Rattle.lr_clock.specs.Clock.{ShowsClock, LacksClock}
use Rattle.lr_command.specs.Words.{mail_program}
use Rattle.lr_report.specs.declared.outcome.Outcome.{Outcome}
use Rattle.lr_report.specs.declared.outcome.Outcome.TheVariants.{Done, BadWords, OutOfMemory}
use Rattle.lr_report.specs.declared.outcome.Report.{Report}
use Rattle.lr_audited.specs.declared.line.Audit.{Audit}
use Rattle.lr_audit.specs.declared.told.Told.{Told}
use Rattle.lr_audit.specs.declared.words.Wanted.{Wanted}
use Rattle.lr_audited.specs.Audits.{IsAudit}
use Rattle.lr_audit.specs.Audits.{SawFiles}
use Rattle.lr_audit.specs.Words.{wanted}

-- ---- the value

-- What a call came to that had a clock and memory: what its configuration means and the rules of that; what the words of the
-- rules came to, and the looks at the logs; the directories and the regular files in them; the audit; and the entries that show
-- each.
pub record Came : Type 0 where
  pub clock : Clock
  pub meaning : Meaning
  pub rules : Rules
  pub words : List WordSight
  pub looks : Looks
  pub dirs : List Path
  pub files : List Path
  pub audit : Audit
  pub look_faults : List Fault
  pub file_faults : List Fault
  pub of_clock : List Entry
  pub of_confs : List Entry
  pub of_looks : List Entry
  pub of_files : List Entry

-- all its entries, in order
abbrev pub call_entries : Came → List Entry
call_entries c = c.of_clock ++ (c.of_confs ++ (c.of_looks ++ c.of_files))

-- what it has to say: the notices of the configuration; its faults, those of the looks, and those of the files
abbrev pub report_of : Came → Report
report_of c = record { notices = c.meaning.notices; faults = c.meaning.faults ++ (c.look_faults ++ c.file_faults) }

-- ---- what shows it

-- The looks are those that these rules ask for, with this state's paths reserved.
pub record ShowsRules (state : Path) (c : Came) : Type 0 where
  pub shown : ShowsLooks (reserved_by state) c.rules.sets c.looks.sets c.look_faults c.of_looks
  pub words_are : c.words ≡ shown.entries.first.sights
  pub kept_are : c.looks.kept ≡ paths_of shown.kept

-- Behind its clock: the configuration was read, and means this; the looks, and the files, are as the entries show; and the
-- audit is the one that follows.
pub record ShowsConfs (w : Wanted) (c : Came) : Type 0 where
  pub rules : c.rules.sets ≡ c.meaning.rules
  pub read : Reads w.confs c.meaning c.of_confs
  pub looks : ShowsRules w.state c
  pub saw : SawFiles c.looks c.dirs c.files c.file_faults c.of_files
  pub is_audit : IsAudit c.rules.sets c.looks c.clock mail_program c.files c.audit

-- The clock is that of the zone at these seconds, and the rest is so.
pub record ShowsCame (w : Wanted) (zone : Zone) (seconds : ℤ) (c : Came) : Type 0 where
  pub clock : ShowsClock zone seconds c.clock c.of_clock
  pub confs : ShowsConfs w c

-- ---- how a call ends

abbrev pub answer_of : Result Told Memory → Outcome
answer_of (Ok told) = Done (record { notices = told.notices; faults = told.faults.items })
answer_of (Err why) = OutOfMemory

-- the audit that it came to
abbrev pub audit_told : Result Told Memory → Option Audit
audit_told (Ok told) = told.audit
audit_told (Err why) = None

-- A call that wants this ended so, with this audit or none, and left these entries: there was no clock, and its fault is told
-- alone; or there was no memory; or it came to this.
pub data CallEnds (w : Wanted) (zone : Zone) (seconds : ℤ) (audit : Option Audit) (outcome : Outcome) (came : Option Came)
    (ts : List Entry) : Type 0 where
  no_clock : (f : Fault) → came ≡ None → audit ≡ None → outcome ≡ Done (record { notices = []; faults = f ∷ [] })
      → LacksClock zone seconds f ts → CallEnds w zone seconds audit outcome came ts
  no_memory : came ≡ None → audit ≡ None → outcome ≡ OutOfMemory → AreQuiet ts → CallEnds w zone seconds audit outcome came ts
  audited : (c : Came) → came ≡ Some c → audit ≡ Some c.audit → outcome ≡ Done (report_of c) → ShowsCame w zone seconds c
      → ts ≡ call_entries c → CallEnds w zone seconds audit outcome came ts

-- So did a call with these words, from the directory `here` on; and nothing where they want nothing, or there was no memory for
-- what they want.
pub data CallShows (here : Path) (words : List (List ℕ)) (zone : Zone) (seconds : ℤ) (audit : Option Audit) (outcome : Outcome)
    (came : Option Came) (ts : List Entry) : Type 0 where
  not_read : came ≡ None → audit ≡ None → (outcome ≡ BadWords) ⊎ (outcome ≡ OutOfMemory) → ts ≡ []
      → CallShows here words zone seconds audit outcome came ts
  read : (w : Wanted) → wanted here words ≡ Some w → CallEnds w zone seconds audit outcome came ts
      → CallShows here words zone seconds audit outcome came ts
