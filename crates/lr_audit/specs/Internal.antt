-- For contracts inside the crate: what parts of a call came to.
use Rattle.std.specs.Prelude.{◌≡◌, List, [], ◌++◌, Option, Some}
use Rattle.lr_rules.specs.declared.clock.Clock.{Clock}
use Rattle.lr_rules.specs.declared.fault.Fault.{Fault}
use Rattle.lr_rules.specs.declared.path.Path.{Path}
use Rattle.lr_rules.specs.declared.rules.Rules.{Rules}
use Rattle.lr_host.specs.declared.entry.Entry.{Entry}
use Rattle.lr_host.specs.declared.journal.Journal.{Journal}
use Rattle.lr_host.specs.Told.{Then, Left}
use Rattle.lr_plan.specs.declared.looks.Looks.{Looks}
use Rattle.lr_looks.specs.Reserved.{reserved_by}
use Rattle.lr_looks.specs.Shown.{LooksAtAll}
use Rattle.lr_audited.specs.declared.line.Audit.{Audit}
use Rattle.lr_audit.specs.declared.told.Told.{Told}
use Rattle.lr_audit.specs.declared.words.Wanted.{Wanted}
use Rattle.lr_audit.specs.Audits.{Audits}
use Rattle.lr_command.specs.Words.{mail_program}
use Rattle.lr_audit.specs.Came.{Came, ShowsConfs}

-- it came to something, or to nothing, and left such entries
pub record CameTo (P : Option Came → List Entry → Type 0) (told later : Option Journal) : Type 0 where
  pub came : Option Came
  pub left : Left (P came) told later

-- the looks at the logs of these rules, and then the audit of them; and what they came to as faults
pub record RulesCame (state : Path) (rules : Rules) (clock : Clock) (a : Audit) (faults all_faults : List Fault)
    (ts : List Entry) : Type 0 where
  pub looks : Looks
  pub mid : List Fault
  pub entries : Then (LooksAtAll (reserved_by state) rules.sets looks faults mid)
      (Audits rules.sets looks clock mail_program a mid all_faults) ts

-- behind its clock a call came to what it told
pub record ConfsCame (w : Wanted) (clock : Clock) (told : Told) (ts : List Entry) : Type 0 where
  pub came : Came
  pub clock_is : came.clock ≡ clock
  pub first : came.of_clock ≡ []
  pub audit : told.audit ≡ Some came.audit
  pub notices : told.notices ≡ came.meaning.notices
  pub faults : told.faults.items ≡ came.meaning.faults ++ (came.look_faults ++ came.file_faults)
  pub shown : ShowsConfs w came
  pub entries : ts ≡ came.of_confs ++ (came.of_looks ++ came.of_files)
