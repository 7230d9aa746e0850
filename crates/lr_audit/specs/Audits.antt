-- The files that an audit saw, and the audit of them.
use Rattle.std.specs.Prelude.{◌≡◌, List, ◌++◌}
use Rattle.lr_rules.specs.declared.clock.Clock.{Clock}
use Rattle.lr_rules.specs.declared.fault.Fault.{Fault}
use Rattle.lr_rules.specs.declared.path.Path.{Path}
use Rattle.lr_rules.specs.declared.rule.Rule.{Rule}
use Rattle.lr_host.specs.declared.entry.Entry.{Entry}
use Rattle.lr_glob.specs.Sights.{InOrder}
use Rattle.lr_plan.specs.declared.looks.Looks.{Looks}
use Rattle.lr_audited.specs.declared.line.Audit.{Audit}
use Rattle.lr_audited.specs.Audits.{IsAudit}
use Rattle.lr_audit.specs.Dirs.{asked_dirs, AreDirs}
use Rattle.lr_audit.specs.Files.{ShowsDirs}

-- The regular files in the directories of the logs that are kept, and of their families, in order of bytes; the faults are
-- those of the calls that failed.
pub record SawFiles (looks : Looks) (dirs files : List Path) (faults : List Fault) (ts : List Entry) : Type 0 where
  pub are_dirs : AreDirs (asked_dirs looks) dirs
  pub found : List Path
  pub shown : ShowsDirs dirs found faults ts
  pub order : InOrder found files

-- these were seen, and their faults added
pub record AddsSaw (looks : Looks) (files : List Path) (faults all_faults : List Fault) (ts : List Entry) : Type 0 where
  pub dirs : List Path
  pub own : List Fault
  pub faults_are : all_faults ≡ faults ++ own
  pub saw : SawFiles looks dirs files own ts

-- The audit is that of the files that were seen.
pub record Audits (rules : List Rule) (looks : Looks) (clock : Clock) (mailer : Path) (a : Audit) (faults all_faults : List Fault)
    (ts : List Entry) : Type 0 where
  pub files : List Path
  pub adds : AddsSaw looks files faults all_faults ts
  pub is_audit : IsAudit rules looks clock mailer files a
