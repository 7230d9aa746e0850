-- What all looks of a run came to: at what the words give, and then at the families of the logs that are kept.
use Rattle.std.specs.Prelude.{◌≡◌, List, [], ◌++◌, length}
use Rattle.lr_rules.specs.declared.fault.Fault.{Fault}
use Rattle.lr_rules.specs.declared.path.Path.{Path}
use Rattle.lr_rules.specs.declared.rule.Rule.{Rule}
use Rattle.lr_host.specs.declared.entry.Entry.{Entry}
use Rattle.lr_host.specs.Told.{Then}
use Rattle.lr_plan.specs.declared.looks.Looks.{Looks}
use Rattle.lr_plan.specs.declared.looks.SetLooks.{SetLooks}
use Rattle.lr_looks.specs.Asked.{asked_by, AreTexts}
use Rattle.lr_looks.specs.Choices.{KeepsLogs}
use Rattle.lr_looks.specs.Families.{LookedLog, LooksAtFamilies, LookedAtSomeFamilies}
use Rattle.lr_looks.specs.Found.{FoundLog, paths_of, HaveLogPaths}
use Rattle.lr_looks.specs.Sets.{HaveLooks}
use Rattle.lr_looks.specs.Sights.{LookedAtWords, LookedAtSomeWords}

-- What the words give was looked at, and then the families of the logs that are kept. The words are texts, and what was found has
-- paths that a log can have. The logs that were looked at whole stand by definitions; the faults are those of the words, of the
-- choice, of the kinds and of the families, in this order.
pub record ShowsLooks (reserved : List Path) (rules : List Rule) (sets : List SetLooks) (faults : List Fault)
    (ts : List Entry) : Type 0 where
  pub found : List FoundLog
  pub of_words : List Fault
  pub kept : List FoundLog
  pub of_kept : List Fault
  pub looked : List LookedLog
  pub texts : AreTexts (asked_by rules)
  pub paths : HaveLogPaths found
  pub keeps : KeepsLogs reserved found of_words of_kept kept
  pub entries : Then (LookedAtWords (asked_by rules) [] of_words [] found) (LooksAtFamilies kept of_kept faults looked) ts
  pub many : length sets ≡ length rules
  pub by_sets : HaveLooks looked sets

-- The answer has the logs that were looked at whole, and the paths of all that are kept; the faults were added.
pub record LooksAtAll (reserved : List Path) (rules : List Rule) (looks : Looks) (faults all_faults : List Fault)
    (ts : List Entry) : Type 0 where
  pub own : List Fault
  pub faults_are : all_faults ≡ faults ++ own
  pub shown : ShowsLooks reserved rules looks.sets own ts
  pub kept_are : looks.kept ≡ paths_of shown.kept

-- Where there was no memory, a first part of these looks was made.
pub data ShowsSomeLooks (reserved : List Path) (rules : List Rule) (ts : List Entry) : Type 0 where
  at_words : LookedAtSomeWords 0 (asked_by rules) ts → ShowsSomeLooks reserved rules ts
  at_families : (found : List FoundLog) (of_words : List Fault) (kept : List FoundLog) (of_kept : List Fault)
      → KeepsLogs reserved found of_words of_kept kept
      → Then (LookedAtWords (asked_by rules) [] of_words [] found) (LookedAtSomeFamilies [] kept) ts
      → ShowsSomeLooks reserved rules ts
