-- What acts add to what came before, and the room for it.
use Rattle.std.specs.Prelude.{◌≡◌, ◌+◌, ◌≤◌, ◌<◌, ℕ, List, ◌++◌, Option, vec_len}
use Rattle.std.specs.Vec.{vec_capacity}
use Rattle.lr_rules.specs.declared.fault.Fault.{Fault}
use Rattle.lr_host.specs.declared.journal.Journal.{Journal}
use Rattle.lr_host.specs.Told.{Left, Counts, Onward}
use Rattle.lr_plan.specs.declared.mark.Mark.{Mark}
use Rattle.lr_plan.specs.declared.step.Step.{Step}
use Rattle.lr_host.specs.Counted.{AreCounted}
use Rattle.lr_plan.specs.Course.{Part}
use Rattle.lr_acts.specs.declared.progress.Progress.{Progress}
use Rattle.lr_acts.specs.Named.{KeepsNames}
use Rattle.lr_acts.specs.Taken.{TakenOnly}

-- The marks and faults of this part of the acts, which has these steps, were added, each fault with its cause: the counts tell of
-- failed calls and of bad ends, and a path that is told as taken was named. The part left its entries.
pub record AddsSteps (P : Part) (steps : List Step) (before now : Progress) (told later : Option Journal)
    (counted counts : Counts) : Type 0 where
  pub marks : List Mark
  pub faults : List Fault
  pub marks_are : now.marks.items ≡ before.marks.items ++ marks
  pub faults_are : now.faults.items ≡ before.faults.items ++ faults
  pub entries : Left (P marks faults) told later
  pub are_counted : AreCounted faults counted counts
  pub taken : TakenOnly steps faults told later
  pub names : KeepsNames steps marks told later
  pub onward : Onward counted counts

-- there is room for so many marks, and for so many faults, and a buffer of 65,536 bytes at most
pub record HasRoom (n : ℕ) (progress : Progress) : Type 0 where
  pub marks : vec_len progress.marks + n ≤ vec_capacity progress.marks
  pub faults : vec_len progress.faults + n ≤ vec_capacity progress.faults
  pub buffer : 0 < vec_len progress.buffer
  pub short : vec_len progress.buffer ≤ 65536

-- at most so many of each were added, and the buffer has its length still
pub record FillsRoom (n : ℕ) (before now : Progress) : Type 0 where
  pub marks : vec_len now.marks ≤ vec_len before.marks + n
  pub faults : vec_len now.faults ≤ vec_len before.faults + n
  pub marks_room : vec_capacity before.marks ≤ vec_capacity now.marks
  pub faults_room : vec_capacity before.faults ≤ vec_capacity now.faults
  pub buffer : vec_len now.buffer ≡ vec_len before.buffer
