-- The faults of a run by which a path was taken that a new file needs.
use Rattle.std.proofs.Common.{List, [], reverse, Option, None, refl}
use Rattle.lr_rules.specs.declared.path.Path.{Path}
use Rattle.lr_rules.specs.declared.clock.Clock.{Clock}
use Rattle.lr_rules.specs.declared.fault.Fault.{Fault}
use Rattle.lr_rules.specs.declared.fault.Fault.TheVariants as fault
use Rattle.lr_rules.specs.declared.rules.Rules.{Rules}
use Rattle.lr_host.specs.declared.entry.Entry.{Entry}
use Rattle.lr_host.specs.declared.journal.Journal.{Journal}
use Rattle.lr_host.specs.Lists.{IsIn}
use Rattle.lr_host.specs.Told.{Left, Then, not_told, is_told}
use Rattle.lr_looks.specs.Shown.{LooksAtAll}
use Rattle.lr_plan.specs.Asked.{Asked}
use Rattle.lr_plan.specs.declared.looks.Looks.{Looks}
use Rattle.lr_plan.specs.Planned.{decision}
use Rattle.lr_plan.specs.Steps.{steps_of_plan}
use Rattle.lr_plan.specs.Course.{Course}
use Rattle.lr_plan.specs.Done.{SetsDone, rotated_logs}
use Rattle.lr_state.specs.After.{after}
use Rattle.lr_state.specs.Written.{table_text}
use Rattle.lr_looks.specs.Reserved.{reserved_by}
use Rattle.lr_acts.specs.Taken.{WasTaken, no_journal}
use Rattle.lr_state.specs.declared.remembered.Remembered.{Remembered}
use Rattle.lr_run.specs.Internal.{plan_for, steps_of_writing}
use Rattle.lr_run.specs.Work.{Acts}
use Rattle.lr_run.proofs.Hindered.{plan_taken}

-- ---- from part to part

-- of the faults of the plan: behind the looks a member had the path, and no act unlinked it
pub hindered_taken : (state : Path) (rules : Rules) (looks : Looks) (remembered : Remembered) (clock : Clock) (asked : Asked) (acts : Acts) (a b : List Fault) {o m n : Option Journal} → Left (LooksAtAll (reserved_by state) rules.sets looks a b) o m
    → Left (Then (SetsDone (steps_of_plan (plan_for rules looks remembered clock asked)) acts.marks acts.of_logs) (Course (steps_of_writing state looks remembered clock acts) [] acts.of_state)) m n
    → (path : Path) → IsIn (fault.Taken path) (plan_for rules looks remembered clock asked).faults → WasTaken path m n
hindered_taken state rules looks remembered clock asked acts a b not_told did path i = untold did
  where
    untold : {P : List Entry → Type 0} {n : Option Journal} → Left P None n → WasTaken path None n
    untold not_told = no_journal
hindered_taken state rules looks remembered clock asked acts a b (is_told {j = j} {k = k} {es = es} made g) did path i =
    plan_taken state rules looks.sets g.own (reverse es) clock asked.mailer (decision remembered.table clock.now asked.force) remembered.stale acts.dirs (table_text (after remembered.table (rotated_logs acts.marks) looks.kept clock.now.civil)) acts.marks acts.of_logs acts.of_state j k es made refl g.shown did path i
