-- What a run makes of its plan, where nothing failed.
use Rattle.std.specs.Prelude.{◌≢◌, List, ◌++◌, filter}
use Rattle.lr_rules.specs.declared.clock.Clock.{Clock}
use Rattle.lr_rules.specs.declared.fault.Fault.{Fault}
use Rattle.lr_rules.specs.declared.fault.Fault.TheVariants as fault
use Rattle.lr_rules.specs.declared.path.Path.{Path}
use Rattle.lr_rules.specs.StatePath.{state_part}
use Rattle.lr_host.specs.declared.entry.Entry.{Entry}
use Rattle.lr_host.specs.declared.thing.Thing.TheVariants as thing
use Rattle.lr_host.specs.Lists.{IsIn}
use Rattle.lr_host.specs.Quiet.{AttachedOnlySince}
use Rattle.lr_host.specs.World.{Past, world, names}
use Rattle.lr_laws.specs.Renewing.{HasText}
use Rattle.lr_acts.specs.Making.{all_of_sets}
use Rattle.lr_acts.specs.Named.{OneCreates}
use Rattle.lr_plan.specs.Steps.{steps_of_plan}
use Rattle.lr_run.specs.Met.{MetNothing}
use Rattle.lr_run.specs.Paths.{logs_in, dirs_in}
use Rattle.lr_run.specs.Saw.{text_by}
use Rattle.lr_run.specs.Work.{Work, steps_in}
use Rattle.lr_writing.specs.Directories.{AreDirectoriesOf}
use Rattle.lr_writing.specs.Synced.{all_changed_of}
use Rattle.lr_laws_plan.specs.Acts.{is_act, AreActsOf}

-- Nothing failed of what a run did whose plan makes these directories, by its own faults: none tells of a call that failed, of a
-- program that ended badly, of a copy that broke off or of a directory that couldn't be made, and none that the path of the file
-- was named to which a new state is first written. So each tells of what the looks saw, or of what the plan couldn't rotate.
pub record NothingFailed (state : Path) (dirs : List Path) (faults : List Fault) : Type 0 where
  pub met : MetNothing dirs faults
  pub not_taken : IsIn (fault.Taken (state_part state)) faults → ⊥

-- Of all entries between the two pasts, among which are those of a run that came to this: what it planned was done, and nothing
-- else.
pub record IsFulfilled (state : Path) (clock : Clock) (w : Work) (all : List Entry) (before after : Past) : Type 0 where
  -- the acts, in order, are those of the plan's steps and then those of the state's writing, within which, before the state gets
  -- its name, the directories of all paths that the plan changes or makes are synced
  pub acts : AreActsOf (steps_in state clock w) (filter is_act all)
  pub dirs : AreDirectoriesOf (all_changed_of w.plan.sets ++ dirs_in w.plan) w.acts.dirs
  -- each log that a step of the plan makes anew is named behind the run: it was made, or something had its path
  pub anew : (x : Path) → OneCreates x (all_of_sets (steps_of_plan w.plan)) → names (world after) x ≢ thing.Nothing
  -- the state tells of each of the logs, where no writer was attached to its path or to that of its part file
  pub written : AttachedOnlySince (λ x. (x ≢ state) × (x ≢ state_part state)) before after
      → HasText state (text_by w.saw clock (logs_in w.plan)) after
