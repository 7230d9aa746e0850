-- The steps of a plan, in order.
use Rattle.std.specs.Prelude.{ℕ, Bool, true, false, List, [], ◌∷◌, ◌++◌, map, Option, Some, None, slice_index_or}
use Rattle.std.specs.Prelude.{if◌then◌else◌}
use Rattle.std.specs.List.{flat_map}
use Rattle.lr_rules.specs.declared.path.Path.{Path}
use Rattle.lr_rules.specs.declared.rule.Make.{Make}
use Rattle.lr_rules.specs.declared.rule.Make.TheVariants as make
use Rattle.lr_rules.specs.declared.fault.Phase.{Phase}
use Rattle.lr_rules.specs.declared.fault.Phase.TheVariants as phase
use Rattle.lr_rules.specs.Path.{parent_of}
use Rattle.lr_rules.specs.StatePath.{state_part}
use Rattle.lr_scripts.specs.declared.command.Command.{Command}
use Rattle.lr_scripts.specs.declared.removal.Removal.{Removal}
use Rattle.lr_chain.specs.declared.ready.Move.{Move}
use Rattle.lr_copy.specs.declared.job.Job.{Job}
use Rattle.lr_plan.specs.declared.plan.LogPlan.{LogPlan}
use Rattle.lr_plan.specs.declared.plan.SetPlan.{SetPlan}
use Rattle.lr_plan.specs.declared.plan.Plan.{Plan}
use Rattle.lr_plan.specs.declared.step.SetSteps.{SetSteps}
use Rattle.lr_plan.specs.declared.step.Step.{Step}
use Rattle.lr_plan.specs.declared.step.Step.TheVariants.{Runs, Removes, MakesDir, Renames, Creates, Takes, Copies, Appends}
use Rattle.lr_plan.specs.declared.step.Step.TheVariants.{SyncsFile, SyncsDir, Truncates, Rotated}

-- ---- programs

abbrev pub input_of : Option Path → List ℕ
input_of None = []
input_of (Some path) = path

-- what a program is about: the mailed file; of a script, which is handed to a shell as `-c TEXT NAME ARGS..`, its first argument
abbrev pub on_of : Phase → Command → List ℕ
on_of phase.Mail command = input_of command.input
on_of _ command = slice_index_or command.args 3 []

-- the step of a program, where there is one
abbrev pub program : Phase → Option Command → List Step
program p None = []
program p (Some command) = Runs p (on_of p command) command ∷ []

-- ---- one log

-- its preremove and its mail, where there are any, and its unlink
abbrev pub removal : Removal → List Step
removal r = program phase.Preremove r.preremove ++ (program phase.Mail r.mail ++ Removes r.path ∷ [])

abbrev pub removals : List Removal → List Step
removals rs = flat_map removal rs

abbrev pub directory : Option (Path × Option ℕ) → List Step
directory None = []
directory (Some (path, mode)) = MakesDir path mode ∷ []

abbrev pub move : Move → Step
move m = Renames m.from m.to

abbrev pub step_if : Bool → Step → List Step
step_if b step = if b then step ∷ [] else []

-- a copy: into a part file that is synced, which then gets the final path; the log is emptied last
abbrev pub copy : Job → List Step
copy job = step_if job.stale (Removes job.part) ++ (Takes job.part job.mode ∷ Copies job.from job.part job.limit ∷ SyncsFile
    job.part ∷ Renames job.part job.to ∷ SyncsDir job.dir ∷ step_if job.cut (Truncates job.from))

-- how the log comes to its final path; or, where it is set aside, to the path where it waits for its copy, behind a sync of the
-- family's directory
abbrev pub transfer : Path → Path → Option Job → Option Path → List Step
transfer log target None aside = Renames log target ∷ []
transfer log target (Some job) None = copy job
transfer log target (Some job) (Some path) = SyncsDir job.dir ∷ Renames log path ∷ []

-- the log is made anew where the rule says so; behind a copy of it where it stands it is there already
abbrev pub anew : Make → Path → List Step
anew make.No log = []
anew (make.Yes mode) log = Creates log mode ∷ []

-- behind the log's own way its path is free: the log was renamed, to its final path or aside
abbrev pub leaves_path : Option Job → Option Path → Bool
leaves_path None aside = true
leaves_path (Some job) None = false
leaves_path (Some job) (Some path) = true

abbrev pub made_anew : Make → Path → Option Job → Option Path → List Step
made_anew m log job aside = if leaves_path job aside then anew m log else []

-- the rotation of a log: the leftovers, the family's directory, the chain, the log itself, and the log anew
abbrev pub rotation_of : LogPlan → List Step
rotation_of log = removals log.ready.leftovers ++ (directory log.ready.dir
    ++ (map move log.ready.moves ++ (transfer log.ready.log log.ready.target log.job log.aside
    ++ (Rotated log.log ∷ made_anew log.ready.make log.log log.job log.aside))))

-- behind the postrotate a log that was set aside is copied to its final path, and let go
abbrev pub finishing : Option Job → Option Path → List Step
finishing (Some job) (Some path) = copy job ++ Removes path ∷ []
finishing _ _ = []

-- the retirement of a log: that, the mail of the first file, and the removals
abbrev pub retirement_of : LogPlan → List Step
retirement_of log = finishing log.job log.aside ++ (program phase.Mail log.first_mail ++ removals log.ready.retire)

-- of a log by itself
abbrev pub steps_of_log : LogPlan → List Step
steps_of_log log = program phase.Pre log.pre ++ (rotation_of log ++ (program phase.Post log.post ++ retirement_of log))

-- ---- one definition

-- of logs that share their scripts
abbrev pub shared_steps : SetPlan → List Step
shared_steps set =
    program phase.First set.first ++ (program phase.Pre set.pre
    ++ (flat_map rotation_of set.logs ++ (program phase.Post set.post
    ++ (flat_map retirement_of set.logs ++ program phase.Last set.last))))

-- of logs each by itself
abbrev pub single_steps : SetPlan → SetSteps
single_steps set = record {
  first = program phase.First set.first;
  each = map steps_of_log set.logs;
  last = program phase.Last set.last;
}

abbrev pub by_logs : Bool → List LogPlan → SetPlan → SetSteps
by_logs shared [] set = record { first = []; each = []; last = [] }
by_logs true (log ∷ logs) set = record { first = shared_steps set; each = []; last = [] }
by_logs false (log ∷ logs) set = single_steps set

-- By what a failed step ends: with shared scripts all that follows in the definition; else firstaction does, and each other step
-- what follows for its log. A definition without a due log does nothing.
abbrev pub steps_of_set : SetPlan → SetSteps
steps_of_set set = by_logs set.shared set.logs set

-- Of all definitions, as far as their logs go.
abbrev pub steps_of_plan : Plan → List SetSteps
steps_of_plan plan = map steps_of_set plan.sets

-- ---- the state text

-- The text is written into that file, of mode 0640, which is synced. Then these directories are synced, so that the state never
-- gets its name before what it tells; then the file gets the state's path, and the directory of that is synced. An old one that was
-- seen is removed before.
abbrev pub state_steps : Path → Bool → List Path → List ℕ → List Step
state_steps state stale dirs text =
    step_if stale (Removes (state_part state)) ++ (Takes (state_part state) (Some 416) ∷ Appends (state_part state) text ∷ SyncsFile
    (state_part state)
    ∷ (map SyncsDir dirs ++ (Renames (state_part state) state ∷ SyncsDir (parent_of state) ∷ [])))
