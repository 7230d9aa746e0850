-- What the steps of a plan unlink, by the names that the files had before the first of them.
use Rattle.std.specs.Prelude.{not, List, [], ◌∷◌, ◌++◌, map, filter, bytes_eq, Option, Some, None, if◌then◌else◌}
use Rattle.std.specs.List.{flat_map}
use Rattle.std.specs.Option.{option_to_list}
use Rattle.lr_rules.specs.declared.path.Path.{Path}
use Rattle.lr_host.specs.World.{in_list}
use Rattle.lr_plan.specs.declared.plan.LogPlan.{LogPlan}
use Rattle.lr_plan.specs.declared.plan.Plan.{Plan}
use Rattle.lr_plan.specs.declared.plan.SetPlan.{SetPlan}
use Rattle.lr_plan.specs.declared.step.SetSteps.{SetSteps}
use Rattle.lr_plan.specs.declared.step.Step.{Step}
use Rattle.lr_plan.specs.declared.step.Step.TheVariants as step
use Rattle.lr_plan.specs.Steps.{steps_of_plan}
use Rattle.lr_laws_rotations.specs.AllTurns.{job_part_paths}
use Rattle.lr_audited.specs.declared.line.WhyGone.{WhyGone}

-- the paths of what is told as going
abbrev pub going_paths : List (Path × WhyGone) → List Path
going_paths list = map (λ (g : Path × WhyGone). g.0) list

-- ---- where files come from

-- of each path the name that its file had as the steps began; None where none stood, or where the steps made the file
abbrev pub Origins : Type 0
Origins = Path → Option Path

-- as they begin each file has its own
abbrev pub own_names : Origins
own_names x = Some x

-- no file that stood has the path any more
abbrev pub without : Path → Origins → Origins
without path came x = if bytes_eq path x then None else came x

-- the file goes from the one path to the other
abbrev pub renamed : Path → Path → Origins → Origins
renamed from to came x = if bytes_eq to x then came from else without from came x

-- behind a step; a copy is a file that the steps make, at the path that it takes for its part file
abbrev pub behind : Step → Origins → Origins
behind (step.Renames from to) came = renamed from to came
behind (step.Removes path) came = without path came
behind (step.Creates path mode) came = without path came
behind (step.Takes path mode) came = without path came
behind _ came = came

-- the name that the file had that a step unlinks; none where the steps made it
abbrev pub unlinks : Step → Origins → List Path
unlinks (step.Removes path) came = option_to_list (came path)
unlinks _ came = []

-- of all steps, in order
abbrev pub unlinked : Origins → List Step → List Path
unlinked came [] = []
unlinked came (s ∷ steps) = unlinks s came ++ unlinked (behind s came) steps

-- ---- a plan

-- all steps, one definition behind another
abbrev pub set_steps : SetSteps → List Step
set_steps set = set.first ++ (flat_map (λ (steps : List Step). steps) set.each ++ set.last)

abbrev pub plan_steps : Plan → List Step
plan_steps plan = flat_map set_steps (steps_of_plan plan)

-- where its copies make their part files; an old one is unlinked before
abbrev pub log_parts : LogPlan → List Path
log_parts log = job_part_paths log.job

abbrev pub set_parts : SetPlan → List Path
set_parts set = flat_map log_parts set.logs

abbrev pub part_files : Plan → List Path
part_files plan = flat_map set_parts plan.sets

-- The files that its steps unlink, in order, each by the name that it has before the first step; but for old part files.
abbrev pub files_unlinked : Plan → List Path
files_unlinked plan = filter (λ (x : Path). not (in_list (part_files plan) x)) (unlinked own_names (plan_steps plan))
