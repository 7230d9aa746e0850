-- The logs that count as rotated, once the steps of a plan were made: those of the plan.
use Rattle.std.proofs.Common.{◌≡◌, inl, inr, ℕ, Bool, true, false, refl, ◌∙◌, ap, List, [], ◌∷◌, ◌++◌, map, Option, Some, None}
use Rattle.std.specs.List.{flat_map, list_any}
use Rattle.lr_rules.specs.declared.path.Path.{Path}
use Rattle.lr_acts.specs.Making.{all_of_each, all_of_sets}
use Rattle.lr_plan.specs.declared.mark.Mark.{Mark}
use Rattle.lr_plan.specs.declared.mark.Mark.TheVariants as mark
use Rattle.lr_plan.specs.declared.plan.LogPlan.{LogPlan}
use Rattle.lr_plan.specs.declared.plan.Plan.{Plan}
use Rattle.lr_plan.specs.declared.plan.SetPlan.{SetPlan}
use Rattle.lr_plan.specs.Done.{rotated_logs, is_rotated}
use Rattle.lr_plan.specs.Outcomes.{marks_of}
use Rattle.lr_plan.specs.Steps.{directory, steps_of_log, by_logs, steps_of_set, steps_of_plan}
use Rattle.lr_writing.proofs.Telling.{told_by, of_logs, each_tells, sets_tell}
use Rattle.lr_run.specs.Paths.{logs_rotated, all_logs_of, logs_in}
use Rattle.lr_laws_plan.proofs.FulfilledActs.{LastStands, LastsStand}

-- ---- the logs that marks tell of

-- the log that counts as rotated by the mark, if any
abbrev rotated_by : Mark → List Path
rotated_by (mark.Rotated log) = log ∷ []
rotated_by (mark.Directory path) = []
rotated_by (mark.Created path) = []

no_log_anew : (path : Path) → rotated_by (mark.Created path) ≡ []
no_log_anew path = refl

rotated_are : (marks : List Mark) → rotated_logs marks ≡ flat_map rotated_by marks
rotated_are [] = refl
rotated_are (mark.Rotated log ∷ ms) = ap (λ logs. log ∷ logs) (rotated_are ms)
rotated_are (mark.Directory path ∷ ms) = rotated_are ms
rotated_are (mark.Created path ∷ ms) = rotated_are ms

log_told : (dir : Option (Path × Option ℕ)) (log : Path) → told_by rotated_by no_log_anew (directory dir) ++ log ∷ [] ≡ log ∷ []
log_told None log = refl
log_told (Some (path, mode)) log = refl

logs_told : (logs : List LogPlan) → of_logs rotated_by no_log_anew logs ≡ logs_rotated logs
logs_told [] = refl
logs_told (l ∷ ls) = ap (λ zs. zs ++ of_logs rotated_by no_log_anew ls) (log_told l.ready.dir l.log) ∙ ap (λ zs. l.log ∷ zs) (logs_told ls)

sets_told : (sets : List SetPlan) → flat_map (λ set. of_logs rotated_by no_log_anew set.logs) sets ≡ all_logs_of sets
sets_told [] = refl
sets_told (set ∷ sets) = ap (λ zs. zs ++ flat_map (λ s. of_logs rotated_by no_log_anew s.logs) sets) (logs_told set.logs) ∙ ap (λ zs. logs_rotated set.logs ++ zs) (sets_told sets)

pub plan_logs : (plan : Plan) → rotated_logs (flat_map marks_of (all_of_sets (steps_of_plan plan))) ≡ logs_in plan
plan_logs plan = rotated_are (flat_map marks_of (all_of_sets (steps_of_plan plan))) ∙ (sets_tell rotated_by no_log_anew plan.sets ∙ sets_told plan.sets)

each_logs : (logs : List LogPlan) → rotated_logs (flat_map marks_of (all_of_each (map steps_of_log logs))) ≡ logs_rotated logs
each_logs logs = rotated_are (flat_map marks_of (all_of_each (map steps_of_log logs))) ∙ (each_tells rotated_by no_log_anew logs ∙ logs_told logs)

-- ---- the last steps of a definition

some_rotated : (ms : List Mark) (log : Path) (logs : List Path) → rotated_logs ms ≡ log ∷ logs → list_any is_rotated ms ≡ true
some_rotated [] log logs e = absurd (cc)
some_rotated (mark.Rotated other ∷ ms) log logs e = refl
some_rotated (mark.Directory path ∷ ms) log logs e = some_rotated ms log logs e
some_rotated (mark.Created path ∷ ms) log logs e = some_rotated ms log logs e

set_stands : (set : SetPlan) → LastStands (steps_of_set set)
set_stands set = go set.shared set.logs refl
  where
    go : (shared : Bool) (logs : List LogPlan) → set.logs ≡ logs → LastStands (by_logs shared logs set)
    go shared [] e = inl refl
    go true (l ∷ ls) e = inl refl
    go false (l ∷ ls) e = inr (some_rotated (flat_map marks_of (all_of_each (map steps_of_log set.logs))) l.log (logs_rotated ls) (each_logs set.logs ∙ ap logs_rotated e))

pub sets_stand : (sets : List SetPlan) → LastsStand (map steps_of_set sets)
sets_stand [] = tt
sets_stand (set ∷ sets) = (set_stands set, sets_stand sets)
