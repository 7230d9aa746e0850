-- What the steps of a plan may do: of a log its rotation and its retirement, the one or the other its copy.
use Rattle.std.proofs.Common.{◌≡◌, ℕ, Bool, true, false, List, [], ◌∷◌, ◌++◌, map, Option, Some, None, refl, sym, ap, ◌∙◌, append-nil}
use Rattle.std.specs.List.{flat_map}
use Rattle.std.proofs.lemmas.Grind.{flat_map-append}
use Rattle.lr_rules.specs.declared.fault.Phase.{Phase}
use Rattle.lr_rules.specs.declared.fault.Phase.TheVariants as phase
use Rattle.lr_rules.specs.declared.path.Path.{Path}
use Rattle.lr_rules.specs.declared.rule.Make.{Make}
use Rattle.lr_rules.specs.declared.rule.Make.TheVariants as make
use Rattle.lr_scripts.specs.declared.command.Command.{Command}
use Rattle.lr_scripts.specs.declared.removal.Removal.{Removal}
use Rattle.lr_chain.specs.declared.ready.Move.{Move}
use Rattle.lr_copy.specs.declared.job.Job.{Job}
use Rattle.lr_plan.specs.declared.plan.LogPlan.{LogPlan}
use Rattle.lr_plan.specs.declared.plan.SetPlan.{SetPlan}
use Rattle.lr_plan.specs.declared.step.Step.{Step}
use Rattle.lr_plan.specs.declared.step.Step.TheVariants.{Removes, Takes, Copies, Renames, SyncsFile, SyncsDir, Truncates, Rotated}
use Rattle.lr_plan.specs.Steps.{program, removal, removals, directory, move, step_if, copy, transfer, anew, made_anew, finishing, rotation_of, retirement_of, steps_of_log, shared_steps, by_logs, steps_of_set}
use Rattle.lr_acts.specs.Making.{all_of_each, all_of_set, all_of_sets}
use Rattle.lr_laws_fixed.proofs.Keys.{Key, Made, WasRead, keys, keys_of}

-- ---- what the steps of one log may do

joined : (xs ys : List Step) → keys_of (xs ++ ys) ≡ keys_of xs ++ keys_of ys
joined xs ys = flat_map-append keys xs ys

-- behind steps that do nothing of these
behind : (xs ys : List Step) → keys_of xs ≡ [] → keys_of (xs ++ ys) ≡ keys_of ys
behind xs ys e = joined xs ys ∙ ap (λ (ks : List Key). ks ++ keys_of ys) e

-- before such steps
before : (xs ys : List Step) → keys_of ys ≡ [] → keys_of (xs ++ ys) ≡ keys_of xs
before xs ys e = joined xs ys ∙ (ap (λ (ks : List Key). keys_of xs ++ ks) e ∙ append-nil (keys_of xs))

no_program : (p : Phase) (o : Option Command) → keys_of (program p o) ≡ []
no_program p None = refl
no_program p (Some c) = refl

no_removal : (r : Removal) → keys_of (removal r) ≡ []
no_removal r = behind (program phase.Preremove r.preremove) _ (no_program phase.Preremove r.preremove) ∙ behind (program phase.Mail r.mail) (Removes r.path ∷ []) (no_program phase.Mail r.mail)

no_removals : (rs : List Removal) → keys_of (removals rs) ≡ []
no_removals [] = refl
no_removals (r ∷ rs) = behind (removal r) (removals rs) (no_removal r) ∙ no_removals rs

no_directory : (d : Option (Path × Option ℕ)) → keys_of (directory d) ≡ []
no_directory None = refl
no_directory (Some x) = refl

no_moves : (ms : List Move) → keys_of (map move ms) ≡ []
no_moves [] = refl
no_moves (m ∷ ms) = no_moves ms

-- the log is made anew, where it is
abbrev pub anew_keys : Make → Path → List Key
anew_keys make.No log = []
anew_keys (make.Yes mode) log = Made log ∷ []

-- of a copy the part file is made, and the file that is copied read to its end
abbrev pub copy_keys : Job → List Key
copy_keys job = Made job.part ∷ WasRead job.from ∷ []

-- of a rotation: a log that is renamed, to its final path or aside, is made anew; one that is copied where it stands is copied
abbrev pub first_keys : Make → Path → Option Job → Option Path → List Key
first_keys m log None aside = anew_keys m log
first_keys m log (Some job) None = copy_keys job
first_keys m log (Some job) (Some path) = anew_keys m log

-- of a retirement: a log that was set aside is copied
abbrev pub second_keys : Option Job → Option Path → List Key
second_keys None aside = []
second_keys (Some job) None = []
second_keys (Some job) (Some path) = copy_keys job

-- two parts, by what each may do
both_are : (xs ys : List Step) (ks ls : List Key) → keys_of xs ≡ ks → keys_of ys ≡ ls → keys_of (xs ++ ys) ≡ ks ++ ls
both_are xs ys ks ls p q = joined xs ys ∙ (ap (λ (ms : List Key). ms ++ keys_of ys) p ∙ ap (λ (ms : List Key). ks ++ ms) q)

anew_are : (m : Make) (log : Path) → keys_of (anew m log) ≡ anew_keys m log
anew_are make.No log = refl
anew_are (make.Yes mode) log = refl

copy_are : (job : Job) → keys_of (copy job) ≡ copy_keys job
copy_are job = go job.stale job.cut
  where
    go : (stale cut : Bool) → keys_of (step_if stale (Removes job.part) ++ (Takes job.part job.mode ∷ Copies job.from job.part job.limit ∷ SyncsFile job.part ∷ Renames job.part job.to ∷ SyncsDir job.dir ∷ step_if cut (Truncates job.from))) ≡ Made job.part ∷ WasRead job.from ∷ []
    go true true = refl
    go true false = refl
    go false true = refl
    go false false = refl

own_are : (first target log : Path) (m : Make) (job : Option Job) (aside : Option Path) → keys_of (transfer first target job aside ++ (Rotated log ∷ made_anew m log job aside)) ≡ first_keys m log job aside
own_are first target log m None aside = anew_are m log
own_are first target log m (Some job) None = before (copy job) (Rotated log ∷ []) refl ∙ copy_are job
own_are first target log m (Some job) (Some path) = anew_are m log

finishing_are : (job : Option Job) (aside : Option Path) → keys_of (finishing job aside) ≡ second_keys job aside
finishing_are None aside = refl
finishing_are (Some job) None = refl
finishing_are (Some job) (Some path) = before (copy job) (Removes path ∷ []) refl ∙ copy_are job

abbrev pub first_of : LogPlan → List Key
first_of log = first_keys log.ready.make log.log log.job log.aside

abbrev pub second_of : LogPlan → List Key
second_of log = second_keys log.job log.aside

rotation_are : (log : LogPlan) → keys_of (rotation_of log) ≡ first_of log
rotation_are log =
    behind (removals log.ready.leftovers) _ (no_removals log.ready.leftovers)
    ∙ (behind (directory log.ready.dir) _ (no_directory log.ready.dir)
    ∙ (behind (map move log.ready.moves) _ (no_moves log.ready.moves)
    ∙ own_are log.ready.log log.ready.target log.log log.ready.make log.job log.aside))

retirement_are : (log : LogPlan) → keys_of (retirement_of log) ≡ second_of log
retirement_are log =
    before (finishing log.job log.aside) (program phase.Mail log.first_mail ++ removals log.ready.retire) (behind (program phase.Mail log.first_mail) (removals log.ready.retire) (no_program phase.Mail log.first_mail) ∙ no_removals log.ready.retire)
    ∙ finishing_are log.job log.aside

log_are : (log : LogPlan) → keys_of (steps_of_log log) ≡ first_of log ++ second_of log
log_are log =
    behind (program phase.Pre log.pre) _ (no_program phase.Pre log.pre)
    ∙ both_are (rotation_of log) (program phase.Post log.post ++ retirement_of log) (first_of log) (second_of log) (rotation_are log)
    (behind (program phase.Post log.post) (retirement_of log) (no_program phase.Post log.post) ∙ retirement_are log)

-- ---- of all logs of a definition

each_are : (logs : List LogPlan) → keys_of (all_of_each (map steps_of_log logs)) ≡ flat_map (λ (l : LogPlan). first_of l ++ second_of l) logs
each_are [] = refl
each_are (l ∷ ls) = both_are (steps_of_log l) (all_of_each (map steps_of_log ls)) (first_of l ++ second_of l) (flat_map (λ (m : LogPlan). first_of m ++ second_of m) ls) (log_are l) (each_are ls)

rotations_are : (logs : List LogPlan) → keys_of (flat_map rotation_of logs) ≡ flat_map first_of logs
rotations_are [] = refl
rotations_are (l ∷ ls) = both_are (rotation_of l) (flat_map rotation_of ls) (first_of l) (flat_map first_of ls) (rotation_are l) (rotations_are ls)

retirements_are : (logs : List LogPlan) → keys_of (flat_map retirement_of logs) ≡ flat_map second_of logs
retirements_are [] = refl
retirements_are (l ∷ ls) = both_are (retirement_of l) (flat_map retirement_of ls) (second_of l) (flat_map second_of ls) (retirement_are l) (retirements_are ls)

-- where the scripts are shared, the rotations of all logs come before all retirements
abbrev pub plan_keys : Bool → List LogPlan → List Key
plan_keys true logs = flat_map first_of logs ++ flat_map second_of logs
plan_keys false logs = flat_map (λ (l : LogPlan). first_of l ++ second_of l) logs

shared_are : (set : SetPlan) → keys_of (shared_steps set) ≡ flat_map first_of set.logs ++ flat_map second_of set.logs
shared_are set =
    behind (program phase.First set.first) _ (no_program phase.First set.first)
    ∙ (behind (program phase.Pre set.pre) _ (no_program phase.Pre set.pre)
    ∙ both_are (flat_map rotation_of set.logs) (program phase.Post set.post ++ (flat_map retirement_of set.logs ++ program phase.Last set.last)) (flat_map first_of set.logs) (flat_map second_of set.logs) (rotations_are set.logs)
    (behind (program phase.Post set.post) _ (no_program phase.Post set.post) ∙ (before (flat_map retirement_of set.logs) (program phase.Last set.last) (no_program phase.Last set.last) ∙ retirements_are set.logs)))

single_are : (set : SetPlan) → keys_of (program phase.First set.first ++ (all_of_each (map steps_of_log set.logs) ++ program phase.Last set.last)) ≡ flat_map (λ (l : LogPlan). first_of l ++ second_of l) set.logs
single_are set =
    behind (program phase.First set.first) _ (no_program phase.First set.first)
    ∙ (before (all_of_each (map steps_of_log set.logs)) (program phase.Last set.last) (no_program phase.Last set.last) ∙ each_are set.logs)

set_are : (set : SetPlan) → keys_of (all_of_set (steps_of_set set)) ≡ plan_keys set.shared set.logs
set_are set = go set.shared set.logs refl
  where
    go : (b : Bool) (logs : List LogPlan) → set.logs ≡ logs → keys_of (all_of_set (by_logs b logs set)) ≡ plan_keys b set.logs
    go true [] e = sym (ap (plan_keys true) e)
    go false [] e = sym (ap (plan_keys false) e)
    go true (l ∷ ls) e = before (shared_steps set) [] refl ∙ shared_are set
    go false (l ∷ ls) e = single_are set

-- ---- of all logs

abbrev pub all_keys : List SetPlan → List Key
all_keys sets = flat_map (λ (s : SetPlan). plan_keys s.shared s.logs) sets

pub sets_are : (sets : List SetPlan) → keys_of (all_of_sets (map steps_of_set sets)) ≡ all_keys sets
sets_are [] = refl
sets_are (s ∷ ss) = both_are (all_of_set (steps_of_set s)) (all_of_sets (map steps_of_set ss)) (plan_keys s.shared s.logs) (all_keys ss) (set_are s) (sets_are ss)
