-- What the marks of all steps of a plan tell, log by log.
use Rattle.std.proofs.Common.{◌≡◌, inl, ℕ, Bool, true, false, refl, sym, ◌∙◌, ap, subst, List, [], ◌∷◌, ◌++◌, map, append-nil, Option, Some, None}
use Rattle.std.specs.List.{flat_map}
use Rattle.std.proofs.lemmas.Grind.{flat_map-append}
use Rattle.lr_rules.specs.declared.fault.Phase.{Phase}
use Rattle.lr_rules.specs.declared.fault.Phase.TheVariants as phase
use Rattle.lr_rules.specs.declared.path.Path.{Path}
use Rattle.lr_rules.specs.declared.rule.Make.{Make}
use Rattle.lr_rules.specs.declared.rule.Make.TheVariants as make
use Rattle.lr_host.specs.Lists.{IsIn}
use Rattle.lr_host.proofs.Lists.{in_front, in_back}
use Rattle.lr_scripts.specs.declared.command.Command.{Command}
use Rattle.lr_scripts.specs.declared.removal.Removal.{Removal}
use Rattle.lr_copy.specs.declared.job.Job.{Job}
use Rattle.lr_chain.specs.declared.ready.Move.{Move}
use Rattle.lr_chain.specs.declared.ready.Ready.{Ready}
use Rattle.lr_acts.specs.Making.{all_of_each, all_of_set, all_of_sets}
use Rattle.lr_plan.specs.declared.mark.Mark.{Mark}
use Rattle.lr_plan.specs.declared.mark.Mark.TheVariants as mark
use Rattle.lr_plan.specs.declared.plan.LogPlan.{LogPlan}
use Rattle.lr_plan.specs.declared.plan.SetPlan.{SetPlan}
use Rattle.lr_plan.specs.declared.step.Step.{Step}
use Rattle.lr_plan.specs.declared.step.Step.TheVariants.{Removes, MakesDir, Truncates}
use Rattle.lr_plan.specs.Outcomes.{marks_of}
use Rattle.lr_plan.specs.Steps.{program, removal, removals, directory, move, step_if, copy, transfer, anew, made_anew, finishing, rotation_of, retirement_of, steps_of_log, shared_steps, by_logs, steps_of_set}
use Rattle.lr_writing.specs.Synced.{made_of, to_make_of, all_to_make_of, made_by, made_in}

-- ---- of marks that tell these paths, and none of a log that was made anew

module _ (pick : Mark → List Path) (none_anew : (path : Path) → pick (mark.Created path) ≡ []) where
  -- what the marks of steps tell
  abbrev pub told_by : List Step → List Path
  told_by steps = flat_map pick (flat_map marks_of steps)

  both : (xs ys : List Step) → told_by (xs ++ ys) ≡ told_by xs ++ told_by ys
  both xs ys = ap (flat_map pick) (flat_map-append marks_of xs ys) ∙ flat_map-append pick (flat_map marks_of xs) (flat_map marks_of ys)

  -- nothing by the first, nothing behind, nothing at all
  none_first : (xs ys : List Step) → told_by xs ≡ [] → told_by (xs ++ ys) ≡ told_by ys
  none_first xs ys a = both xs ys ∙ ap (λ zs. zs ++ told_by ys) a

  none_behind : (xs ys : List Step) → told_by ys ≡ [] → told_by (xs ++ ys) ≡ told_by xs
  none_behind xs ys b = both xs ys ∙ (ap (λ zs. told_by xs ++ zs) b ∙ append-nil (told_by xs))

  none_both : (xs ys : List Step) → told_by xs ≡ [] → told_by ys ≡ [] → told_by (xs ++ ys) ≡ []
  none_both xs ys a b = none_first xs ys a ∙ b

  -- ---- the parts of a log's steps

  program_none : (p : Phase) (c : Option Command) → told_by (program p c) ≡ []
  program_none p None = refl
  program_none p (Some command) = refl

  removal_none : (r : Removal) → told_by (removal r) ≡ []
  removal_none r = none_both (program phase.Preremove r.preremove) (program phase.Mail r.mail ++ Removes r.path ∷ []) (program_none phase.Preremove r.preremove) (none_both (program phase.Mail r.mail) (Removes r.path ∷ []) (program_none phase.Mail r.mail) refl)

  removals_none : (rs : List Removal) → told_by (removals rs) ≡ []
  removals_none [] = refl
  removals_none (r ∷ rs) = none_both (removal r) (removals rs) (removal_none r) (removals_none rs)

  moves_none : (ms : List Move) → told_by (map move ms) ≡ []
  moves_none [] = refl
  moves_none (m ∷ ms) = moves_none ms

  if_none : (b : Bool) (s : Step) → told_by (s ∷ []) ≡ [] → told_by (step_if b s) ≡ []
  if_none true s e = e
  if_none false s e = refl

  copy_none : (job : Job) → told_by (copy job) ≡ []
  copy_none job = none_both (step_if job.stale (Removes job.part)) _ (if_none job.stale (Removes job.part) refl) (if_none job.cut (Truncates job.from) refl)

  transfer_none : (log target : Path) (job : Option Job) (aside : Option Path) → told_by (transfer log target job aside) ≡ []
  transfer_none log target None aside = refl
  transfer_none log target (Some job) None = copy_none job
  transfer_none log target (Some job) (Some path) = refl

  finishing_none : (job : Option Job) (aside : Option Path) → told_by (finishing job aside) ≡ []
  finishing_none None aside = refl
  finishing_none (Some job) None = refl
  finishing_none (Some job) (Some path) = none_both (copy job) (Removes path ∷ []) (copy_none job) refl

  anew_none : (m : Make) (log : Path) → told_by (anew m log) ≡ []
  anew_none make.No log = refl
  anew_none (make.Yes mode) log = ap (λ paths. paths ++ []) (none_anew log)

  made_anew_none : (m : Make) (log : Path) (job : Option Job) (aside : Option Path) → told_by (made_anew m log job aside) ≡ []
  made_anew_none m log None aside = anew_none m log
  made_anew_none m log (Some job) None = refl
  made_anew_none m log (Some job) (Some path) = anew_none m log

  -- of a log: its directory, and itself
  abbrev pub of_log : LogPlan → List Path
  of_log l = told_by (directory l.ready.dir) ++ pick (mark.Rotated l.log)

  rotation_tells : (l : LogPlan) → told_by (rotation_of l) ≡ of_log l
  rotation_tells l =
      none_first (removals r.leftovers) _ (removals_none r.leftovers)
      ∙ (both (directory r.dir) _
      ∙ ap (λ zs. told_by (directory r.dir) ++ zs)
      (none_first (map move r.moves) _ (moves_none r.moves)
      ∙ (none_first (transfer r.log r.target l.job l.aside) _ (transfer_none r.log r.target l.job l.aside)
      ∙ (ap (λ zs. pick (mark.Rotated l.log) ++ zs) (made_anew_none r.make l.log l.job l.aside) ∙ append-nil (pick (mark.Rotated l.log))))))
    where
      r : Ready
      r = l.ready

  retirement_none : (l : LogPlan) → told_by (retirement_of l) ≡ []
  retirement_none l = none_both (finishing l.job l.aside) _ (finishing_none l.job l.aside) (none_both (program phase.Mail l.first_mail) (removals l.ready.retire) (program_none phase.Mail l.first_mail) (removals_none l.ready.retire))

  log_tells : (l : LogPlan) → told_by (steps_of_log l) ≡ of_log l
  log_tells l =
      none_first (program phase.Pre l.pre) _ (program_none phase.Pre l.pre)
      ∙ (none_behind (rotation_of l) (program phase.Post l.post ++ retirement_of l) (none_both (program phase.Post l.post) (retirement_of l) (program_none phase.Post l.post) (retirement_none l)) ∙ rotation_tells l)

  -- ---- definitions

  abbrev pub of_logs : List LogPlan → List Path
  of_logs logs = flat_map of_log logs

  pub each_tells : (logs : List LogPlan) → told_by (all_of_each (map steps_of_log logs)) ≡ of_logs logs
  each_tells [] = refl
  each_tells (l ∷ ls) = both (steps_of_log l) (all_of_each (map steps_of_log ls)) ∙ (ap (λ zs. zs ++ told_by (all_of_each (map steps_of_log ls))) (log_tells l) ∙ ap (λ zs. of_log l ++ zs) (each_tells ls))

  rotations_tell : (logs : List LogPlan) → told_by (flat_map rotation_of logs) ≡ of_logs logs
  rotations_tell [] = refl
  rotations_tell (l ∷ ls) = both (rotation_of l) (flat_map rotation_of ls) ∙ (ap (λ zs. zs ++ told_by (flat_map rotation_of ls)) (rotation_tells l) ∙ ap (λ zs. of_log l ++ zs) (rotations_tell ls))

  retirements_none : (logs : List LogPlan) → told_by (flat_map retirement_of logs) ≡ []
  retirements_none [] = refl
  retirements_none (l ∷ ls) = none_both (retirement_of l) (flat_map retirement_of ls) (retirement_none l) (retirements_none ls)

  shared_tells : (set : SetPlan) → told_by (shared_steps set) ≡ of_logs set.logs
  shared_tells set =
      none_first (program phase.First set.first) _ (program_none phase.First set.first)
      ∙ (none_first (program phase.Pre set.pre) _ (program_none phase.Pre set.pre)
      ∙ (none_behind (flat_map rotation_of set.logs) _ behind ∙ rotations_tell set.logs))
    where
      behind : told_by (program phase.Post set.post ++ (flat_map retirement_of set.logs ++ program phase.Last set.last)) ≡ []
      behind = none_both (program phase.Post set.post) _ (program_none phase.Post set.post) (none_both (flat_map retirement_of set.logs) (program phase.Last set.last) (retirements_none set.logs) (program_none phase.Last set.last))

  set_tells : (set : SetPlan) → told_by (all_of_set (steps_of_set set)) ≡ of_logs set.logs
  set_tells set = go set.shared set.logs refl
    where
      go : (shared : Bool) (logs : List LogPlan) → set.logs ≡ logs → told_by (all_of_set (by_logs shared logs set)) ≡ of_logs set.logs
      go shared [] e = sym (ap of_logs e)
      go true (l ∷ ls) e = none_behind (shared_steps set) [] refl ∙ shared_tells set
      go false (l ∷ ls) e =
          none_first (program phase.First set.first) _ (program_none phase.First set.first)
          ∙ (none_behind (all_of_each (map steps_of_log set.logs)) (program phase.Last set.last) (program_none phase.Last set.last) ∙ each_tells set.logs)

  pub sets_tell : (sets : List SetPlan) → told_by (all_of_sets (map steps_of_set sets)) ≡ flat_map (λ set. of_logs set.logs) sets
  sets_tell [] = refl
  sets_tell (set ∷ sets) =
      both (all_of_set (steps_of_set set)) (all_of_sets (map steps_of_set sets))
      ∙ (ap (λ zs. zs ++ told_by (all_of_sets (map steps_of_set sets))) (set_tells set) ∙ ap (λ zs. of_logs set.logs ++ zs) (sets_tell sets))

-- ---- the directories

no_dir_anew : (path : Path) → made_by (mark.Created path) ≡ []
no_dir_anew path = refl

dir_told : (dir : Option (Path × Option ℕ)) → told_by made_by no_dir_anew (directory dir) ++ [] ≡ made_of dir
dir_told None = refl
dir_told (Some (path, mode)) = refl

logs_made : (logs : List LogPlan) → of_logs made_by no_dir_anew logs ≡ to_make_of logs
logs_made [] = refl
logs_made (l ∷ ls) = ap (λ zs. zs ++ of_logs made_by no_dir_anew ls) (dir_told l.ready.dir) ∙ ap (λ zs. made_of l.ready.dir ++ zs) (logs_made ls)

sets_made : (sets : List SetPlan) → flat_map (λ set. of_logs made_by no_dir_anew set.logs) sets ≡ all_to_make_of sets
sets_made [] = refl
sets_made (set ∷ sets) = ap (λ zs. zs ++ flat_map (λ s. of_logs made_by no_dir_anew s.logs) sets) (logs_made set.logs) ∙ ap (λ zs. to_make_of set.logs ++ zs) (sets_made sets)

-- the marks of all steps tell of the directories that the plan makes
pub plan_dirs : (sets : List SetPlan) → made_in (flat_map marks_of (all_of_sets (map steps_of_set sets))) ≡ all_to_make_of sets
plan_dirs sets = sets_tell made_by no_dir_anew sets ∙ sets_made sets

-- ---- each step that makes a directory

-- where the step makes a directory, that is among these
abbrev pub MakesAmong : List Path → Step → Type 0
MakesAmong dirs (MakesDir path mode) = IsIn path dirs
MakesAmong dirs _ = Unit {0}

makes_among : (dirs : List Path) (s : Step) → ((dir : Path) → IsIn dir (made_in (marks_of s)) → IsIn dir dirs) → MakesAmong dirs s
makes_among dirs (MakesDir path mode) f = f path (inl refl)
makes_among dirs _ f = tt

abbrev pub EachAmong : List Path → List Step → Type 0
EachAmong dirs [] = Unit {0}
EachAmong dirs (s ∷ ss) = MakesAmong dirs s × EachAmong dirs ss

each_among : (dirs : List Path) (ss : List Step) → ((dir : Path) → IsIn dir (made_in (flat_map marks_of ss)) → IsIn dir dirs) → EachAmong dirs ss
each_among dirs [] f = tt
each_among dirs (s ∷ ss) f = (
  makes_among dirs s (λ dir i. f dir (subst (IsIn dir) (sym apart) (in_front dir (made_in (marks_of s)) (made_in (flat_map marks_of ss)) i))),
  each_among dirs ss (λ dir i. f dir (subst (IsIn dir) (sym apart) (in_back dir (made_in (marks_of s)) (made_in (flat_map marks_of ss)) i))),
)
  where
    apart : made_in (marks_of s ++ flat_map marks_of ss) ≡ made_in (marks_of s) ++ made_in (flat_map marks_of ss)
    apart = flat_map-append made_by (marks_of s) (flat_map marks_of ss)

-- the steps of a plan make no other directory than the plan says
pub plan_among : (sets : List SetPlan) → EachAmong (all_to_make_of sets) (all_of_sets (map steps_of_set sets))
plan_among sets = each_among (all_to_make_of sets) (all_of_sets (map steps_of_set sets)) (λ dir i. subst (IsIn dir) (plan_dirs sets) i)
