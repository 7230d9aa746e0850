-- Steps that empty logs, one list behind another; and those of a plan.
use Rattle.std.proofs.Common.{◌≡◌, refl, sym, ◌∙◌, ap, subst, Bool, true, false, cond, List, [], ◌∷◌, ◌++◌, map, append_assoc, append-nil, ℕ, Option, Some, None, inl}
use Rattle.std.specs.Prelude.{All, option_to_list}
use Rattle.std.specs.List.{flat_map}
use Rattle.std.proofs.lemmas.List.Elements.{All-nil, All-cons}
use Rattle.lr_rules.specs.declared.fault.Phase.{Phase}
use Rattle.lr_rules.specs.declared.fault.Phase.TheVariants as phase
use Rattle.lr_rules.specs.declared.path.Path.{Path}
use Rattle.lr_rules.specs.declared.rule.Make.{Make}
use Rattle.lr_rules.specs.declared.rule.Make.TheVariants as make
use Rattle.lr_host.specs.Lists.{IsIn}
use Rattle.lr_host.proofs.Lists.{in_front, in_back}
use Rattle.lr_scripts.specs.declared.command.Command.{Command}
use Rattle.lr_scripts.specs.declared.removal.Removal.{Removal}
use Rattle.lr_chain.specs.declared.ready.Move.{Move}
use Rattle.lr_copy.specs.declared.job.Job.{Job}
use Rattle.lr_plan.specs.declared.plan.LogPlan.{LogPlan}
use Rattle.lr_plan.specs.declared.plan.SetPlan.{SetPlan}
use Rattle.lr_plan.specs.declared.step.Step.{Step}
use Rattle.lr_plan.specs.declared.step.Step.TheVariants as step
use Rattle.lr_plan.specs.Steps.{program, removal, removals, directory, move, step_if, copy, transfer, anew, leaves_path, made_anew, finishing, rotation_of, retirement_of, steps_of_log, shared_steps, by_logs, steps_of_set, state_steps}
use Rattle.lr_laws_acts.specs.Jobs.{jobs_in, jobs_of}
use Rattle.lr_laws_acts.specs.Steps.{named_steps, CopyStepsLast, AreCopySteps, IsCopySet, EmptyCopied}
use Rattle.lr_laws_acts.proofs.Lists.{Stands, in_first, in_second, stands, not_in_none, only_one}

-- ---- steps that empty none

abbrev pub IsNoCut : Step → Type 0
IsNoCut (step.Truncates path) = ⊥
IsNoCut _ = Unit {0}

abbrev pub NoCuts : List Step → Type 0
NoCuts [] = Unit {0}
NoCuts (s ∷ ss) = IsNoCut s × NoCuts ss

both_no_cuts : (xs ys : List Step) → NoCuts xs → NoCuts ys → NoCuts (xs ++ ys)
both_no_cuts [] ys a b = b
both_no_cuts (x ∷ xs) ys a b = (a.0, both_no_cuts xs ys a.1 b)

no_cut_in : (steps before after : List Step) (log : Path) → NoCuts steps → steps ≡ before ++ (step.Truncates log ∷ after) → ⊥
no_cut_in [] before after log a is = not_in_none (step.Truncates log) before after is
no_cut_in (s ∷ ss) [] after log a is = let same : s ≡ step.Truncates log = cc in subst IsNoCut same a.0
no_cut_in (s ∷ ss) (b ∷ before) after log a is = let rest : ss ≡ before ++ (step.Truncates log ∷ after) = cc in no_cut_in ss before after log a.1 rest

program_no_cuts : (p : Phase) (command : Option Command) → NoCuts (program p command)
program_no_cuts p None = tt
program_no_cuts p (Some command) = (tt, tt)

removal_no_cuts : (r : Removal) → NoCuts (removal r)
removal_no_cuts r = both_no_cuts (program phase.Preremove r.preremove) (program phase.Mail r.mail ++ step.Removes r.path ∷ []) (program_no_cuts phase.Preremove r.preremove)
    (both_no_cuts (program phase.Mail r.mail) (step.Removes r.path ∷ []) (program_no_cuts phase.Mail r.mail) (tt, tt))

removals_no_cuts : (rs : List Removal) → NoCuts (removals rs)
removals_no_cuts [] = tt
removals_no_cuts (r ∷ rs) = both_no_cuts (removal r) (removals rs) (removal_no_cuts r) (removals_no_cuts rs)

directory_no_cuts : (dir : Option (Path × Option ℕ)) → NoCuts (directory dir)
directory_no_cuts None = tt
directory_no_cuts (Some d) = (tt, tt)

moves_no_cuts : (ms : List Move) → NoCuts (map move ms)
moves_no_cuts [] = tt
moves_no_cuts (m ∷ ms) = (tt, moves_no_cuts ms)

anew_no_cuts : (m : Make) (log : Path) → NoCuts (anew m log)
anew_no_cuts make.No log = tt
anew_no_cuts (make.Yes mode) log = (tt, tt)

made_no_cuts : (m : Make) (log : Path) (job : Option Job) (aside : Option Path) → NoCuts (made_anew m log job aside)
made_no_cuts m log job aside = go (leaves_path job aside)
  where
    go : (b : Bool) → NoCuts (cond b (anew m log) [])
    go true = anew_no_cuts m log
    go false = tt

asked_no_cuts : (b : Bool) (s : Step) → IsNoCut s → NoCuts (step_if b s)
asked_no_cuts true s i = (i, tt)
asked_no_cuts false s i = tt

named_no_cuts : (job : Job) → NoCuts (named_steps job)
named_no_cuts job = both_no_cuts (step_if job.stale (step.Removes job.part)) _ (asked_no_cuts job.stale (step.Removes job.part) tt) (tt, (tt, (tt, (tt, (tt, tt)))))

syncs_no_cuts : (dirs : List Path) → NoCuts (map step.SyncsDir dirs)
syncs_no_cuts [] = tt
syncs_no_cuts (d ∷ dirs) = (tt, syncs_no_cuts dirs)

pub state_no_cuts : (state : Path) (stale : Bool) (dirs : List Path) (text : List ℕ) → NoCuts (state_steps state stale dirs text)
state_no_cuts state stale dirs text = both_no_cuts (step_if stale (step.Removes _)) _ (asked_no_cuts stale (step.Removes _) tt) (tt, (tt, (tt, both_no_cuts (map step.SyncsDir dirs) _ (syncs_no_cuts dirs) (tt, (tt, tt)))))

-- ---- steps that copy

module _ (P : Job → Type 0) where
  pub none_copied : (steps : List Step) → NoCuts steps → AreCopySteps P steps
  none_copied steps a = λ before log after is. absurd (no_cut_in steps before after log a is)

  steps_behind : (log : Path) (xs before : List Step) → CopyStepsLast P log before → CopyStepsLast P log (xs ++ before)
  steps_behind log xs before c = record {
    job = c.job;
    is = c.is;
    from_is = c.from_is;
    cut = c.cut;
    front = xs ++ c.front;
    joined = ap (λ us. xs ++ us) c.joined ∙ sym (append_assoc xs c.front (named_steps c.job));
  }

  both_copied : (xs ys : List Step) → AreCopySteps P xs → AreCopySteps P ys → AreCopySteps P (xs ++ ys)
  both_copied xs ys f g = λ before log after is. go before log after (stands (step.Truncates log) xs ys before after is)
    where
      go : (before : List Step) (log : Path) (after : List Step) → Stands (step.Truncates log) xs ys before after → CopyStepsLast P log before
      go before log after (in_first rest r) = f before log rest r
      go before log after (in_second more r s) = subst (CopyStepsLast P log) (sym r) (steps_behind log xs more (g more log after s))

  -- the first of such steps
  pub first_copied : (xs ys : List Step) → AreCopySteps P (xs ++ ys) → AreCopySteps P xs
  first_copied xs ys f = λ before log after is. f before log (after ++ ys) (ap (λ us. us ++ ys) is ∙ append_assoc before (step.Truncates log ∷ after) ys)

  -- the steps of a copy
  copy_is : (job : Job) → copy job ≡ named_steps job ++ step_if job.cut (step.Truncates job.from)
  copy_is job = sym (append_assoc (step_if job.stale (step.Removes job.part)) (step.Takes job.part job.mode ∷ step.Copies job.from job.part job.limit ∷ step.SyncsFile job.part ∷ step.Renames job.part job.to ∷ step.SyncsDir job.dir ∷ []) (step_if job.cut (step.Truncates job.from)))

  last_cut : (job : Job) (b : Bool) (log : Path) (more after : List Step) → job.cut ≡ b → step_if b (step.Truncates job.from) ≡ more ++ (step.Truncates log ∷ after) → P job → CopyStepsLast P log (named_steps job ++ more)
  last_cut job true log more after cut is has = let one = only_one (step.Truncates log) (step.Truncates job.from) more after is in record {
    job = job;
    is = has;
    from_is = same one.0;
    cut = cut;
    front = [];
    joined = ap (λ us. named_steps job ++ us) one.1 ∙ append-nil (named_steps job);
  }
    where
      same : step.Truncates job.from ≡ step.Truncates log → job.from ≡ log
      same e = cc
  last_cut job false log more after cut is has = absurd (not_in_none (step.Truncates log) more after is)

  copy_copied : (job : Job) → P job → AreCopySteps P (copy job)
  copy_copied job has = subst (AreCopySteps P) (sym (copy_is job)) (λ before log after is. go before log after (stands (step.Truncates log) (named_steps job) (step_if job.cut (step.Truncates job.from)) before after is))
    where
      go : (before : List Step) (log : Path) (after : List Step) → Stands (step.Truncates log) (named_steps job) (step_if job.cut (step.Truncates job.from)) before after → CopyStepsLast P log before
      go before log after (in_first rest r) = absurd (no_cut_in (named_steps job) before rest log (named_no_cuts job) r)
      go before log after (in_second more r s) = subst (CopyStepsLast P log) (sym r) (last_cut job job.cut log more after refl s has)

  -- ---- of a plan

  abbrev HasJob : Option Job → Type 0
  HasJob None = Unit {0}
  HasJob (Some job) = P job

  transfer_copied : (log target : Path) (job : Option Job) (aside : Option Path) → HasJob job → AreCopySteps P (transfer log target job aside)
  transfer_copied log target None aside has = none_copied (step.Renames log target ∷ []) (tt, tt)
  transfer_copied log target (Some job) None has = copy_copied job has
  transfer_copied log target (Some job) (Some path) has = none_copied (step.SyncsDir job.dir ∷ step.Renames log path ∷ []) (tt, (tt, tt))

  rotation_copied : (log : LogPlan) → HasJob log.job → AreCopySteps P (rotation_of log)
  rotation_copied log has = both_copied (removals log.ready.leftovers) _ (none_copied (removals log.ready.leftovers) (removals_no_cuts log.ready.leftovers))
      (both_copied (directory log.ready.dir) _ (none_copied (directory log.ready.dir) (directory_no_cuts log.ready.dir))
      (both_copied (map move log.ready.moves) _ (none_copied (map move log.ready.moves) (moves_no_cuts log.ready.moves))
      (both_copied (transfer log.ready.log log.ready.target log.job log.aside) _ (transfer_copied log.ready.log log.ready.target log.job log.aside has)
      (none_copied (step.Rotated log.log ∷ made_anew log.ready.make log.log log.job log.aside) (tt, made_no_cuts log.ready.make log.log log.job log.aside)))))

  finishing_copied : (job : Option Job) (aside : Option Path) → HasJob job → AreCopySteps P (finishing job aside)
  finishing_copied None aside has = none_copied [] tt
  finishing_copied (Some job) None has = none_copied [] tt
  finishing_copied (Some job) (Some path) has = both_copied (copy job) (step.Removes path ∷ []) (copy_copied job has) (none_copied (step.Removes path ∷ []) (tt, tt))

  retirement_copied : (log : LogPlan) → HasJob log.job → AreCopySteps P (retirement_of log)
  retirement_copied log has = both_copied (finishing log.job log.aside) _ (finishing_copied log.job log.aside has)
      (none_copied _ (both_no_cuts (program phase.Mail log.first_mail) (removals log.ready.retire) (program_no_cuts phase.Mail log.first_mail) (removals_no_cuts log.ready.retire)))

  -- each log's copy has P
  abbrev HaveJobs : List LogPlan → Type 0
  HaveJobs [] = Unit {0}
  HaveJobs (log ∷ logs) = HasJob log.job × HaveJobs logs

  log_copied : (log : LogPlan) → HasJob log.job → AreCopySteps P (steps_of_log log)
  log_copied log has = both_copied (program phase.Pre log.pre) _ (none_copied (program phase.Pre log.pre) (program_no_cuts phase.Pre log.pre))
      (both_copied (rotation_of log) _ (rotation_copied log has)
      (both_copied (program phase.Post log.post) _ (none_copied (program phase.Post log.post) (program_no_cuts phase.Post log.post)) (retirement_copied log has)))

  each_copied : (logs : List LogPlan) → HaveJobs logs → All (AreCopySteps P) (map steps_of_log logs)
  each_copied [] has = All-nil (AreCopySteps P)
  each_copied (log ∷ logs) has = All-cons (AreCopySteps P) (steps_of_log log) (map steps_of_log logs) (log_copied log has.0) (each_copied logs has.1)

  -- what is done for each log in its turn
  all_copied : (part : LogPlan → List Step) → ((log : LogPlan) → HasJob log.job → AreCopySteps P (part log)) → (logs : List LogPlan) → HaveJobs logs → AreCopySteps P (flat_map part logs)
  all_copied part f [] has = none_copied [] tt
  all_copied part f (log ∷ logs) has = both_copied (part log) (flat_map part logs) (f log has.0) (all_copied part f logs has.1)

  shared_copied : (set : SetPlan) → HaveJobs set.logs → AreCopySteps P (shared_steps set)
  shared_copied set has = both_copied (program phase.First set.first) _ (none_copied (program phase.First set.first) (program_no_cuts phase.First set.first))
      (both_copied (program phase.Pre set.pre) _ (none_copied (program phase.Pre set.pre) (program_no_cuts phase.Pre set.pre))
      (both_copied (flat_map rotation_of set.logs) _ (all_copied rotation_of rotation_copied set.logs has)
      (both_copied (program phase.Post set.post) _ (none_copied (program phase.Post set.post) (program_no_cuts phase.Post set.post))
      (both_copied (flat_map retirement_of set.logs) _ (all_copied retirement_of retirement_copied set.logs has)
      (none_copied (program phase.Last set.last) (program_no_cuts phase.Last set.last))))))

  set_copied : (set : SetPlan) → HaveJobs set.logs → IsCopySet P (steps_of_set set)
  set_copied set has = go set.shared set.logs has
    where
      go : (shared : Bool) (logs : List LogPlan) → HaveJobs set.logs → IsCopySet P (by_logs shared logs set)
      go shared [] has = record { first = none_copied [] tt; each = All-nil (AreCopySteps P); last = none_copied [] tt }
      go true (log ∷ logs) has = record { first = shared_copied set has; each = All-nil (AreCopySteps P); last = none_copied [] tt }
      go false (log ∷ logs) has = record {
        first = none_copied (program phase.First set.first) (program_no_cuts phase.First set.first);
        each = each_copied set.logs has;
        last = none_copied (program phase.Last set.last) (program_no_cuts phase.Last set.last);
      }

  have_jobs : (logs : List LogPlan) → ((job : Job) → IsIn job (jobs_in logs) → P job) → HaveJobs logs
  have_jobs [] f = tt
  have_jobs (log ∷ logs) f = (one log.job (λ job i. f job (in_front job (option_to_list log.job) (jobs_in logs) i)), have_jobs logs (λ job i. f job (in_back job (option_to_list log.job) (jobs_in logs) i)))
    where
      one : (job : Option Job) → ((j : Job) → IsIn j (option_to_list job) → P j) → HasJob job
      one None f = tt
      one (Some job) f = f job (inl refl)

  pub plan_copied : (sets : List SetPlan) → ((job : Job) → IsIn job (jobs_of sets) → P job) → EmptyCopied P (map steps_of_set sets)
  plan_copied [] f = All-nil (IsCopySet P)
  plan_copied (set ∷ sets) f = All-cons (IsCopySet P) (steps_of_set set) (map steps_of_set sets)
      (set_copied set (have_jobs set.logs (λ job i. f job (in_front job (jobs_in set.logs) (jobs_of sets) i))))
      (plan_copied sets (λ job i. f job (in_back job (jobs_in set.logs) (jobs_of sets) i)))
