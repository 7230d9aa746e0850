-- What holds of the steps of each log of a plan, course by course, and what a fault then tells of the entries.
use Rattle.std.proofs.Common.{◌≡◌, ⊎_elim, ℕ, Bool, true, false, cond, refl, sym, subst, List, [], ◌∷◌, ◌++◌, map, Option, Some, None}
use Rattle.std.specs.List.{list_any, flat_map, AllByRecursion}
use Rattle.lr_rules.specs.declared.path.Path.{Path}
use Rattle.lr_rules.specs.declared.fault.Fault.{Fault}
use Rattle.lr_rules.specs.declared.fault.Phase.{Phase}
use Rattle.lr_rules.specs.declared.fault.Phase.TheVariants as phase
use Rattle.lr_rules.specs.declared.rule.Make.{Make}
use Rattle.lr_rules.specs.declared.rule.Make.TheVariants as make
use Rattle.lr_host.specs.declared.entry.Entry.{Entry}
use Rattle.lr_host.specs.Lists.{IsIn}
use Rattle.lr_host.proofs.Lists.{in_append}
use Rattle.lr_scripts.specs.declared.command.Command.{Command}
use Rattle.lr_scripts.specs.declared.removal.Removal.{Removal}
use Rattle.lr_chain.specs.declared.ready.Move.{Move}
use Rattle.lr_copy.specs.declared.job.Job.{Job}
use Rattle.lr_plan.specs.declared.mark.Mark.{Mark}
use Rattle.lr_plan.specs.declared.plan.LogPlan.{LogPlan}
use Rattle.lr_plan.specs.declared.plan.SetPlan.{SetPlan}
use Rattle.lr_plan.specs.declared.step.SetSteps.{SetSteps}
use Rattle.lr_plan.specs.declared.step.Step.{Step}
use Rattle.lr_plan.specs.declared.step.Step.TheVariants as step
use Rattle.lr_plan.specs.Course.{Course}
use Rattle.lr_plan.specs.Done.{EachDone, LogsDone, SetDone, broke_off, went_on, SetsDone, is_rotated}
use Rattle.lr_plan.specs.Steps.{on_of, program, removal, removals, directory, move, copy, transfer, anew, made_anew, finishing, rotation_of, retirement_of, steps_of_log, shared_steps, by_logs, steps_of_set}
use Rattle.lr_acts.specs.Making.{all_of_each, all_of_set, all_of_sets}

-- each course of a definition is so
abbrev pub EachOf : (List Step → Type 0) → SetSteps → Type 0
EachOf Q s = Q s.first × AllByRecursion Q s.each × Q s.last

-- ---- from each course to all of them

-- Where a course is so, the fault among its faults tells R of its entries; R of some of the entries is R of all.
module _ (Q : List Step → Type 0) (f : Fault) (R : List Entry → Type 0) (front : (xs ys : List Entry) → R xs → R (xs ++ ys)) (back : (xs ys : List Entry) → R ys → R (xs ++ ys)) (course : (steps : List Step) (ms : List Mark) (fs : List Fault) (ts : List Entry) → Q steps → Course steps ms fs ts → IsIn f fs → R ts) where
  pub either : (all fs gs : List Fault) (ts us vs : List Entry) → all ≡ fs ++ gs → ts ≡ us ++ vs → (IsIn f fs → R us) → (IsIn f gs → R vs) → IsIn f all → R ts
  either all fs gs ts us vs same joined a b i = subst R (sym joined) (⊎_elim (λ h. front us vs (a h)) (λ h. back us vs (b h)) (in_append f fs gs (subst (IsIn f) same i)))

  nothing : (fs : List Fault) (ts : List Entry) → fs ≡ [] → IsIn f fs → R ts
  nothing fs ts none i = absurd (subst (IsIn f) none i)

  each_done : (each : List (List Step)) (ms : List Mark) (fs : List Fault) (ts : List Entry) → AllByRecursion Q each → EachDone each ms fs ts → IsIn f fs → R ts
  each_done [] ms fs ts q d = nothing fs ts d.1
  each_done (ss ∷ each) ms fs ts q d = either fs d.first_faults d.second_faults ts d.entries.front d.entries.back d.faults_are d.entries.joined
      (course ss d.first_marks d.first_faults d.entries.front q.0 d.entries.first) (each_done each d.second_marks d.second_faults d.entries.back q.1 d.entries.second)

  last_done : (b : Bool) (last : List Step) (ms : List Mark) (fs : List Fault) (ts : List Entry) → Q last → Course (cond b last []) ms fs ts → IsIn f fs → R ts
  last_done true last ms fs ts q c = course last ms fs ts q c
  last_done false last ms fs ts q c = nothing fs ts c.1

  logs_done : (each : List (List Step)) (last : List Step) (ms : List Mark) (fs : List Fault) (ts : List Entry) → AllByRecursion Q each → Q last → LogsDone each last ms fs ts → IsIn f fs → R ts
  logs_done each last ms fs ts q l d = either fs d.of_each d.of_last ts d.entries.front d.entries.back d.faults_are d.entries.joined
      (each_done each d.by_each d.of_each d.entries.front q d.entries.first) (last_done (list_any is_rotated d.by_each) last d.by_last d.of_last d.entries.back l d.entries.second)

  set_done : (s : SetSteps) (ms : List Mark) (fs : List Fault) (ts : List Entry) → EachOf Q s → SetDone s ms fs ts → IsIn f fs → R ts
  set_done s ms fs ts q (broke_off b) = course s.first ms fs ts q.0 b.part
  set_done s ms fs ts q (went_on b) = either fs b.first_faults b.second_faults ts b.entries.front b.entries.back b.faults_are b.entries.joined
      (course s.first b.first_marks b.first_faults b.entries.front q.0 b.entries.first.1) (logs_done s.each s.last b.second_marks b.second_faults b.entries.back q.1 q.2 b.entries.second)

  pub sets_done : (sets : List SetSteps) (ms : List Mark) (fs : List Fault) (ts : List Entry) → AllByRecursion (EachOf Q) sets → SetsDone sets ms fs ts → IsIn f fs → R ts
  sets_done [] ms fs ts q d = nothing fs ts d.1
  sets_done (s ∷ sets) ms fs ts q d = either fs d.first_faults d.second_faults ts d.entries.front d.entries.back d.faults_are d.entries.joined
      (set_done s d.first_marks d.first_faults d.entries.front q.0 d.entries.first) (sets_done sets d.second_marks d.second_faults d.entries.back q.1 d.entries.second)

-- ---- from each log to the courses of a plan

-- Q holds of no step, of two parts where it holds of each, and of a program.
module _ (Q : List Step → Type 0) (none : Q []) (on : (xs ys : List Step) → Q xs → Q ys → Q (xs ++ ys)) (runs : (p : Phase) (about : List ℕ) (c : Command) → Q (step.Runs p about c ∷ [])) where
  -- of the rotation of the log, and of its retirement
  abbrev pub OfLog : LogPlan → Type 0
  OfLog l = Q (rotation_of l) × Q (retirement_of l)

  pub of_program : (p : Phase) (o : Option Command) → Q (program p o)
  of_program p None = none
  of_program p (Some command) = runs p (on_of p command) command

  each_log : (logs : List LogPlan) → AllByRecursion OfLog logs → AllByRecursion Q (map steps_of_log logs)
  each_log [] q = tt
  each_log (l ∷ ls) q = (
    on (program phase.Pre l.pre) _ (of_program phase.Pre l.pre) (on (rotation_of l) _ q.0.0 (on (program phase.Post l.post) (retirement_of l) (of_program phase.Post l.post) q.0.1)),
    each_log ls q.1,
  )

  rotations : (logs : List LogPlan) → AllByRecursion OfLog logs → Q (flat_map rotation_of logs)
  rotations [] q = none
  rotations (l ∷ ls) q = on (rotation_of l) (flat_map rotation_of ls) q.0.0 (rotations ls q.1)

  retirements : (logs : List LogPlan) → AllByRecursion OfLog logs → Q (flat_map retirement_of logs)
  retirements [] q = none
  retirements (l ∷ ls) q = on (retirement_of l) (flat_map retirement_of ls) q.0.1 (retirements ls q.1)

  shared_so : (set : SetPlan) → AllByRecursion OfLog set.logs → Q (shared_steps set)
  shared_so set q =
      on (program phase.First set.first) _ (of_program phase.First set.first)
      (on (program phase.Pre set.pre) _ (of_program phase.Pre set.pre)
      (on (flat_map rotation_of set.logs) _ (rotations set.logs q)
      (on (program phase.Post set.post) _ (of_program phase.Post set.post)
      (on (flat_map retirement_of set.logs) (program phase.Last set.last) (retirements set.logs q) (of_program phase.Last set.last)))))

  pub set_so : (set : SetPlan) → AllByRecursion OfLog set.logs → EachOf Q (steps_of_set set)
  set_so set q = go set.shared set.logs
    where
      go : (shared : Bool) (logs : List LogPlan) → EachOf Q (by_logs shared logs set)
      go shared [] = (none, tt, none)
      go true (l ∷ ls) = (shared_so set q, tt, none)
      go false (l ∷ ls) = (of_program phase.First set.first, each_log set.logs q, of_program phase.Last set.last)

  pub sets_so : (sets : List SetPlan) → AllByRecursion (λ (set : SetPlan). AllByRecursion OfLog set.logs) sets → AllByRecursion (EachOf Q) (map steps_of_set sets)
  sets_so [] q = tt
  sets_so (set ∷ sets) q = (set_so set q.0, sets_so sets q.1)

  all_each : (each : List (List Step)) → AllByRecursion Q each → Q (all_of_each each)
  all_each [] q = none
  all_each (ss ∷ each) q = on ss (all_of_each each) q.0 (all_each each q.1)

  pub all_set : (s : SetSteps) → EachOf Q s → Q (all_of_set s)
  all_set s q = on s.first (all_of_each s.each ++ s.last) q.0 (on (all_of_each s.each) s.last (all_each s.each q.1) q.2)

  pub all_sets : (sets : List SetSteps) → AllByRecursion (EachOf Q) sets → Q (all_of_sets sets)
  all_sets [] q = none
  all_sets (s ∷ sets) q = on (all_of_set s) (all_of_sets sets) (all_set s q.0) (all_sets sets q.1)

-- ---- from each step to a log

-- the step isn't one that only a copy has
abbrev pub IsNoCopy : Step → Type 0
IsNoCopy (step.Takes path mode) = ⊥
IsNoCopy (step.Copies from to limit) = ⊥
IsNoCopy _ = Unit {0}

-- Q holds of each such step, and of the copy, where there is one.
module _ (Q : List Step → Type 0) (none : Q []) (on : (xs ys : List Step) → Q xs → Q ys → Q (xs ++ ys)) (single : (s : Step) → IsNoCopy s → Q (s ∷ [])) where
  a_program : (p : Phase) (o : Option Command) → Q (program p o)
  a_program p None = none
  a_program p (Some command) = single (step.Runs p (on_of p command) command) tt

  all_removed : (rs : List Removal) → Q (removals rs)
  all_removed [] = none
  all_removed (r ∷ rs) = on (removal r) (removals rs)
      (on (program phase.Preremove r.preremove) _ (a_program phase.Preremove r.preremove) (on (program phase.Mail r.mail) _ (a_program phase.Mail r.mail) (single (step.Removes r.path) tt))) (all_removed rs)

  a_directory : (d : Option (Path × Option ℕ)) → Q (directory d)
  a_directory None = none
  a_directory (Some (path, mode)) = single (step.MakesDir path mode) tt

  all_moved : (ms : List Move) → Q (map move ms)
  all_moved [] = none
  all_moved (m ∷ ms) = on (move m ∷ []) (map move ms) (single (move m) tt) (all_moved ms)

  a_transfer : (log target : Path) (job : Option Job) (aside : Option Path) → ((j : Job) → job ≡ Some j → Q (copy j)) → Q (transfer log target job aside)
  a_transfer log target None aside q = single (step.Renames log target) tt
  a_transfer log target (Some job) None q = q job refl
  a_transfer log target (Some job) (Some path) q = on (step.SyncsDir job.dir ∷ []) (step.Renames log path ∷ []) (single (step.SyncsDir job.dir) tt) (single (step.Renames log path) tt)

  a_making : (m : Make) (log : Path) → Q (anew m log)
  a_making make.No log = none
  a_making (make.Yes mode) log = single (step.Creates log mode) tt

  made : (m : Make) (log : Path) (job : Option Job) (aside : Option Path) → Q (made_anew m log job aside)
  made m log None aside = a_making m log
  made m log (Some job) None = none
  made m log (Some job) (Some path) = a_making m log

  a_finishing : (job : Option Job) (aside : Option Path) → ((j : Job) → job ≡ Some j → Q (copy j)) → Q (finishing job aside)
  a_finishing None aside q = none
  a_finishing (Some job) None q = none
  a_finishing (Some job) (Some path) q = on (copy job) (step.Removes path ∷ []) (q job refl) (single (step.Removes path) tt)

  pub a_rotation : (l : LogPlan) → ((job : Job) → l.job ≡ Some job → Q (copy job)) → Q (rotation_of l)
  a_rotation l q =
      on (removals l.ready.leftovers) _ (all_removed l.ready.leftovers)
      (on (directory l.ready.dir) _ (a_directory l.ready.dir)
      (on (map move l.ready.moves) _ (all_moved l.ready.moves)
      (on (transfer l.ready.log l.ready.target l.job l.aside) _ (a_transfer l.ready.log l.ready.target l.job l.aside q)
      (on (step.Rotated l.log ∷ []) (made_anew l.ready.make l.log l.job l.aside) (single (step.Rotated l.log) tt) (made l.ready.make l.log l.job l.aside)))))

  pub a_retirement : (l : LogPlan) → ((job : Job) → l.job ≡ Some job → Q (copy job)) → Q (retirement_of l)
  a_retirement l q =
      on (finishing l.job l.aside) _ (a_finishing l.job l.aside q)
      (on (program phase.Mail l.first_mail) (removals l.ready.retire) (a_program phase.Mail l.first_mail) (all_removed l.ready.retire))
