-- The part file of a copy is needed by one step of a plan, and behind that step none gives it a name or unlinks it.
use Rattle.std.proofs.Common.{◌≡◌, ◌⊎◌, inl, inr, ⊎_elim, ℕ, Bool, true, false, refl, sym, ap, ◌∙◌, subst, List, [], ◌∷◌, ◌++◌, map, Option, Some, None}
use Rattle.std.specs.List.{flat_map, AllByRecursion}
use Rattle.lr_rules.specs.declared.path.Path.{Path}
use Rattle.lr_rules.specs.declared.fault.Phase.{Phase}
use Rattle.lr_rules.specs.declared.fault.Phase.TheVariants as phase
use Rattle.lr_rules.specs.declared.rule.Make.{Make}
use Rattle.lr_rules.specs.declared.rule.Make.TheVariants as make
use Rattle.lr_rules.specs.declared.rule.Naming.{Naming}
use Rattle.lr_rules.specs.Names.{IsOwnName, the_log, IsName}
use Rattle.lr_host.specs.Lists.{IsIn}
use Rattle.lr_family.specs.Parts.{IsMember}
use Rattle.lr_family.proofs.Names.{member_own}
use Rattle.lr_scripts.specs.declared.command.Command.{Command}
use Rattle.lr_scripts.specs.declared.removal.Removal.{Removal}
use Rattle.lr_chain.specs.declared.ready.Move.{Move}
use Rattle.lr_chain.specs.declared.ready.Ready.{Ready}
use Rattle.lr_copy.specs.declared.job.Job.{Job}
use Rattle.lr_plan.specs.declared.plan.LogPlan.{LogPlan}
use Rattle.lr_plan.specs.declared.plan.SetPlan.{SetPlan}
use Rattle.lr_plan.specs.declared.step.Step.{Step}
use Rattle.lr_plan.specs.declared.step.Step.TheVariants as step
use Rattle.lr_plan.specs.Steps.{on_of, program, removal, removals, directory, move, step_if, copy, transfer, anew, made_anew, finishing, rotation_of, retirement_of, steps_of_log, shared_steps, by_logs, steps_of_set}
use Rattle.lr_acts.specs.Making.{all_of_each, all_of_set, all_of_sets}
use Rattle.lr_laws_rotations.specs.AllTurns.{IsItsDir}
use Rattle.lr_laws_rotations.specs.Target.{Target}
use Rattle.lr_laws_acts.specs.Fitting.{DontMeet}
use Rattle.lr_laws_acts.specs.Planned.{bare_removal, IsReadyFor, AreReadyFor}
use Rattle.lr_run.proofs.Courses.{set_so, all_set}
use Rattle.lr_laws_rotations.proofs.PartFile.{part_no_waiting}
use Rattle.lr_laws_rotations.proofs.Way.{aside_is}
use Rattle.lr_run.proofs.Members.{AreOfMembers, GiveMembers, HasMembers, HaveMembers, job_to, job_part, part_own, part_no_log, meets_none}
use Rattle.lr_laws_plan.proofs.Steps.{NoneTouches, OnceNamed, none_on, none_once, once_first, once_later}

-- ---- one log

-- neither its rotation touches the path nor its retirement; one of the two names it once
abbrev pub IsAside : Path → LogPlan → Type 0
IsAside x l = NoneTouches x (rotation_of l) × NoneTouches x (retirement_of l)

abbrev IsOnce : Path → LogPlan → Type 0
IsOnce x l = (OnceNamed x (rotation_of l) × NoneTouches x (retirement_of l)) ⊎ (NoneTouches x (rotation_of l) × OnceNamed x (retirement_of l))

module _ (x : Path) where
  runs_none : (p : Phase) (about : List ℕ) (c : Command) → NoneTouches x (step.Runs p about c ∷ [])
  runs_none p about c = (λ h. h, λ h. h, tt)

  program_none : (p : Phase) (o : Option Command) → NoneTouches x (program p o)
  program_none p None = tt
  program_none p (Some command) = runs_none p (on_of p command) command

  removals_none : (n : Naming) → (IsMember n x → ⊥) → (rs : List Removal) → AreOfMembers n (map bare_removal rs) → NoneTouches x (removals rs)
  removals_none n out [] h = tt
  removals_none n out (r ∷ rs) h = none_on x (removal r) (removals rs)
      (none_on x (program phase.Preremove r.preremove) _ (program_none phase.Preremove r.preremove) (none_on x (program phase.Mail r.mail) _ (program_none phase.Mail r.mail) ((λ h. h), (λ gone. out (subst (IsMember n) gone h.0)), tt)))
      (removals_none n out rs h.1)

  directory_none : (d : Option (Path × Option ℕ)) → ((mode : Option ℕ) → d ≡ Some (x, mode) → ⊥) → NoneTouches x (directory d)
  directory_none None other = tt
  directory_none (Some (path, mode)) other = ((λ same. other mode (ap (λ (y : Path). Some (y, mode)) same)), (λ h. h), tt)

  moves_none : (n : Naming) → (IsMember n x → ⊥) → (ms : List Move) → GiveMembers n ms → NoneTouches x (map move ms)
  moves_none n out [] h = tt
  moves_none n out (m ∷ ms) h = ((λ to. out (subst (IsMember n) to h.0)), (λ h. h), moves_none n out ms h.1)

  -- a copy behind the making of its part file
  abbrev behind : Job → List Step
  behind job = step.Copies job.from job.part job.limit ∷ step.SyncsFile job.part ∷ step.Renames job.part job.to ∷ step.SyncsDir job.dir ∷ step_if job.cut (step.Truncates job.from)

  behind_none : (job : Job) → (job.to ≡ x → ⊥) → NoneTouches x (behind job)
  behind_none job to = (λ h. h, λ h. h, (λ h. h, λ h. h, (to, λ h. h, (λ h. h, λ h. h, cut job.cut))))
    where
      cut : (b : Bool) → NoneTouches x (step_if b (step.Truncates job.from))
      cut true = (λ h. h, λ h. h, tt)
      cut false = tt

  copy_none : (job : Job) → (job.part ≡ x → ⊥) → (job.to ≡ x → ⊥) → NoneTouches x (copy job)
  copy_none job part to = go job.stale
    where
      go : (b : Bool) → NoneTouches x (step_if b (step.Removes job.part) ++ (step.Takes job.part job.mode ∷ behind job))
      go true = (λ h. h, part, (part, λ h. h, behind_none job to))
      go false = (part, λ h. h, behind_none job to)

  copy_once : (job : Job) → (job.to ≡ x → ⊥) → OnceNamed x (copy job)
  copy_once job to = go job.stale
    where
      taken : OnceNamed x (step.Takes job.part job.mode ∷ behind job)
      taken = (λ named. behind_none job to, none_once x (behind job) (behind_none job to))

      go : (b : Bool) → OnceNamed x (step_if b (step.Removes job.part) ++ (step.Takes job.part job.mode ∷ behind job))
      go true = (λ named. absurd named, taken)
      go false = taken

  new_none : (m : Make) (log : Path) → (log ≡ x → ⊥) → NoneTouches x (anew m log)
  new_none make.No log other = tt
  new_none (make.Yes mode) log other = (other, λ h. h, tt)

  anew_none : (m : Make) (log : Path) (job : Option Job) (aside : Option Path) → (log ≡ x → ⊥) → NoneTouches x (made_anew m log job aside)
  anew_none m log None aside other = new_none m log other
  anew_none m log (Some job) None other = tt
  anew_none m log (Some job) (Some path) other = new_none m log other

  finishing_none : (j : Option Job) (a : Option Path) → ((job : Job) → j ≡ Some job → (job.part ≡ x → ⊥) × (job.to ≡ x → ⊥)) → ((path : Path) → a ≡ Some path → path ≡ x → ⊥) → NoneTouches x (finishing j a)
  finishing_none None a copied waits = tt
  finishing_none (Some job) None copied waits = tt
  finishing_none (Some job) (Some path) copied waits = none_on x (copy job) (step.Removes path ∷ []) (copy_none job (copied job refl).0 (copied job refl).1) ((λ h. h), waits path refl, tt)

  -- what a log does, by its target
  module _ (t : Target) (l : LogPlan) (h : HasMembers t) (r : IsReadyFor t l) where
    abbrev n : Naming
    n = t.naming

    log_is : l.log ≡ t.log
    log_is = r.log_is

    target_is : l.ready.target ≡ t.ready.target
    target_is = ap (λ (y : Ready). y.target) r.ready_is

    dir_is : l.ready.dir ≡ t.ready.dir
    dir_is = ap (λ (y : Ready). y.dir) r.ready_is

    -- of what is no member's, nor the directory that it makes
    module _ (out : IsMember n x → ⊥) (away : IsItsDir t x → ⊥) where
      leftovers_none : NoneTouches x (removals l.ready.leftovers)
      leftovers_none = removals_none n out l.ready.leftovers (subst (AreOfMembers n) (sym (ap (λ (y : Ready). y.leftovers) r.ready_is)) h.leftovers)

      dir_none : NoneTouches x (directory l.ready.dir)
      dir_none = directory_none l.ready.dir (λ mode is. away (mode, sym dir_is ∙ is))

      chain_none : NoneTouches x (map move l.ready.moves)
      chain_none = moves_none n out l.ready.moves (subst (GiveMembers n) (sym (ap (λ (y : Ready). y.moves) r.ready_is)) h.moves)

      removing_none : NoneTouches x (program phase.Mail l.first_mail ++ removals l.ready.retire)
      removing_none = none_on x (program phase.Mail l.first_mail) (removals l.ready.retire) (program_none phase.Mail l.first_mail)
          (removals_none n out l.ready.retire (subst (AreOfMembers n) (sym (ap (λ (y : Ready). y.retire) r.ready_is)) h.retire))

      retire_none : NoneTouches x (finishing l.job l.aside) → NoneTouches x (retirement_of l)
      retire_none a = none_on x (finishing l.job l.aside) _ a removing_none

      -- what the log comes to is another path
      to_other : (to : Path) → to ≡ t.ready.target → to ≡ x → ⊥
      to_other to is same = out (subst (IsMember n) (sym is ∙ same) h.target)

      -- around the way of the log to its final path
      abbrev way : List Step
      way = transfer l.ready.log l.ready.target l.job l.aside

      abbrev last : List Step
      last = step.Rotated l.log ∷ made_anew l.ready.make l.log l.job l.aside

      around_none : NoneTouches x way → NoneTouches x last → NoneTouches x (rotation_of l)
      around_none a b = none_on x (removals l.ready.leftovers) _ leftovers_none (none_on x (directory l.ready.dir) _ dir_none (none_on x (map move l.ready.moves) _ chain_none (none_on x way last a b)))

      around_once : OnceNamed x way → NoneTouches x last → OnceNamed x (rotation_of l)
      around_once a b = once_later x (removals l.ready.leftovers) _ leftovers_none (once_later x (directory l.ready.dir) _ dir_none (once_later x (map move l.ready.moves) _ chain_none (once_first x way last a b)))

    -- the path is no name of the log
    pub log_aside : (IsName t.log n x → ⊥) → IsAside x l
    log_aside other = (
      around_none no_member no_dir (by l.job l.aside refl refl) ((λ h. h), (λ h. h), anew_none l.ready.make l.log l.job l.aside (λ same. other (inl (the_log (sym same ∙ log_is))))),
      retire_none no_member no_dir (finishing_none l.job l.aside (λ job e. (no_part job e, no_to job e)) no_wait),
    )
      where
        no_member : IsMember n x → ⊥
        no_member m = other (inl (member_own t.log n x m))

        no_dir : IsItsDir t x → ⊥
        no_dir d = other (inr (h.dir x d.0 d.1).0)

        no_part : (job : Job) → l.job ≡ Some job → job.part ≡ x → ⊥
        no_part job e same = other (inl (subst (IsOwnName t.log n) same (part_own t h job (sym r.job_is ∙ e))))

        no_to : (job : Job) → l.job ≡ Some job → job.to ≡ x → ⊥
        no_to job e = to_other no_member no_dir job.to (job_to t h job (sym r.job_is ∙ e))

        no_wait : (path : Path) → l.aside ≡ Some path → path ≡ x → ⊥
        no_wait path e same = other (inl (subst (IsOwnName t.log n) same (h.waits_own path (sym r.aside_is ∙ e))))

        by : (j : Option Job) (a : Option Path) → l.job ≡ j → l.aside ≡ a → NoneTouches x (transfer l.ready.log l.ready.target j a)
        by None a e f = (to_other no_member no_dir l.ready.target target_is, λ h. h, tt)
        by (Some job) None e f = copy_none job (no_part job e) (no_to job e)
        by (Some job) (Some path) e f = ((λ h. h), (λ h. h), (no_wait path f, (λ h. h), tt))

    -- the path is that of the part file of its copy, which stands in its rotation, or behind the scripts where it is set aside
    log_once : (job : Job) → t.job ≡ Some job → job.part ≡ x → IsOnce x l
    log_once job is same = go l.job l.aside refl refl
      where
        same_job : (a b : Job) → Some a ≡ Some b → a ≡ b
        same_job a b e = cc

        out : IsMember n x → ⊥
        out m = h.apart (subst (IsMember n) (sym same ∙ job_part t h job is) m)

        away : IsItsDir t x → ⊥
        away d = (h.dir x d.0 d.1).1 (subst (IsOwnName t.log n) same (part_own t h job is))

        wanted : Option Job → Option Path → Type 0
        wanted j a = (OnceNamed x (transfer l.ready.log l.ready.target j a) × NoneTouches x (finishing j a)) ⊎ (NoneTouches x (transfer l.ready.log l.ready.target j a) × OnceNamed x (finishing j a))

        waits_other : (path : Path) → l.aside ≡ Some path → path ≡ x → ⊥
        waits_other path e here = part_no_waiting t.ready.target t.log (sym (job_part t h job is) ∙ (same ∙ (sym here ∙ (aside_is t path h.way (sym r.aside_is ∙ e)).1)))

        by : (j : Option Job) (a : Option Path) → l.job ≡ j → l.aside ≡ a → wanted j a
        by None a e f = absurd (let none : None ≡ Some job = sym e ∙ (r.job_is ∙ is) in cc)
        by (Some other) None e f = let one : other ≡ job = same_job other job (sym e ∙ (r.job_is ∙ is)) in
            inl (subst (λ (k : Job). OnceNamed x (copy k)) (sym one) (copy_once job (to_other out away job.to (job_to t h job is))), tt)
        by (Some other) (Some path) e f = let one : other ≡ job = same_job other job (sym e ∙ (r.job_is ∙ is)) in
            inr (
              ((λ h. h), (λ h. h), (waits_other path f, (λ h. h), tt)),
              subst (λ (k : Job). OnceNamed x (copy k ++ step.Removes path ∷ [])) (sym one) (once_first x (copy job) (step.Removes path ∷ []) (copy_once job (to_other out away job.to (job_to t h job is))) ((λ h. h), waits_other path f, tt)),
            )

        last_none : NoneTouches x (step.Rotated l.log ∷ made_anew l.ready.make l.log l.job l.aside)
        last_none = ((λ h. h), (λ h. h), anew_none l.ready.make l.log l.job l.aside (λ here. part_no_log t h job is (same ∙ (sym here ∙ log_is))))

        rest_none : NoneTouches x (program phase.Mail l.first_mail ++ removals l.ready.retire)
        rest_none = removing_none out away

        go : (j : Option Job) (a : Option Path) → l.job ≡ j → l.aside ≡ a → IsOnce x l
        go j a e f = ⊎_elim
            (λ w. inl (around_once out away w.0 last_none, retire_none out away w.1))
            (λ w. inr (around_none out away w.0 last_none, once_first x (finishing l.job l.aside) _ w.1 rest_none))
            (by l.job l.aside refl refl)

-- ---- the logs of a plan

abbrev pub AreAside : Path → List LogPlan → Type 0
AreAside x ls = AllByRecursion (IsAside x) ls

-- one of them at most names it once, and the others are aside
abbrev pub OneAtMost : Path → List LogPlan → Type 0
OneAtMost x [] = Unit {0}
OneAtMost x (l ∷ ls) = (IsOnce x l × AreAside x ls) ⊎ (IsAside x l × OneAtMost x ls)

module _ (x : Path) where
  pub logs_aside : (ts : List Target) (ls : List LogPlan) → AreReadyFor ts ls → HaveMembers ts → ((t : Target) → IsIn t ts → IsName t.log t.naming x → ⊥) → AreAside x ls
  logs_aside [] [] r h other = tt
  logs_aside [] (l ∷ ls) r h other = absurd r
  logs_aside (t ∷ ts) [] r h other = absurd r
  logs_aside (t ∷ ts) (l ∷ ls) r h other = (log_aside x t l (h t (inl refl)) r.0 (other t (inl refl)), logs_aside ts ls r.1 (λ u i. h u (inr i)) (λ u i. other u (inr i)))

  pub logs_at_most : (ts : List Target) (ls : List LogPlan) → AreReadyFor ts ls → HaveMembers ts → DontMeet ts → (t : Target) → IsIn t ts → (job : Job) → t.job ≡ Some job → job.part ≡ x → OneAtMost x ls
  logs_at_most [] ls r h d t i job is same = absurd i
  logs_at_most (u ∷ ts) [] r h d t i job is same = absurd r
  logs_at_most (u ∷ ts) (l ∷ ls) r h d t (inl e) job is same = inl (
    log_once x u l (h u (inl refl)) r.0 job (ap (λ (v : Target). v.job) e ∙ is) same,
    logs_aside ts ls r.1 (λ v i. h v (inr i)) (λ v i named. meets_none u v ts d.0 i (x, inr (named, own_u))),
  )
    where
      own_u : IsOwnName u.log u.naming x
      own_u = subst (IsOwnName u.log u.naming) same (part_own u (h u (inl refl)) job (ap (λ (v : Target). v.job) e ∙ is))
  logs_at_most (u ∷ ts) (l ∷ ls) r h d t (inr i) job is same = inr (
    log_aside x u l (h u (inl refl)) r.0 (λ named. meets_none u t ts d.0 i (x, inl (subst (IsOwnName t.log t.naming) same (part_own t (h t (inr i)) job is), named))),
    logs_at_most ts ls r.1 (λ v j. h v (inr j)) d.1 t i job is same,
  )

  -- ---- their definitions

  aside_split : (xs ys : List LogPlan) → AreAside x (xs ++ ys) → AreAside x xs × AreAside x ys
  aside_split [] ys a = (tt, a)
  aside_split (l ∷ xs) ys a = let r = aside_split xs ys a.1 in ((a.0, r.0), r.1)

  most_split : (xs ys : List LogPlan) → OneAtMost x (xs ++ ys) → (OneAtMost x xs × AreAside x ys) ⊎ (AreAside x xs × OneAtMost x ys)
  most_split [] ys m = inr (tt, m)
  most_split (l ∷ xs) ys (inl one) = let r = aside_split xs ys one.1 in inl (inl (one.0, r.0), r.1)
  most_split (l ∷ xs) ys (inr later) = ⊎_elim (λ a. inl (inr (later.0, a.0), a.1)) (λ b. inr ((later.0, b.0), b.1)) (most_split xs ys later.1)

  set_aside : (set : SetPlan) → AreAside x set.logs → NoneTouches x (all_of_set (steps_of_set set))
  set_aside set a = all_set (NoneTouches x) tt (none_on x) (runs_none x) (steps_of_set set) (set_so (NoneTouches x) tt (none_on x) (runs_none x) set a)

  abbrev logs_in : List SetPlan → List LogPlan
  logs_in sets = flat_map (λ (set : SetPlan). set.logs) sets

  pub sets_aside : (sets : List SetPlan) → AreAside x (flat_map (λ (set : SetPlan). set.logs) sets) → NoneTouches x (all_of_sets (map steps_of_set sets))
  sets_aside [] a = tt
  sets_aside (set ∷ sets) a = let r = aside_split set.logs (logs_in sets) a in none_on x (all_of_set (steps_of_set set)) (all_of_sets (map steps_of_set sets)) (set_aside set r.0) (sets_aside sets r.1)

  rotations_aside : (ls : List LogPlan) → AreAside x ls → NoneTouches x (flat_map rotation_of ls)
  rotations_aside [] a = tt
  rotations_aside (l ∷ ls) a = none_on x (rotation_of l) (flat_map rotation_of ls) a.0.0 (rotations_aside ls a.1)

  retirements_aside : (ls : List LogPlan) → AreAside x ls → NoneTouches x (flat_map retirement_of ls)
  retirements_aside [] a = tt
  retirements_aside (l ∷ ls) a = none_on x (retirement_of l) (flat_map retirement_of ls) a.0.1 (retirements_aside ls a.1)

  -- once by all rotations, or once by all retirements
  abbrev InOneHalf : List LogPlan → Type 0
  InOneHalf ls = (OnceNamed x (flat_map rotation_of ls) × NoneTouches x (flat_map retirement_of ls)) ⊎ (NoneTouches x (flat_map rotation_of ls) × OnceNamed x (flat_map retirement_of ls))

  halves : (ls : List LogPlan) → OneAtMost x ls → InOneHalf ls
  halves [] m = inl (tt, tt)
  halves (l ∷ ls) (inl one) = ⊎_elim
      (λ h. inl (once_first x (rotation_of l) (flat_map rotation_of ls) h.0 (rotations_aside ls one.1), none_on x (retirement_of l) (flat_map retirement_of ls) h.1 (retirements_aside ls one.1)))
      (λ h. inr (none_on x (rotation_of l) (flat_map rotation_of ls) h.0 (rotations_aside ls one.1), once_first x (retirement_of l) (flat_map retirement_of ls) h.1 (retirements_aside ls one.1)))
      one.0
  halves (l ∷ ls) (inr later) = ⊎_elim
      (λ h. inl (once_later x (rotation_of l) (flat_map rotation_of ls) later.0.0 h.0, none_on x (retirement_of l) (flat_map retirement_of ls) later.0.1 h.1))
      (λ h. inr (none_on x (rotation_of l) (flat_map rotation_of ls) later.0.0 h.0, once_later x (retirement_of l) (flat_map retirement_of ls) later.0.1 h.1))
      (halves ls later.1)

  behind_rotation : (l : LogPlan) → NoneTouches x (retirement_of l) → NoneTouches x (program phase.Post l.post ++ retirement_of l)
  behind_rotation l a = none_on x (program phase.Post l.post) (retirement_of l) (program_none x phase.Post l.post) a

  logs_none : (ls : List LogPlan) → AreAside x ls → NoneTouches x (all_of_each (map steps_of_log ls))
  logs_none [] a = tt
  logs_none (l ∷ ls) a = none_on x (steps_of_log l) (all_of_each (map steps_of_log ls))
      (none_on x (program phase.Pre l.pre) _ (program_none x phase.Pre l.pre) (none_on x (rotation_of l) _ a.0.0 (behind_rotation l a.0.1))) (logs_none ls a.1)

  logs_once : (ls : List LogPlan) → OneAtMost x ls → OnceNamed x (all_of_each (map steps_of_log ls))
  logs_once [] m = tt
  logs_once (l ∷ ls) (inl one) = once_first x (steps_of_log l) (all_of_each (map steps_of_log ls))
      (once_later x (program phase.Pre l.pre) _ (program_none x phase.Pre l.pre) (⊎_elim
      (λ h. once_first x (rotation_of l) _ h.0 (behind_rotation l h.1))
      (λ h. once_later x (rotation_of l) _ h.0 (once_later x (program phase.Post l.post) (retirement_of l) (program_none x phase.Post l.post) h.1))
      one.0)) (logs_none ls one.1)
  logs_once (l ∷ ls) (inr later) = once_later x (steps_of_log l) (all_of_each (map steps_of_log ls))
      (none_on x (program phase.Pre l.pre) _ (program_none x phase.Pre l.pre) (none_on x (rotation_of l) _ later.0.0 (behind_rotation l later.0.1))) (logs_once ls later.1)

  shared_once : (set : SetPlan) → OneAtMost x set.logs → OnceNamed x (shared_steps set)
  shared_once set m =
      once_later x (program phase.First set.first) _ (program_none x phase.First set.first)
      (once_later x (program phase.Pre set.pre) _ (program_none x phase.Pre set.pre)
      (⊎_elim
      (λ h. once_first x (flat_map rotation_of set.logs) _ h.0
      (none_on x (program phase.Post set.post) _ (program_none x phase.Post set.post)
      (none_on x (flat_map retirement_of set.logs) (program phase.Last set.last) h.1 (program_none x phase.Last set.last))))
      (λ h. once_later x (flat_map rotation_of set.logs) _ h.0
      (once_later x (program phase.Post set.post) _ (program_none x phase.Post set.post)
      (once_first x (flat_map retirement_of set.logs) (program phase.Last set.last) h.1 (program_none x phase.Last set.last))))
      (halves set.logs m)))

  set_once : (set : SetPlan) → OneAtMost x set.logs → OnceNamed x (all_of_set (steps_of_set set))
  set_once set m = go set.shared set.logs
    where
      go : (shared : Bool) (logs : List LogPlan) → OnceNamed x (all_of_set (by_logs shared logs set))
      go shared [] = tt
      go true (l ∷ ls) = once_first x (shared_steps set) [] (shared_once set m) tt
      go false (l ∷ ls) = once_later x (program phase.First set.first) _ (program_none x phase.First set.first) (once_first x (all_of_each (map steps_of_log set.logs)) (program phase.Last set.last) (logs_once set.logs m) (program_none x phase.Last set.last))

  pub sets_once : (sets : List SetPlan) → OneAtMost x (flat_map (λ (set : SetPlan). set.logs) sets) → OnceNamed x (all_of_sets (map steps_of_set sets))
  sets_once [] m = tt
  sets_once (set ∷ sets) m = ⊎_elim
      (λ a. once_first x (all_of_set (steps_of_set set)) (all_of_sets (map steps_of_set sets)) (set_once set a.0) (sets_aside sets a.1))
      (λ b. once_later x (all_of_set (steps_of_set set)) (all_of_sets (map steps_of_set sets)) (set_aside set b.0) (sets_once sets b.1))
      (most_split set.logs (logs_in sets) m)

-- ---- the logs and their targets

-- what follows for each log from its target, definition by definition
pub each_ready : (G : LogPlan → Type 0) (ts : List Target) (sets : List SetPlan) → AreReadyFor ts (flat_map (λ (set : SetPlan). set.logs) sets) → ((t : Target) (l : LogPlan) → IsIn t ts → IsReadyFor t l → G l) → AllByRecursion (λ (set : SetPlan). AllByRecursion G set.logs) sets
each_ready G ts sets r g = by_set sets (by_log ts (flat_map (λ (set : SetPlan). set.logs) sets) r g)
  where
    by_log : (ts : List Target) (ls : List LogPlan) → AreReadyFor ts ls → ((t : Target) (l : LogPlan) → IsIn t ts → IsReadyFor t l → G l) → AllByRecursion G ls
    by_log [] [] r g = tt
    by_log [] (l ∷ ls) r g = absurd r
    by_log (t ∷ ts) [] r g = absurd r
    by_log (t ∷ ts) (l ∷ ls) r g = (g t l (inl refl) r.0, by_log ts ls r.1 (λ u k i. g u k (inr i)))

    split : (xs ys : List LogPlan) → AllByRecursion G (xs ++ ys) → AllByRecursion G xs × AllByRecursion G ys
    split [] ys a = (tt, a)
    split (l ∷ xs) ys a = let r = split xs ys a.1 in ((a.0, r.0), r.1)

    by_set : (sets : List SetPlan) → AllByRecursion G (flat_map (λ (set : SetPlan). set.logs) sets) → AllByRecursion (λ (set : SetPlan). AllByRecursion G set.logs) sets
    by_set [] a = tt
    by_set (set ∷ sets) a = let r = split set.logs (flat_map (λ (s : SetPlan). s.logs) sets) a in (r.0, by_set sets r.1)
