-- Behind the step of a plan that makes a log anew none takes the name of its path.
use Rattle.std.proofs.Common.{◌≡◌, ◌⊎◌, inl, inr, ⊎_elim, ℕ, Bool, true, false, refl, sym, ap, ◌∙◌, subst, List, [], ◌∷◌, ◌++◌, map, Option, Some, None}
use Rattle.std.specs.List.{flat_map, AllByRecursion}
use Rattle.lr_rules.specs.declared.path.Path.{Path}
use Rattle.lr_rules.specs.declared.fault.Phase.{Phase}
use Rattle.lr_rules.specs.declared.fault.Phase.TheVariants as phase
use Rattle.lr_rules.specs.declared.rule.Make.{Make}
use Rattle.lr_rules.specs.declared.rule.Make.TheVariants as make
use Rattle.lr_rules.specs.declared.rule.Naming.{Naming}
use Rattle.lr_rules.specs.Names.{IsOwnName, the_log, IsName}
use Rattle.lr_host.specs.Lists.{IsIn}
use Rattle.lr_family.specs.Parts.{IsMember}
use Rattle.lr_family.proofs.Names.{member_own}
use Rattle.lr_scripts.specs.declared.command.Command.{Command}
use Rattle.lr_scripts.specs.declared.removal.Removal.{Removal}
use Rattle.lr_chain.specs.declared.ready.Move.{Move}
use Rattle.lr_chain.specs.declared.ready.Ready.{Ready}
use Rattle.lr_copy.specs.declared.job.Job.{Job}
use Rattle.lr_plan.specs.declared.plan.LogPlan.{LogPlan}
use Rattle.lr_plan.specs.declared.plan.SetPlan.{SetPlan}
use Rattle.lr_plan.specs.declared.step.Step.{Step}
use Rattle.lr_plan.specs.declared.step.Step.TheVariants as step
use Rattle.lr_plan.specs.Steps.{on_of, program, removal, removals, directory, move, step_if, copy, transfer, anew, made_anew, finishing, rotation_of, retirement_of, steps_of_log, shared_steps, by_logs, steps_of_set}
use Rattle.lr_acts.specs.Making.{all_of_each, all_of_set, all_of_sets}
use Rattle.lr_acts.specs.Named.{KeepName, CreatesAt, OneCreates, LastsBehind}
use Rattle.lr_laws_rotations.specs.Target.{Target}
use Rattle.lr_laws_acts.specs.Fitting.{DontMeet}
use Rattle.lr_laws_acts.specs.Planned.{bare_removal, IsReadyFor, AreReadyFor}
use Rattle.lr_run.proofs.Courses.{OfLog, sets_so, set_so, all_set, all_sets}
use Rattle.lr_run.proofs.Members.{part_no_log, waits_no_log, AreOfMembers, TakeMembers, HasMembers, HaveMembers, part_own, meets_none}

-- ---- steps

-- none of the steps makes the log anew at this path
abbrev pub NoneCreates : Path → List Step → Type 0
NoneCreates x [] = Unit {0}
NoneCreates x (s ∷ ss) = (CreatesAt x s → ⊥) × NoneCreates x ss

-- and none takes its name
abbrev IsApart : Path → List Step → Type 0
IsApart x ss = NoneCreates x ss × KeepName x ss

pub create_split : (x : Path) (xs ys : List Step) → OneCreates x (xs ++ ys) → OneCreates x xs ⊎ OneCreates x ys
create_split x [] ys c = inr c
create_split x (s ∷ xs) ys (inl here) = inl (inl here)
create_split x (s ∷ xs) ys (inr there) = ⊎_elim (λ a. inl (inr a)) (λ b. inr b) (create_split x xs ys there)

pub none_creates : (x : Path) (ss : List Step) → NoneCreates x ss → OneCreates x ss → ⊥
none_creates x [] n c = c
none_creates x (s ∷ ss) n (inl here) = n.0 here
none_creates x (s ∷ ss) n (inr there) = none_creates x ss n.1 there

module _ (x : Path) where
  none_on : (xs ys : List Step) → NoneCreates x xs → NoneCreates x ys → NoneCreates x (xs ++ ys)
  none_on [] ys a b = b
  none_on (s ∷ xs) ys a b = (a.0, none_on xs ys a.1 b)

  keep_on : (xs ys : List Step) → KeepName x xs → KeepName x ys → KeepName x (xs ++ ys)
  keep_on [] ys a b = b
  keep_on (s ∷ xs) ys a b = (a.0, keep_on xs ys a.1 b)

  apart_on : (xs ys : List Step) → IsApart x xs → IsApart x ys → IsApart x (xs ++ ys)
  apart_on xs ys a b = (none_on xs ys a.0 b.0, keep_on xs ys a.1 b.1)

  none_lasts : (ss : List Step) → NoneCreates x ss → LastsBehind x ss
  none_lasts [] n = tt
  none_lasts (s ∷ ss) n = ((λ c. absurd (n.0 c)), none_lasts ss n.1)

  -- first the steps that make it anew; or first those that don't
  lasts_first : (xs ys : List Step) → LastsBehind x xs → IsApart x ys → LastsBehind x (xs ++ ys)
  lasts_first [] ys l a = none_lasts ys a.0
  lasts_first (s ∷ xs) ys l a = ((λ c. keep_on xs ys (l.0 c) a.1), lasts_first xs ys l.1 a)

  lasts_later : (xs ys : List Step) → NoneCreates x xs → LastsBehind x ys → LastsBehind x (xs ++ ys)
  lasts_later [] ys n l = l
  lasts_later (s ∷ xs) ys n l = ((λ c. absurd (n.0 c)), lasts_later xs ys n.1 l)

  -- ---- parts of a log

  runs_apart : (p : Phase) (about : List ℕ) (c : Command) → IsApart x (step.Runs p about c ∷ [])
  runs_apart p about c = (((λ h. h), tt), ((λ h. h), tt))

  program_apart : (p : Phase) (o : Option Command) → IsApart x (program p o)
  program_apart p None = (tt, tt)
  program_apart p (Some command) = runs_apart p (on_of p command) command

  removal_none : (rs : List Removal) → NoneCreates x (removals rs)
  removal_none [] = tt
  removal_none (r ∷ rs) = none_on (removal r) (removals rs) (none_on (program phase.Preremove r.preremove) _ (program_apart phase.Preremove r.preremove).0 (none_on (program phase.Mail r.mail) _ (program_apart phase.Mail r.mail).0 ((λ h. h), tt))) (removal_none rs)

  removal_keep : (n : Naming) → (IsMember n x → ⊥) → (rs : List Removal) → AreOfMembers n (map bare_removal rs) → KeepName x (removals rs)
  removal_keep n out [] h = tt
  removal_keep n out (r ∷ rs) h = keep_on (removal r) (removals rs)
      (keep_on (program phase.Preremove r.preremove) _ (program_apart phase.Preremove r.preremove).1 (keep_on (program phase.Mail r.mail) _ (program_apart phase.Mail r.mail).1 ((λ gone. out (subst (IsMember n) gone h.0)), tt)))
      (removal_keep n out rs h.1)

  directory_apart : (d : Option (Path × Option ℕ)) → IsApart x (directory d)
  directory_apart None = (tt, tt)
  directory_apart (Some (path, mode)) = (((λ h. h), tt), ((λ h. h), tt))

  moves_none : (ms : List Move) → NoneCreates x (map move ms)
  moves_none [] = tt
  moves_none (m ∷ ms) = ((λ h. h), moves_none ms)

  moves_keep : (n : Naming) → (IsMember n x → ⊥) → (ms : List Move) → TakeMembers n ms → KeepName x (map move ms)
  moves_keep n out [] h = tt
  moves_keep n out (m ∷ ms) h = ((λ from. out (subst (IsMember n) from h.0)), moves_keep n out ms h.1)

  copy_none : (job : Job) → NoneCreates x (copy job)
  copy_none job = none_on (step_if job.stale (step.Removes job.part)) _ (cleared job.stale) ((λ h. h), ((λ h. h), ((λ h. h), ((λ h. h), ((λ h. h), cut job.cut)))))
    where
      cleared : (b : Bool) → NoneCreates x (step_if b (step.Removes job.part))
      cleared true = ((λ h. h), tt)
      cleared false = tt

      cut : (b : Bool) → NoneCreates x (step_if b (step.Truncates job.from))
      cut true = ((λ h. h), tt)
      cut false = tt

  copy_keep : (job : Job) → (job.part ≡ x → ⊥) → KeepName x (copy job)
  copy_keep job part = keep_on (step_if job.stale (step.Removes job.part)) _ (cleared job.stale) ((λ h. h), ((λ h. h), ((λ h. h), (part, ((λ h. h), cut job.cut)))))
    where
      cleared : (b : Bool) → KeepName x (step_if b (step.Removes job.part))
      cleared true = (part, tt)
      cleared false = tt

      cut : (b : Bool) → KeepName x (step_if b (step.Truncates job.from))
      cut true = ((λ h. h), tt)
      cut false = tt

  transfer_none : (log target : Path) (job : Option Job) (aside : Option Path) → NoneCreates x (transfer log target job aside)
  transfer_none log target None aside = ((λ h. h), tt)
  transfer_none log target (Some job) None = copy_none job
  transfer_none log target (Some job) (Some path) = ((λ h. h), ((λ h. h), tt))

  finishing_none : (job : Option Job) (aside : Option Path) → NoneCreates x (finishing job aside)
  finishing_none None aside = tt
  finishing_none (Some job) None = tt
  finishing_none (Some job) (Some path) = none_on (copy job) (step.Removes path ∷ []) (copy_none job) ((λ h. h), tt)

  -- neither the part file nor the path where the log waits is this one
  finishing_keep : (job : Option Job) (aside : Option Path) → ((j : Job) → job ≡ Some j → j.part ≡ x → ⊥) → ((path : Path) → aside ≡ Some path → path ≡ x → ⊥) → KeepName x (finishing job aside)
  finishing_keep None aside part waits = tt
  finishing_keep (Some job) None part waits = tt
  finishing_keep (Some job) (Some path) part waits = keep_on (copy job) (step.Removes path ∷ []) (copy_keep job (part job refl)) (waits path refl, tt)

  new_lasts : (m : Make) (log : Path) → LastsBehind x (anew m log)
  new_lasts make.No log = tt
  new_lasts (make.Yes mode) log = ((λ c. tt), tt)

  anew_lasts : (m : Make) (log : Path) (job : Option Job) (aside : Option Path) → LastsBehind x (made_anew m log job aside)
  anew_lasts m log None aside = new_lasts m log
  anew_lasts m log (Some job) None = tt
  anew_lasts m log (Some job) (Some path) = new_lasts m log

  new_apart : (m : Make) (log : Path) → (log ≡ x → ⊥) → IsApart x (anew m log)
  new_apart make.No log other = (tt, tt)
  new_apart (make.Yes mode) log other = ((other, tt), ((λ h. h), tt))

  anew_apart : (m : Make) (log : Path) (job : Option Job) (aside : Option Path) → (log ≡ x → ⊥) → IsApart x (made_anew m log job aside)
  anew_apart m log None aside other = new_apart m log other
  anew_apart m log (Some job) None other = (tt, tt)
  anew_apart m log (Some job) (Some path) other = new_apart m log other

  -- ---- one log

  -- it leaves the path alone; or its rotation makes it anew last
  abbrev IsAside : LogPlan → Type 0
  IsAside l = IsApart x (rotation_of l) × IsApart x (retirement_of l)

  abbrev IsLast : LogPlan → Type 0
  IsLast l = LastsBehind x (rotation_of l) × IsApart x (retirement_of l)

  -- before the log is made anew, none does
  rotation_lasts : (l : LogPlan) → LastsBehind x (rotation_of l)
  rotation_lasts l =
      lasts_later (removals l.ready.leftovers) _ (removal_none l.ready.leftovers)
      (lasts_later (directory l.ready.dir) _ (directory_apart l.ready.dir).0
      (lasts_later (map move l.ready.moves) _ (moves_none l.ready.moves)
      (lasts_later (transfer l.ready.log l.ready.target l.job l.aside) _ (transfer_none l.ready.log l.ready.target l.job l.aside) ((λ h. absurd h), anew_lasts l.ready.make l.log l.job l.aside))))

  module _ (t : Target) (l : LogPlan) (h : HasMembers t) (r : IsReadyFor t l) where
    abbrev n : Naming
    n = t.naming

    -- neither the part file of its copy nor the path where it waits is this one
    record IsOff : Type 0 where
      part : (job : Job) → l.job ≡ Some job → job.part ≡ x → ⊥
      waits : (path : Path) → l.aside ≡ Some path → path ≡ x → ⊥

    retire_apart : (IsMember n x → ⊥) → IsOff → IsApart x (retirement_of l)
    retire_apart out off = apart_on (finishing l.job l.aside) _ (finishing_none l.job l.aside, finishing_keep l.job l.aside off.part off.waits)
        (apart_on (program phase.Mail l.first_mail) (removals l.ready.retire) (program_apart phase.Mail l.first_mail)
        (removal_none l.ready.retire, removal_keep n out l.ready.retire (subst (AreOfMembers n) (sym (ap (λ (y : Ready). y.retire) r.ready_is)) h.retire)))

    -- the path is its own
    log_lasts : x ≡ t.log → IsLast l
    log_lasts is = (
      rotation_lasts l,
      retire_apart (λ m. h.no_log (subst (IsMember n) is m)) (record {
        part = λ job has same. part_no_log t h job (sym r.job_is ∙ has) (same ∙ is);
        waits = λ path has same. waits_no_log t h path (sym r.aside_is ∙ has) (same ∙ is);
      }),
    )

    -- the path is no name of it
    log_aside : (IsName t.log n x → ⊥) → IsAside l
    log_aside other = (
      apart_on (removals l.ready.leftovers) _ (removal_none l.ready.leftovers, removal_keep n no_member l.ready.leftovers (subst (AreOfMembers n) (sym (ap (λ (y : Ready). y.leftovers) r.ready_is)) h.leftovers))
          (apart_on (directory l.ready.dir) _ (directory_apart l.ready.dir)
          (apart_on (map move l.ready.moves) _ (moves_none l.ready.moves, moves_keep n no_member l.ready.moves (subst (TakeMembers n) (sym (ap (λ (y : Ready). y.moves) r.ready_is)) h.taken))
          (apart_on (transfer l.ready.log l.ready.target l.job l.aside) _ (transfer_none l.ready.log l.ready.target l.job l.aside, by l.job l.aside refl refl)
          (apart_on (step.Rotated l.log ∷ []) (made_anew l.ready.make l.log l.job l.aside) (((λ h. h), tt), ((λ h. h), tt)) (anew_apart l.ready.make l.log l.job l.aside no_log))))),
      retire_apart no_member (record { part = no_part; waits = no_wait }),
    )
      where
        no_member : IsMember n x → ⊥
        no_member m = other (inl (member_own t.log n x m))

        no_log : l.log ≡ x → ⊥
        no_log same = other (inl (the_log (sym same ∙ r.log_is)))

        no_first : l.ready.log ≡ x → ⊥
        no_first same = other (inl (subst (IsOwnName t.log n) (sym (ap (λ (y : Ready). y.log) r.ready_is) ∙ same) h.first_own))

        no_part : (job : Job) → l.job ≡ Some job → job.part ≡ x → ⊥
        no_part job e same = other (inl (subst (IsOwnName t.log n) same (part_own t h job (sym r.job_is ∙ e))))

        no_wait : (path : Path) → l.aside ≡ Some path → path ≡ x → ⊥
        no_wait path e same = other (inl (subst (IsOwnName t.log n) same (h.waits_own path (sym r.aside_is ∙ e))))

        by : (j : Option Job) (a : Option Path) → l.job ≡ j → l.aside ≡ a → KeepName x (transfer l.ready.log l.ready.target j a)
        by None a e f = (no_first, tt)
        by (Some job) None e f = copy_keep job (no_part job e)
        by (Some job) (Some path) e f = ((λ h. h), (no_first, tt))

  -- ---- the logs of a plan

  abbrev AreAside : List LogPlan → Type 0
  AreAside ls = AllByRecursion IsAside ls

  -- one of them is so, and the others are aside
  abbrev OneLasts : List LogPlan → Type 0
  OneLasts [] = ⊥
  OneLasts (l ∷ ls) = (IsLast l × AreAside ls) ⊎ (IsAside l × OneLasts ls)

  logs_aside : (ts : List Target) (ls : List LogPlan) → AreReadyFor ts ls → HaveMembers ts → ((t : Target) → IsIn t ts → IsName t.log t.naming x → ⊥) → AreAside ls
  logs_aside [] [] r h other = tt
  logs_aside [] (l ∷ ls) r h other = absurd r
  logs_aside (t ∷ ts) [] r h other = absurd r
  logs_aside (t ∷ ts) (l ∷ ls) r h other = (log_aside t l (h t (inl refl)) r.0 (other t (inl refl)), logs_aside ts ls r.1 (λ u i. h u (inr i)) (λ u i. other u (inr i)))

  one_lasts : (ts : List Target) (ls : List LogPlan) → AreReadyFor ts ls → HaveMembers ts → DontMeet ts → (t : Target) → IsIn t ts → x ≡ t.log → OneLasts ls
  one_lasts [] ls r h d t i is = absurd i
  one_lasts (u ∷ ts) [] r h d t i is = absurd r
  one_lasts (u ∷ ts) (l ∷ ls) r h d t (inl e) is = inl (
    log_lasts u l (h u (inl refl)) r.0 x_is,
    logs_aside ts ls r.1 (λ v i. h v (inr i)) (λ v i named. meets_none u v ts d.0 i (x, inr (named, the_log x_is))),
  )
    where
      x_is : x ≡ u.log
      x_is = is ∙ sym (ap (λ (v : Target). v.log) e)
  one_lasts (u ∷ ts) (l ∷ ls) r h d t (inr i) is = inr (
    log_aside u l (h u (inl refl)) r.0 (λ named. meets_none u t ts d.0 i (x, inl (the_log is, named))),
    one_lasts ts ls r.1 (λ v j. h v (inr j)) d.1 t i is,
  )

  -- ---- their definitions

  aside_split : (xs ys : List LogPlan) → AreAside (xs ++ ys) → AreAside xs × AreAside ys
  aside_split [] ys a = (tt, a)
  aside_split (l ∷ xs) ys a = let r = aside_split xs ys a.1 in ((a.0, r.0), r.1)

  lasts_split : (xs ys : List LogPlan) → OneLasts (xs ++ ys) → (OneLasts xs × AreAside ys) ⊎ (AreAside xs × OneLasts ys)
  lasts_split [] ys m = inr (tt, m)
  lasts_split (l ∷ xs) ys (inl one) = let r = aside_split xs ys one.1 in inl (inl (one.0, r.0), r.1)
  lasts_split (l ∷ xs) ys (inr later) = ⊎_elim (λ a. inl (inr (later.0, a.0), a.1)) (λ b. inr ((later.0, b.0), b.1)) (lasts_split xs ys later.1)

  set_aside : (set : SetPlan) → AreAside set.logs → IsApart x (all_of_set (steps_of_set set))
  set_aside set a = all_set (IsApart x) (tt, tt) apart_on runs_apart (steps_of_set set) (set_so (IsApart x) (tt, tt) apart_on runs_apart set a)

  abbrev logs_in : List SetPlan → List LogPlan
  logs_in sets = flat_map (λ (set : SetPlan). set.logs) sets

  sets_aside : (sets : List SetPlan) → AreAside (logs_in sets) → IsApart x (all_of_sets (map steps_of_set sets))
  sets_aside [] a = (tt, tt)
  sets_aside (set ∷ sets) a = let r = aside_split set.logs (logs_in sets) a in apart_on (all_of_set (steps_of_set set)) (all_of_sets (map steps_of_set sets)) (set_aside set r.0) (sets_aside sets r.1)

  rotations_aside : (ls : List LogPlan) → AreAside ls → IsApart x (flat_map rotation_of ls)
  rotations_aside [] a = (tt, tt)
  rotations_aside (l ∷ ls) a = apart_on (rotation_of l) (flat_map rotation_of ls) a.0.0 (rotations_aside ls a.1)

  rotations_last : (ls : List LogPlan) → OneLasts ls → LastsBehind x (flat_map rotation_of ls)
  rotations_last [] m = tt
  rotations_last (l ∷ ls) (inl one) = lasts_first (rotation_of l) (flat_map rotation_of ls) one.0.0 (rotations_aside ls one.1)
  rotations_last (l ∷ ls) (inr later) = lasts_later (rotation_of l) (flat_map rotation_of ls) later.0.0.0 (rotations_last ls later.1)

  retirements_aside : (ls : List LogPlan) → AreAside ls → IsApart x (flat_map retirement_of ls)
  retirements_aside [] a = (tt, tt)
  retirements_aside (l ∷ ls) a = apart_on (retirement_of l) (flat_map retirement_of ls) a.0.1 (retirements_aside ls a.1)

  retirements_apart : (ls : List LogPlan) → OneLasts ls → IsApart x (flat_map retirement_of ls)
  retirements_apart [] m = (tt, tt)
  retirements_apart (l ∷ ls) (inl one) = apart_on (retirement_of l) (flat_map retirement_of ls) one.0.1 (retirements_aside ls one.1)
  retirements_apart (l ∷ ls) (inr later) = apart_on (retirement_of l) (flat_map retirement_of ls) later.0.1 (retirements_apart ls later.1)

  behind_rotation : (l : LogPlan) → IsApart x (retirement_of l) → IsApart x (program phase.Post l.post ++ retirement_of l)
  behind_rotation l a = apart_on (program phase.Post l.post) (retirement_of l) (program_apart phase.Post l.post) a

  log_apart : (l : LogPlan) → IsAside l → IsApart x (steps_of_log l)
  log_apart l a = apart_on (program phase.Pre l.pre) _ (program_apart phase.Pre l.pre) (apart_on (rotation_of l) _ a.0 (behind_rotation l a.1))

  logs_apart : (ls : List LogPlan) → AreAside ls → IsApart x (all_of_each (map steps_of_log ls))
  logs_apart [] a = (tt, tt)
  logs_apart (l ∷ ls) a = apart_on (steps_of_log l) (all_of_each (map steps_of_log ls)) (log_apart l a.0) (logs_apart ls a.1)

  logs_last : (ls : List LogPlan) → OneLasts ls → LastsBehind x (all_of_each (map steps_of_log ls))
  logs_last [] m = tt
  logs_last (l ∷ ls) (inl one) = lasts_first (steps_of_log l) (all_of_each (map steps_of_log ls))
      (lasts_later (program phase.Pre l.pre) _ (program_apart phase.Pre l.pre).0 (lasts_first (rotation_of l) _ one.0.0 (behind_rotation l one.0.1))) (logs_apart ls one.1)
  logs_last (l ∷ ls) (inr later) = lasts_later (steps_of_log l) (all_of_each (map steps_of_log ls)) (log_apart l later.0).0 (logs_last ls later.1)

  shared_last : (set : SetPlan) → OneLasts set.logs → LastsBehind x (shared_steps set)
  shared_last set m =
      lasts_later (program phase.First set.first) _ (program_apart phase.First set.first).0
      (lasts_later (program phase.Pre set.pre) _ (program_apart phase.Pre set.pre).0
      (lasts_first (flat_map rotation_of set.logs) _ (rotations_last set.logs m)
      (apart_on (program phase.Post set.post) _ (program_apart phase.Post set.post)
      (apart_on (flat_map retirement_of set.logs) (program phase.Last set.last) (retirements_apart set.logs m) (program_apart phase.Last set.last)))))

  set_last : (set : SetPlan) → OneLasts set.logs → LastsBehind x (all_of_set (steps_of_set set))
  set_last set m = go set.shared set.logs
    where
      go : (shared : Bool) (logs : List LogPlan) → LastsBehind x (all_of_set (by_logs shared logs set))
      go shared [] = tt
      go true (l ∷ ls) = lasts_first (shared_steps set) [] (shared_last set m) (tt, tt)
      go false (l ∷ ls) = lasts_later (program phase.First set.first) _ (program_apart phase.First set.first).0 (lasts_first (all_of_each (map steps_of_log set.logs)) (program phase.Last set.last) (logs_last set.logs m) (program_apart phase.Last set.last))

  sets_last : (sets : List SetPlan) → OneLasts (logs_in sets) → LastsBehind x (all_of_sets (map steps_of_set sets))
  sets_last [] m = tt
  sets_last (set ∷ sets) m = ⊎_elim
      (λ a. lasts_first (all_of_set (steps_of_set set)) (all_of_sets (map steps_of_set sets)) (set_last set a.0) (sets_aside sets a.1))
      (λ b. lasts_later (all_of_set (steps_of_set set)) (all_of_sets (map steps_of_set sets)) (set_aside set b.0).0 (sets_last sets b.1))
      (lasts_split set.logs (logs_in sets) m)

  -- ---- a plan

  pub plan_lasts : (ts : List Target) (sets : List SetPlan) → AreReadyFor ts (flat_map (λ (set : SetPlan). set.logs) sets) → HaveMembers ts → DontMeet ts → (t : Target) → IsIn t ts → x ≡ t.log → LastsBehind x (all_of_sets (map steps_of_set sets))
  plan_lasts ts sets r h d t i is = sets_last sets (one_lasts ts (logs_in sets) r h d t i is)

-- ---- whose log it is

-- each log that one of the steps makes anew is one of these
abbrev IsAmong : List Target → Path → Type 0
IsAmong ts x = (t : Target) × IsIn t ts × (x ≡ t.log)

abbrev AllAmong : List Target → List Step → Type 0
AllAmong ts ss = (x : Path) → OneCreates x ss → IsAmong ts x

module _ (ts : List Target) where
  among_on : (xs ys : List Step) → AllAmong ts xs → AllAmong ts ys → AllAmong ts (xs ++ ys)
  among_on xs ys a b x c = ⊎_elim (λ h. a x h) (λ h. b x h) (create_split x xs ys c)

  among_runs : (p : Phase) (about : List ℕ) (c : Command) → AllAmong ts (step.Runs p about c ∷ [])
  among_runs p about c x (inl none) = absurd none
  among_runs p about c x (inr none) = absurd none

  among_none : (ss : List Step) → ((x : Path) → NoneCreates x ss) → AllAmong ts ss
  among_none ss n x c = absurd (none_creates x ss (n x) c)

  log_among : (t : Target) (l : LogPlan) → IsIn t ts → IsReadyFor t l → OfLog (AllAmong ts) (λ x c. absurd c) among_on among_runs l
  log_among t l one r = (
    among_on (removals l.ready.leftovers) _ (among_none (removals l.ready.leftovers) (λ x. removal_none x l.ready.leftovers))
        (among_on (directory l.ready.dir) _ (among_none (directory l.ready.dir) (λ x. (directory_apart x l.ready.dir).0))
        (among_on (map move l.ready.moves) _ (among_none (map move l.ready.moves) (λ x. moves_none x l.ready.moves))
        (among_on (transfer l.ready.log l.ready.target l.job l.aside) _ (among_none (transfer l.ready.log l.ready.target l.job l.aside) (λ x. transfer_none x l.ready.log l.ready.target l.job l.aside))
        (among_on (step.Rotated l.log ∷ []) (made_anew l.ready.make l.log l.job l.aside) (among_none (step.Rotated l.log ∷ []) (λ x. ((λ h. h), tt))) (made l.ready.make l.job l.aside))))),
    among_on (finishing l.job l.aside) _ (among_none (finishing l.job l.aside) (λ x. finishing_none x l.job l.aside))
        (among_on (program phase.Mail l.first_mail) (removals l.ready.retire) (among_none (program phase.Mail l.first_mail) (λ x. (program_apart x phase.Mail l.first_mail).0)) (among_none (removals l.ready.retire) (λ x. removal_none x l.ready.retire))),
  )
    where
      new : (m : Make) → AllAmong ts (anew m l.log)
      new make.No x c = absurd c
      new (make.Yes mode) x (inl is) = (t, one, sym is ∙ r.log_is)
      new (make.Yes mode) x (inr none) = absurd none

      made : (m : Make) (job : Option Job) (aside : Option Path) → AllAmong ts (made_anew m l.log job aside)
      made m None aside x c = new m x c
      made m (Some job) None x c = absurd c
      made m (Some job) (Some path) x c = new m x c

  logs_among : (us : List Target) (ls : List LogPlan) → AreReadyFor us ls → ((t : Target) → IsIn t us → IsIn t ts) → AllByRecursion (OfLog (AllAmong ts) (λ x c. absurd c) among_on among_runs) ls
  logs_among [] [] r k = tt
  logs_among [] (l ∷ ls) r k = absurd r
  logs_among (u ∷ us) [] r k = absurd r
  logs_among (u ∷ us) (l ∷ ls) r k = (log_among u l (k u (inl refl)) r.0, logs_among us ls r.1 (λ t i. k t (inr i)))

  by_set : (sets : List SetPlan) → AllByRecursion (OfLog (AllAmong ts) (λ x c. absurd c) among_on among_runs) (flat_map (λ (set : SetPlan). set.logs) sets) → AllByRecursion (λ (set : SetPlan). AllByRecursion (OfLog (AllAmong ts) (λ x c. absurd c) among_on among_runs) set.logs) sets
  by_set [] a = tt
  by_set (set ∷ sets) a = let r = split set.logs (flat_map (λ (s : SetPlan). s.logs) sets) a in (r.0, by_set sets r.1)
    where
      split : (xs ys : List LogPlan) → AllByRecursion (OfLog (AllAmong ts) (λ x c. absurd c) among_on among_runs) (xs ++ ys) → AllByRecursion (OfLog (AllAmong ts) (λ x c. absurd c) among_on among_runs) xs × AllByRecursion (OfLog (AllAmong ts) (λ x c. absurd c) among_on among_runs) ys
      split [] ys a = (tt, a)
      split (l ∷ xs) ys a = let r = split xs ys a.1 in ((a.0, r.0), r.1)

  pub created_among : (sets : List SetPlan) → AreReadyFor ts (flat_map (λ (set : SetPlan). set.logs) sets) → (x : Path) → OneCreates x (all_of_sets (map steps_of_set sets)) → (t : Target) × IsIn t ts × (x ≡ t.log)
  created_among sets r =
      all_sets (AllAmong ts) (λ x c. absurd c) among_on among_runs (map steps_of_set sets)
      (sets_so (AllAmong ts) (λ x c. absurd c) among_on among_runs sets (by_set sets (logs_among ts (flat_map (λ (set : SetPlan). set.logs) sets) r (λ t i. i))))
