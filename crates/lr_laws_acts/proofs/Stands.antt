-- A plan of which nothing failed: the copy of each log that it copies stands among its entries, one entry behind another; and nothing else empties the log.
use Rattle.std.proofs.Common.{◌≡◌, ◌≢◌, inl, inr, ⊎_elim, Bool, true, false, cond, refl, sym, ◌∙◌, ap, subst, append_assoc, Option, Some, None, List, [], ◌∷◌, ◌++◌, map, append-nil}
use Rattle.std.specs.List.{flat_map}
use Rattle.std.specs.Prelude.{option_to_list}
use Rattle.lr_rules.specs.declared.fault.Fault.{Fault}
use Rattle.lr_rules.specs.declared.fault.Phase.TheVariants as phase
use Rattle.lr_rules.specs.declared.path.Path.{Path}
use Rattle.lr_host.specs.declared.entry.Entry.{Entry}
use Rattle.lr_host.specs.declared.entry.Entry.TheVariants as entry
use Rattle.lr_host.specs.Lists.{IsIn}
use Rattle.lr_host.proofs.Lists.{in_append, in_front, in_back}
use Rattle.lr_copy.specs.declared.job.Job.{Job}
use Rattle.lr_copy.specs.Copying.{cutting}
use Rattle.lr_plan.specs.declared.mark.Mark.{Mark}
use Rattle.lr_plan.specs.declared.plan.LogPlan.{LogPlan}
use Rattle.lr_plan.specs.declared.plan.SetPlan.{SetPlan}
use Rattle.lr_plan.specs.declared.step.Step.{Step}
use Rattle.lr_plan.specs.declared.step.Step.TheVariants as step
use Rattle.lr_plan.specs.Course.{Course}
use Rattle.lr_plan.specs.Done.{EachDone, SetDone, broke_off, went_on, SetsDone}
use Rattle.lr_plan.specs.Steps.{program, removals, directory, move, step_if, copy, transfer, finishing, rotation_of, retirement_of, steps_of_log, shared_steps, by_logs, steps_of_set}
use Rattle.lr_plan.proofs.Courses.{one_none}
use Rattle.lr_laws_acts.specs.Emptied.{EmptiesCopied}
use Rattle.lr_laws_acts.specs.Jobs.{jobs_in, jobs_of}
use Rattle.lr_laws_acts.specs.Steps.{named_steps}
use Rattle.lr_laws_acts.proofs.Acts.{sets_copying}
use Rattle.lr_laws_acts.proofs.Made.{AllMade, made_split, named_made}
use Rattle.lr_laws_acts.proofs.Steps.{plan_copied}
use Rattle.lr_laws_rotations.specs.Target.{Target, source_by, HasWay, IsJob}
use Rattle.lr_laws_acts.specs.Planned.{AreReadyFor, HaveLogs, NoneHas, LogsDiffer}
use Rattle.lr_laws_acts.proofs.ActsWhole.{nil_split}
use Rattle.lr_laws_acts.specs.Copied.{CopyStands, IsSameFor}
use Rattle.lr_laws_acts.proofs.Ways.{job_same, not_emptied, not_copied}

-- ---- steps that were all made

all_made : (ss : List Step) (t : List Mark) (f : List Fault) (ts : List Entry) → f ≡ [] → Course ss t f ts → AllMade ss ts
all_made [] t f ts n c = c.2
all_made (s ∷ ss) t f ts n (inl h) = absurd (one_none h.fault f h.told n)
all_made (s ∷ ss) t f ts n (inr g) = record { front = g.entries.front; back = g.entries.back; joined = g.entries.joined; first = g.entries.first; second = all_made ss g.later f g.entries.back n g.entries.second }

cut_made : (job : Job) (ts : List Entry) → AllMade (step_if job.cut (step.Truncates job.from)) ts → ts ≡ cutting job
cut_made job ts m = go job.cut m
  where
    go : (b : Bool) → AllMade (step_if b (step.Truncates job.from)) ts → ts ≡ cond b (entry.Truncates job.from ∷ []) []
    go true m = m.joined ∙ (ap (λ us. us ++ m.back) m.first ∙ ap (λ us. entry.Truncates job.from ∷ us) m.second)
    go false m = m

-- ---- a copy amid steps

record HasCopy (job : Job) (steps : List Step) : Type 0 where
  before : List Step
  after : List Step
  joined : steps ≡ before ++ (copy job ++ after)

copy_behind : (job : Job) (xs ys : List Step) → HasCopy job ys → HasCopy job (xs ++ ys)
copy_behind job xs ys h = record { before = xs ++ h.before; after = h.after; joined = ap (λ us. xs ++ us) h.joined ∙ sym (append_assoc xs h.before (copy job ++ h.after)) }

copy_first : (job : Job) (xs ys : List Step) → HasCopy job xs → HasCopy job (xs ++ ys)
copy_first job xs ys h = record {
  before = h.before;
  after = h.after ++ ys;
  joined = ap (λ us. us ++ ys) h.joined ∙ (append_assoc h.before (copy job ++ h.after) ys ∙ ap (λ us. h.before ++ us) (append_assoc (copy job) h.after ys));
}

copy_is : (job : Job) → copy job ≡ named_steps job ++ step_if job.cut (step.Truncates job.from)
copy_is job = sym (append_assoc (step_if job.stale (step.Removes job.part)) (step.Takes job.part job.mode ∷ step.Copies job.from job.part job.limit ∷ step.SyncsFile job.part ∷ step.Renames job.part job.to ∷ step.SyncsDir job.dir ∷ []) (step_if job.cut (step.Truncates job.from)))

copy_stands : (job : Job) (steps : List Step) (ts : List Entry) → HasCopy job steps → AllMade steps ts → CopyStands job ts
copy_stands job steps ts h made =
    let a = made_split h.before (copy job ++ h.after) ts (subst (λ us. AllMade us ts) h.joined made) in
    let b = made_split (copy job) h.after a.back a.second in
    let c = made_split (named_steps job) (step_if job.cut (step.Truncates job.from)) b.front (subst (λ us. AllMade us b.front) (copy_is job) b.first) in
    let k = named_made job c.front c.first in record {
      before = a.front;
      named = c.front;
      after = b.back;
      count = k.0;
      is_named = k.1;
      joined = a.joined ∙ ap (λ us. a.front ++ us) (b.joined ∙ (ap (λ us. us ++ b.back) (c.joined ∙ ap (λ us. c.front ++ us) (cut_made job c.back c.second)) ∙ append_assoc c.front (cutting job) b.back));
    }

-- it stands in longer entries, too
stands_behind : (job : Job) (xs ys ts : List Entry) → ts ≡ xs ++ ys → CopyStands job ys → CopyStands job ts
stands_behind job xs ys ts is k = record {
  before = xs ++ k.before;
  named = k.named;
  after = k.after;
  count = k.count;
  is_named = k.is_named;
  joined = is ∙ (ap (λ us. xs ++ us) k.joined ∙ sym (append_assoc xs k.before (k.named ++ (cutting job ++ k.after))));
}

pub stands_first : (job : Job) (xs ys ts : List Entry) → ts ≡ xs ++ ys → CopyStands job xs → CopyStands job ts
stands_first job xs ys ts is k = record {
  before = k.before;
  named = k.named;
  after = k.after ++ ys;
  count = k.count;
  is_named = k.is_named;
  joined = is ∙ (ap (λ us. us ++ ys) k.joined ∙ (append_assoc k.before (k.named ++ (cutting job ++ k.after)) ys
      ∙ ap (λ us. k.before ++ us) (append_assoc k.named (cutting job ++ k.after) ys ∙ ap (λ us. k.named ++ us) (append_assoc (cutting job) k.after ys))));
}

-- ---- of a plan

-- in the rotation, where the log is copied from where it stands
transfer_has : (job : Job) (log target : Path) (o : Option Job) (aside : Option Path) → o ≡ Some job → aside ≡ None → HasCopy job (transfer log target o aside)
transfer_has job log target o aside is stays = subst (λ (j : Option Job). HasCopy job (transfer log target j aside)) (sym is) (subst (λ (a : Option Path). HasCopy job (transfer log target (Some job) a)) (sym stays)
    (record { before = []; after = []; joined = sym (append-nil (copy job)) }))

rotation_has : (job : Job) (log : LogPlan) → log.job ≡ Some job → log.aside ≡ None → HasCopy job (rotation_of log)
rotation_has job log is stays = copy_behind job (removals log.ready.leftovers) _ (copy_behind job (directory log.ready.dir) _ (copy_behind job (map move log.ready.moves) _
    (copy_first job (transfer log.ready.log log.ready.target log.job log.aside) _ (transfer_has job log.ready.log log.ready.target log.job log.aside is stays))))

-- behind the scripts, where it is copied from where it was set aside
finishing_has : (job : Job) (path : Path) (o : Option Job) (aside : Option Path) → o ≡ Some job → aside ≡ Some path → HasCopy job (finishing o aside)
finishing_has job path o aside is goes = subst (λ (j : Option Job). HasCopy job (finishing j aside)) (sym is) (subst (λ (a : Option Path). HasCopy job (finishing (Some job) a)) (sym goes)
    (record { before = []; after = step.Removes path ∷ []; joined = refl }))

retirement_has : (job : Job) (log : LogPlan) (path : Path) → log.job ≡ Some job → log.aside ≡ Some path → HasCopy job (retirement_of log)
retirement_has job log path is goes = copy_first job (finishing log.job log.aside) _ (finishing_has job path log.job log.aside is goes)

-- in the one or in the other
log_has : (job : Job) (log : LogPlan) → log.job ≡ Some job → HasCopy job (steps_of_log log)
log_has job log is = copy_behind job (program phase.Pre log.pre) _ (go log.aside refl)
  where
    go : (aside : Option Path) → log.aside ≡ aside → HasCopy job (rotation_of log ++ (program phase.Post log.post ++ retirement_of log))
    go None stays = copy_first job (rotation_of log) (program phase.Post log.post ++ retirement_of log) (rotation_has job log is stays)
    go (Some path) goes = copy_behind job (rotation_of log) _ (copy_behind job (program phase.Post log.post) (retirement_of log) (retirement_has job log path is goes))

-- one of these logs is copied by this job
abbrev CopiesOne : Job → List LogPlan → Type 0
CopiesOne job logs = (log : LogPlan) × IsIn log logs × (log.job ≡ Some job)

-- what is done for one of these logs is done where it is done for each
some_has : (job : Job) (part : LogPlan → List Step) (log : LogPlan) (logs : List LogPlan) → IsIn log logs → HasCopy job (part log) → HasCopy job (flat_map part logs)
some_has job part log [] i has = absurd i
some_has job part log (l ∷ logs) (inl same) has = copy_first job (part l) (flat_map part logs) (subst (λ (p : LogPlan). HasCopy job (part p)) (sym same) has)
some_has job part log (l ∷ logs) (inr i) has = copy_behind job (part l) (flat_map part logs) (some_has job part log logs i has)

shared_has : (job : Job) (set : SetPlan) → CopiesOne job set.logs → HasCopy job (shared_steps set)
shared_has job set (log, i, is) = copy_behind job (program phase.First set.first) _ (copy_behind job (program phase.Pre set.pre) _ (go log.aside refl))
  where
    retired : List Step
    retired = flat_map retirement_of set.logs ++ program phase.Last set.last

    go : (aside : Option Path) → log.aside ≡ aside → HasCopy job (flat_map rotation_of set.logs ++ (program phase.Post set.post ++ retired))
    go None stays = copy_first job (flat_map rotation_of set.logs) _ (some_has job rotation_of log set.logs i (rotation_has job log is stays))
    go (Some path) goes = copy_behind job (flat_map rotation_of set.logs) _ (copy_behind job (program phase.Post set.post) retired
        (copy_first job (flat_map retirement_of set.logs) (program phase.Last set.last) (some_has job retirement_of log set.logs i (retirement_has job log path is goes))))

each_stands : (job : Job) (logs : List LogPlan) (t : List Mark) (f : List Fault) (ts : List Entry) → CopiesOne job logs → f ≡ [] → EachDone (map steps_of_log logs) t f ts → CopyStands job ts
each_stands job [] t f ts (log, i, is) n d = absurd i
each_stands job (l ∷ logs) t f ts (log, inl same, is) n d =
    let parts = nil_split f d.first_faults d.second_faults d.faults_are n in
    stands_first job d.entries.front d.entries.back ts d.entries.joined
    (copy_stands job (steps_of_log l) d.entries.front (log_has job l (ap (λ (p : LogPlan). p.job) same ∙ is)) (all_made (steps_of_log l) d.first_marks d.first_faults d.entries.front parts.0 d.entries.first))
each_stands job (l ∷ logs) t f ts (log, inr i, is) n d =
    let parts = nil_split f d.first_faults d.second_faults d.faults_are n in
    stands_behind job d.entries.front d.entries.back ts d.entries.joined (each_stands job logs d.second_marks d.second_faults d.entries.back (log, i, is) parts.1 d.entries.second)

set_stands : (job : Job) (set : SetPlan) (t : List Mark) (f : List Fault) (ts : List Entry) → CopiesOne job set.logs → f ≡ [] → SetDone (steps_of_set set) t f ts → CopyStands job ts
set_stands job set t f ts one n d = go set.shared set.logs one one d
  where
    go : (shared : Bool) (logs : List LogPlan) → CopiesOne job logs → CopiesOne job set.logs → SetDone (by_logs shared logs set) t f ts → CopyStands job ts
    go shared [] none one d = absurd none.1
    go shared (log ∷ logs) some one (broke_off b) = absurd (one_none b.fault f b.told n)
    go true (log ∷ logs) some one (went_on b) =
        let parts = nil_split f b.first_faults b.second_faults b.faults_are n in
        stands_first job b.entries.front b.entries.back ts b.entries.joined
        (copy_stands job (shared_steps set) b.entries.front (shared_has job set one) (all_made (shared_steps set) b.first_marks b.first_faults b.entries.front parts.0 b.entries.first.1))
    go false (log ∷ logs) some one (went_on b) =
        let parts = nil_split f b.first_faults b.second_faults b.faults_are n in
        let d = b.entries.second in
        let ends = nil_split b.second_faults d.of_each d.of_last d.faults_are parts.1 in
        stands_behind job b.entries.front b.entries.back ts b.entries.joined
        (stands_first job d.entries.front d.entries.back b.entries.back d.entries.joined (each_stands job set.logs d.by_each d.of_each d.entries.front one ends.0 d.entries.first))

-- the plan of one of these logs
ready_one : (t : Target) (job : Job) (ts : List Target) (logs : List LogPlan) → AreReadyFor ts logs → IsIn t ts → t.job ≡ Some job → CopiesOne job logs
ready_one t job [] logs ready i is = absurd i
ready_one t job (x ∷ ts) [] ready i is = absurd ready
ready_one t job (x ∷ ts) (log ∷ logs) ready (inl same) is = (log, inl refl, ready.0.job_is ∙ (ap (λ (y : Target). y.job) same ∙ is))
ready_one t job (x ∷ ts) (log ∷ logs) ready (inr i) is = let k = ready_one t job ts logs ready.1 i is in (k.0, inr k.1, k.2)

abbrev pub all_of : List (List Target) → List Target
all_of groups = flat_map (λ ts. ts) groups

pub plan_stands : (t : Target) (job : Job) (groups : List (List Target)) (sets : List SetPlan) (ms : List Mark) (f : List Fault) (ts : List Entry) → HaveLogs groups sets → IsIn t (all_of groups) → t.job ≡ Some job → f ≡ [] → SetsDone (map steps_of_set sets) ms f ts → CopyStands job ts
plan_stands t job [] sets ms f ts logs i is n d = absurd i
plan_stands t job (g ∷ groups) [] ms f ts logs i is n d = absurd logs
plan_stands t job (g ∷ groups) (set ∷ sets) ms f ts logs i is n d =
    let parts = nil_split f d.first_faults d.second_faults d.faults_are n in
    ⊎_elim (λ h. stands_first job d.entries.front d.entries.back ts d.entries.joined (set_stands job set d.first_marks d.first_faults d.entries.front (ready_one t job g set.logs logs.0 h is) parts.0 d.entries.first))
    (λ h. stands_behind job d.entries.front d.entries.back ts d.entries.joined (plan_stands t job groups sets d.second_marks d.second_faults d.entries.back logs.1 h is parts.1 d.entries.second))
    (in_append t g (all_of groups) i)

-- ---- the jobs of a plan

-- the job is that of one of these logs, of which it is known how its file goes
abbrev IsOfOne : List Target → Job → Type 0
IsOfOne ts job = (t : Target) × IsIn t ts × (t.job ≡ Some job) × IsJob t job × HasWay t

pub job_has : (o : Option Job) (job : Job) → IsIn job (option_to_list o) → o ≡ Some job
job_has None job i = absurd i
job_has (Some j) job (inl is) = ap Some is
job_has (Some j) job (inr i) = absurd i

jobs_ready : (ts : List Target) (logs : List LogPlan) (job : Job) → AreReadyFor ts logs → IsIn job (jobs_in logs) → IsOfOne ts job
jobs_ready [] [] job ready i = absurd i
jobs_ready [] (log ∷ logs) job ready i = absurd ready
jobs_ready (t ∷ ts) [] job ready i = absurd i
jobs_ready (t ∷ ts) (log ∷ logs) job ready i = ⊎_elim here (λ h. there (jobs_ready ts logs job ready.1 h)) (in_append job (option_to_list log.job) (jobs_in logs) i)
  where
    here : IsIn job (option_to_list log.job) → IsOfOne (t ∷ ts) job
    here h = let is : t.job ≡ Some job = sym ready.0.job_is ∙ job_has log.job job h in (t, inl refl, is, ready.0.job job is, ready.0.way)

    there : IsOfOne ts job → IsOfOne (t ∷ ts) job
    there k = (k.0, inr k.1, k.2, k.3, k.4)

jobs_planned : (groups : List (List Target)) (sets : List SetPlan) (job : Job) → HaveLogs groups sets → IsIn job (jobs_of sets) → IsOfOne (all_of groups) job
jobs_planned [] [] job logs i = absurd i
jobs_planned [] (set ∷ sets) job logs i = absurd logs
jobs_planned (g ∷ groups) [] job logs i = absurd i
jobs_planned (g ∷ groups) (set ∷ sets) job logs i = ⊎_elim here (λ h. there (jobs_planned groups sets job logs.1 h)) (in_append job (jobs_in set.logs) (jobs_of sets) i)
  where
    here : IsIn job (jobs_in set.logs) → IsOfOne (g ++ all_of groups) job
    here h = let k = jobs_ready g set.logs job logs.0 h in (k.0, in_front k.0 g (all_of groups) k.1, k.2, k.3, k.4)

    there : IsOfOne (all_of groups) job → IsOfOne (g ++ all_of groups) job
    there k = (k.0, in_back k.0 g (all_of groups) k.1, k.2, k.3, k.4)

-- no log stands twice
none_has : (t x : Target) (ts : List Target) → NoneHas t.log ts → IsIn x ts → x.log ≢ t.log
none_has t x [] none i = absurd i
none_has t x (y ∷ ys) none (inl is) = λ e. none.0 (ap (λ (z : Target). z.log) is ∙ e)
none_has t x (y ∷ ys) none (inr i) = none_has t x ys none.1 i

same_target : (t x : Target) (ts : List Target) → LogsDiffer ts → IsIn t ts → IsIn x ts → x.log ≡ t.log → x ≡ t
same_target t x [] apart i j e = absurd i
same_target t x (y ∷ ys) apart (inl a) (inl b) e = sym b ∙ a
same_target t x (y ∷ ys) apart (inl a) (inr j) e = absurd (none_has y x ys apart.0 j (e ∙ ap (λ (z : Target). z.log) (sym a)))
same_target t x (y ∷ ys) apart (inr i) (inl b) e = absurd (none_has y t ys apart.0 i (sym e ∙ ap (λ (z : Target). z.log) (sym b)))
same_target t x (y ∷ ys) apart (inr i) (inr j) e = same_target t x ys apart.1 i j e

-- what a copy empties it copied from where the log stands
emptied_at : (t : Target) (job : Job) → t.job ≡ Some job → IsJob t job → HasWay t → job.cut ≡ true → job.from ≡ t.log
emptied_at t job is of (inl stays) cut = of.from_is ∙ (ap (λ (a : Option Path). source_by a t.ready.log) stays.aside_is ∙ stays.first_is)
emptied_at t job is of (inr (asked, inl aside)) cut = absurd (let both : true ≡ false = sym cut ∙ not_emptied t job is aside in cc)
emptied_at t job is of (inr (asked, inr taken)) cut = absurd (not_copied t job is taken.no_job)

-- so a log has one such job
plan_same : (t : Target) (job : Job) (groups : List (List Target)) (sets : List SetPlan) → HaveLogs groups sets → LogsDiffer (all_of groups) → IsIn t (all_of groups) → t.job ≡ Some job → (other : Job) → IsIn other (jobs_of sets) → IsSameFor t.log job other
plan_same t job groups sets logs apart i is other h cut from_log =
    let k = jobs_planned groups sets other logs h in
    let same : k.0 ≡ t = same_target t k.0 (all_of groups) apart i k.1 (sym (emptied_at k.0 other k.2 k.3 k.4 cut) ∙ from_log) in
    job_same t job is other (ap (λ (x : Target). x.job) (sym same) ∙ k.2)

-- and whatever empties it in the entries of the plan is behind that copy
pub plan_empties : (t : Target) (job : Job) (groups : List (List Target)) (sets : List SetPlan) (ms : List Mark) (f : List Fault) (ts : List Entry) → HaveLogs groups sets → LogsDiffer (all_of groups) → IsIn t (all_of groups) → t.job ≡ Some job → SetsDone (map steps_of_set sets) ms f ts
    → EmptiesCopied (IsSameFor t.log job) ts
plan_empties t job groups sets ms f ts logs apart i is d = sets_copying (IsSameFor t.log job) (map steps_of_set sets) (plan_copied (IsSameFor t.log job) sets (plan_same t job groups sets logs apart i is)) ms f ts d
