-- An old part file that was seen is unlinked before the path is needed again.
use Rattle.std.proofs.Common.{◌≡◌, ◌⊎◌, inl, inr, ⊎_elim, Bool, true, false, bytes_eq, refl, sym, subst, List, [], ◌∷◌, ◌++◌, Some}
use Rattle.std.proofs.lemmas.Slice.Eq.{bytes_eq-Decides}
use Rattle.lr_rules.specs.declared.path.Path.{Path}
use Rattle.lr_rules.specs.declared.fault.Fault.{Fault}
use Rattle.lr_rules.specs.declared.fault.Fault.TheVariants as fault
use Rattle.lr_host.specs.declared.entry.Entry.{Entry}
use Rattle.lr_host.specs.declared.entry.Entry.TheVariants.{Unlinks}
use Rattle.lr_host.specs.Lists.{IsIn}
use Rattle.lr_host.proofs.Lists.{in_front, in_back}
use Rattle.lr_copy.specs.declared.job.Job.{Job}
use Rattle.lr_plan.specs.declared.mark.Mark.{Mark}
use Rattle.lr_plan.specs.declared.plan.LogPlan.{LogPlan}
use Rattle.lr_plan.specs.declared.step.Step.{Step}
use Rattle.lr_plan.specs.declared.step.Step.TheVariants as step
use Rattle.lr_plan.specs.Course.{Course}
use Rattle.lr_plan.specs.Outcomes.{Succeeds}
use Rattle.lr_plan.specs.Steps.{step_if, copy, rotation_of, retirement_of}
use Rattle.lr_acts.specs.Taken.{TakesAt, RemovesAt}
use Rattle.lr_run.proofs.Courses.{IsNoCopy, a_rotation, a_retirement}
use Rattle.lr_laws_plan.proofs.Steps.{takes_it}

-- one of the steps unlinks the path, and none before takes it; or none takes it
abbrev pub ClearsFirst : Path → List Step → Type 0
ClearsFirst x [] = Unit {0}
ClearsFirst x (s ∷ ss) = RemovesAt x s ⊎ ((TakesAt x s → ⊥) × ClearsFirst x ss)

pub clears_on : (x : Path) (xs ys : List Step) → ClearsFirst x xs → ClearsFirst x ys → ClearsFirst x (xs ++ ys)
clears_on x [] ys a b = b
clears_on x (s ∷ xs) ys (inl gone) b = inl gone
clears_on x (s ∷ xs) ys (inr later) b = inr (later.0, clears_on x xs ys later.1 b)

pub clears_one : (x : Path) (s : Step) → IsNoCopy s → ClearsFirst x (s ∷ [])
clears_one x (step.Takes path mode) k = absurd k
clears_one x _ k = inr (λ t. t, tt)

-- where an old one stands it is seen, and goes first
pub clears_copy : (x : Path) (job : Job) → (job.part ≡ x → job.stale ≡ true) → ClearsFirst x (copy job)
clears_copy x job seen = by (bytes_eq job.part x) refl
  where
    cut : (b : Bool) → ClearsFirst x (step_if b (step.Truncates job.from))
    cut true = inr (λ t. t, tt)
    cut false = tt

    rest : List Step
    rest = step.Copies job.from job.part job.limit ∷ step.SyncsFile job.part ∷ step.Renames job.part job.to ∷ step.SyncsDir job.dir ∷ step_if job.cut (step.Truncates job.from)

    rest_so : ClearsFirst x rest
    rest_so = inr (λ t. t, inr (λ t. t, inr (λ t. t, inr (λ t. t, cut job.cut))))

    other : (b : Bool) → (job.part ≡ x → ⊥) → ClearsFirst x (step_if b (step.Removes job.part) ++ (step.Takes job.part job.mode ∷ rest))
    other true ne = inr (λ t. t, inr (ne, rest_so))
    other false ne = inr (ne, rest_so)

    own : (b : Bool) → b ≡ true → job.part ≡ x → ClearsFirst x (step_if b (step.Removes job.part) ++ (step.Takes job.part job.mode ∷ rest))
    own true e same = inl same
    own false e same = absurd (cc)

    by : (b : Bool) → bytes_eq job.part x ≡ b → ClearsFirst x (copy job)
    by true e = let same : job.part ≡ x = (bytes_eq-Decides job.part x).0 e in own job.stale (seen same) same
    by false e = other job.stale (λ same. let t : bytes_eq job.part x ≡ true = (bytes_eq-Decides job.part x).1 same in cc)

-- so are the courses of the log
pub clears_log : (x : Path) (l : LogPlan) → ((job : Job) → l.job ≡ Some job → job.part ≡ x → job.stale ≡ true) → ClearsFirst x (rotation_of l) × ClearsFirst x (retirement_of l)
clears_log x l seen = (a_rotation (ClearsFirst x) tt (clears_on x) (clears_one x) l (λ job is. clears_copy x job (seen job is)), a_retirement (ClearsFirst x) tt (clears_on x) (clears_one x) l (λ job is. clears_copy x job (seen job is)))

removes_it : (x : Path) (s : Step) (ts : List Entry) → RemovesAt x s → Succeeds s ts → IsIn (Unlinks x) ts
removes_it x (step.Removes path) ts same w = subst (IsIn (Unlinks x)) (sym w) (inl (subst (λ (y : Path). Unlinks path ≡ Unlinks y) same refl))
removes_it x _ ts same w = absurd same

removes_takes : (x : Path) (s : Step) → RemovesAt x s → TakesAt x s → ⊥
removes_takes x (step.Removes path) gone t = t
removes_takes x _ gone t = gone

-- where the path was taken, it was unlinked before
pub course_clears : (x : Path) (steps : List Step) (ms : List Mark) (fs : List Fault) (ts : List Entry) → ClearsFirst x steps → Course steps ms fs ts → IsIn (fault.Taken x) fs → IsIn (Unlinks x) ts
course_clears x [] ms fs ts q c i = absurd (subst (IsIn (fault.Taken x)) c.1 i)
course_clears x (s ∷ ss) ms fs ts q (inl h) i = absurd (⊎_elim (λ gone. removes_takes x s gone taken) (λ later. later.0 taken) q)
  where
    is : h.fault ≡ fault.Taken x
    is = ⊎_elim (λ same. same) (λ none. absurd none) (subst (IsIn (fault.Taken x)) h.told i)

    taken : TakesAt x s
    taken = (takes_it x s h.fault ts is h.failed).0
course_clears x (s ∷ ss) ms fs ts (inl gone) (inr g) i = subst (IsIn (Unlinks x)) (sym g.entries.joined) (in_front (Unlinks x) g.entries.front g.entries.back (removes_it x s g.entries.front gone g.entries.first))
course_clears x (s ∷ ss) ms fs ts (inr later) (inr g) i = subst (IsIn (Unlinks x)) (sym g.entries.joined) (in_back (Unlinks x) g.entries.front g.entries.back (course_clears x ss g.later fs g.entries.back later.1 g.entries.second i))
