-- The writing of the state, and who needs a path.
use Rattle.std.proofs.Common.{◌≡◌, ◌⊎◌, inl, inr, ⊎_elim, ◌+◌, ℕ, Bool, true, false, ap, arith, List, [], ◌∷◌, ◌++◌, map, length, length-append, Some}
use Rattle.std.specs.Prelude.{codes}
use Rattle.lr_rules.specs.declared.path.Path.{Path}
use Rattle.lr_rules.specs.Path.{parent_of}
use Rattle.lr_rules.specs.StatePath.{state_part}
use Rattle.lr_copy.specs.declared.job.Job.{Job}
use Rattle.lr_plan.specs.declared.plan.LogPlan.{LogPlan}
use Rattle.lr_plan.specs.declared.step.Step.{Step}
use Rattle.lr_plan.specs.declared.step.Step.TheVariants as step
use Rattle.lr_plan.specs.Steps.{step_if, copy, state_steps, rotation_of, retirement_of}
use Rattle.lr_acts.specs.Taken.{OneTakes}
use Rattle.lr_laws_plan.proofs.Clearing.{ClearsFirst, clears_on}
use Rattle.lr_run.proofs.Courses.{IsNoCopy, a_rotation, a_retirement}
use Rattle.lr_laws_plan.proofs.Long.{FitCopies, fit_on}
use Rattle.lr_laws_plan.proofs.Steps.{NoneTouches, OnceNamed, none_on, none_once, one_split}

-- ---- the writing of the state

module _ (state : Path) (stale : Bool) (dirs : List Path) (text : List ℕ) where
  abbrev part : Path
  part = state_part state

  -- the rename to the state's path, and what comes before it
  abbrev last : List Step
  last = step.Renames part state ∷ step.SyncsDir (parent_of state) ∷ []

  abbrev rest : List Step
  rest = step.Appends part text ∷ step.SyncsFile part ∷ (map step.SyncsDir dirs ++ last)

  module _ (x : Path) where
    syncs_none : (ds : List Path) → NoneTouches x (map step.SyncsDir ds)
    syncs_none [] = tt
    syncs_none (d ∷ ds) = (λ h. h, λ h. h, syncs_none ds)

    rest_none : (state ≡ x → ⊥) → NoneTouches x rest
    rest_none other = (λ h. h, λ h. h, (λ h. h, λ h. h, none_on x (map step.SyncsDir dirs) last (syncs_none dirs) (other, λ h. h, (λ h. h, λ h. h, tt))))

    -- another path
    pub state_none : (state ≡ x → ⊥) → (state_part state ≡ x → ⊥) → NoneTouches x (state_steps state stale dirs text)
    state_none other ne = none_on x (step_if stale (step.Removes part)) _ (cleared stale) (ne, λ h. h, rest_none other)
      where
        cleared : (b : Bool) → NoneTouches x (step_if b (step.Removes part))
        cleared true = (λ h. h, ne, tt)
        cleared false = tt

    pub state_clears : (state_part state ≡ x → stale ≡ true) → (state_part state ≡ x) ⊎ (state_part state ≡ x → ⊥) → ClearsFirst x (state_steps state stale dirs text)
    state_clears seen which = ⊎_elim (λ same. own stale (seen same) same) (λ ne. other stale ne) which
      where
        syncs : (ds : List Path) → ClearsFirst x (map step.SyncsDir ds)
        syncs [] = tt
        syncs (d ∷ ds) = inr (λ h. h, syncs ds)

        rest_so : ClearsFirst x rest
        rest_so = inr (λ h. h, inr (λ h. h, clears_on x (map step.SyncsDir dirs) last (syncs dirs) (inr (λ h. h, inr (λ h. h, tt)))))

        own : (b : Bool) → b ≡ true → part ≡ x → ClearsFirst x (step_if b (step.Removes part) ++ (step.Takes part (Some 416) ∷ rest))
        own true e same = inl same
        own false e same = absurd (cc)

        other : (b : Bool) → (part ≡ x → ⊥) → ClearsFirst x (step_if b (step.Removes part) ++ (step.Takes part (Some 416) ∷ rest))
        other true ne = inr (λ h. h, inr (ne, rest_so))
        other false ne = inr (ne, rest_so)

    pub state_takes : OneTakes x (state_steps state stale dirs text) → state_part state ≡ x
    state_takes t = ⊎_elim (λ a. absurd (cleared stale a)) (λ b. ⊎_elim (λ same. same) (λ later. absurd (none later)) b) (one_split x (step_if stale (step.Removes part)) (step.Takes part (Some 416) ∷ rest) t)
      where
        cleared : (b : Bool) → OneTakes x (step_if b (step.Removes part)) → ⊥
        cleared true h = ⊎_elim (λ none. none) (λ none. none) h
        cleared false h = h

        syncs : (ds : List Path) → OneTakes x (map step.SyncsDir ds) → ⊥
        syncs [] h = h
        syncs (d ∷ ds) h = ⊎_elim (λ none. none) (λ later. syncs ds later) h

        ends : OneTakes x last → ⊥
        ends h = ⊎_elim (λ none. none) (λ later. ⊎_elim (λ none. none) (λ none. none) later) h

        none : OneTakes x rest → ⊥
        none h = ⊎_elim (λ none. none) (λ more. ⊎_elim (λ none. none) (λ later. ⊎_elim (λ a. syncs dirs a) (λ b. ends b) (one_split x (map step.SyncsDir dirs) last later)) more) h

  no_state : state ≡ part → ⊥
  no_state same =
      let lengths : length state ≡ length (state ++ codes ".tmp") = ap length same in
      let split : length (state ++ codes ".tmp") ≡ length state + 4 = length-append state (codes ".tmp") in
      omega (arith, lengths, split)

  -- its own part file
  pub state_once : OnceNamed part (state_steps state stale dirs text)
  state_once = go stale
    where
      taken : OnceNamed part (step.Takes part (Some 416) ∷ rest)
      taken = (λ named. rest_none part no_state, none_once part rest (rest_none part no_state))

      go : (b : Bool) → OnceNamed part (step_if b (step.Removes part) ++ (step.Takes part (Some 416) ∷ rest))
      go true = (λ named. absurd named, taken)
      go false = taken

  pub state_fits : (C : Path → ℕ → Type 0) → FitCopies C (state_steps state stale dirs text)
  state_fits C = fit_on C (step_if stale (step.Removes part)) _ (cleared stale) (tt, (tt, (tt, fit_on C (map step.SyncsDir dirs) last (syncs dirs) (tt, (tt, tt)))))
    where
      cleared : (b : Bool) → FitCopies C (step_if b (step.Removes part))
      cleared true = (tt, tt)
      cleared false = tt

      syncs : (ds : List Path) → FitCopies C (map step.SyncsDir ds)
      syncs [] = tt
      syncs (d ∷ ds) = (tt, syncs ds)

-- ---- who needs a path

takes_copy : (x : Path) (job : Job) → OneTakes x (copy job) → job.part ≡ x
takes_copy x job t = ⊎_elim (λ a. absurd (cleared job.stale a)) (λ b. ⊎_elim (λ same. same) (λ later. absurd (none later)) b) (one_split x (step_if job.stale (step.Removes job.part)) (step.Takes job.part job.mode ∷ behind) t)
  where
    behind : List Step
    behind = step.Copies job.from job.part job.limit ∷ step.SyncsFile job.part ∷ step.Renames job.part job.to ∷ step.SyncsDir job.dir ∷ step_if job.cut (step.Truncates job.from)

    cleared : (b : Bool) → OneTakes x (step_if b (step.Removes job.part)) → ⊥
    cleared true h = ⊎_elim (λ none. none) (λ none. none) h
    cleared false h = h

    cut : (b : Bool) → OneTakes x (step_if b (step.Truncates job.from)) → ⊥
    cut true h = ⊎_elim (λ none. none) (λ none. none) h
    cut false h = h

    no : (A : Type 0) → (A → ⊥) → ⊥ ⊎ A → ⊥
    no A n h = ⊎_elim (λ none. none) n h

    none : OneTakes x behind → ⊥
    none h = no _ (λ a. no _ (λ b. no _ (λ c. no _ (λ d. cut job.cut d) c) b) a) h

-- a step of the log needs it: the copy of its job, into this part file
pub log_takes : (F : Type 0) (x : Path) (l : LogPlan) → ((job : Job) → l.job ≡ Some job → job.part ≡ x → F) → (OneTakes x (rotation_of l) → F) × (OneTakes x (retirement_of l) → F)
log_takes F x l found = (a_rotation Q none on single l (λ job is t. found job is (takes_copy x job t)), a_retirement Q none on single l (λ job is t. found job is (takes_copy x job t)))
  where
    Q : List Step → Type 0
    Q ss = OneTakes x ss → F

    none : Q []
    none t = absurd t

    on : (xs ys : List Step) → Q xs → Q ys → Q (xs ++ ys)
    on xs ys a b t = ⊎_elim a b (one_split x xs ys t)

    single : (s : Step) → IsNoCopy s → Q (s ∷ [])
    single (step.Takes path mode) k t = absurd k
    single _ k t = ⊎_elim (λ none. absurd none) (λ none. absurd none) t
