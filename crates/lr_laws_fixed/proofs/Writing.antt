-- The faults of the writing of the state are fixed by its entries, where no call failed.
use Rattle.std.proofs.Common.{◌≡◌, inl, inr, ℕ, Bool, true, false, bytes_eq, cond, List, [], ◌∷◌, ◌++◌, map, Some, refl, sym, ap, ◌∙◌}
use Rattle.std.proofs.lemmas.Slice.Eq.{bytes_eq-Decides}
use Rattle.std.specs.Prelude.{filter}
use Rattle.lr_rules.specs.declared.fault.Fault.{Fault}
use Rattle.lr_rules.specs.declared.fault.Fault.TheVariants as fault
use Rattle.lr_rules.specs.declared.path.Path.{Path}
use Rattle.lr_rules.specs.Path.{parent_of}
use Rattle.lr_rules.specs.StatePath.{state_part}
use Rattle.lr_host.specs.declared.entry.Entry.{Entry}
use Rattle.lr_host.specs.declared.entry.Entry.TheVariants as entry
use Rattle.lr_plan.specs.declared.mark.Mark.{Mark}
use Rattle.lr_plan.specs.declared.step.Step.{Step}
use Rattle.lr_plan.specs.declared.step.Step.TheVariants.{Renames, Takes, Appends, SyncsFile, SyncsDir}
use Rattle.lr_host.specs.Counted.{call_in, calls_in}
use Rattle.lr_plan.specs.Course.{Course}
use Rattle.lr_plan.specs.Outcomes.{Fails}
use Rattle.lr_plan.specs.Steps.{state_steps}
use Rattle.lr_laws_fixed.proofs.Called.{one_called}

-- ---- steps that fail by a call alone

abbrev FailsByCall : Step → Type 0
FailsByCall s = (f : Fault) (ts : List Entry) → Fails s f ts → call_in f ≡ 1

abbrev AllByCall : List Step → Type 0
AllByCall [] = Unit {0}
AllByCall (s ∷ ss) = FailsByCall s × AllByCall ss

-- of a course of such steps, of which no call failed, none failed
none_failed : (steps : List Step) (ms : List Mark) (fs : List Fault) (ts : List Entry) → AllByCall steps → Course steps ms fs ts → calls_in fs ≡ 0 → fs ≡ []
none_failed [] ms fs ts a h z = h.1
none_failed (s ∷ ss) ms fs ts a (inl h) z = absurd (one_called fs h.fault h.told (a.0 h.fault ts h.failed) z)
none_failed (s ∷ ss) ms fs ts a (inr h) z = none_failed ss h.later fs h.entries.back a.1 h.entries.second z

by_call_both : (xs ys : List Step) → AllByCall xs → AllByCall ys → AllByCall (xs ++ ys)
by_call_both [] ys a b = b
by_call_both (x ∷ xs) ys a b = (a.0, by_call_both xs ys a.1 b)

syncs_by_call : (dirs : List Path) → AllByCall (map SyncsDir dirs)
syncs_by_call [] = tt
syncs_by_call (d ∷ ds) = ((λ f ts h. ap call_in h.0), syncs_by_call ds)

-- behind the part file
abbrev behind_take : Path → List Path → List ℕ → List Step
behind_take state dirs text = Appends (state_part state) text ∷ SyncsFile (state_part state) ∷ (map SyncsDir dirs ++ (Renames (state_part state) state ∷ SyncsDir (parent_of state) ∷ []))

behind_by_call : (state : Path) (dirs : List Path) (text : List ℕ) → AllByCall (behind_take state dirs text)
behind_by_call state dirs text = (
  λ f ts h. ap call_in h.0,
  (λ f ts h. ap call_in h.0, by_call_both (map SyncsDir dirs) (Renames (state_part state) state ∷ SyncsDir (parent_of state) ∷ []) (syncs_by_call dirs) (λ f ts h. ap call_in h.0, (λ f ts h. ap call_in h.0, tt))),
)

-- ---- the part file, which is made or is another's

-- the entry makes a file at this path
abbrev pub is_make : Path → Entry → Bool
is_make part (entry.Makes path mode) = bytes_eq path part
is_make part _ = false

abbrev pub makes_in : Path → List Entry → List Entry
makes_in part ts = filter (is_make part) ts

-- where none was made, the path was taken
abbrev pub told_by : Path → List Entry → List Fault
told_by part [] = fault.Taken part ∷ []
told_by part (e ∷ es) = []

at_take : (state : Path) (dirs : List Path) (text : List ℕ) (ms : List Mark) (fs : List Fault) (ts : List Entry) → Course (Takes (state_part state) (Some 416) ∷ behind_take state dirs text) ms fs ts → calls_in fs ≡ 0 → fs ≡ told_by (state_part state) (makes_in (state_part state) ts)
at_take state dirs text ms fs ts (inl h) z = go h.failed
  where
    go : Fails (Takes (state_part state) (Some 416)) h.fault ts → fs ≡ told_by (state_part state) (makes_in (state_part state) ts)
    go (inl f) = absurd (one_called fs h.fault h.told (ap call_in f.0) z)
    go (inr f) = h.told ∙ (ap (λ (x : Fault). x ∷ []) f.0 ∙ sym (ap (λ es. told_by (state_part state) (makes_in (state_part state) es)) f.1))
at_take state dirs text ms fs ts (inr h) z =
    none_failed (behind_take state dirs text) h.later fs h.entries.back (behind_by_call state dirs text) h.entries.second z
    ∙ sym (ap (λ es. told_by (state_part state) (makes_in (state_part state) es)) (h.entries.joined ∙ ap (λ es. es ++ h.entries.back) h.entries.first)
    ∙ ap (λ b. told_by (state_part state) (cond b (entry.Makes (state_part state) (Some 416) ∷ makes_in (state_part state) h.entries.back) (makes_in (state_part state) h.entries.back))) ((bytes_eq-Decides (state_part state) (state_part state)).1 refl))

pub state_told : (state : Path) (stale : Bool) (dirs : List Path) (text : List ℕ) (ms : List Mark) (fs : List Fault) (ts : List Entry) → Course (state_steps state stale dirs text) ms fs ts → calls_in fs ≡ 0 → fs ≡ told_by (state_part state) (makes_in (state_part state) ts)
state_told state false dirs text ms fs ts h z = at_take state dirs text ms fs ts h z
state_told state true dirs text ms fs ts (inl h) z = absurd (one_called fs h.fault h.told (ap call_in h.failed.0) z)
state_told state true dirs text ms fs ts (inr h) z =
    at_take state dirs text h.later fs h.entries.back h.entries.second z
    ∙ sym (ap (λ es. told_by (state_part state) (makes_in (state_part state) es)) (h.entries.joined ∙ ap (λ es. es ++ h.entries.back) h.entries.first))
