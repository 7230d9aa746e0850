-- What the writing of the state is told of ends no run.
use Rattle.std.proofs.Common.{inl, inr, ℕ, Bool, true, false, List, [], ◌∷◌, ◌++◌, map, Some, sym, subst}
use Rattle.lr_rules.specs.declared.fault.Fault.{Fault}
use Rattle.lr_rules.specs.declared.path.Path.{Path}
use Rattle.lr_rules.specs.Path.{parent_of}
use Rattle.lr_rules.specs.StatePath.{state_part}
use Rattle.lr_host.specs.declared.entry.Entry.{Entry}
use Rattle.lr_plan.specs.declared.mark.Mark.{Mark}
use Rattle.lr_plan.specs.declared.step.Step.{Step}
use Rattle.lr_plan.specs.declared.step.Step.TheVariants.{Removes, SyncsDir}
use Rattle.lr_plan.specs.Course.{Course}
use Rattle.lr_plan.specs.Steps.{state_steps, step_if}
use Rattle.lr_laws_plan.specs.Ending.{NoneEnds}
use Rattle.lr_laws_plan.proofs.Plainly.{FailsPlainly, removes, renames, takes, appends, syncs_file, syncs_dir}

abbrev FailPlainly : Path → List Step → Type 0
FailPlainly state [] = Unit {0}
FailPlainly state (s ∷ ss) = FailsPlainly state s × FailPlainly state ss

plainly_both : (state : Path) (xs ys : List Step) → FailPlainly state xs → FailPlainly state ys → FailPlainly state (xs ++ ys)
plainly_both state [] ys a b = b
plainly_both state (x ∷ xs) ys a b = (a.0, plainly_both state xs ys a.1 b)

course_none : (state : Path) (steps : List Step) (ms : List Mark) (fs : List Fault) (ts : List Entry) → FailPlainly state steps → Course steps ms fs ts → NoneEnds state fs
course_none state [] ms fs ts a h = subst (NoneEnds state) (sym h.1) tt
course_none state (s ∷ ss) ms fs ts a (inl h) = subst (NoneEnds state) (sym h.told) (a.0 h.fault ts h.failed)
course_none state (s ∷ ss) ms fs ts a (inr h) = course_none state ss h.later fs h.entries.back a.1 h.entries.second

all_synced : (state : Path) (dirs : List Path) → FailPlainly state (map SyncsDir dirs)
all_synced state [] = tt
all_synced state (d ∷ ds) = (syncs_dir state d, all_synced state ds)

cleared : (state : Path) (stale : Bool) → FailPlainly state (step_if stale (Removes (state_part state)))
cleared state true = (removes state (state_part state), tt)
cleared state false = tt

pub written_none : (state : Path) (stale : Bool) (dirs : List Path) (text : List ℕ) (fs : List Fault) (ts : List Entry) → Course (state_steps state stale dirs text) [] fs ts → NoneEnds state fs
written_none state stale dirs text fs ts h = course_none state (state_steps state stale dirs text) [] fs ts
    (plainly_both state (step_if stale (Removes (state_part state))) _ (cleared state stale)
    (takes state (state_part state) (Some 416), (appends state (state_part state) text, (syncs_file state (state_part state), plainly_both state (map SyncsDir dirs) _ (all_synced state dirs) (renames state (state_part state) state, (syncs_dir state (parent_of state), tt)))))) h
