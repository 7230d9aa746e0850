-- What the writing of the state leaves.
use Rattle.std.proofs.Common.{◌≡◌, inl, inr, ℕ, Bool, true, false, cond, List, [], ◌∷◌, map, refl}
use Rattle.std.specs.Prelude.{filter}
use Rattle.lr_rules.specs.declared.fault.Fault.{Fault}
use Rattle.lr_rules.specs.declared.path.Path.{Path}
use Rattle.lr_rules.specs.StatePath.{state_part}
use Rattle.lr_host.specs.declared.entry.Entry.{Entry}
use Rattle.lr_host.specs.declared.entry.Entry.TheVariants as entry
use Rattle.lr_host.specs.Steps.{is_change}
use Rattle.lr_host.specs.Told.{Each}
use Rattle.lr_host.proofs.Each.{each_as}
use Rattle.lr_plan.specs.declared.step.Step.TheVariants.{Removes, SyncsDir}
use Rattle.lr_plan.specs.Course.{Course}
use Rattle.lr_plan.proofs.Leaving.{OfAll, of_both, each_of_course}
use Rattle.lr_plan.specs.Steps.{state_steps, step_if}
use Rattle.lr_laws_rotations.specs.AllTurns.{IsOfState}
use Rattle.lr_run.proofs.Working.{IsDoing}

-- ---- the writing

-- a change of a name or of bytes that the writing makes, or a sync
abbrev pub IsWrite : Entry → Type 0
IsWrite (entry.Renames from to) = Unit {0}
IsWrite (entry.Makes x mode) = Unit {0}
IsWrite (entry.Appends x piece) = Unit {0}
IsWrite (entry.Unlinks x) = Unit {0}
IsWrite (entry.SyncsFile x) = Unit {0}
IsWrite (entry.SyncsDir x) = Unit {0}
IsWrite _ = ⊥

-- such an entry, which changes paths of the state alone
abbrev pub IsWriting : Path → Entry → Type 0
IsWriting state e = IsWrite e × (is_change e ≡ true → IsOfState state e)

all_synced : (state : Path) (dirs : List Path) → OfAll (IsWriting state) (map SyncsDir dirs)
all_synced state [] = tt
all_synced state (d ∷ ds) = ((tt, λ c. absurd (cc)), all_synced state ds)

cleared : (state : Path) (stale : Bool) → OfAll (IsWriting state) (step_if stale (Removes (state_part state)))
cleared state true = ((tt, λ c. inr refl), tt)
cleared state false = tt

steps_leave : (state : Path) (stale : Bool) (dirs : List Path) (text : List ℕ) → OfAll (IsWriting state) (state_steps state stale dirs text)
steps_leave state stale dirs text = of_both (IsWriting state) (step_if stale (Removes (state_part state))) _ (cleared state stale)
    ((tt, λ c. inr refl), (λ piece. (tt, λ c. inr refl), ((tt, λ c. absurd (cc)), of_both (IsWriting state) (map SyncsDir dirs) _ (all_synced state dirs) ((tt, λ c. (inr refl, inl refl)), ((tt, λ c. absurd (cc)), tt)))))

pub state_writing : (state : Path) (stale : Bool) (dirs : List Path) (text : List ℕ) (fs : List Fault) (ts : List Entry) → Course (state_steps state stale dirs text) [] fs ts → Each (IsWriting state) ts
state_writing state stale dirs text fs ts h = each_of_course (IsWriting state) (state_steps state stale dirs text) [] fs ts (steps_leave state stale dirs text) h

-- it reads nothing, and leaves the run on
write_does : (e : Entry) → IsWrite e → IsDoing e
write_does (entry.Renames from to) i = i
write_does (entry.Makes x mode) i = i
write_does (entry.Appends x piece) i = i
write_does (entry.Unlinks x) i = i
write_does (entry.SyncsFile x) i = i
write_does (entry.SyncsDir x) i = i
write_does _ i = absurd i

pub writing_does : (state : Path) (ts : List Entry) → Each (IsWriting state) ts → Each IsDoing ts
writing_does state ts a = each_as (IsWriting state) IsDoing ts (λ e h. write_does e h.0) a

pub changes_of_state : (state : Path) (ts : List Entry) → Each (IsWriting state) ts → Each (IsOfState state) (filter is_change ts)
changes_of_state state [] a = tt
changes_of_state state (e ∷ es) a = go (is_change e) refl (changes_of_state state es a.1)
  where
    go : (b : Bool) → is_change e ≡ b → Each (IsOfState state) (filter is_change es) → Each (IsOfState state) (cond b (e ∷ filter is_change es) (filter is_change es))
    go true h rest = (a.0.1 h, rest)
    go false h rest = rest
