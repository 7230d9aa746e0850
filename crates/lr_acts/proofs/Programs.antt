-- A program that was refused, and programs among steps.
use Rattle.std.proofs.Common.{⊎_elim, inl, inr, ap, ℕ, List, [], ◌∷◌, ◌++◌, Err}
use Rattle.lr_rules.specs.declared.fault.CallKind.{CallKind}
use Rattle.lr_rules.specs.declared.fault.Fault.TheVariants as fault
use Rattle.lr_rules.specs.declared.fault.Phase.{Phase}
use Rattle.lr_host.specs.declared.entry.Entry.{Entry}
use Rattle.lr_host.specs.Told.{Counts}
use Rattle.lr_scripts.specs.declared.command.Bad.{Bad}
use Rattle.lr_scripts.specs.declared.command.Bad.TheVariants as bad
use Rattle.lr_scripts.specs.declared.command.Command.{Command}
use Rattle.lr_scripts.specs.Programs.{RunRefused, RunCause}
use Rattle.lr_plan.specs.declared.step.Step.{Step}
use Rattle.lr_plan.specs.declared.step.Step.TheVariants as step
use Rattle.lr_plan.specs.Outcomes.{badly, not_run, maybe_run}
use Rattle.lr_acts.specs.Making.{StepLeft, HasProgram, program_stop}

pub program_made : (phase : Phase) (on : List ℕ) (command : Command) (why : Bad) (before now : Counts) (ts : List Entry) → RunCause phase why before now → RunRefused command why ts → StepLeft (step.Runs phase on command) (Err (program_stop on command why)) ts
program_made phase on command (bad.Script told end) before now ts cause r = badly end r.0 (ap (λ (p : Phase). fault.Script p on end) cause.0) r.1
program_made phase on command (bad.Call kind) before now ts cause r =
    let is = ap (λ (k : CallKind). fault.Call k command.program) cause.0 in
    ⊎_elim (λ none. not_run is none) (λ some. maybe_run some.0 is some.1) r
program_made phase on command bad.Memory before now ts cause r = r

-- ---- one among these steps

pub program_first : (xs ys : List Step) → HasProgram xs → HasProgram (xs ++ ys)
program_first [] ys p = absurd p
program_first (x ∷ xs) ys p = ⊎_elim (λ here. inl here) (λ there. inr (program_first xs ys there)) p

pub program_later : (xs ys : List Step) → HasProgram ys → HasProgram (xs ++ ys)
program_later [] ys p = p
program_later (x ∷ xs) ys p = inr (program_later xs ys p)
