-- However a step fails, that ends no run.
use Rattle.std.proofs.Common.{◌≡◌, ◌≢◌, inl, inr, ⊎_elim, ℕ, ◌++◌, List, [], ◌∷◌, Option}
use Rattle.std.specs.Prelude.{codes}
use Rattle.lr_rules.specs.declared.fault.CallKind.TheVariants as call
use Rattle.lr_rules.specs.declared.fault.Fault.{Fault}
use Rattle.lr_rules.specs.declared.fault.Fault.TheVariants as fault
use Rattle.lr_rules.specs.declared.fault.Phase.{Phase}
use Rattle.lr_rules.specs.declared.path.Path.{Path}
use Rattle.lr_host.specs.declared.entry.Entry.{Entry}
use Rattle.lr_scripts.specs.declared.command.Command.{Command}
use Rattle.lr_copy.specs.declared.job.BytesStop.{BytesStop}
use Rattle.lr_copy.specs.declared.job.BytesStop.TheVariants as broke
use Rattle.lr_plan.specs.declared.step.Step.{Step}
use Rattle.lr_plan.specs.declared.step.Step.TheVariants.{Runs, Removes, MakesDir, Renames, Creates, Takes, Copies, Appends, SyncsFile, SyncsDir, Truncates, Rotated}
use Rattle.lr_chain.specs.declared.directory.DirStop.TheVariants as unmade
use Rattle.lr_plan.specs.Outcomes.{bytes_fault, Fails, ProgramFailed, badly, not_run, maybe_run}
use Rattle.lr_laws_plan.specs.Ending.{NoneEnds}
use Rattle.lr_laws_plan.proofs.Ends.{is_none}

abbrev pub FailsPlainly : Path → Step → Type 0
FailsPlainly state s = (f : Fault) (ts : List Entry) → Fails s f ts → NoneEnds state (f ∷ [])

-- a program that ended badly, or that couldn't be run
pub runs : (state : Path) (p : Phase) (on : List ℕ) (c : Command) → FailsPlainly state (Runs p on c)
runs state p on c f ts h = go h
  where
    go : ProgramFailed p on c f ts → NoneEnds state (f ∷ [])
    go (badly end bad e o) = is_none state f (fault.Script p on end) e (λ h. h)
    go (not_run e o) = is_none state f (fault.Call call.Run c.program) e (λ h. h)
    go (maybe_run end e o) = is_none state f (fault.Call call.Run c.program) e (λ h. h)

pub removes : (state x : Path) → FailsPlainly state (Removes x)
removes state x f ts h = is_none state f (fault.Call call.Unlink x) h.0 (λ e. e)

-- neither the state's path nor that of its part file
abbrev pub IsAside : Path → Path → Type 0
IsAside state x = (x ≢ state) × (x ≢ state ++ codes ".tmp")

-- a directory that couldn't be made, or whose path isn't one
pub makes_dir : (state x : Path) (mode : Option ℕ) → IsAside state x → FailsPlainly state (MakesDir x mode)
makes_dir state x mode aside f ts h = go h
  where
    go : Fails (MakesDir x mode) f ts → NoneEnds state (f ∷ [])
    go (unmade.Make, is, made) = is_none state f (fault.Call call.MakeDir x) is (λ e. e)
    go (unmade.Look, e, o) = is_none state f (fault.Call call.Look x) e (λ e. e)
    go (unmade.NotDir, e, saw) = is_none state f (fault.NotFile x) e (λ e. ⊎_elim aside.0 aside.1 e)

pub renames : (state from to : Path) → FailsPlainly state (Renames from to)
renames state from to f ts h = is_none state f (fault.Call call.Rename from) h.0 (λ e. e)

pub creates : (state x : Path) (mode : Option ℕ) → FailsPlainly state (Creates x mode)
creates state x mode f ts h = is_none state f (fault.Call call.Make x) h.0 (λ e. e)

-- a part file that couldn't be made, or whose path is taken
pub takes : (state x : Path) (mode : Option ℕ) → FailsPlainly state (Takes x mode)
takes state x mode f ts (inl h) = is_none state f (fault.Call call.Make x) h.0 (λ e. e)
takes state x mode f ts (inr h) = is_none state f (fault.Taken x) h.0 (λ e. e)

-- bytes that couldn't be read or appended, or a log that is too long
pub copies : (state from to : Path) (limit : ℕ) → FailsPlainly state (Copies from to limit)
copies state from to limit f ts h = go h.0 h.1
  where
    go : (why : BytesStop) → f ≡ bytes_fault from to why → NoneEnds state (f ∷ [])
    go broke.Read e = is_none state f (fault.Call call.Read from) e (λ h. h)
    go broke.Append e = is_none state f (fault.Call call.Append to) e (λ h. h)
    go broke.TooLong e = is_none state f (fault.TooLong from) e (λ h. h)

pub appends : (state x : Path) (text : List ℕ) → FailsPlainly state (Appends x text)
appends state x text f ts h = is_none state f (fault.Call call.Append x) h.0 (λ e. e)

pub syncs_file : (state x : Path) → FailsPlainly state (SyncsFile x)
syncs_file state x f ts h = is_none state f (fault.Call call.Sync x) h.0 (λ e. e)

pub syncs_dir : (state x : Path) → FailsPlainly state (SyncsDir x)
syncs_dir state x f ts h = is_none state f (fault.Call call.Sync x) h.0 (λ e. e)

pub truncates : (state x : Path) → FailsPlainly state (Truncates x)
truncates state x f ts h = is_none state f (fault.Call call.Truncate x) h.0 (λ e. e)

-- a mark never fails
pub rotated : (state log : Path) → FailsPlainly state (Rotated log)
rotated state log f ts h = absurd h
