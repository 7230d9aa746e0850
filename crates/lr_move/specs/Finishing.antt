-- The entries of a copy behind which the log is let go, and where that breaks off.
use Rattle.std.specs.Prelude.{◌≡◌, ℕ, List, [], ◌∷◌}
use Rattle.lr_rules.specs.declared.fault.CallKind.TheVariants as call
use Rattle.lr_host.specs.declared.entry.Entry.{Entry}
use Rattle.lr_host.specs.declared.entry.Entry.TheVariants.{Unlinks}
use Rattle.lr_host.specs.Told.{Then, Are, Maybe}
use Rattle.lr_copy.specs.declared.job.Job.{Job}
use Rattle.lr_copy.specs.declared.job.CopyStop.{CopyStop}
use Rattle.lr_copy.specs.declared.job.CopyStop.TheVariants as stop
use Rattle.lr_copy.specs.Stops.{CopyStopped}
use Rattle.lr_laws_family.specs.Whole.{Named}

-- The log is copied, by so many bytes, and its copy gets its final path, durably; only then the path goes where it waited.
abbrev pub Finished : Job → ℕ → List Entry → Type 0
Finished job count ts = Then (Named job count) (Are (Unlinks job.from ∷ [])) ts

-- the unlink of that path failed
abbrev pub IsLastStop : Job → CopyStop → Type 0
IsLastStop job (stop.Call call.Unlink path) = path.now ≡ job.from
IsLastStop job _ = ⊥

-- The copy broke off; or it has its final path, durably, and the unlink behind that failed, with its entry or without.
pub data FinishStopped (job : Job) (why : CopyStop) (ts : List Entry) : Type 0 where
  at_copy : CopyStopped job why ts → FinishStopped job why ts
  at_last : (count : ℕ) → IsLastStop job why → Then (Named job count) (Maybe (Unlinks job.from)) ts → FinishStopped job why ts
