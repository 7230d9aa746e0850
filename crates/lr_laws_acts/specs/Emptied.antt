-- Logs that are emptied, each copied whole just before.
use Rattle.std.specs.Prelude.{◌≡◌, ℕ, true, List, ◌∷◌, ◌++◌, Option, Some, None}
use Rattle.lr_rules.specs.declared.path.Path.{Path}
use Rattle.lr_host.specs.declared.entry.Entry.{Entry}
use Rattle.lr_host.specs.declared.entry.Entry.TheVariants.{Truncates}
use Rattle.lr_host.specs.declared.journal.Journal.{Journal}
use Rattle.lr_host.specs.Lists.{IsIn}
use Rattle.lr_host.specs.Opening.{IsJournal}
use Rattle.lr_host.specs.Safe.{IsPrefix}
use Rattle.lr_host.specs.World.{Past, ◌▸◌, past}
use Rattle.lr_copy.specs.declared.job.Job.{Job}
use Rattle.lr_laws_family.specs.Whole.{Named, WritersSpareCopy, IsCopyWhole}

-- the job is one of these
abbrev pub IsJobIn : List Job → Job → Type 0
IsJobIn jobs job = IsIn job jobs

-- ---- by the entries

-- The last of these entries are a copy of the log, up to the sync of its directory, by a job that has P and asks that the log is
-- emptied.
pub record CopiedLast (P : Job → Type 0) (log : Path) (before : List Entry) : Type 0 where
  pub job : Job
  pub is : P job
  pub from_is : job.from ≡ log
  pub cut : job.cut ≡ true
  pub count : ℕ
  pub front : List Entry
  pub named : List Entry
  pub joined : before ≡ front ++ named
  pub is_named : Named job count named

-- Each log that these entries empty was copied just before, by such a job.
abbrev pub EmptiesCopied : (Job → Type 0) → List Entry → Type 0
EmptiesCopied P ts = (before : List Entry) (log : Path) (after : List Entry) → ts ≡ before ++ (Truncates log ∷ after)
    → CopiedLast P log before

-- ---- in the world

-- Such a job is to copy the log; and where no writer was attached to its part file or its final path between the two pasts, the
-- copy is whole now.
pub record IsCopiedWhole (P : Job → Type 0) (log : Path) (before now : Past) : Type 0 where
  pub job : Job
  pub is : P job
  pub from_is : job.from ≡ log
  pub cut : job.cut ≡ true
  pub whole : WritersSpareCopy job before now → IsCopyWhole log job.to before now

-- The promise over a call: where the journal is told, and was one of a disk, there is such a job for each log that the call
-- emptied, and where writers spared its copy since the call began, that is whole by then.
abbrev pub EmptiesWhole : (Job → Type 0) → Option Journal → Option Journal → Type 0
EmptiesWhole P (Some j) (Some k) = IsJournal (past j) → (u : Past) (log : Path) → IsPrefix (past j) u
    → IsPrefix (u ▸ Truncates log) (past k) → IsCopiedWhole P log (past j) u
EmptiesWhole P None None = Unit {0}
EmptiesWhole P _ _ = ⊥
