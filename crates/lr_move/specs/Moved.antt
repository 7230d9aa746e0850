-- A log that is let go where it waited, behind its copy.
use Rattle.std.specs.Prelude.{◌≡◌, ◌≢◌, true, Option, Some, None}
use Rattle.lr_rules.specs.declared.path.Path.{Path}
use Rattle.lr_rules.specs.declared.rule.Way.TheVariants.{RenameCopy}
use Rattle.lr_rules.specs.Names.{aside_path}
use Rattle.lr_host.specs.declared.entry.Entry.TheVariants.{Unlinks}
use Rattle.lr_host.specs.declared.journal.Journal.{Journal}
use Rattle.lr_host.specs.Opening.{IsJournal}
use Rattle.lr_host.specs.Quiet.{AttachedOnlySince}
use Rattle.lr_host.specs.Safe.{IsPrefix, IsSafe}
use Rattle.lr_host.specs.Sets.{LogSet}
use Rattle.lr_host.specs.Steady.{IsSteadyBy}
use Rattle.lr_host.specs.World.{Past, ◌▸◌, past}
use Rattle.lr_family.specs.Parts.{IsMembersPart}
use Rattle.lr_copy.specs.declared.job.Job.{Job}
use Rattle.lr_laws_family.specs.Whole.{WritersSpareCopy, IsCopyWhole}

-- The log may be let go at this moment: a member names another file, which has, now and after each cut that is allowed now, just
-- the bytes that the log's file had, where it waits, as it was last read there, by a read that gave nothing; what that has besides
-- was fed to it since.
pub record IsLetGo (s : LogSet) (before now : Past) : Type 0 where
  pub to : Path
  pub member : s.key to ≡ None → ⊥
  pub whole : IsCopyWhole (aside_path s.log) to before now
  pub other : whole.copy ≢ whole.log

-- so at each moment between the two pasts at which the path is unlinked where it waits
abbrev pub LetsGoWhole : LogSet → Past → Past → Type 0
LetsGoWhole s before after = (u : Past) → IsPrefix before u → IsPrefix (u ▸ Unlinks (aside_path s.log)) after → IsLetGo s before u

-- The job copies the log of the set from where it waits to a member.
pub record CopiesAside (s : LogSet) (job : Job) : Type 0 where
  pub from_is : job.from ≡ aside_path s.log
  pub member : s.key job.to ≡ None → ⊥

-- The promise over a call that finishes the job: where the journal is told, and was one of a disk, and no writer was attached to
-- the part file's path or to the final one, each set whose log it copies lets that go whole, also where the call was refused.
abbrev pub LetsGo : Job → Option Journal → Option Journal → Type 0
LetsGo job (Some j) (Some k) = IsJournal (past j) → WritersSpareCopy job (past j) (past k) → (s : LogSet) → CopiesAside s job
    → LetsGoWhole s (past j) (past k)
LetsGo job None None = Unit {0}
LetsGo job _ _ = ⊥

-- ---- over a whole call

-- no writer was attached to a member between the two pasts, nor to a member's part file
abbrev pub WritersSpareCopies : LogSet → Past → Past → Type 0
WritersSpareCopies s p q = AttachedOnlySince (λ x. (s.key x ≡ None) × (IsMembersPart s.naming x → ⊥)) p q

-- The promise over a call, for logs that are set aside: where the journal is told, each set of which the condition holds before,
-- and which is safe then, is safe after, where it is steady in that; and where writers spared its copies, its log was let go only
-- behind a whole one.
abbrev pub KeepsMovedWhere : (LogSet → Past → Type 0) → Option Journal → Option Journal → Type 0
KeepsMovedWhere when (Some j) (Some k) = (s : LogSet) → s.naming.aside ≡ true → when s (past j) → IsJournal (past j)
    → IsSafe s (past j) → IsSteadyBy RenameCopy s (past k)
    → IsSafe s (past k) × (WritersSpareCopies s (past j) (past k) → LetsGoWhole s (past j) (past k))
KeepsMovedWhere when None None = Unit {0}
KeepsMovedWhere when _ _ = ⊥

-- so whatever the set
abbrev pub KeepsMoved : Option Journal → Option Journal → Type 0
KeepsMoved before after = KeepsMovedWhere (λ s p. Unit {0}) before after
