-- A log that waits where it was set aside, after a refusal.
use Rattle.std.specs.Prelude.{◌≡◌, ◌⊎◌, ℕ, Option, Some, None}
use Rattle.lr_rules.specs.declared.path.Path.{Path}
use Rattle.lr_host.specs.declared.thing.Thing.TheVariants as thing
use Rattle.lr_host.specs.declared.entry.Entry.TheVariants.{Unlinks}
use Rattle.lr_host.specs.declared.journal.Journal.{Journal}
use Rattle.lr_host.specs.Kept.{IsWhole}
use Rattle.lr_host.specs.Opening.{IsJournal}
use Rattle.lr_host.specs.Safe.{IsPrefix}
use Rattle.lr_host.specs.World.{Past, ◌▸◌, past, world, names}
use Rattle.lr_copy.specs.declared.job.Job.{Job}
use Rattle.lr_copy.specs.declared.job.CopyStop.{CopyStop}
use Rattle.lr_move.specs.Finishing.{IsLastStop}

-- the path was unlinked between the two pasts
abbrev pub WasUnlinked : Path → Past → Past → Type 0
WasUnlinked x p q = (u : Past) × IsPrefix p u × IsPrefix (u ▸ Unlinks x) q

-- The file has all its bytes, where it had them, and what writers fed it since; and the path names it still, but where the unlink
-- failed and was made all the same.
pub record StaysWaiting (job : Job) (why : CopyStop) (g : ℕ) (before after : Past) : Type 0 where
  pub whole : IsWhole before g → IsWhole after g
  pub named : (names (world after) job.from ≡ thing.File g) ⊎ (IsLastStop job why × WasUnlinked job.from before after)

-- So it is over a call, where the journal is told, and was one of a disk, of the file that waited as the call began.
abbrev pub KeepsWaiting : Job → CopyStop → Option Journal → Option Journal → Type 0
KeepsWaiting job why (Some j) (Some k) = IsJournal (past j) → (g : ℕ) → names (world (past j)) job.from ≡ thing.File g
    → StaysWaiting job why g (past j) (past k)
KeepsWaiting job why None None = Unit {0}
KeepsWaiting job why _ _ = ⊥
