-- What a copy asks for.
use Rattle.std.proofs.Common.{◌≡◌, ◌≢◌, true, Some}
use Rattle.lr_host.specs.declared.thing.Thing.TheVariants as thing
use Rattle.lr_host.specs.declared.journal.Journal.{Journal}
use Rattle.lr_host.specs.World.{names, world, past}
use Rattle.lr_host.specs.Fits.{IsFileAt, IsDirectoryAt}
use Rattle.lr_copy.specs.declared.job.Job.{Job}
use Rattle.lr_copy.specs.Fits.{CanCopy}

-- It is met where the log, the directory and an old part file stand, and the final path is a file's, or free.
pub can_copy : (j : Journal) (job : Job) → IsFileAt (names (world (past j))) job.from → IsDirectoryAt (names (world (past j))) job.dir → names (world (past j)) job.to ≢ thing.Directory → names (world (past j)) job.to ≢ thing.Other
    → (job.stale ≡ true → IsFileAt (names (world (past j))) job.part) → CanCopy (Some j) job
can_copy j job log dir no_dir no_other old = record { place = (record { log = log; directory = dir; no_directory = no_dir; no_other = no_other }, old) }
