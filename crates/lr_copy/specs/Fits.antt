-- When a copy may begin, and what has to stand for each part of it.
use Rattle.std.specs.Prelude.{◌≡◌, ◌≢◌, true, Option}
use Rattle.lr_rules.specs.Path.{parent_of}
use Rattle.lr_host.specs.declared.thing.Thing.TheVariants as thing
use Rattle.lr_host.specs.declared.journal.Journal.{Journal}
use Rattle.lr_host.specs.World.{world, Names, names}
use Rattle.lr_host.specs.Fits.{IsFileAt, IsDirectoryAt}
use Rattle.lr_host.specs.Told.{WhereTold}
use Rattle.lr_copy.specs.declared.job.Job.{Job}

-- The three paths are different, and the part file stands in the directory of the final path, which is the job's.
pub record ArePaths (job : Job) : Type 0 where
  pub part_apart : job.part ≢ job.from
  pub to_apart : job.to ≢ job.from
  pub part_not_to : job.part ≢ job.to
  pub dir_is : job.dir ≡ parent_of job.to
  pub part_in : parent_of job.part ≡ job.dir

-- There is a place for the copy: the log stands, the directory does, and the final path is that of a file, or free.
pub record CopyHasPlace (job : Job) (n : Names) : Type 0 where
  pub log : IsFileAt n job.from
  pub directory : IsDirectoryAt n job.dir
  pub no_directory : n job.to ≢ thing.Directory
  pub no_other : n job.to ≢ thing.Other

-- where an old part file was seen, one has the path
abbrev pub IsStale : Job → Names → Type 0
IsStale job n = job.stale ≡ true → IsFileAt n job.part

-- Where the journal is told: there is a place for the copy, and the old part file that was seen stands.
pub record CanCopy (told : Option Journal) (job : Job) : Type 0 where
  pub place : WhereTold told (λ p. CopyHasPlace job (names (world p)) × IsStale job (names (world p)))

-- Where it is told: there is a place for the copy.
pub record CanOpen (told : Option Journal) (job : Job) : Type 0 where
  pub place : WhereTold told (λ p. CopyHasPlace job (names (world p)))

-- And the part file stands.
pub record CanName (told : Option Journal) (job : Job) : Type 0 where
  pub place : WhereTold told (λ p. CopyHasPlace job (names (world p)) × IsFileAt (names (world p)) job.part)

-- Where it is told: the log stands.
pub record CanCut (told : Option Journal) (job : Job) : Type 0 where
  pub log : WhereTold told (λ p. IsFileAt (names (world p)) job.from)
