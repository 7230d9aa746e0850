-- The entries of a copy.
use Rattle.std.specs.Prelude.{ℕ, List, [], ◌∷◌, ◌++◌, cond}
use Rattle.lr_host.specs.declared.entry.Entry.{Entry}
use Rattle.lr_host.specs.declared.entry.Entry.TheVariants.{Renames, Makes, Truncates, Unlinks, SyncsFile, SyncsDir}
use Rattle.lr_host.specs.Told.{Then, Are}
use Rattle.lr_copy.specs.declared.job.Job.{Job}
use Rattle.lr_copy.specs.Bytes.{AllBytes}

-- the bytes of the log go to the part file, so many and no more than the limit
abbrev pub Copies : Job → ℕ → List Entry → Type 0
Copies job count ts = AllBytes job.from job.part job.limit count ts

-- ---- before and behind that

-- an old part file goes
abbrev pub clearing : Job → List Entry
clearing job = cond job.stale (Unlinks job.part ∷ []) []

-- and a new one is made
abbrev pub opening : Job → List Entry
opening job = clearing job ++ Makes job.part job.mode ∷ []

-- it has the bytes of the log, durably
abbrev pub Fills : Job → ℕ → List Entry → Type 0
Fills job count ts = Then (Copies job count) (Are (SyncsFile job.part ∷ [])) ts

-- it gets its final path, durably
abbrev pub naming : Job → List Entry
naming job = Renames job.part job.to ∷ SyncsDir job.dir ∷ []

-- the log is emptied, where that is asked for
abbrev pub cutting : Job → List Entry
cutting job = cond job.cut (Truncates job.from ∷ []) []

abbrev pub closing : Job → List Entry
closing job = naming job ++ cutting job

-- A copy of so many bytes: the part file is made anew, has the bytes of the log, durably, and gets its final path, durably; only
-- then the log is emptied.
abbrev pub Copied : Job → ℕ → List Entry → Type 0
Copied job count ts = Then (Are (opening job)) (Then (Fills job count) (Are (closing job))) ts
