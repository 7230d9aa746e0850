-- When calls fit one after another, and the calls of a copy.
use Rattle.std.specs.Prelude.{List, [], ◌∷◌, ◌++◌, Option}
use Rattle.lr_host.specs.declared.thing.Thing.TheVariants as thing
use Rattle.lr_host.specs.declared.entry.Entry.{Entry}
use Rattle.lr_host.specs.declared.entry.Entry.TheVariants.{Reads, Renames, Makes, MakesDir, Appends, Unlinks, SyncsFile, SyncsDir}
use Rattle.lr_host.specs.declared.journal.Journal.{Journal}
use Rattle.lr_host.specs.World.{Names, put, world, names}
use Rattle.lr_host.specs.Told.{CanCall, WhereTold}
use Rattle.lr_copy.specs.declared.job.Job.{Job}
use Rattle.lr_copy.specs.Copying.{clearing, cutting}

-- ---- calls that fit

-- the names behind a call that was made; which file a new one is makes no difference
abbrev pub after_call : Names → Entry → Names
after_call n (Renames from to) = put (put n from thing.Nothing) to (n from)
after_call n (Unlinks x) = put n x thing.Nothing
after_call n (Makes x mode) = put n x (thing.File 0)
after_call n (MakesDir x mode) = put n x thing.Directory
after_call n _ = n

-- each of the calls fits where those before it were made
abbrev pub FitCalls : Names → List Entry → Type 0
FitCalls n [] = Unit {0}
FitCalls n (e ∷ es) = CanCall n e × FitCalls (after_call n e) es

-- Where the journal is told, these calls fit one after another.
pub record CanCalls (told : Option Journal) (calls : List Entry) : Type 0 where
  pub can : WhereTold told (λ p. FitCalls (names (world p)) calls)

-- the calls of a copy, as they are asked for; what a call will give or take makes no difference
abbrev pub copy_calls : Job → List Entry
copy_calls job = clearing job ++ (Makes job.part job.mode ∷ Reads job.from 0 [] ∷ Appends job.part [] ∷ SyncsFile job.part ∷ Renames
    job.part job.to ∷ SyncsDir job.dir ∷ cutting job)
