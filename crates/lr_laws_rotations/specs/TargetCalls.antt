-- The calls of a rotation, as they are asked for; what a call will give or take makes no difference.
use Rattle.std.specs.Prelude.{List, [], ◌∷◌, ◌++◌, map, Option, Some, None}
use Rattle.lr_rules.specs.declared.path.Path.{Path}
use Rattle.lr_host.specs.declared.entry.Entry.{Entry}
use Rattle.lr_host.specs.declared.entry.Entry.TheVariants.{Reads, Renames, SyncsDir, Unlinks}
use Rattle.lr_copy.specs.declared.job.Job.{Job}
use Rattle.lr_chain.specs.declared.ready.Ready.{Ready}
use Rattle.lr_chain.specs.Ready.{move_step, dir_calls}
use Rattle.lr_laws_rotations.specs.Calls.{copy_calls}
use Rattle.lr_laws_rotations.specs.Steps.{unlinks}
use Rattle.lr_laws_rotations.specs.Target.{Target}

-- of what brings the log to its final path
abbrev pub transfer_calls : Ready → Option Job → Option Path → List Entry
transfer_calls ready None aside = Renames ready.log ready.target ∷ []
transfer_calls ready (Some job) None = copy_calls job
transfer_calls ready (Some job) (Some path) = SyncsDir job.dir ∷ Renames ready.log path ∷ (copy_calls job ++ Unlinks path ∷ [])

-- All of them, but for the making of the log anew, which may be left out. The final path is a file behind the transfer: the mail of
-- the first file can read it.
abbrev pub calls_of : Target → List Entry
calls_of t = unlinks t.ready.leftovers ++ (dir_calls t.ready.dir
    ++ (map move_step t.ready.moves ++ (transfer_calls t.ready t.job t.aside
    ++ Reads t.ready.target 0 [] ∷ unlinks t.ready.retire)))
