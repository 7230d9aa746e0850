-- What an audit saw, and the disk.
use Rattle.std.specs.Prelude.{◌≡◌, ◌⊎◌, List, None}
use Rattle.lr_rules.specs.declared.path.Path.{Path}
use Rattle.lr_rules.specs.declared.fault.CallKind.{CallKind}
use Rattle.lr_rules.specs.declared.fault.CallKind.TheVariants as call
use Rattle.lr_rules.specs.declared.fault.Fault.{Fault}
use Rattle.lr_rules.specs.declared.fault.Fault.TheVariants as fault
use Rattle.lr_rules.specs.Path.{path_fault}
use Rattle.lr_host.specs.Fits.{IsFileAt, IsNameIn}
use Rattle.lr_host.specs.Lists.{IsIn}
use Rattle.lr_host.specs.World.{Past, world, names}
use Rattle.lr_laws_looks.specs.Finds.{StoodOrCame}
use Rattle.lr_laws_looks.specs.True.{AreTrue}
use Rattle.lr_audit.specs.Came.{Came}

-- a failed call took the file away: the look at it, or one at its directory, or the listing of that
abbrev pub IsTakenAway : List Fault → Path → Path → Type 0
IsTakenAway faults dir x = IsIn (fault.Call call.Look x) faults ⊎ ((kind : CallKind) × IsIn (fault.Call kind dir) faults)

-- These are the regular files in the directories, but for those that a failed call took away.
pub record AreTrueFiles (dirs files : List Path) (faults : List Fault) (before behind : Past) : Type 0 where
  -- each that stood
  pub stood : (dir x : Path) → IsIn dir dirs → IsNameIn dir x → path_fault x ≡ None → IsFileAt (names (world before)) x
      → IsIn x files ⊎ IsTakenAway faults dir x
  -- each of them is a name in one of the directories; it stood, or a writer was attached to its path since
  pub came : (x : Path) → IsIn x files → (dir : Path) × IsIn dir dirs × IsNameIn dir x × StoodOrCame x before behind

-- What the looks came to is true of the disk from the moment before the call to one in it, and what the files came to up to the
-- moment behind it.
pub record SawTruly (c : Came) (before behind : Past) : Type 0 where
  pub looked : Past
  pub looks : AreTrue c.rules.sets c.words c.looks.sets before looked
  pub files : AreTrueFiles c.dirs c.files c.file_faults before behind
