-- Logs whose rotations fit, and programs that read no file but the one that is mailed.
use Rattle.std.specs.Prelude.{◌≡◌, List, [], ◌∷◌, Option, Some, None}
use Rattle.lr_rules.specs.declared.path.Path.{Path}
use Rattle.lr_rules.specs.Names.{Meet}
use Rattle.lr_rules.specs.Path.{path_fault}
use Rattle.lr_host.specs.declared.entry.Entry.TheVariants as entry
use Rattle.lr_host.specs.declared.journal.Journal.{Journal}
use Rattle.lr_host.specs.Told.{Can}
use Rattle.lr_host.specs.Lists.{IsIn}
use Rattle.lr_scripts.specs.declared.command.Command.{Command}
use Rattle.lr_scripts.specs.declared.removal.Removal.{Removal}
use Rattle.lr_laws_rotations.specs.Apart.{HasNames}
use Rattle.lr_laws_rotations.specs.Calls.{CanCalls}
use Rattle.lr_laws_rotations.specs.TargetCalls.{calls_of}
use Rattle.lr_plan.specs.declared.plan.LogPlan.{LogPlan}
use Rattle.lr_plan.specs.declared.plan.SetPlan.{SetPlan}
use Rattle.lr_laws_rotations.specs.Target.{Target}

-- The rotation of the log has names for all its members, numbers or dates, and its calls fit where the calls are now; and the log
-- can be made anew.
pub record IsFit (told : Option Journal) (t : Target) : Type 0 where
  pub names : HasNames t
  pub fits : CanCalls told (calls_of t)
  pub anew : Can told (entry.Makes t.log None)

abbrev pub AreFit : Option Journal → List Target → Type 0
AreFit told [] = Unit {0}
AreFit told (t ∷ ts) = IsFit told t × AreFit told ts

-- the log of each is a path
abbrev pub TargetsHavePaths : List Target → Type 0
TargetsHavePaths ts = (t : Target) → IsIn t ts → path_fault t.log ≡ None

-- none of these logs meets this one
abbrev pub NoneMeets : Target → List Target → Type 0
NoneMeets t [] = Unit {0}
NoneMeets t (x ∷ xs) = (Meet x.log x.naming t.log t.naming → ⊥) × NoneMeets t xs

-- no two of them meet
abbrev pub DontMeet : List Target → Type 0
DontMeet [] = Unit {0}
DontMeet (t ∷ ts) = NoneMeets t ts × DontMeet ts

-- the program, where there is one, reads no file
abbrev pub ReadsNothing : Option Command → Type 0
ReadsNothing None = Unit {0}
ReadsNothing (Some command) = command.input ≡ None

-- the program, where there is one, reads this file
abbrev pub ReadsThis : Path → Option Command → Type 0
ReadsThis file None = Unit {0}
ReadsThis file (Some command) = command.input ≡ Some file

-- of each removal: its preremove reads no file, and its mail reads the file that is removed
abbrev pub ReadThemselves : List Removal → Type 0
ReadThemselves [] = Unit {0}
ReadThemselves (r ∷ rs) = ReadsNothing r.preremove × ReadsThis r.path r.mail × ReadThemselves rs

-- Of the programs of a log a mail alone reads a file: of a removal the file that is removed, and the mail of the first file the
-- log's final path.
pub record ReadsOwn (log : LogPlan) : Type 0 where
  pub pre : ReadsNothing log.pre
  pub post : ReadsNothing log.post
  pub first_mail : ReadsThis log.ready.target log.first_mail
  pub leftovers : ReadThemselves log.ready.leftovers
  pub retire : ReadThemselves log.ready.retire

abbrev pub ReadOwn : List LogPlan → Type 0
ReadOwn [] = Unit {0}
ReadOwn (log ∷ logs) = ReadsOwn log × ReadOwn logs

-- None of the programs of the definition reads a file but the mail of a removed one, which reads that, and the mail of the first
-- file, which reads the log's final path.
pub record SetReadsOwn (set : SetPlan) : Type 0 where
  pub first : ReadsNothing set.first
  pub pre : ReadsNothing set.pre
  pub post : ReadsNothing set.post
  pub last : ReadsNothing set.last
  pub logs : ReadOwn set.logs

abbrev pub ReadOnlyOwn : List SetPlan → Type 0
ReadOnlyOwn [] = Unit {0}
ReadOnlyOwn (set ∷ sets) = SetReadsOwn set × ReadOnlyOwn sets
