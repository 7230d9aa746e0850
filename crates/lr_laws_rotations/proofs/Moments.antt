-- What looks showed of a log is so behind them, where the tool changed nothing of the disk.
use Rattle.std.proofs.Common.{◌≡◌, inl, refl, sym, subst, List, ◌++◌, reverse, Option, Some, None}
use Rattle.lr_rules.specs.declared.path.Path.{Path}
use Rattle.lr_rules.specs.Path.{joined}
use Rattle.lr_host.specs.declared.thing.Seen.{Seen}
use Rattle.lr_host.specs.declared.entry.Entry.{Entry}
use Rattle.lr_host.specs.declared.entry.Entry.TheVariants as entry
use Rattle.lr_host.specs.World.{Past, world, names}
use Rattle.lr_host.specs.Fits.{IsFileAt}
use Rattle.lr_host.specs.Told.{Made}
use Rattle.lr_host.specs.Looks.{Sees, IsFile}
use Rattle.lr_laws_family.specs.Weave.{Among}
use Rattle.lr_host.specs.Lists.{IsIn}
use Rattle.lr_host.proofs.Lists.{in_front, in_back}
use Rattle.lr_host.specs.Quiet.{AreQuiet}
use Rattle.lr_host.proofs.Quiet.{quiet_still, still_in_order}
use Rattle.lr_laws_family.specs.Shown.{SawFile}
use Rattle.lr_laws_family.proofs.Stood.{file_stands}

in_among : (e : Entry) (ts before part after : List Entry) → ts ≡ before ++ (part ++ after) → IsIn e part → IsIn e ts
in_among e ts before part after joined h = subst (IsIn e) (sym joined) (in_back e before (part ++ after) (in_front e part after h))

pub saw_one : (x : Path) (ts : List Entry) → Among (Sees x IsFile) ts → SawFile x ts
saw_one x ts a = go a.is.seen a.is.is (in_among (entry.Look x a.is.seen) ts a.before a.part a.after a.joined (subst (IsIn (entry.Look x a.is.seen)) (sym a.is.look) (inl refl)))
  where
    go : (o : Option Seen) → IsFile o → IsIn (entry.Look x o) ts → SawFile x ts
    go None f h = absurd f
    go (Some seen) f h = (seen, f, h)

-- where a look saw a file, the path names one
pub saw_file : (p q : Past) (es : List Entry) (x : Path) → Made p es q → AreQuiet (reverse es) → Among (Sees x IsFile) (reverse es) → IsFileAt (names (world q)) x
saw_file p q es x m quiet a = file_stands p q es m (still_in_order es (quiet_still (reverse es) quiet)) x (saw_one x (reverse es) a)
