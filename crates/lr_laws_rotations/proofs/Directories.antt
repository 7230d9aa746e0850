-- A directory that looks saw still stands; and in one that was missing, a member is nothing else but a file.
use Rattle.std.proofs.Common.{◌≡◌, ◌≢◌, List, reverse, Some, None}
use Rattle.lr_rules.specs.declared.path.Path.{Path}
use Rattle.lr_rules.specs.declared.rule.Naming.{Naming}
use Rattle.lr_rules.specs.Path.{path_fault, parent_of}
use Rattle.lr_rules.proofs.PathLemmas.{joined_parts}
use Rattle.lr_host.specs.declared.thing.Thing.{Thing}
use Rattle.lr_host.specs.declared.thing.Thing.TheVariants as thing
use Rattle.lr_host.specs.declared.entry.Entry.{Entry}
use Rattle.lr_host.specs.declared.entry.Entry.TheVariants as entry
use Rattle.lr_host.specs.World.{Past, world, names}
use Rattle.lr_host.specs.Fits.{IsFileAt, IsDirectoryAt}
use Rattle.lr_host.specs.Told.{Made}
use Rattle.lr_host.specs.Opening.{IsJournal}
use Rattle.lr_host.specs.Lists.{IsIn}
use Rattle.lr_host.specs.Quiet.{AreQuiet}
use Rattle.lr_host.proofs.Lists.{from_reverse}
use Rattle.lr_host.proofs.Looked.{seen_dir, seen_none, nothing_no_file}
use Rattle.lr_host.proofs.More.{directory_more, not_more}
use Rattle.lr_host.proofs.Quiet.{IsAny, since_any, quiet_more, Moment, moment, quiet_still, still_in_order}
use Rattle.lr_laws.proofs.StandsIn.{stands_in}
use Rattle.lr_family.specs.Parts.{IsMember}
use Rattle.lr_laws_rotations.specs.Target.{Target}
use Rattle.lr_laws_family.specs.Members.{IsFamily}
use Rattle.lr_laws_family.specs.Shown.{SawDir}
use Rattle.lr_laws_family.proofs.Directory.{member_in, none_without}
use Rattle.lr_laws_family.proofs.Stood.{quiet_journal}

-- a directory that was seen stands
pub dir_now : (p q : Past) (es : List Entry) (x : Path) → Made p es q → AreQuiet (reverse es) → SawDir x (reverse es) → IsDirectoryAt (names (world q)) x
dir_now p q es x m quiet saw =
    let t = moment IsAny p q (entry.Look x (Some saw.0)) es (since_any p q es m) m (still_in_order es (quiet_still (reverse es) quiet)) (from_reverse (entry.Look x (Some saw.0)) es saw.2) in
    directory_more (names (world t.at)) (names (world q)) x (quiet_more IsAny t.at q t.until) (seen_dir (world t.at) (names (world t.at) x) saw.0 t.fits saw.1)

-- what stands stands in a directory
pub log_dir : (t : Target) (w : Past) → path_fault t.log ≡ None → IsJournal w → IsFileAt (names (world w)) t.log → IsDirectoryAt (names (world w)) (parent_of t.log)
log_dir t w valid j file = stands_in w t.log j (joined_parts t.log valid) (λ none. nothing_no_file (names (world w) t.log) file.0 none file.1)

-- in one that was missing, a member is nothing else but a file
pub missing_free : (log : Path) (n : Naming) (x : Path) (p q : Past) (es : List Entry) → IsFamily log n → IsMember n x → IsJournal p → Made p es q → AreQuiet (reverse es) → IsIn (entry.Look n.dir None) (reverse es) → (names (world q) x ≢ thing.Directory) × (names (world q) x ≢ thing.Other)
missing_free log n x p q es family is journal m quiet h = (
  not_more (names (world t.at)) (names (world q)) x thing.Directory (quiet_more IsAny t.at q t.until) (λ g e. cc) (neither (names (world t.at) x) free).0,
  not_more (names (world t.at)) (names (world q)) x thing.Other (quiet_more IsAny t.at q t.until) (λ g e. cc) (neither (names (world t.at) x) free).1,
)
  where
    t : Moment IsAny p q (entry.Look n.dir None)
    t = moment IsAny p q (entry.Look n.dir None) es (since_any p q es m) m (still_in_order es (quiet_still (reverse es) quiet)) (from_reverse (entry.Look n.dir None) es h)

    free : names (world t.at) x ≡ thing.Nothing
    free = none_without n.dir x family.dir (member_in log n x family is) t.at (quiet_journal IsAny p t.at t.since journal) (seen_none (world t.at) (names (world t.at) n.dir) t.fits)

    neither : (u : Thing) → u ≡ thing.Nothing → (u ≢ thing.Directory) × (u ≢ thing.Other)
    neither u e = ((λ d. cc), (λ d. cc))
