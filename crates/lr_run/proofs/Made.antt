-- Entries that a run left on a disk: what looks among them can't both tell.
use Rattle.std.proofs.Common.{◌≡◌, sym, subst, None, List, ◌++◌, reverse}
use Rattle.std.proofs.lemmas.List.{reverse-append, reverse-reverse}
use Rattle.lr_rules.specs.declared.path.Path.{Path}
use Rattle.lr_host.specs.declared.entry.Entry.{Entry}
use Rattle.lr_host.specs.declared.entry.Entry.TheVariants as entry
use Rattle.lr_host.specs.declared.thing.Thing.TheVariants as thing
use Rattle.lr_host.specs.Fits.{IsDirectoryAt}
use Rattle.lr_host.specs.Lists.{IsIn}
use Rattle.lr_host.specs.Opening.{IsJournal}
use Rattle.lr_host.specs.Quiet.{AreQuiet}
use Rattle.lr_host.specs.Told.{Each, IsTools, Made}
use Rattle.lr_host.specs.World.{Past, world, names}
use Rattle.lr_host.proofs.Each.{each_in_order}
use Rattle.lr_host.proofs.Lists.{in_reverse}
use Rattle.lr_host.proofs.Looked.{seen_none, nothing_no_dir}
use Rattle.lr_host.proofs.Made.{Cut, cut, made_journal, made_tools}
use Rattle.lr_host.proofs.More.{dir_before, nothing_before}
use Rattle.lr_host.proofs.Quiet.{IsAny, Moment, moment, quiet_more, quiet_still, since_any, still_reverse}
use Rattle.lr_laws_family.proofs.Stood.{quiet_journal}
use Rattle.lr_laws_looks.proofs.Lasting.{Says}

-- The tool left these entries, in order, on a disk.
pub record AreMade (ts : List Entry) : Type 0 where
  pub before : Past
  pub after : Past
  pub made : Made before (reverse ts) after
  pub journal : IsJournal before

-- from the entries in a journal, the newest first
pub are_made : (p q : Past) (es : List Entry) → Made p es q → IsJournal p → AreMade (reverse es)
are_made p q es m journal = record { before = p; after = q; made = subst (λ (xs : List Entry). Made p xs q) (sym (reverse-reverse es)) m; journal = journal }

-- they are the tool's
pub made_by_tools : (ts : List Entry) → AreMade ts → Each IsTools ts
made_by_tools ts m = each_in_order IsTools ts (made_tools m.before m.after (reverse ts) m.made)

-- ---- a part of them

module _ (xs ys : List Entry) (m : AreMade (xs ++ ys)) where
  halves : Cut m.before m.after (reverse ys) (reverse xs)
  halves = cut m.before m.after (reverse (xs ++ ys)) (reverse ys) (reverse xs) (reverse-append xs ys) m.made

  pub made_first : AreMade xs
  made_first = record { before = m.before; after = halves.mid; made = halves.first; journal = m.journal }

  pub made_later : AreMade ys
  made_later = record { before = halves.mid; after = m.after; made = halves.second; journal = made_journal m.before halves.mid (reverse xs) halves.first m.journal }

-- ---- what quiet ones tell

-- where one saw nothing at a path, none tells that a directory has it
abbrev pub DontClash : List Entry → Type 0
DontClash ts = (dir : Path) → IsIn (entry.Look dir None) ts → Says (λ n. IsDirectoryAt n dir) ts → ⊥

-- since writers make files alone, a directory that stands amid them stood before, and nothing was what is nothing
pub dont_clash : (ts : List Entry) → AreMade ts → AreQuiet ts → DontClash ts
dont_clash ts m quiet dir gone says = nothing_no_dir (names (world m.before) dir) was_nothing was_dir
  where
    at : (e : Entry) → IsIn e ts → Moment IsAny m.before m.after e
    at e i = moment IsAny m.before m.after e (reverse ts) (since_any m.before m.after (reverse ts) m.made) m.made (still_reverse ts (quiet_still ts quiet)) (in_reverse e ts i)

    was_nothing : names (world m.before) dir ≡ thing.Nothing
    was_nothing = let t = at (entry.Look dir None) gone in
        nothing_before (names (world m.before)) (names (world t.at)) dir (quiet_more IsAny m.before t.at t.since) (seen_none (world t.at) (names (world t.at) dir) t.fits)

    was_dir : IsDirectoryAt (names (world m.before)) dir
    was_dir = let t = at says.entry says.among in
        dir_before (names (world m.before)) (names (world t.at)) dir (quiet_more IsAny m.before t.at t.since) (says.so t.at (quiet_journal IsAny m.before t.at t.since m.journal) t.fits)
