-- What is known behind the entries that were gone through.
use Rattle.std.specs.Prelude.{◌≡◌, ◌↔◌, ℕ, Bool, true, false, cond, ◌&&◌, List, length, sum_by}
use Rattle.lr_rules.specs.declared.path.Path.{Path}
use Rattle.lr_host.specs.declared.thing.Thing.{Thing}
use Rattle.lr_host.specs.declared.thing.Thing.TheVariants as thing
use Rattle.lr_host.specs.declared.entry.Entry.{Entry}
use Rattle.lr_host.specs.declared.entry.Entry.TheVariants.{Attach, Renames, Makes, Unlinks, SyncsDir, MakesDir, Cut}
use Rattle.lr_host.specs.World.{World, Past, world}
use Rattle.lr_host.specs.Sets.{LogSet}
use Rattle.lr_disk.specs.State.{ShowsWorld}
use Rattle.lr_nights.specs.declared.walk.Walk.{Walk}
use Rattle.lr_nights.specs.declared.standing.Standing.{Standing}
use Rattle.lr_nights.specs.Summary.{in_one, size_named, size_at, HoldsJust, IsFileOf, IsGenerationOfOne, IsGone}
use Rattle.lr_nights.specs.Marks.{is_marked}

-- The disk is that of the journal, and just the generations are marked.
pub record IsWalk (sets : List LogSet) (p : Past) (w : Walk) : Type 0 where
  pub shows : ShowsWorld w.replay (world p)
  pub marked : (g : ℕ) → (is_marked w.marks.items g ≡ true) ↔ IsGenerationOfOne sets p g

-- the entry may change what paths name
abbrev pub may_rename : Entry → Bool
may_rename (Attach writer x at) = true
may_rename (Renames from to) = true
may_rename (Makes x mode) = true
may_rename (Unlinks x) = true
may_rename (SyncsDir x) = true
may_rename (MakesDir x mode) = true
may_rename (Cut kept lengths) = true
may_rename _ = false

abbrev pub is_regular : Thing → Bool
is_regular (thing.File g) = true
is_regular _ = false

-- a log or a member names a regular file
abbrev pub stands : List LogSet → Path × Thing → Bool
stands sets n = in_one sets n.0 && is_regular n.1

-- one file more where it stands
abbrev pub count_one : List LogSet → Path × Thing → ℕ
count_one sets n = cond (stands sets n) 1 0

-- its bytes where it stands
abbrev pub bytes_one : World → List LogSet → Path × Thing → ℕ
bytes_one w sets n = cond (stands sets n) (size_named w n.1) 0

-- The files that stand were counted.
pub record IsStanding (sets : List LogSet) (p : Past) (t : Standing) : Type 0 where
  pub paths : List Path
  pub are : HoldsJust (IsFileOf sets p) paths
  pub files : t.files ≡ length paths
  pub bytes : t.bytes ≡ sum_by (size_at p) paths

-- so many files are gone
pub record AreGone (sets : List LogSet) (p : Past) (count : ℕ) : Type 0 where
  pub gone : List ℕ
  pub are : HoldsJust (IsGone sets p) gone
  pub count_is : count ≡ length gone
