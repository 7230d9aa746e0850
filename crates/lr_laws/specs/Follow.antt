-- What an entry needs so that what is kept stays so.
use Rattle.std.specs.Prelude.{◌≡◌, ◌≢◌, ◌⊎◌, ℕ, false, List, [], ◌∷◌}
use Rattle.lr_rules.specs.declared.path.Path.{Path}
use Rattle.lr_host.specs.declared.thing.Thing.TheVariants as thing
use Rattle.lr_host.specs.declared.entry.Entry.{Entry}
use Rattle.lr_host.specs.declared.entry.Entry.TheVariants as entry
use Rattle.lr_host.specs.World.{Names, Change, Moves, changed, NameStep, Adds, step, Past, ◌▸◌, world, names}
use Rattle.lr_host.specs.Sets.{Order, Numbered, Dated, LogSet, order, IsWithin, IsAsideOf, in_reach}
use Rattle.lr_host.specs.Later.{IsGeneration, later}
use Rattle.lr_host.specs.Released.{Releases}
use Rattle.lr_host.specs.Kept.{Leaves}

-- Where the names become others, no generation of a dated set comes to a place above its later rotations. In a numbered set a path
-- has its place whatever the others name.
abbrev pub KeepsPlaces : Order → LogSet → Past → Entry → Names → Names → Type 0
KeepsPlaces Numbered s p e then after = Unit {0}
KeepsPlaces Dated s p e then after = (g : ℕ) (x : Path) → IsGeneration s p g → then x ≡ thing.File g → after x ≡ thing.File g
    → IsWithin Dated s.key then x (later s p g) → IsWithin Dated s.key after x (later s (p ▸ e) g)

-- so under all names that a cut may leave
abbrev pub KeepsAllPlaces : LogSet → Past → Entry → Change → Type 0
KeepsAllPlaces s p e c = (n : Names) (undone : List Change) → Leaves p n undone → KeepsPlaces (order s) s p e n (changed c n)

-- so of a step that changes a name
abbrev pub MakesPlaces : LogSet → Past → Entry → NameStep → Type 0
MakesPlaces s p e (Adds c) = KeepsAllPlaces s p e c
MakesPlaces s p e _ = Unit {0}

-- the path names no generation
abbrev pub NamesNone : LogSet → Past → Path → Type 0
NamesNone s p x = (g : ℕ) → IsGeneration s p g → names (world p) x ≡ thing.File g → ⊥

-- A rename needs another path than the log's to go to, one that names no generation; where it moves a generation, that is the path
-- where the log waits while it is set aside, or a member's, and its place there is not above the later rotations, under all names
-- that a cut may leave.
pub record MayRename (s : LogSet) (p : Past) (from to : Path) : Type 0 where
  pub not_to_log : to ≢ s.log
  pub over_none : NamesNone s p to
  pub room : (g : ℕ) → IsGeneration s p g → names (world p) from ≡ thing.File g → (n : Names) (undone : List Change)
      → Leaves p n undone
      → IsAsideOf s to ⊎ IsWithin (order s) s.key (changed (Moves from to) n) to (later s (p ▸ entry.Renames from to) g)
  pub places : KeepsAllPlaces s p (entry.Renames from to) (Moves from to)

-- What an entry that fits needs. An unlink of a generation needs a cause of release; appends and truncations need a path that names
-- none; a make or an attach at most that a dated set keeps its places; every other kind needs nothing.
abbrev pub MayFollow : LogSet → Past → Entry → Type 0
MayFollow s p (entry.Renames from to) = MayRename s p from to
MayFollow s p (entry.Unlinks x) = (g : ℕ) → IsGeneration s p g → names (world p) x ≡ thing.File g → Releases s p (entry.Unlinks x) g
MayFollow s p (entry.Appends x bytes) = NamesNone s p x
MayFollow s p (entry.Truncates x) = NamesNone s p x
MayFollow s p (entry.Makes x mode) = MakesPlaces s p (entry.Makes x mode) (step (world p) (entry.Makes x mode))
MayFollow s p (entry.Attach writer x at) = MakesPlaces s p (entry.Attach writer x at) (step (world p) (entry.Attach writer x at))
MayFollow s p _ = Unit {0}

-- no path of the entry is the log, that where it waits while it is set aside, or a member
abbrev pub IsElsewhere : LogSet → Entry → Type 0
IsElsewhere s (entry.Attach writer x at) = in_reach s x ≡ false
IsElsewhere s (entry.Renames from to) = (in_reach s from ≡ false) × (in_reach s to ≡ false)
IsElsewhere s (entry.Makes x mode) = in_reach s x ≡ false
IsElsewhere s (entry.Appends x bytes) = in_reach s x ≡ false
IsElsewhere s (entry.Truncates x) = in_reach s x ≡ false
IsElsewhere s (entry.Unlinks x) = in_reach s x ≡ false
IsElsewhere s _ = Unit {0}

-- the paths that the entry changes, or that it attaches a writer to
abbrev pub changed_paths : Entry → List Path
changed_paths (entry.Attach writer x at) = x ∷ []
changed_paths (entry.Renames from to) = from ∷ to ∷ []
changed_paths (entry.Makes x mode) = x ∷ []
changed_paths (entry.Appends x bytes) = x ∷ []
changed_paths (entry.Truncates x) = x ∷ []
changed_paths (entry.Unlinks x) = x ∷ []
changed_paths (entry.MakesDir x mode) = x ∷ []
changed_paths _ = []
