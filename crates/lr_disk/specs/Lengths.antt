-- The lengths that a cut may give files.
use Rattle.std.specs.Prelude.{ℕ, ◌≤◌, Bool, false, ◌||◌, List, [], ◌∷◌, length}
use Rattle.lr_rules.specs.declared.path.Path.{Path}
use Rattle.lr_host.specs.declared.thing.Thing.{Thing}
use Rattle.lr_host.specs.World.{Names, is_file, names_after, kept_at, IsClosed}
use Rattle.lr_host.specs.Fits.{IsNamed, AreRising}
use Rattle.lr_disk.specs.declared.pending.Pending.{Pending}
use Rattle.lr_disk.specs.declared.file.MemFile.{MemFile}
use Rattle.lr_disk.specs.declared.state.State.{State}
use Rattle.lr_disk.specs.Names.{named_in}
use Rattle.lr_disk.specs.Pending.{pending_of}
use Rattle.lr_disk.specs.State.{file_with}

-- the names that a cut leaves which keeps the changes at these places
abbrev pub names_left : State → List ℕ → Names
names_left s kept = names_after (named_in s.tree.durable.items) (kept_at kept (pending_of s.tree.changes.items))

-- a cut may keep the changes at these places: they rise, and are a closed set
abbrev pub MayKeep : List ℕ → List Pending → Type 0
MayKeep kept changes = AreRising 0 kept (length (pending_of changes)) × IsClosed kept (pending_of changes)

-- some pair has the file
abbrev pub has_file : List (Path × Thing) → ℕ → Bool
has_file [] id = false
has_file (n ∷ ns) id = is_file n.1 id || has_file ns id

-- the file is named, and the length lies from its synced length to its length
abbrev pub IsLength : List MemFile → Names → ℕ × ℕ → Type 0
IsLength fs n l = IsNamed n l.0 × ((file_with fs l.0).synced ≤ l.1) × (l.1 ≤ length (file_with fs l.0).bytes)

-- each is so
abbrev pub AreWithin : List MemFile → Names → List (ℕ × ℕ) → Type 0
AreWithin fs n [] = Unit {0}
AreWithin fs n (l ∷ ls) = IsLength fs n l × AreWithin fs n ls
