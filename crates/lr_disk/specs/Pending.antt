-- The pending changes in memory, as those of a world.
use Rattle.std.specs.Prelude.{◌≡◌, true, List, [], ◌∷◌, map, reverse}
use Rattle.lr_rules.specs.declared.path.Path.{Path}
use Rattle.lr_host.specs.declared.thing.Thing.{Thing}
use Rattle.lr_host.specs.World.{Change, Puts, Moves, Drops}
use Rattle.lr_disk.specs.declared.pending.Pending.{Pending}
use Rattle.lr_disk.specs.declared.pending.Pending.TheVariants as held
use Rattle.lr_disk.specs.Names.{has_path}

abbrev pub as_change : Pending → Change
as_change (held.Puts x thing) = Puts x thing
as_change (held.Moves from to) = Moves from to
as_change (held.Drops x) = Drops x

-- the changes, the newest first
abbrev pub pending_of : List Pending → List Change
pending_of changes = reverse (map as_change changes)

-- each path of the change has its pair
abbrev pub HasPairs : List (Path × Thing) → Change → Type 0
HasPairs ns (Puts x thing) = has_path ns x ≡ true
HasPairs ns (Moves from to) = (has_path ns from ≡ true) × (has_path ns to ≡ true)
HasPairs ns (Drops x) = has_path ns x ≡ true

abbrev pub AreKnown : List (Path × Thing) → List Change → Type 0
AreKnown ns [] = Unit {0}
AreKnown ns (c ∷ cs) = HasPairs ns c × AreKnown ns cs
