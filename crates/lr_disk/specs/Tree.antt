-- What the names in memory keep of one another, and what becomes of them.
use Rattle.std.specs.Prelude.{◌≡◌, ℕ, true, ◌<◌, ◌≤◌, IsSomeAnd, List, [], ◌∷◌, length, vec_capacity}
use Rattle.lr_rules.specs.declared.path.Path.{Path}
use Rattle.lr_host.specs.declared.journal.Opening.{Opening}
use Rattle.lr_host.specs.Lists.{AreDistinct}
use Rattle.lr_host.specs.World.{Change, changed, names_after, kept_at, undone_at, settled}
use Rattle.lr_disk.specs.declared.tree.Tree.{Tree}
use Rattle.lr_disk.specs.Pairs.{keys}
use Rattle.lr_disk.specs.Names.{named_in, has_path, opening_pairs}
use Rattle.lr_disk.specs.Pending.{as_change, pending_of, HasPairs, AreKnown}

-- Each path has one pair at most, each path of a pending change has one in both tables, and a sync finds its room.
pub record IsTree (t : Tree) : Type 0 where
  pub once : AreDistinct (keys t.names.items)
  pub durable_once : AreDistinct (keys t.durable.items)
  pub within : (x : Path) → has_path t.durable.items x ≡ true → has_path t.names.items x ≡ true
  pub known : AreKnown t.durable.items (pending_of t.changes.items)
  pub no_bound : t.bound.items ≡ []
  pub no_rest : t.rest.items ≡ []
  pub bound_room : length t.changes.items ≤ vec_capacity t.bound
  pub rest_room : length t.changes.items ≤ vec_capacity t.rest

-- the same names, durable ones and changes
pub record IsSameTree (s t : Tree) : Type 0 where
  pub tree : IsTree t
  pub named : (x : Path) → named_in t.names.items x ≡ named_in s.names.items x
  pub durable : (x : Path) → named_in t.durable.items x ≡ named_in s.durable.items x
  pub changes : t.changes.items ≡ s.changes.items

-- there is room for one change more, and for its sync
pub record TreeHasRoom (t : Tree) : Type 0 where
  pub changes : length t.changes.items < vec_capacity t.changes
  pub bound : length t.changes.items < vec_capacity t.bound
  pub rest : length t.changes.items < vec_capacity t.rest

-- the change was made ready
pub record CanChange (t : Tree) (c : Change) : Type 0 where
  pub spare : IsSomeAnd t.spare (λ p. as_change p ≡ c)
  pub named : HasPairs t.names.items c
  pub durable : HasPairs t.durable.items c
  pub place : TreeHasRoom t

-- the names changed, and no durable one
pub record IsChanged (c : Change) (s t : Tree) : Type 0 where
  pub tree : IsTree t
  pub named : (x : Path) → named_in t.names.items x ≡ changed c (named_in s.names.items) x
  pub durable : t.durable.items ≡ s.durable.items
  pub changes : pending_of t.changes.items ≡ c ∷ pending_of s.changes.items

-- the directory was synced
pub record IsSynced (dir : Path) (s t : Tree) : Type 0 where
  pub tree : IsTree t
  pub named : t.names.items ≡ s.names.items
  pub durable : (x : Path) → let all = pending_of s.changes.items in named_in t.durable.items x
      ≡ names_after (named_in s.durable.items) (kept_at (settled dir [] all) all) x
  pub changes : let all = pending_of s.changes.items in pending_of t.changes.items ≡ undone_at (settled dir [] all) all

-- the machine stopped, and of the changes those at these places stay
pub record IsTreeLeft (kept : List ℕ) (s t : Tree) : Type 0 where
  pub tree : IsTree t
  pub named : (x : Path) → named_in t.names.items x ≡ named_in t.durable.items x
  pub durable : (x : Path) → named_in t.durable.items x ≡ names_after (named_in s.durable.items)
      (kept_at kept (pending_of s.changes.items)) x
  pub changes : t.changes.items ≡ []

-- the names of an opening, all durable
pub record IsTreeOpened (o : Opening) (t : Tree) : Type 0 where
  pub named : t.names.items ≡ opening_pairs o
  pub durable : t.durable.items ≡ opening_pairs o
  pub changes : t.changes.items ≡ []
  pub bound : t.bound.items ≡ []
  pub rest : t.rest.items ≡ []
