-- What each path names, as it stands in memory.
use Rattle.std.specs.Prelude.{ℕ, Bool, true, false, not, ◌&&◌, cond, List, [], ◌∷◌, ◌++◌, map, bytes_eq}
use Rattle.lr_rules.specs.declared.path.Path.{Path}
use Rattle.lr_rules.specs.Path.{parent_of, last_of, is_empty}
use Rattle.lr_host.specs.declared.thing.Thing.{Thing}
use Rattle.lr_host.specs.declared.thing.Thing.TheVariants as thing
use Rattle.lr_host.specs.declared.journal.Opening.{Opening}
use Rattle.lr_host.specs.World.{Names}
use Rattle.lr_disk.specs.Pairs.{pair_value, has}

abbrev pub named_in : List (Path × Thing) → Names
named_in names x = pair_value bytes_eq thing.Nothing names x

-- some pair has the path
abbrev pub has_path : List (Path × Thing) → Path → Bool
has_path names x = has bytes_eq names x

abbrev pub is_nothing : Thing → Bool
is_nothing thing.Nothing = true
is_nothing _ = false

-- whether the pair's path names something that stands in the directory
abbrev pub stands_right_in : Path → Path × Thing → Bool
stands_right_in dir n = not (is_nothing n.1) && (bytes_eq (parent_of n.0) dir && not (is_empty (last_of n.0)))

abbrev pub name_of : Path → Path × Thing → List (List ℕ)
name_of dir n = cond (stands_right_in dir n) (last_of n.0 ∷ []) []

-- the last parts of the paths that stand in the directory
abbrev pub listed_in : Path → List (Path × Thing) → List (List ℕ)
listed_in dir [] = []
listed_in dir (n ∷ ns) = name_of dir n ++ listed_in dir ns

-- what an opening names, in the order of its paths
abbrev pub opening_pairs : Opening → List (Path × Thing)
opening_pairs o = map (λ n. (n.0, thing.File n.1)) o.names ++ (map (λ p. (p, thing.Directory)) o.dirs
    ++ map (λ p. (p, thing.Other)) o.others)
