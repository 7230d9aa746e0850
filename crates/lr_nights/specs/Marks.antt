-- Marks of files, by their identities.
use Rattle.std.specs.Prelude.{ℕ, Bool, false, ◌&&◌, List, slice_index_or}
use Rattle.std.specs.List.{list_any}
use Rattle.lr_rules.specs.declared.path.Path.{Path}
use Rattle.lr_host.specs.declared.thing.Thing.{Thing}
use Rattle.lr_host.specs.World.{World, names, is_file}
use Rattle.lr_host.specs.Sets.{LogSet}
use Rattle.lr_family.specs.declared.family.Family.{Family}
use Rattle.lr_nights.specs.Summary.{in_one}

-- the file is marked
abbrev pub is_marked : List Bool → ℕ → Bool
is_marked marks g = slice_index_or marks g false

-- a log names the file
abbrev pub is_a_log : World → List Family → ℕ → Bool
is_a_log w logs g = list_any (λ f. is_file (names w f.log) g) logs

-- a path that is a log or a member names the file
abbrev pub is_of_logs : List LogSet → List (Path × Thing) → ℕ → Bool
is_of_logs sets named g = list_any (λ n. in_one sets n.0 && is_file n.1 g) named

-- some path names the file
abbrev pub has_name : List (Path × Thing) → ℕ → Bool
has_name named g = list_any (λ n. is_file n.1 g) named
