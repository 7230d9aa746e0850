-- The path of a part file is a path, in the same directory.
use Rattle.std.proofs.Common.{◌≡◌, ◌≤◌, ℕ, List, ◌++◌, length, None, refl, arith}
use Rattle.std.proofs.lemmas.Str.{IsUtf8-from_ascii}
use Rattle.lr_rules.specs.Match.{part_end}
use Rattle.lr_rules.specs.Path.{path_fault, parent_of}
use Rattle.lr_rules.proofs.Endings.{IsEnding, ended_path, ended_parent, low_ascii}

part_ending : IsEnding part_end
part_ending = record { long = omega arith; text = IsUtf8-from_ascii part_end (low_ascii part_end refl); plain = refl; good = refl }

pub part_fault : (target : List ℕ) → path_fault target ≡ None → length target ≤ 4081 → path_fault (target ++ part_end) ≡ None
part_fault target none short = ended_path part_end part_ending target none (omega arith)

pub part_parent : (target : List ℕ) → path_fault target ≡ None → parent_of (target ++ part_end) ≡ parent_of target
part_parent target none = ended_parent part_end target refl none
