use Rattle.std.proofs.Common.{◌≡◌, take}
use Rattle.lr_looks.specs.Found.{all_found_in, paths_of}
use Rattle.lr_looks.proofs.families.paths_of.Given as goal

abbrev pub invariant-loop-item : goal.invariant-loop-item
invariant-loop-item l = record { paths : l.paths.items ≡ paths_of (all_found_in (take l.item-index l.found)) }
