use Rattle.std.proofs.Common.{◌≡◌, map, take}
use Rattle.lr_looks.specs.Choices.{chosen_names, found_names}
use Rattle.lr_looks.specs.Found.{all_found_in}
use Rattle.lr_looks.proofs.keeping.families_of.Given as goal

abbrev pub invariant-loop-item : goal.invariant-loop-item
invariant-loop-item l = record { families : map chosen_names l.families.items ≡ map found_names (all_found_in (take l.item-index l.found)) }
