use Rattle.std.proofs.Common.{◌≡◌, map, take}
use Rattle.lr_looks.specs.Choices.{is_wild}
use Rattle.lr_looks.specs.Found.{all_found_in}
use Rattle.lr_looks.proofs.keeping.wild_of.Given as goal

abbrev pub invariant-loop-item : goal.invariant-loop-item
invariant-loop-item l = record { wild : l.wild.items ≡ map is_wild (all_found_in (take l.item-index l.found)) }
