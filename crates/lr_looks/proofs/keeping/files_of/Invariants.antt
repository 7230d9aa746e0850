use Rattle.std.proofs.Common.{◌≡◌, List, ◌++◌, length, take}
use Rattle.std.specs.List.{flat_map}
use Rattle.std.specs.Vec.Iter.{into_iter_items}
use Rattle.lr_looks.specs.declared.found.Found.{Found}
use Rattle.lr_looks.specs.Choices.{kept_of, where_file, kind_fault}
use Rattle.lr_looks.specs.Found.{all_found_in}
use Rattle.lr_looks.proofs.keeping.files_of.Given as goal

abbrev pub invariant-loop-item : goal.invariant-loop-item
invariant-loop-item l = record {
  done : List Found;
  seam : into_iter_items l.initial.item-iterator ≡ done ++ into_iter_items l.item-iterator;
  at : l.at ≡ length done;
  left : all_found_in l.left.items ≡ flat_map where_file (kept_of (all_found_in done) (take l.at l.choices));
  faults : l.faults.items ≡ l.initial.faults.items ++ flat_map kind_fault (kept_of (all_found_in done) (take l.at l.choices));
}
