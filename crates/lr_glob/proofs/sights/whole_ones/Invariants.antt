use Rattle.std.proofs.Common.{◌≡◌, List, ◌++◌}
use Rattle.std.specs.Prelude.{filter}
use Rattle.std.specs.Vec.Iter.{into_iter_items}
use Rattle.lr_rules.specs.declared.path.Path.{Path}
use Rattle.lr_glob.specs.Sights.{is_whole}
use Rattle.lr_glob.proofs.sights.whole_ones.Given as goal

abbrev pub invariant-loop-path : goal.invariant-loop-path
invariant-loop-path l = record {
  done : List Path;
  seam : into_iter_items l.initial.path-iterator ≡ done ++ into_iter_items l.path-iterator;
  kept : l.whole.items ≡ filter is_whole done;
}
