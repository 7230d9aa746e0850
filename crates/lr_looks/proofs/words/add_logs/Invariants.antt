use Rattle.std.proofs.Common.{◌≡◌, List, ◌++◌, length, map}
use Rattle.std.specs.Vec.Iter.{into_iter_items, into_iter_len}
use Rattle.lr_glob.specs.declared.found.Found.{Found as Match}
use Rattle.lr_looks.specs.Asked.{word_of}
use Rattle.lr_looks.specs.Found.{all_found_in, HaveLogPaths}
use Rattle.lr_looks.specs.Sights.{found_at}
use Rattle.lr_looks.proofs.words.add_logs.Given as goal

abbrev pub invariant-loop-at : goal.invariant-loop-at
invariant-loop-at l = record {
  done : List Match;
  seam : into_iter_items l.initial.at-iterator ≡ done ++ into_iter_items l.at-iterator;
  long : into_iter_len l.at-iterator ≡ length (into_iter_items l.at-iterator);
  found : all_found_in l.found.items ≡ all_found_in l.initial.found.items ++ map (found_at (word_of l.set l.rule l.word)) done;
  paths : HaveLogPaths (all_found_in l.initial.found.items) → HaveLogPaths (all_found_in l.found.items);
}
