use Rattle.std.proofs.Common.{◌≡◌, List, drop}
use Rattle.lr_host.specs.Sets.{LogSet}
use Rattle.lr_nights.specs.Summary.{AreSetsOf, logs_of, in_one}
use Rattle.lr_nights.proofs.names.is_of_one.Given as goal

abbrev pub invariant-loop-log : goal.invariant-loop-log
invariant-loop-log l = (sets : List LogSet) → AreSetsOf (logs_of l.logs) sets → in_one sets l.path ≡ in_one (drop l.log-index sets) l.path
