use Rattle.std.proofs.Common.{◌≡◌, ◌+◌, List, drop}
use Rattle.lr_host.specs.declared.journal.Opening.{Opening}
use Rattle.lr_host.specs.World.{Opens, then}
use Rattle.lr_host.specs.Sets.{LogSet}
use Rattle.lr_nights.specs.Summary.{AreSetsOf, logs_of, begun_in}
use Rattle.lr_nights.proofs.rotations.begun_of.Given as goal

abbrev pub invariant-loop-log : goal.invariant-loop-log
invariant-loop-log l = (o : Opening) (sets : List LogSet) → AreSetsOf (logs_of l.logs) sets → l.sum + begun_in (drop l.log-index sets) (then (Opens o) l.entries) ≡ begun_in sets (then (Opens o) l.entries)
