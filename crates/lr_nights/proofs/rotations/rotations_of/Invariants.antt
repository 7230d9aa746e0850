use Rattle.std.proofs.Common.{◌≤◌, take}
use Rattle.lr_host.specs.declared.journal.Opening.{Opening}
use Rattle.lr_host.specs.World.{Opens, then}
use Rattle.lr_host.specs.Sets.{LogSet}
use Rattle.lr_nights.specs.Summary.{IsSetOf}
use Rattle.lr_nights.specs.Counting.{IsTurning}
use Rattle.lr_nights.proofs.rotations.rotations_of.Given as goal

abbrev pub invariant-loop-entry : goal.invariant-loop-entry
invariant-loop-entry l = record {
  turning : (o : Opening) (s : LogSet) → IsSetOf (l.log.log, l.log.naming) s → IsTurning s (then (Opens o) (take l.entry-index l.entries)) l.turning;
  bound : l.turning.count ≤ l.entry-index;
}
