use Rattle.lr_kept.specs.Fronts.{HaveFronts}
use Rattle.lr_kept.proofs.fronts.all_fronts.Given as goal

abbrev pub invariant-loop-place : goal.invariant-loop-place
invariant-loop-place l = record { fronts : HaveFronts l.logs l.choices l.place l.fronts.items }
