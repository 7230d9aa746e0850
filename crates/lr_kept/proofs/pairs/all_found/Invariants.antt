use Rattle.lr_kept.specs.Pairs.{HaveFound}
use Rattle.lr_kept.proofs.pairs.all_found.Given as goal

abbrev pub invariant-loop-place : goal.invariant-loop-place
invariant-loop-place l = record { found : HaveFound l.logs l.choices l.fronts l.place l.pairs.items }
