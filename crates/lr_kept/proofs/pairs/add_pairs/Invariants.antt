use Rattle.lr_kept.specs.Pairs.{AddsBetween}
use Rattle.lr_kept.proofs.pairs.add_pairs.Given as goal

abbrev pub invariant-loop-at : goal.invariant-loop-at
invariant-loop-at l = record { added : AddsBetween l.logs l.fronts l.place l.from l.at l.initial.pairs.items l.pairs.items }
