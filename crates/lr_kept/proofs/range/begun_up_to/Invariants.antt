use Rattle.lr_kept.specs.Fronts.{AreBegunWithin}
use Rattle.lr_kept.proofs.range.begun_up_to.Given as goal

abbrev pub invariant-loop-at : goal.invariant-loop-at
invariant-loop-at l = record { begun : AreBegunWithin l.fronts l.begin l.from l.at }
