use Rattle.lr_kept.specs.Pairs.{AreSettled}
use Rattle.lr_kept.proofs.settling.settle.Given as goal

abbrev pub invariant-loop-pair : goal.invariant-loop-pair
invariant-loop-pair l = record { settled : AreSettled l.initial.choices l.pairs l.pair-index l.choices }
