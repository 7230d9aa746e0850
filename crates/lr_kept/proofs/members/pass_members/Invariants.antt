use Rattle.lr_kept.proofs.Joining.{HavePassed, AskedBy}
use Rattle.lr_kept.proofs.members.pass_members.Given as goal

abbrev pub invariant-loop-pair : goal.invariant-loop-pair
invariant-loop-pair l = record { passed : HavePassed l.logs l.wild l.initial.choices (AskedBy l.pairs l.pair-index) l.choices }
