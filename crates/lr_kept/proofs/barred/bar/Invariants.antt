use Rattle.lr_kept.specs.Barred.{HaveOpened}
use Rattle.lr_kept.proofs.barred.bar.Given as goal

abbrev pub invariant-loop-place : goal.invariant-loop-place
invariant-loop-place l = record { opened : HaveOpened l.logs l.reserved l.initial.choices l.place l.choices }
