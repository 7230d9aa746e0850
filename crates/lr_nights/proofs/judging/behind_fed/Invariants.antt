use Rattle.std.proofs.Common.{◌≡◌, drop}
use Rattle.lr_nights.specs.Month.{feeds_in}
use Rattle.lr_nights.proofs.judging.behind_fed.Given as goal

abbrev pub invariant-loop-at : goal.invariant-loop-at
invariant-loop-at l = feeds_in l.entries ≡ feeds_in (drop l.at l.entries)
