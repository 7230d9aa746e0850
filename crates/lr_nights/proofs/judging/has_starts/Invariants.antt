use Rattle.std.proofs.Common.{take, All}
use Rattle.lr_nights.specs.Month.{HasStartAt}
use Rattle.lr_nights.proofs.judging.has_starts.Given as goal

abbrev pub invariant-loop-night : goal.invariant-loop-night
invariant-loop-night l = All (λ night. HasStartAt night.seconds l.entries) (take l.night-index l.nights)
