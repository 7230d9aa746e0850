use Rattle.std.proofs.Common.{◌≡◌, ◌++◌, take, map}
use Rattle.std.specs.Prelude.{flat_map}
use Rattle.lr_nights.specs.Month.{entry_of, feeds_in}
use Rattle.lr_nights.proofs.judging.behind_nights.Given as goal

abbrev pub invariant-loop-night : goal.invariant-loop-night
invariant-loop-night l = feeds_in l.entries ≡ flat_map (λ night. map entry_of night.feeds) (take l.night-index l.nights) ++ feeds_in l.rest
