use Rattle.std.proofs.Common.{◌≡◌, ◌++◌, take, map}
use Rattle.lr_nights.specs.Month.{entry_of, feeds_in}
use Rattle.lr_nights.proofs.judging.behind_night.Given as goal

abbrev pub invariant-loop-fed : goal.invariant-loop-fed
invariant-loop-fed l = feeds_in l.entries ≡ map entry_of (take l.fed-index l.feeds) ++ feeds_in l.rest
