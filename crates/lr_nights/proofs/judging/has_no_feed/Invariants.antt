use Rattle.std.proofs.Common.{◌≡◌, [], take}
use Rattle.lr_nights.specs.Month.{feeds_in}
use Rattle.lr_nights.proofs.judging.has_no_feed.Given as goal

abbrev pub invariant-loop-entry : goal.invariant-loop-entry
invariant-loop-entry l = feeds_in (take l.entry-index l.entries) ≡ []
