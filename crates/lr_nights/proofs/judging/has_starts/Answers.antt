use Rattle.std.proofs.Common.{◌≡◌, true, All, arith, subst}
use Rattle.std.proofs.lemmas.List.{take_all}
use Rattle.lr_nights.specs.Month.{HasStartAt}
use Rattle.lr_nights.proofs.JudgedLemmas.{one_more}
use Rattle.lr_nights.proofs.judging.has_starts.Goals as goal

pub loop-night-preserved : goal.loop-night-preserved
loop-night-preserved c =
    let yes : c.has_start_of.result ≡ true = grind (arith, c.if-not-has_start_of.false, c.if-not-has_start_of.ensures) in
    one_more (λ night. HasStartAt night.seconds c.args.entries.now) c.args.nights.now c.loop-night.night-index c.night-item.result c.loop-night-test.true c.night-item.is c.loop-night.invariant (c.has_start_of.ensures yes)

pub returns : goal.returns
returns c = λ _. subst (All (λ night. HasStartAt night.seconds c.args.entries.now)) (take_all c.loop-night.night-index c.args.nights.now (omega arith)) c.loop-night.invariant
