use Rattle.std.proofs.Common.{get_or, arith}
use Rattle.std.proofs.lemmas.Option.{slice_get-get_or}
use Rattle.lr_kept.specs.Pairs.{pair_at}
use Rattle.lr_kept.proofs.Outcome.{more_settled}
use Rattle.lr_kept.proofs.settling.settle.Goals as goal

pub loop-pair-preserved : goal.loop-pair-preserved
loop-pair-preserved c =
    let here = c.requires.pairs c.loop-pair.pair-index (pair_at 0 0) c.loop-pair-test.true in
    record {
      settled = more_settled c.args.pairs.now c.loop-pair.pair-index (get_or c.args.pairs.now c.loop-pair.pair-index (pair_at 0 0))
          (slice_get-get_or c.args.pairs.now c.loop-pair.pair-index (pair_at 0 0) c.loop-pair-test.true)
          c.args.choices.now c.loop-pair.choices c.requires.rising c.loop-pair.invariant.settled c.settle_pair.new.choices
          (omega (arith, here.1, c.loop-pair.auto.choices)) here.0 c.settle_pair.ensures;
    }
