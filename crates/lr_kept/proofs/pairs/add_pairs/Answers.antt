use Rattle.std.proofs.Common.{◌<◌, length, get_or, arith}
use Rattle.std.proofs.lemmas.Option.{slice_get-get_or}
use Rattle.lr_kept.proofs.Pairing.{between_more, between_all}
use Rattle.lr_kept.proofs.pairs.add_pairs.Goals as goal

pub loop-at-preserved : goal.loop-at-preserved
loop-at-preserved c =
    let lt : c.loop-at.at < length c.args.fronts.now = omega (arith, c.beginning_with-from.ensures.bound) in
    record {
      added = between_more c.args.logs.now c.args.fronts.now c.args.place c.beginning_with-from.result.0 c.loop-at.at (get_or c.args.fronts.now c.loop-at.at c.index-fronts-at.result)
          c.args.pairs.now.items c.loop-at.pairs.items c.add_pair.new.pairs.items
          (slice_get-get_or c.args.fronts.now c.loop-at.at c.index-fronts-at.result lt) c.loop-at.invariant.added c.in_ok-add_pair.ensures;
    }

pub returns : goal.returns
returns c = between_all c.args.logs.now c.args.fronts.now c.args.place c.beginning_with-from.result.0 c.beginning_with-from.result.1 c.loop-at.at c.args.begin.now c.args.pairs.now.items c.loop-at.pairs.items
    c.loop-at-test.false c.beginning_with-from.ensures.exactly c.loop-at.invariant.added
