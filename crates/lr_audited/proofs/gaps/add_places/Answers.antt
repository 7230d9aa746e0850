use Rattle.lr_audited.proofs.Between.{places_more}
use Rattle.lr_audited.proofs.gaps.add_places.Goals as goal

pub loop-at-preserved : goal.loop-at-preserved
loop-at-preserved c = record { gaps = places_more c.args.log.now c.args.from c.loop-at.at c.args.gaps.now.items c.loop-at.gaps.items c.push_gap.new.gaps.items c.loop-at.invariant.gaps c.in_ok-push_gap.ensures }
