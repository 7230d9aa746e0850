use Rattle.lr_family.proofs.Among.{has_none, has_more, has_all}
use Rattle.lr_family.proofs.spot.spots_in.Goals as goal

pub loop-name-init : goal.loop-name-init
loop-name-init c = record { all = has_none c.args.naming.now c.new-spots.result.items c.new-spots.ensures.items }

pub loop-name-preserved : goal.loop-name-preserved
loop-name-preserved c = record {
  all = has_more c.args.naming.now c.args.names.now c.loop-name.name-index c.name-item.result c.loop-name.spots.items _ c.name-item.is c.loop-name-test.true c.loop-name.invariant.all c.in_ok-add_spot.ensures;
}

pub returns : goal.returns
returns c = has_all c.args.naming.now c.args.names.now c.loop-name.name-index c.loop-name.spots.items c.loop-name-test.false c.loop-name.invariant.all
