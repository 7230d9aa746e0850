use Rattle.lr_audited.proofs.Going.{stamped_all}
use Rattle.lr_audited.proofs.removed.add_stamped.Goals as goal

pub returns : goal.returns
returns c = stamped_all c.args.clock.now c.args.log.now c.bounds_of-bounds.result.count c.bounds_of-bounds.result.maxage c.bounds_of-bounds.result.now _ _ c.stamp_place-place.result _ c.args.into.now.items c.add_with_log.new.into.items c.requires.dated
    c.bounds_of-bounds.ensures.count c.bounds_of-bounds.ensures.maxage c.bounds_of-bounds.ensures.now c.stamp_of.ensures.seconds c.stamp_of.ensures.serial c.stamp_place-place.ensures c.as_slice-members.ensures c.in_ok-add_with_log.ensures
