use Rattle.lr_looks.proofs.Behind.{members_stopped, standing_told, members_are}
use Rattle.lr_looks.proofs.families.standing_in.Goals as goal

pub returns-in-Ok-clause-told : goal.returns-in-Ok-clause-told
returns-in-Ok-clause-told g c = standing_told c.args.family.now.log c.args.family.now.naming c.args.listing.now c.in-Ok.stand c.with_aside.result c.in-Ok.ensures.told c.with_aside.ensures.told c.with_aside.ensures.stopped
    c.with_aside.ensures.stand

pub returns-in-Err-clause-told : goal.returns-in-Err-clause-told
returns-in-Err-clause-told g c = members_stopped c.args.family.now.log c.args.family.now.naming c.args.listing.now c.in-Err.why c.in-Err.ensures.stopped

pub returns-in-Ok-clause-named : goal.returns-in-Ok-clause-named
returns-in-Ok-clause-named g c = members_are c.args.family.now.naming c.in-Ok.stand c.with_aside.result c.requires.format c.in-Ok.ensures.named c.in-Ok.ensures.newest c.with_aside.ensures.stand
