use Rattle.lr_plan.specs.Planned.{make_for}
use Rattle.lr_planning.proofs.Making.{made_short}
use Rattle.lr_planning.proofs.planning.make_ready.Goals as goal

pub returns-clause-short : goal.returns-clause-short
returns-clause-short c =
    made_short c.args.look.now.family.log c.args.look.now.family.naming c.args.rule.now.count c.args.rule.now.maxage c.args.clock.now (make_for c.args.rule.now c.args.look.now) c.args.stand.now
    c.args.look.now.family.kin c.requires.look.start c.requires.look.members c.prepare.result (rw c.made_for-anew.ensures at c.prepare.ensures.ready) c.prepare.ensures.free
