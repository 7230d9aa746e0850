use Rattle.std.proofs.Common.{sym, ◌∙◌}
use Rattle.lr_chain.proofs.Highest.{some_highest}
use Rattle.lr_chain.proofs.numbered_places.highest.Goals as goal

pub returns-then-stands_highest : goal.returns-then-stands_highest
returns-then-stands_highest c =
    some_highest c.args.naming.now c.args.members.now c.loop-member.member-index c.member-item.result c.requires.numbered c.requires.named c.member-item.is c.loop-member-test.true (sym c.stands_highest.ensures ∙ c.if-stands_highest.true)
