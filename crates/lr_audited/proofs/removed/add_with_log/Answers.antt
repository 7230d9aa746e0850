use Rattle.std.proofs.Common.{◌≡◌, ◌+◌, ◌++◌, List, subst}
use Rattle.lr_family.specs.declared.stand.Member.{Member}
use Rattle.lr_family.specs.Stands.{key_in}
use Rattle.lr_chain.proofs.Removed.{rest_whole}
use Rattle.lr_audited.specs.Removed.{log_going, dated_going}
use Rattle.lr_audited.proofs.Going.{with_log}
use Rattle.lr_audited.proofs.removed.add_with_log.Goals as goal

pub returns : goal.returns
returns c = with_log c.args.bounds.count c.args.bounds.maxage c.args.bounds.now (key_in c.args.place) (log_going c.args.log.now.count c.args.log.now.job c.args.log.now.ready.log) c.args.members.now c.later_than-later.result c.args.into.now.items c.add_dated.new.into.items c.add_log.new.into.items c.add_dated-2.new.into.items
    (c.later_than-later.ensures.parts c.args.bounds.count c.args.bounds.maxage c.args.bounds.now (log_going c.args.log.now.count c.args.log.now.job c.args.log.now.ready.log)) c.in_ok-add_dated.ensures c.in_ok-add_log.ensures
    (subst (λ (ms : List Member). c.add_dated-2.new.into.items ≡ c.add_log.new.into.items ++ dated_going c.args.bounds.count c.args.bounds.maxage c.args.bounds.now (c.later_than-later.result + 1) ms) (rest_whole c.args.members.now c.later_than-later.result) c.in_ok-add_dated-2.ensures)
