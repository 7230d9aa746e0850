use Rattle.std.proofs.Common.{◌≡◌, true, rules}
use Rattle.lr_audited.proofs.Going.{shared_more}
use Rattle.lr_audited.proofs.removed.add_set.Goals as goal

pub returns : goal.returns
returns c =
    let shared : c.args.set.now.shared ≡ true = search rules in
    shared_more c.args.clock.now c.args.set.now _ c.args.into.now.items c.add_all_leftovers.new.into.items c.add_all_retired.new.into.items shared c.as_slice-logs.ensures c.in_ok-add_all_leftovers.ensures c.in_ok-add_all_retired.ensures
