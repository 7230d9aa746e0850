use Rattle.std.proofs.Common.{sym, ap, ◌∙◌, subst, length}
use Rattle.lr_looks.specs.Found.{all_found_in}
use Rattle.lr_looks.specs.Internal.{AreOf}
use Rattle.lr_looks.specs.Ready.{AreReady}
use Rattle.lr_looks.proofs.Behind.{sets_all, no_families}
use Rattle.lr_looks.proofs.families.look_at_families.Goals as goal

pub look_at_each-requires-clause-sets : goal.look_at_each-requires-clause-sets
look_at_each-requires-clause-sets g c = subst (λ n. AreOf n (all_found_in c.args.found.items)) (sym c.in_ok-sets.ensures.many) c.requires.sets

pub returns-clause-told : goal.returns-clause-told
returns-clause-told g c = sets_all (all_found_in c.args.found.items) c.args.faults.now.items c.look_at_each.new.faults.items c.in_ok-sets.sets.items c.look_at_each.new.sets.items c.from_vec.result c.from_vec.ensures c.in_ok-sets.ensures.none c.in_ok-look_at_each.ensures.told

pub returns-clause-many : goal.returns-clause-many
returns-clause-many g c = ap length c.from_vec.ensures ∙ (c.in_ok-look_at_each.ensures.many ∙ c.in_ok-sets.ensures.many)

pub returns-clause-ready : goal.returns-clause-ready
returns-clause-ready g c = subst AreReady (sym c.from_vec.ensures) (c.in_ok-look_at_each.ensures.ready c.in_ok-sets.ensures.ready)

pub returns-in_err-kept-clause-some : goal.returns-in_err-kept-clause-some
returns-in_err-kept-clause-some g c = no_families c.from_residual.result (all_found_in c.args.found.items) _

pub returns-in_err-sets-clause-some : goal.returns-in_err-sets-clause-some
returns-in_err-sets-clause-some g c = no_families c.from_residual-in_err-sets.result (all_found_in c.args.found.items) _
