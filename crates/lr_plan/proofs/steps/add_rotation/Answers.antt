use Rattle.std.proofs.Common.{map}
use Rattle.lr_plan.specs.Steps.{removals, directory, move}
use Rattle.lr_plan.proofs.Adding.{added_to_three}
use Rattle.lr_plan.proofs.steps.add_rotation.Goals as goal

pub returns : goal.returns
returns c =
    added_to_three c.add_own_way.result c.args.steps.now.items (removals c.args.log.now.ready.leftovers)
    (directory c.args.log.now.ready.dir) (map move c.args.log.now.ready.moves) c.add_chain.new.steps.items _
    c.add_own_way.new.steps.items c.in_ok-add_chain.ensures c.add_own_way.ensures
