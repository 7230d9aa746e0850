use Rattle.std.proofs.Common.{arith}
use Rattle.lr_rules.specs.declared.path.Path.{Path}
use Rattle.lr_host.specs.declared.thing.Thing.{Thing}
use Rattle.lr_host.specs.World.{is_file}
use Rattle.lr_nights.proofs.Lists.{any_off, off_end}
use Rattle.lr_nights.proofs.marking.unmark_names.Goals as goal

pub loop-name-preserved : goal.loop-name-preserved
loop-name-preserved c = λ g.
    any_off (λ (n : Path × Thing). is_file n.1 g) c.args.named.now c.loop-name.name-index c.name-item.result _ _ _ c.loop-name-test.true c.name-item.is (c.unmark.ensures g) (c.loop-name.invariant g)

pub returns : goal.returns
returns c = λ g. off_end (λ (n : Path × Thing). is_file n.1 g) c.args.named.now c.loop-name.name-index _ _ (omega arith) (c.loop-name.invariant g)
