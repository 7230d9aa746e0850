use Rattle.std.proofs.Common.{◌&&◌, arith}
use Rattle.lr_rules.specs.declared.path.Path.{Path}
use Rattle.lr_host.specs.declared.thing.Thing.{Thing}
use Rattle.lr_host.specs.World.{is_file}
use Rattle.lr_nights.specs.Summary.{in_one}
use Rattle.lr_nights.proofs.Lists.{any_on, any_end}
use Rattle.lr_nights.proofs.marking.mark_names.Goals as goal

pub loop-name-preserved : goal.loop-name-preserved
loop-name-preserved c = λ sets are g.
    any_on (λ (n : Path × Thing). in_one sets n.0 && is_file n.1 g) c.args.named.now c.loop-name.name-index c.name-item.result _ _ _ c.loop-name-test.true c.name-item.is (c.in_ok-mark_name.ensures sets are g) (c.loop-name.invariant sets are g)

pub returns : goal.returns
returns c = λ sets are g. any_end (λ (n : Path × Thing). in_one sets n.0 && is_file n.1 g) c.args.named.now c.loop-name.name-index _ _ (omega arith) (c.loop-name.invariant sets are g)
