use Rattle.std.proofs.Common.{◌++◌, ◌∷◌, [], take, refl, sym, ap, ◌∙◌}
use Rattle.std.proofs.lemmas.List.{take_more}
use Rattle.lr_glob.specs.Parts.{PickOf}
use Rattle.lr_glob.proofs.Gathering.{adds_none, adds_more}
use Rattle.lr_glob.proofs.picking.add_matches.Goals as goal

pub loop-name-init : goal.loop-name-init
loop-name-init c = adds_none (PickOf c.args.part.now c.args.dir.now) [] c.args.into.now.items refl

pub loop-name-preserved : goal.loop-name-preserved
loop-name-preserved c = adds_more (PickOf c.args.part.now c.args.dir.now) (take c.loop-name.name-index c.args.names.now) _ c.name-item.result c.args.into.now.items c.loop-name.into.items c.add_match.new.into.items
    (take_more c.args.names.now c.loop-name.name-index c.name-item.result c.loop-name-test.true ∙ ap (λ x. take c.loop-name.name-index c.args.names.now ++ x ∷ []) (sym c.name-item.is)) c.loop-name.invariant c.in_ok-add_match.ensures
