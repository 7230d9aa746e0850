use Rattle.std.proofs.Common.{List, ◌++◌, ◌∷◌, [], take, refl, sym, ap, ◌∙◌, subst, arith}
use Rattle.std.proofs.lemmas.List.{take_more, take_all}
use Rattle.lr_glob.specs.Gathers.{Gathers, AddsPaths}
use Rattle.lr_glob.specs.Parts.{JoinOf}
use Rattle.lr_glob.proofs.Gathering.{adds_none, adds_more}
use Rattle.lr_glob.proofs.picking.join_each.Goals as goal

pub loop-dir-init : goal.loop-dir-init
loop-dir-init c = adds_none (λ dir its. JoinOf dir c.args.name.now its) [] c.args.into.now.items refl

pub loop-dir-preserved : goal.loop-dir-preserved
loop-dir-preserved c = adds_more (λ dir its. JoinOf dir c.args.name.now its) (take c.loop-dir.dir-index c.args.dirs.now) _ c.dir-item.result c.args.into.now.items c.loop-dir.into.items c.add_join.new.into.items
    (take_more c.args.dirs.now c.loop-dir.dir-index c.dir-item.result c.loop-dir-test.true ∙ ap (λ x. take c.loop-dir.dir-index c.args.dirs.now ++ x ∷ []) (sym c.dir-item.is)) c.loop-dir.invariant c.in_ok-add_join.ensures

pub returns : goal.returns
returns c = subst (λ (ds : List _). AddsPaths (Gathers (λ dir its. JoinOf dir c.args.name.now its) ds) c.args.into.now.items c.loop-dir.into.items) (take_all c.loop-dir.dir-index c.args.dirs.now (omega arith)) c.loop-dir.invariant
