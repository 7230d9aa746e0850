use Rattle.std.proofs.Common.{◌∙◌, ap, ◌++◌, ◌∷◌, []}
use Rattle.lr_kept.specs.declared.pair.Pair.{Pair}
use Rattle.lr_kept.proofs.Pairing.{adds_pair}
use Rattle.lr_kept.proofs.pairs.add_pair.Goals as goal

pub returns-in_ok-push : goal.returns-in_ok-push
returns-in_ok-push c =
    let both = c.meet.ensures.0 c.if-meet.true in
    adds_pair c.args.logs.now c.args.one c.args.other c.args.pairs.now.items c.push.new.self.items both.0 both.1
    (c.in_ok-push.ensures.items ∙ ap (λ (p : Pair). c.args.pairs.now.items ++ p ∷ []) c.pair_of.ensures)
