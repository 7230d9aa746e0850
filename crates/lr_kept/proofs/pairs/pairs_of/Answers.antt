use Rattle.lr_kept.proofs.Pairing.{all_pairs}
use Rattle.lr_kept.proofs.pairs.pairs_of.Goals as goal

pub returns : goal.returns
returns c = all_pairs c.args.logs.now c.args.choices.now c.args.fronts.now c.in_ok-pairs.pairs.items c.requires.new c.requires.fronts c.in_ok-pairs.ensures
