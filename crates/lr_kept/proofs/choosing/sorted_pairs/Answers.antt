use Rattle.lr_kept.specs.declared.choice.Choice.TheVariants.{Kept}
use Rattle.lr_kept.proofs.Pairing.{same_pairs}
use Rattle.lr_kept.proofs.choosing.sorted_pairs.Goals as goal

pub pairs_of-requires-clause-new : goal.pairs_of-requires-clause-new
pairs_of-requires-clause-new c = λ k h. c.requires.each k Kept h

pub returns-clause-pairs : goal.returns-clause-pairs
returns-clause-pairs c = same_pairs c.args.logs.now c.args.choices.now c.in_ok-pairs.pairs.items c.sort_pairs.new.pairs.items c.sort_pairs.ensures.same c.in_ok-pairs.ensures
