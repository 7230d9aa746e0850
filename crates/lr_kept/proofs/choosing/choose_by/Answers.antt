use Rattle.std.proofs.Common.{◌∙◌}
use Rattle.lr_kept.specs.declared.choice.Choice.TheVariants.{Reserved, Meets}
use Rattle.lr_kept.proofs.Outcome.{all_chosen, fewer_pairs, still_begun}
use Rattle.lr_kept.proofs.Pairing.{pairs_within}
use Rattle.lr_kept.proofs.choosing.choose_by.Goals as goal

pub bar-requires-clause-begun : goal.bar-requires-clause-begun
bar-requires-clause-begun c = λ k i h. c.pass_members.ensures.each k (Reserved i) h

pub settle-requires-clause-begun : goal.settle-requires-clause-begun
settle-requires-clause-begun c = λ k i h. c.pass_members.ensures.each k (Meets i) (c.bar.ensures.each k (Meets i) h)

pub settle-requires-clause-pairs : goal.settle-requires-clause-pairs
settle-requires-clause-pairs c = pairs_within c.args.logs.now c.bar.new.choices c.args.pairs.now (c.bar.ensures.as_many ∙ c.pass_members.ensures.as_many) c.requires.pairs.sound

pub returns : goal.returns
returns c = all_chosen c.args.logs.now c.args.wild.now c.args.reserved.now c.pass_members.new.choices c.bar.new.choices c.settle.new.choices c.args.pairs.now c.pass_members.ensures c.bar.ensures
    (fewer_pairs c.args.logs.now c.args.choices.now c.bar.new.choices c.args.pairs.now
    (still_begun c.args.logs.now c.args.wild.now c.args.reserved.now c.args.choices.now c.pass_members.new.choices c.bar.new.choices c.requires.begun c.pass_members.ensures c.bar.ensures)
    c.requires.pairs)
    c.settle.ensures
