use Rattle.std.proofs.Common.{refl, arith}
use Rattle.lr_kept.specs.declared.choice.Choice.TheVariants.{Kept}
use Rattle.lr_looks.specs.Found.{all_found_in}
use Rattle.lr_looks.proofs.Choosing.{faults_more}
use Rattle.lr_looks.proofs.keeping.add_choices.Goals as goal

pub add_choice-requires : goal.add_choice-requires
add_choice-requires c = c.requires.within c.loop-at.at Kept (omega (arith, c.requires.many, c.loop-at-test.true))

pub loop-at-preserved : goal.loop-at-preserved
loop-at-preserved c = record {
  faults = faults_more c.args.reserved.now (all_found_in c.args.found.now) c.args.found.now c.args.choices.now c.loop-at.at c.index-found-at.result _ c.args.faults.now.items c.loop-at.faults.items c.add_choice.new.faults.items
      c.requires.many c.loop-at-test.true c.index-found-at.is refl c.loop-at.invariant.faults c.in_ok-add_choice.ensures;
}
