use Rattle.lr_kept.proofs.Pairing.{more_found}
use Rattle.lr_kept.proofs.pairs.all_found.Goals as goal

pub loop-place-preserved : goal.loop-place-preserved
loop-place-preserved c = record {
  found = more_found c.args.logs.now c.args.choices.now c.args.fronts.now c.loop-place.place c.loop-place.pairs.items c.add_found.new.pairs.items c.loop-place.invariant.found c.in_ok-add_found.ensures;
}
