use Rattle.lr_kept.proofs.Beginning.{more_fronts}
use Rattle.lr_kept.proofs.fronts.all_fronts.Goals as goal

pub loop-place-preserved : goal.loop-place-preserved
loop-place-preserved c = record {
  fronts = more_fronts c.args.logs.now c.args.choices.now c.loop-place.place c.loop-place.fronts.items c.add_fronts_at.new.fronts.items c.loop-place.invariant.fronts c.in_ok-add_fronts_at.ensures;
}
