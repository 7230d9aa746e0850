use Rattle.std.proofs.Common.{sym, subst, arith, take}
use Rattle.lr_host.specs.World.{Past, Opens, then}
use Rattle.lr_nights.specs.Counting.{IsTurning}
use Rattle.lr_nights.proofs.Entries.{then_more}
use Rattle.lr_nights.proofs.rotations.rotations_of.Goals as goal

pub loop-entry-preserved : goal.loop-entry-preserved
loop-entry-preserved c = record {
  turning = λ o s of. subst (λ (p : Past). IsTurning s p c.turn.new.turning) (sym (then_more (Opens o) c.args.entries.now c.loop-entry.entry-index c.entry-item.result c.loop-entry-test.true c.entry-item.is)) (c.turn.ensures.turning s (then (Opens o) (take c.loop-entry.entry-index c.args.entries.now)) of (c.loop-entry.invariant.turning o s of));
  bound = let a = c.turn.ensures.bound in let b = c.loop-entry.invariant.bound in omega arith;
}
