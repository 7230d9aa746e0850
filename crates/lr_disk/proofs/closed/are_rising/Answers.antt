use Rattle.std.proofs.Common.{arith}
use Rattle.lr_disk.proofs.StepLemmas.{rising_here}
use Rattle.lr_disk.proofs.closed.are_rising.Goals as goal

pub returns-then-place-from : goal.returns-then-place-from
returns-then-place-from c = (
  (λ t. absurd (cc)),
  (λ h. absurd (let r = rising_here c.args.kept.now c.loop-place.place-index 0 c.loop-place.from c.args.count c.loop-place-test.true (c.loop-place.invariant.rising.1 h) in let lt = c.if-place-from.true in omega (arith, r.0))),
)

pub returns-then-place-count : goal.returns-then-place-count
returns-then-place-count c = (
  (λ t. absurd (cc)),
  (λ h. absurd (let r = rising_here c.args.kept.now c.loop-place.place-index 0 c.loop-place.from c.args.count c.loop-place-test.true (c.loop-place.invariant.rising.1 h) in let le = c.if-place-count.true in omega (arith, r.1))),
)
