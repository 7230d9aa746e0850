use Rattle.std.proofs.Common.{◌+◌, ◌-◌, ◌/◌, ◌<◌, length, arith, ap, ◌∙◌, Some}
use Rattle.lr_tables.proofs.Rising.{half, none_left, none_right, equal_lists, word_at}
use Rattle.lr_tables.proofs.keyed.place.Goals as goal

pub loop-low-preserved-in-Less : goal.loop-low-preserved-in-Less
loop-low-preserved-in-Less g c =
    let i = c.loop-low.invariant in
    let middle = c.loop-low.low + (c.loop-low.high - c.loop-low.low) / 2 in
    let lt : middle < length c.args.rows.now = omega arith in
    record {
      within = (omega arith, i.within.1);
      left = none_left c.args.rows.now c.args.word.now middle _ c.requires (word_at c.args.rows.now middle _ lt) c.in-Less.ensures.order;
      right = i.right;
      few = λ d small. rw c.compare.ensures.counted (half _ _ _ _ (omega arith) (omega arith) (i.few d small));
      onward = omega (arith, c.compare.ensures.counted);
    }

pub returns-in-Equal-clause-found : goal.returns-in-Equal-clause-found
returns-in-Equal-clause-found g c =
    let middle = c.loop-low.low + (c.loop-low.high - c.loop-low.low) / 2 in
    let lt : middle < length c.args.rows.now = omega arith in
    word_at c.args.rows.now middle _ lt ∙ ap Some (equal_lists _ _ c.in-Equal.ensures.order)

pub loop-low-preserved : goal.loop-low-preserved
loop-low-preserved g c =
    let i = c.loop-low.invariant in
    let middle = c.loop-low.low + (c.loop-low.high - c.loop-low.low) / 2 in
    let lt : middle < length c.args.rows.now = omega arith in
    record {
      within = (omega arith, omega arith);
      left = i.left;
      right = none_right c.args.rows.now c.args.word.now middle _ c.requires (word_at c.args.rows.now middle _ lt) c.in-Greater.ensures.order;
      few = λ d small. rw c.compare.ensures.counted (half _ _ _ _ (omega arith) (omega arith) (i.few d small));
      onward = omega (arith, c.compare.ensures.counted);
    }
