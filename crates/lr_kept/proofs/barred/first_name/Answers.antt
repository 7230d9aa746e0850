use Rattle.std.proofs.Common.{◌∙◌, sym, true≢false, arith}
use Rattle.std.proofs.lemmas.Option.{slice_get_within}
use Rattle.lr_kept.proofs.Elements.{read_from}
use Rattle.lr_kept.proofs.Opening.{none_more}
use Rattle.lr_kept.proofs.barred.first_name.Goals as goal

pub returns-then-meets : goal.returns-then-meets
returns-then-meets c = record {
  path = c.index-reserved-at.result;
  at_path = read_from c.args.reserved.now c.loop-at.at c.index-reserved-at.result c.loop-at-test.true c.index-reserved-at.is;
  named = c.meets.ensures.0 c.if-meets.true;
  first = λ j q lt h is. c.loop-at.invariant.none j q lt h is;
}

pub loop-at-preserved : goal.loop-at-preserved
loop-at-preserved c = record {
  none = none_more c.args.log.now c.args.reserved.now c.loop-at.at c.index-reserved-at.result (read_from c.args.reserved.now c.loop-at.at c.index-reserved-at.result c.loop-at-test.true c.index-reserved-at.is)
      (λ is. true≢false (sym (c.meets.ensures.1 is) ∙ c.if-meets.false)) c.loop-at.invariant.none;
}

pub returns : goal.returns
returns c = λ j q h is. c.loop-at.invariant.none j q (let lt = slice_get_within c.args.reserved.now j q h in omega (arith, lt, c.loop-at-test.false)) h is
