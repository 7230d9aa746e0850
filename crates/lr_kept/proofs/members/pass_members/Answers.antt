use Rattle.std.proofs.Common.{◌≡◌, subst, ◌<◌, ⊎_elim, length, get_or, arith}
use Rattle.std.proofs.lemmas.Option.{slice_get_within, slice_get-get_or}
use Rattle.lr_kept.specs.Pairs.{pair_at}
use Rattle.lr_kept.proofs.Joining.{HavePassed, AskedBy, begins_passed, both_passed, all_passed}
use Rattle.lr_kept.proofs.members.pass_members.Goals as goal

pub loop-pair-init : goal.loop-pair-init
loop-pair-init c = record {
  passed = begins_passed c.args.logs.now c.args.wild.now c.args.choices.now c.requires.begun (AskedBy c.args.pairs.now 0)
      (λ k i a. ⊎_elim (λ m. let l : m.0 < 0 = m.1 in omega arith) (λ m. let l : m.0 < 0 = m.1 in omega arith) a);
}

pub join-requires-clause-place : goal.join-requires-clause-place
join-requires-clause-place c = let is = c.requires.pairs.sound c.loop-pair.pair-index (pair_at 0 0) c.loop-pair-test.true in slice_get_within c.args.logs.now _ is.1.other is.1.at_other

pub join-requires-clause-log : goal.join-requires-clause-log
join-requires-clause-log c = let is = c.requires.pairs.sound c.loop-pair.pair-index (pair_at 0 0) c.loop-pair-test.true in slice_get_within c.args.logs.now _ is.1.one is.1.at_one

pub join-requires-in-loop-pair-clause-place : goal.join-requires-in-loop-pair-clause-place
join-requires-in-loop-pair-clause-place c = let is = c.requires.pairs.sound c.loop-pair.pair-index (pair_at 0 0) c.loop-pair-test.true in slice_get_within c.args.logs.now _ is.1.one is.1.at_one

pub join-requires-in-loop-pair-clause-log : goal.join-requires-in-loop-pair-clause-log
join-requires-in-loop-pair-clause-log c = let is = c.requires.pairs.sound c.loop-pair.pair-index (pair_at 0 0) c.loop-pair-test.true in slice_get_within c.args.logs.now _ is.1.other is.1.at_other

pub loop-pair-preserved : goal.loop-pair-preserved
loop-pair-preserved c = record {
  passed = both_passed c.args.logs.now c.args.wild.now c.args.choices.now c.requires.begun c.args.pairs.now c.loop-pair.pair-index (get_or c.args.pairs.now c.loop-pair.pair-index (pair_at 0 0))
      (slice_get-get_or c.args.pairs.now c.loop-pair.pair-index (pair_at 0 0) c.loop-pair-test.true) (c.requires.pairs.sound c.loop-pair.pair-index (pair_at 0 0) c.loop-pair-test.true)
      c.loop-pair.choices c.join.new.choices c.join-in-loop-pair.new.choices c.loop-pair.invariant.passed c.join.ensures c.join-in-loop-pair.ensures;
}

pub returns : goal.returns
returns c = all_passed c.args.logs.now c.args.wild.now c.args.choices.now c.loop-pair.choices c.args.pairs.now c.requires.begun c.requires.pairs
    (subst (λ n. HavePassed c.args.logs.now c.args.wild.now c.args.choices.now (AskedBy c.args.pairs.now n) c.loop-pair.choices) at_end c.loop-pair.invariant.passed)
  where
    at_end : c.loop-pair.pair-index ≡ length c.args.pairs.now
    at_end = omega arith
