use Rattle.std.proofs.Common.{[], refl, rules, arith, sym, subst, map}
use Rattle.lr_host.specs.Told.{Are, Rose}
use Rattle.lr_host.specs.Steps.{CanAll}
use Rattle.lr_host.proofs.Left.{left_first}
use Rattle.lr_host.proofs.Loops.{next_can, next_left}
use Rattle.lr_chain.specs.Ready.{move_step}
use Rattle.lr_chain.proofs.Chaining.{move_refused, move_from}
use Rattle.lr_chain.proofs.chain.move_members.Goals as goal

pub loop-at-init : goal.loop-at-init
loop-at-init g c = record { told = left_first (Are []) _ refl; counts = search rules }

pub move_one-requires : goal.move_one-requires
move_one-requires g c =
    next_can move_step c.as_slice-moves.result.now c.loop-at.at c.index-moves-at.result c.index-moves-at.is c.loop-at-test.true
    (subst (λ ms. CanAll (g.H.Host.told c.args.host.now) (map move_step ms)) (sym c.as_slice-moves.ensures) c.requires) c.loop-at.invariant.told

pub returns-in_default-clause-refused : goal.returns-in_default-clause-refused
returns-in_default-clause-refused g c =
    move_refused c.as_slice-moves.result.now c.args.ready.now.moves c.loop-at.at c.index-moves-at.result c.as_slice-moves.ensures c.index-moves-at.is c.loop-at-test.true c.loop-at.invariant.told c.in_default.ensures.told

pub loop-at-preserved : goal.loop-at-preserved
loop-at-preserved g c = record {
  told = next_left move_step c.as_slice-moves.result.now c.loop-at.at c.index-moves-at.result c.index-moves-at.is c.loop-at-test.true c.loop-at.invariant.told c.in-Ok.ensures.told;
  counts = search rules;
}

pub returns-in_default-clause-cause : goal.returns-in_default-clause-cause
returns-in_default-clause-cause g c =
    let rose : Rose (g.H.Host.counts c.args.host.now).faults (g.H.Host.counts c.move_one.new.host).faults = omega (arith, c.loop-at.invariant.counts, c.in_default.ensures.cause) in
    (move_from c.as_slice-moves.result.now c.args.ready.now.moves c.loop-at.at c.index-moves-at.result c.as_slice-moves.ensures c.index-moves-at.is c.loop-at-test.true, rose)
