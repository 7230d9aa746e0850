use Rattle.std.proofs.Common.{◌≡◌, ◌<◌, ◌∙◌, ap, length, arith, subst, sym, true}
use Rattle.lr_rules.proofs.Results.{on_err}
use Rattle.lr_host.specs.World.{past}
use Rattle.lr_memhost.specs.Acts.{ActsCame}
use Rattle.lr_memhost.proofs.TurnLemmas.{act_stays, act_comes, all_came, stopped_there}
use Rattle.lr_memhost.proofs.turn.take_acts.Goals as goal

pub loop-at-preserved-then-index-number : goal.loop-at-preserved-then-index-number
loop-at-preserved-then-index-number c =
    let lt : c.loop-at.at < length c.loop-at.acts.items = omega (arith, c.loop-at-test.true, c.len.ensures, c.loop-at.acts.ok.0) in
    act_stays c.args.number (past c.args.disk.now) c.args.acts.now.items (past c.loop-at.disk) c.loop-at.acts.items c.loop-at.at c.index.result.now c.index.ensures lt c.if-index-number.true c.loop-at.invariant

pub loop-at-preserved : goal.loop-at-preserved
loop-at-preserved c =
    let lt : c.loop-at.at < length c.loop-at.acts.items = omega (arith, c.loop-at-test.true, c.len.ensures, c.loop-at.acts.ok.0) in
    act_comes c.args.number (past c.args.disk.now) c.args.acts.now.items (past c.loop-at.disk) (past c.take_act.new.disk) c.loop-at.acts.items c.take_act.new.acts.items c.loop-at.at c.index.result.now c.index.ensures lt
    c.if-index-number.false (c.in_ok-take_act.ensures.came c.index.result.now c.index.ensures) c.in_ok-take_act.ensures.ok c.loop-at.invariant

pub returns-in_err-take_act-clause-err : goal.returns-in_err-take_act-clause-err
returns-in_err-take_act-clause-err c =
    on_err c.from_residual.result _
    (subst (λ l. ActsCame c.args.number true (past c.args.disk.now) c.args.acts.now.items (past c.take_act.new.disk) l) (sym c.in_err-take_act.ensures.err.0)
    (subst (λ j. ActsCame c.args.number true (past c.args.disk.now) c.args.acts.now.items (past j) c.loop-at.acts.items) (sym c.in_err-take_act.ensures.err.1)
    (stopped_there c.args.number (past c.args.disk.now) c.args.acts.now.items (past c.loop-at.disk) c.loop-at.acts.items c.loop-at.at c.loop-at.invariant)))

pub returns-clause-ok : goal.returns-clause-ok
returns-clause-ok c = all_came c.args.number (past c.args.disk.now) c.args.acts.now.items (past c.loop-at.disk) c.loop-at.acts.items c.loop-at.at (omega (arith, c.loop-at-test.false, c.len.ensures, c.loop-at.acts.ok.0)) c.loop-at.invariant

pub returns-in_err-take_act-clause-waits : goal.returns-in_err-take_act-clause-waits
returns-in_err-take_act-clause-waits c =
    on_err c.from_residual.result _ (λ none.
    let lt : c.loop-at.at < length c.loop-at.acts.items = omega (arith, c.loop-at-test.true, c.len.ensures, c.loop-at.acts.ok.0) in
    let size : length c.loop-at.acts.items ≡ 0 = ap length (sym c.in_err-take_act.ensures.err.0 ∙ none) in
    omega arith)
