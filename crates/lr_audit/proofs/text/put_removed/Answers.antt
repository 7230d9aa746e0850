use Rattle.std.proofs.Common.{rules, ◌≡◌, Err}
use Rattle.lr_shown.proofs.Joined.{puts_all, puts_broken, puts_next, puts_none}
use Rattle.lr_audit.specs.Text.{going_text}
use Rattle.lr_audit.proofs.text.put_removed.Goals as goal

pub loop-going-init : goal.loop-going-init
loop-going-init g c = puts_none _ _

pub returns-in_err-put_going : goal.returns-in_err-put_going
returns-in_err-put_going g c =
    let failed : c.from_residual.result ≡ Err c.in_err-put_going.field-0.0 = search rules in
    puts_broken going_text c.args.removed.now c.loop-going.going-index c.going-item.result c.in_err-put_going.field-0.0 c.in_err-put_going.field-0.0 c.from_residual.result _ _ _ _ _ _ c.going-item.is c.loop-going-test.true failed c.loop-going.invariant c.in_err-put_going.ensures

pub loop-going-preserved : goal.loop-going-preserved
loop-going-preserved g c = puts_next going_text c.args.removed.now c.loop-going.going-index c.going-item.result _ _ _ _ _ _ c.going-item.is c.loop-going-test.true c.loop-going.invariant c.in_ok-put_going.ensures

pub returns : goal.returns
returns g c = puts_all going_text c.args.removed.now c.loop-going.going-index _ _ _ _ c.loop-going-test.false c.loop-going.invariant
