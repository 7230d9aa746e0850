use Rattle.std.proofs.Common.{rules, ◌≡◌, Err}
use Rattle.lr_shown.proofs.Joined.{puts_all, puts_broken, puts_next, puts_none}
use Rattle.lr_audit.specs.Text.{gap_text}
use Rattle.lr_audit.proofs.text.put_gaps.Goals as goal

pub loop-gap-init : goal.loop-gap-init
loop-gap-init g c = puts_none _ _

pub returns-in_err-put_gap : goal.returns-in_err-put_gap
returns-in_err-put_gap g c =
    let failed : c.from_residual.result ≡ Err c.in_err-put_gap.field-0.0 = search rules in
    puts_broken gap_text c.args.gaps.now c.loop-gap.gap-index c.gap-item.result c.in_err-put_gap.field-0.0 c.in_err-put_gap.field-0.0 c.from_residual.result _ _ _ _ _ _ c.gap-item.is c.loop-gap-test.true failed c.loop-gap.invariant c.in_err-put_gap.ensures

pub loop-gap-preserved : goal.loop-gap-preserved
loop-gap-preserved g c = puts_next gap_text c.args.gaps.now c.loop-gap.gap-index c.gap-item.result _ _ _ _ _ _ c.gap-item.is c.loop-gap-test.true c.loop-gap.invariant c.in_ok-put_gap.ensures

pub returns : goal.returns
returns g c = puts_all gap_text c.args.gaps.now c.loop-gap.gap-index _ _ _ _ c.loop-gap-test.false c.loop-gap.invariant
