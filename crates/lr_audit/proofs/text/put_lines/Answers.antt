use Rattle.std.proofs.Common.{rules, ◌≡◌, Err}
use Rattle.lr_shown.proofs.Joined.{puts_all, puts_broken, puts_next, puts_none}
use Rattle.lr_audit.specs.Text.{line_text}
use Rattle.lr_audit.proofs.text.put_lines.Goals as goal

pub loop-line-init : goal.loop-line-init
loop-line-init g c = puts_none _ _

pub returns-in_err-put_line : goal.returns-in_err-put_line
returns-in_err-put_line g c =
    let failed : c.from_residual.result ≡ Err c.in_err-put_line.field-0.0 = search rules in
    puts_broken line_text c.args.lines.now c.loop-line.line-index c.line-item.result c.in_err-put_line.field-0.0 c.in_err-put_line.field-0.0 c.from_residual.result _ _ _ _ _ _ c.line-item.is c.loop-line-test.true failed c.loop-line.invariant c.in_err-put_line.ensures

pub loop-line-preserved : goal.loop-line-preserved
loop-line-preserved g c = puts_next line_text c.args.lines.now c.loop-line.line-index c.line-item.result _ _ _ _ _ _ c.line-item.is c.loop-line-test.true c.loop-line.invariant c.in_ok-put_line.ensures

pub returns : goal.returns
returns g c = puts_all line_text c.args.lines.now c.loop-line.line-index _ _ _ _ c.loop-line-test.false c.loop-line.invariant
