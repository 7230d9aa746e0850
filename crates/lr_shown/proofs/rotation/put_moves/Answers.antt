use Rattle.std.proofs.Common.{rules, ◌≡◌, map, Ok, Err}
use Rattle.lr_plan.specs.Steps.{move}
use Rattle.lr_shown.specs.Lines.{lines_of, step_line}
use Rattle.lr_shown.proofs.Joined.{puts_all, puts_as, puts_broken, puts_next}
use Rattle.lr_shown.proofs.Texts.{texts_map}
use Rattle.lr_shown.proofs.rotation.put_moves.Goals as goal

pub returns-in_err-put_pair : goal.returns-in_err-put_pair
returns-in_err-put_pair g c =
    let failed : c.from_residual.result ≡ Err c.in_err-put_pair.field-0.0 = search rules in
    puts_as _ (lines_of (map move c.args.moves.now)) c.from_residual.result _ _ _ _ (texts_map step_line move c.args.moves.now)
    (puts_broken (λ one. step_line (move one)) c.args.moves.now c.loop-one.one-index c.one-item.result c.in_err-put_pair.field-0.0 c.in_err-put_pair.field-0.0 c.from_residual.result _ _ _ _ _ _ c.one-item.is c.loop-one-test.true failed c.loop-one.invariant c.in_err-put_pair.ensures)

pub loop-one-preserved : goal.loop-one-preserved
loop-one-preserved g c = puts_next (λ one. step_line (move one)) c.args.moves.now c.loop-one.one-index c.one-item.result _ _ _ _ _ _ c.one-item.is c.loop-one-test.true c.loop-one.invariant c.in_ok-put_pair.ensures

pub returns : goal.returns
returns g c = puts_as _ (lines_of (map move c.args.moves.now)) (Ok tt) _ _ _ _ (texts_map step_line move c.args.moves.now) (puts_all (λ one. step_line (move one)) c.args.moves.now c.loop-one.one-index _ _ _ _ c.loop-one-test.false c.loop-one.invariant)
