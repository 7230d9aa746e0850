use Rattle.std.proofs.Common.{rules, ◌≡◌, Ok, Err}
use Rattle.lr_plan.specs.Steps.{removal, removals}
use Rattle.lr_shown.specs.Lines.{lines_of, step_line}
use Rattle.lr_shown.proofs.Joined.{puts_all, puts_as, puts_broken, puts_next}
use Rattle.lr_shown.proofs.Texts.{texts_each}
use Rattle.lr_shown.proofs.programs.put_removals.Goals as goal

pub returns-in_err-put_removal : goal.returns-in_err-put_removal
returns-in_err-put_removal g c =
    let failed : c.from_residual.result ≡ Err c.in_err-put_removal.field-0.0 = search rules in
    puts_as _ (lines_of (removals c.args.files.now)) c.from_residual.result _ _ _ _ (texts_each step_line removal c.args.files.now)
    (puts_broken (λ file. lines_of (removal file)) c.args.files.now c.loop-file.file-index c.file-item.result c.in_err-put_removal.field-0.0 c.in_err-put_removal.field-0.0 c.from_residual.result _ _ _ _ _ _ c.file-item.is c.loop-file-test.true failed c.loop-file.invariant c.in_err-put_removal.ensures)

pub loop-file-preserved : goal.loop-file-preserved
loop-file-preserved g c = puts_next (λ file. lines_of (removal file)) c.args.files.now c.loop-file.file-index c.file-item.result _ _ _ _ _ _ c.file-item.is c.loop-file-test.true c.loop-file.invariant c.in_ok-put_removal.ensures

pub returns : goal.returns
returns g c = puts_as _ (lines_of (removals c.args.files.now)) (Ok tt) _ _ _ _ (texts_each step_line removal c.args.files.now) (puts_all (λ file. lines_of (removal file)) c.args.files.now c.loop-file.file-index _ _ _ _ c.loop-file-test.false c.loop-file.invariant)
