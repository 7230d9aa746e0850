use Rattle.std.proofs.Common.{rules, ◌≡◌, ◌++◌, Err}
use Rattle.std.specs.List.{flat_map}
use Rattle.lr_shown.proofs.Joined.{puts_on, puts_stop}
use Rattle.lr_audit.specs.Text.{line_text, gap_text, going_text}
use Rattle.lr_audit.proofs.text.put_audit.Goals as goal

pub returns-in_err-put_all_lines : goal.returns-in_err-put_all_lines
returns-in_err-put_all_lines g c =
    let failed : c.from_residual.result ≡ Err c.in_err-put_all_lines.field-0.0 = search rules in
    puts_stop (flat_map line_text c.args.audit.now.lines) (flat_map gap_text c.args.audit.now.gaps ++ flat_map going_text c.args.audit.now.removed) c.in_err-put_all_lines.field-0.0 c.in_err-put_all_lines.field-0.0 c.from_residual.result _ _ _ _ failed c.in_err-put_all_lines.ensures

pub returns-in_err-put_all_gaps : goal.returns-in_err-put_all_gaps
returns-in_err-put_all_gaps g c =
    let failed : c.from_residual-in_err-put_all_gaps.result ≡ Err c.in_err-put_all_gaps.field-0.0 = search rules in
    puts_on (flat_map line_text c.args.audit.now.lines) (flat_map gap_text c.args.audit.now.gaps ++ flat_map going_text c.args.audit.now.removed) c.from_residual-in_err-put_all_gaps.result _ _ _ _ _ _ c.in_ok-put_all_lines.ensures
    (puts_stop (flat_map gap_text c.args.audit.now.gaps) (flat_map going_text c.args.audit.now.removed) c.in_err-put_all_gaps.field-0.0 c.in_err-put_all_gaps.field-0.0 c.from_residual-in_err-put_all_gaps.result _ _ _ _ failed c.in_err-put_all_gaps.ensures)

pub returns : goal.returns
returns g c = puts_on (flat_map line_text c.args.audit.now.lines) (flat_map gap_text c.args.audit.now.gaps ++ flat_map going_text c.args.audit.now.removed) c.put_all_removed.result _ _ _ _ _ _ c.in_ok-put_all_lines.ensures
    (puts_on (flat_map gap_text c.args.audit.now.gaps) (flat_map going_text c.args.audit.now.removed) c.put_all_removed.result _ _ _ _ _ _ c.in_ok-put_all_gaps.ensures c.put_all_removed.ensures)
