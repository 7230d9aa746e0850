use Rattle.std.proofs.Common.{rules, ◌≡◌, ◌++◌, Err, codes, drop}
use Rattle.lr_report.specs.Kinds.{phase_text}
use Rattle.lr_scripts.specs.Commands.{behind_spaces}
use Rattle.lr_shown.proofs.Joined.{puts_on, puts_stop}
use Rattle.lr_shown.proofs.programs.put_script.Goals as goal

pub returns-in_err-put_text : goal.returns-in_err-put_text
returns-in_err-put_text g c =
    let failed : c.from_residual.result ≡ Err c.in_err-put_text.field-0.0 = search rules in
    puts_stop (codes "run ") (phase_text c.args.phase ++ (behind_spaces (drop 3 c.args.command.now.args) ++ (codes "\n"))) c.in_err-put_text.field-0.0 c.in_err-put_text.field-0.0 c.from_residual.result _ _ _ _ failed c.in_err-put_text.ensures

pub returns-in_err-put_phase : goal.returns-in_err-put_phase
returns-in_err-put_phase g c =
    let failed : c.from_residual-in_err-put_phase.result ≡ Err c.in_err-put_phase.field-0.0 = search rules in
    puts_on (codes "run ") (phase_text c.args.phase ++ (behind_spaces (drop 3 c.args.command.now.args) ++ (codes "\n"))) c.from_residual-in_err-put_phase.result _ _ _ _ _ _ c.in_ok-put_text.ensures
    (puts_stop (phase_text c.args.phase) (behind_spaces (drop 3 c.args.command.now.args) ++ (codes "\n")) c.in_err-put_phase.field-0.0 c.in_err-put_phase.field-0.0 c.from_residual-in_err-put_phase.result _ _ _ _ failed c.in_err-put_phase.ensures)

pub returns-in_err-put_arguments : goal.returns-in_err-put_arguments
returns-in_err-put_arguments g c =
    let failed : c.from_residual-in_err-put_arguments.result ≡ Err c.in_err-put_arguments.field-0.0 = search rules in
    puts_on (codes "run ") (phase_text c.args.phase ++ (behind_spaces (drop 3 c.args.command.now.args) ++ (codes "\n"))) c.from_residual-in_err-put_arguments.result _ _ _ _ _ _ c.in_ok-put_text.ensures
    (puts_on (phase_text c.args.phase) (behind_spaces (drop 3 c.args.command.now.args) ++ (codes "\n")) c.from_residual-in_err-put_arguments.result _ _ _ _ _ _ c.in_ok-put_phase.ensures
    (puts_stop (behind_spaces (drop 3 c.args.command.now.args)) (codes "\n") c.in_err-put_arguments.field-0.0 c.in_err-put_arguments.field-0.0 c.from_residual-in_err-put_arguments.result _ _ _ _ failed c.in_err-put_arguments.ensures))

pub returns : goal.returns
returns g c = puts_on (codes "run ") (phase_text c.args.phase ++ (behind_spaces (drop 3 c.args.command.now.args) ++ (codes "\n"))) c.put_text-2.result _ _ _ _ _ _ c.in_ok-put_text.ensures
    (puts_on (phase_text c.args.phase) (behind_spaces (drop 3 c.args.command.now.args) ++ (codes "\n")) c.put_text-2.result _ _ _ _ _ _ c.in_ok-put_phase.ensures
    (puts_on (behind_spaces (drop 3 c.args.command.now.args)) (codes "\n") c.put_text-2.result _ _ _ _ _ _ c.in_ok-put_arguments.ensures
    c.put_text-2.ensures))
