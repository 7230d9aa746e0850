use Rattle.lr_shown.proofs.Texts.{script_where_no_mail}
use Rattle.lr_shown.proofs.Joined.{puts_as}
use Rattle.lr_shown.proofs.programs.put_command.Goals as goal

pub returns-in_default : goal.returns-in_default
returns-in_default g c = puts_as _ _ c.put_script.result _ _ _ _ (script_where_no_mail c.args.phase c.args.command.now c.in_default.not-Mail) c.put_script.ensures
