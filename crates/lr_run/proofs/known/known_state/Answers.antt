use Rattle.lr_host.proofs.Left.{left_first}
use Rattle.lr_state.specs.Known.{ReadsState}
use Rattle.lr_run.proofs.Works.{reads_none}
use Rattle.lr_run.proofs.known.known_state.Goals as goal

pub returns-in_err-buffer-clause-told : goal.returns-in_err-buffer-clause-told
returns-in_err-buffer-clause-told g c = left_first (ReadsState c.args.state.now 65_536 c.from_residual.result) _ (reads_none c.args.state.now c.from_residual.result c.from_residual.ensures.0)
