use Rattle.lr_host.proofs.Quiet.{quiet_changes}
use Rattle.lr_include.proofs.AllQuiet.{reads_quiet}
use Rattle.lr_include.proofs.laws.visits_change_nothing.Goals as goal

pub returns : goal.returns
returns c paths m ts h = quiet_changes ts (reads_quiet paths m ts h)
