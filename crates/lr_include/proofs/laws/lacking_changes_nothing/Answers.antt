use Rattle.lr_host.proofs.Quiet.{quiet_changes}
use Rattle.lr_include.proofs.AllQuiet.{lacking_quiet}
use Rattle.lr_include.proofs.laws.lacking_changes_nothing.Goals as goal

pub returns : goal.returns
returns c paths ts h = quiet_changes ts (lacking_quiet paths ts h)
