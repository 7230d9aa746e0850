use Rattle.lr_include.proofs.AllQuiet.{reads_quiet, lacking_quiet}
use Rattle.lr_include.proofs.laws.readings_are_quiet.Goals as goal

pub returns-clause-whole : goal.returns-clause-whole
returns-clause-whole c paths m ts h = reads_quiet paths m ts h

pub returns-clause-lacking : goal.returns-clause-lacking
returns-clause-lacking c paths ts h = lacking_quiet paths ts h
