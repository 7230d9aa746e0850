use Rattle.lr_include.proofs.AllQuiet.{reads_short, lacking_short}
use Rattle.lr_include.proofs.laws.readings_are_short.Goals as goal

pub returns-clause-whole : goal.returns-clause-whole
returns-clause-whole c paths m ts h = reads_short paths m ts h

pub returns-clause-lacking : goal.returns-clause-lacking
returns-clause-lacking c paths ts h = lacking_short paths ts h
