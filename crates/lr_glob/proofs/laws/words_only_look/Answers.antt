use Rattle.lr_host.proofs.Looking.{looks_quiet}
use Rattle.lr_glob.proofs.OnlyLooks.{comes_looks, stopped_looks}
use Rattle.lr_glob.proofs.laws.words_only_look.Goals as goal

pub returns : goal.returns
returns c = record { given = comes_looks; stopped = stopped_looks; quiet = looks_quiet }
