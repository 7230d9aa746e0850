use Rattle.lr_glob.proofs.ListsOnce.{comes_once, stopped_once}
use Rattle.lr_glob.proofs.laws.directories_are_listed_once.Goals as goal

pub returns : goal.returns
returns c = record { given = comes_once; stopped = stopped_once }
