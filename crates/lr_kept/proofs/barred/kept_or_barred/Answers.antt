use Rattle.lr_kept.specs.Barred.{free, barred}
use Rattle.lr_kept.proofs.barred.kept_or_barred.Goals as goal

pub returns-in-Some : goal.returns-in-Some
returns-in-Some c = barred c.in-Some.at c.in-Some.ensures

pub returns-in-None : goal.returns-in-None
returns-in-None c = free c.in-None.ensures
