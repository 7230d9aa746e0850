use Rattle.lr_glob.proofs.Visits.{listed_all}
use Rattle.lr_glob.proofs.visit.list.Goals as goal

pub returns-in-Ok-clause-told : goal.returns-in-Ok-clause-told
returns-in-Ok-clause-told g c = listed_all c.args.dir.now c.new-names.result.items c.list.new.names.items c.new-names.ensures.items c.in-Ok.ensures.told
