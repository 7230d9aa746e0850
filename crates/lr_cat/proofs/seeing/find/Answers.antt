use Rattle.lr_cat.proofs.Standing.{find_not, find_not_asked}
use Rattle.lr_cat.proofs.seeing.find.Goals as goal

pub returns-in_default-clause-told : goal.returns-in_default-clause-told
returns-in_default-clause-told g c = find_not_asked c.args.path (g.H.Host.told c.args.host.now) c.in_default.is

pub returns-in-Err-clause-stopped : goal.returns-in-Err-clause-stopped
returns-in-Err-clause-stopped g c = find_not c.args.path c.in-Some.path c.in-Err.why c.file_fault.result c.in-Some.is c.file_fault.ensures c.in-Err.ensures.stopped
