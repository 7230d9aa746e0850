use Rattle.lr_cat.proofs.Standing.{finds_dir, finds_gone, finds_other, finds_there, can_read_file}
use Rattle.lr_cat.proofs.seeing.is_file.Goals as goal

pub returns-in_default-look-clause-told : goal.returns-in_default-look-clause-told
returns-in_default-look-clause-told g c = finds_gone c.args.path.now c.in-Ok.look c.in-Ok.ensures.told c.in_default-look.is

pub returns-in-File-clause-told : goal.returns-in-File-clause-told
returns-in-File-clause-told g c = finds_there c.args.path.now c.in-Ok.look c.in-Some.seen c.in-Ok.ensures.told c.in-Some.is c.in-File.is

pub returns-in-File-clause-can : goal.returns-in-File-clause-can
returns-in-File-clause-can g c = λ ok. can_read_file c.args.path.now c.in-Ok.look c.in-Some.seen c.in-Ok.ensures.told c.in-Some.is c.in-File.is

pub returns-in-Dir-clause-stopped : goal.returns-in-Dir-clause-stopped
returns-in-Dir-clause-stopped g c = finds_dir c.args.path.now c.in-Ok.look c.in-Some.seen c.in-Ok.ensures.told c.in-Some.is c.in-Dir.is

pub returns-in-Other-clause-stopped : goal.returns-in-Other-clause-stopped
returns-in-Other-clause-stopped g c = finds_other c.args.path.now c.in-Ok.look c.in-Some.seen c.in-Ok.ensures.told c.in-Some.is c.in-Other.is
