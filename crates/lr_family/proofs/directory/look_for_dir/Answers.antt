use Rattle.lr_host.specs.Looks.{IsNothing, IsDir, IsNoDir}
use Rattle.lr_host.proofs.Looking.{sees}
use Rattle.lr_family.proofs.Whole.{can_list, is_dir_seen, file_no_dir, other_no_dir}
use Rattle.lr_family.proofs.directory.look_for_dir.Goals as goal

pub returns-in_default-look-clause-told : goal.returns-in_default-look-clause-told
returns-in_default-look-clause-told g c = sees c.args.dir.now IsNothing c.in-Ok.look c.in-Ok.ensures.told c.in_default-look.is

pub returns-in-Dir-clause-told : goal.returns-in-Dir-clause-told
returns-in-Dir-clause-told g c = sees c.args.dir.now IsDir c.in-Ok.look c.in-Ok.ensures.told (is_dir_seen c.in-Ok.look c.in-Some.seen c.in-Some.is c.in-Dir.is)

pub returns-in-Dir-clause-list : goal.returns-in-Dir-clause-list
returns-in-Dir-clause-list g c = λ ok. can_list c.args.dir.now c.in-Ok.look c.in-Some.seen c.in-Ok.ensures.told c.in-Some.is c.in-Dir.is

pub returns-in-File-clause-stopped : goal.returns-in-File-clause-stopped
returns-in-File-clause-stopped g c = sees c.args.dir.now IsNoDir c.in-Ok.look c.in-Ok.ensures.told (file_no_dir c.in-Ok.look c.in-Some.seen c.in-Some.is c.in-File.is)

pub returns-in-Other-clause-stopped : goal.returns-in-Other-clause-stopped
returns-in-Other-clause-stopped g c = sees c.args.dir.now IsNoDir c.in-Ok.look c.in-Ok.ensures.told (other_no_dir c.in-Ok.look c.in-Some.seen c.in-Some.is c.in-Other.is)
