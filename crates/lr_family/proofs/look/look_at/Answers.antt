use Rattle.std.proofs.Common.{None, Some}
use Rattle.lr_host.specs.Looks.{IsNoFile}
use Rattle.lr_host.proofs.Looking.{sees}
use Rattle.lr_family.proofs.Looking.{saw, dir_no_file, other_no_file}
use Rattle.lr_family.proofs.look.look_at.Goals as goal

pub returns-in_default-look-clause-told : goal.returns-in_default-look-clause-told
returns-in_default-look-clause-told g c = saw c.args.path.now c.in-Ok.look None c.in-Ok.ensures.told c.in_default-look.is

pub returns-in-File-clause-told : goal.returns-in-File-clause-told
returns-in-File-clause-told g c = saw c.args.path.now c.in-Ok.look (Some c.in-Some.seen) c.in-Ok.ensures.told c.in-Some.is

pub returns-in-Dir-clause-stopped : goal.returns-in-Dir-clause-stopped
returns-in-Dir-clause-stopped g c = sees c.args.path.now IsNoFile c.in-Ok.look c.in-Ok.ensures.told (dir_no_file c.in-Ok.look c.in-Some.seen c.in-Some.is c.in-Dir.is)

pub returns-in-Other-clause-stopped : goal.returns-in-Other-clause-stopped
returns-in-Other-clause-stopped g c = sees c.args.path.now IsNoFile c.in-Ok.look c.in-Ok.ensures.told (other_no_file c.in-Ok.look c.in-Some.seen c.in-Some.is c.in-Other.is)
