use Rattle.lr_stamps.proofs.Members.{by_path}
use Rattle.lr_stamps.proofs.member.stamp_at.Goals as goal

pub returns-in-Some-name_under : goal.returns-in-Some-name_under
returns-in-Some-name_under c = by_path c.args.naming.now c.in-Some.format c.args.path.now c.in-Some-name_under.name.now c.stamp_in.result c.in-Some.is c.in-Some-name_under.ensures c.stamp_in.ensures
