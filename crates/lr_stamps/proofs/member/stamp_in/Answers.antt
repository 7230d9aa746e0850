use Rattle.lr_stamps.proofs.Members.{by_stamp}
use Rattle.lr_stamps.proofs.member.stamp_in.Goals as goal

pub returns-in-Some : goal.returns-in-Some
returns-in-Some c = by_stamp c.args.naming.now c.args.format.now c.args.name.now c.bytes.result.now c.bytes-2.result.now c.in-Some.middle.now c.read_stamp.result c.in-Some.ensures c.bytes.ensures.bytes c.bytes-2.ensures.bytes c.read_stamp.ensures
