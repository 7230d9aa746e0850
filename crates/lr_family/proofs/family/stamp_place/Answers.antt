use Rattle.std.proofs.Common.{rules, FitsSigned, to_z, of_z, w64}
use Rattle.std.proofs.lemmas.Int.{to_z-of_z}
use Rattle.lr_family.proofs.Stamped.{some_stamp, none_stamp}
use Rattle.lr_family.proofs.family.stamp_place.Goals as goal

pub returns-in-Some-clause-stamps : goal.returns-in-Some-clause-stamps
returns-in-Some-clause-stamps c =
    let fits : FitsSigned w64 c.in-Some.seconds = search rules in
    some_stamp c.args.naming.now c.args.path.now c.stamp_at.result c.in-Some.seconds (to_z w64 (of_z w64 c.in-Some.seconds)) c.in-Some.serial c.stamp_at.ensures c.in-Some.is (to_z-of_z w64 c.in-Some.seconds fits)

pub returns-in-None-clause-stamps : goal.returns-in-None-clause-stamps
returns-in-None-clause-stamps c = none_stamp c.args.naming.now c.args.path.now c.stamp_at.result c.stamp_at.ensures c.in-None.is
