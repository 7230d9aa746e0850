use Rattle.std.proofs.Common.{rules, FitsSigned, to_z, of_z, w64}
use Rattle.std.proofs.lemmas.Int.{to_z-of_z}
use Rattle.lr_family.proofs.Names.{stamped, not_stamped}
use Rattle.lr_family.proofs.name.stamp_of.Goals as goal

pub returns-in-Some : goal.returns-in-Some
returns-in-Some c =
    let fits : FitsSigned w64 c.in-Some.seconds = search rules in
    stamped c.args.naming.now c.args.format.now c.args.name.now c.stamp_in.result c.in-Some.seconds (to_z w64 (of_z w64 c.in-Some.seconds)) c.in-Some.serial c.requires.dated c.stamp_in.ensures c.in-Some.is (to_z-of_z w64 c.in-Some.seconds fits)

pub returns-in-None : goal.returns-in-None
returns-in-None c = not_stamped c.args.naming.now c.args.format.now c.args.name.now c.stamp_in.result c.requires.dated c.stamp_in.ensures c.in-None.is
