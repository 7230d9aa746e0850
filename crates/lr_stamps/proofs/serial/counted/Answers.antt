use Rattle.std.proofs.Common.{rules, FitsSigned, to_z, of_z, w64}
use Rattle.std.proofs.lemmas.Int.{to_z-of_z}
use Rattle.lr_stamps.proofs.Serials.{other_digits, other_stamp, both_counted}
use Rattle.lr_stamps.proofs.serial.counted.Goals as goal

pub returns-in_default-serial_of : goal.returns-in_default-serial_of
returns-in_default-serial_of c = other_digits c.args.pieces.now c.args.bytes.now c.in-Some.stamp.now c.in-Some.digits.now c.in-Some.ensures c.in_default-serial_of.ensures.none

pub returns-in-Some-moment_of : goal.returns-in-Some-moment_of
returns-in-Some-moment_of c =
    let fits : FitsSigned w64 c.in-Some-moment_of.seconds = search rules in
    both_counted c.args.pieces.now c.args.bytes.now c.in-Some.stamp.now c.in-Some.digits.now c.in-Some-serial_of.serial c.in-Some-moment_of.seconds (to_z w64 (of_z w64 c.in-Some-moment_of.seconds)) c.moment_of.result
    c.requires c.in-Some.ensures c.in-Some-serial_of.ensures.some c.moment_of.ensures c.in-Some-moment_of.is (to_z-of_z w64 c.in-Some-moment_of.seconds fits)

pub returns-in-None : goal.returns-in-None
returns-in-None c = other_stamp c.args.pieces.now c.args.bytes.now c.in-Some.stamp.now c.in-Some.digits.now c.moment_of.result c.in-Some.ensures c.moment_of.ensures c.in-None.is
