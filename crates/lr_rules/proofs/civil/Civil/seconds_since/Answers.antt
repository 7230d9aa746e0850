use Rattle.std.proofs.Common.{arith}
use Rattle.jiff_core.proofs.SignedLemmas.{signed_arith}
use Rattle.lr_rules.proofs.Days.{day-in}
use Rattle.lr_rules.proofs.civil.Civil.seconds_since.Goals as goal

pub overflow_sub-result : goal.overflow_sub-result
overflow_sub-result c =
    let later = day-in c.args.self.now in
    let earlier = day-in c.args.earlier.now in
    let later_time = c.args.self.now.valid in
    let earlier_time = c.args.earlier.now.valid in
    let first = c.seconds.ensures in
    let second = c.seconds-2.ensures in
    omega (arith, signed_arith)

pub returns : goal.returns
returns c =
    let later = day-in c.args.self.now in
    let earlier = day-in c.args.earlier.now in
    let later_time = c.args.self.now.valid in
    let earlier_time = c.args.earlier.now.valid in
    let first = c.seconds.ensures in
    let second = c.seconds-2.ensures in
    omega (arith, signed_arith)
