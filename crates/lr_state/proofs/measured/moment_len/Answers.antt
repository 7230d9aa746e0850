use Rattle.std.proofs.Common.{arith}
use Rattle.lr_state.proofs.RecordLengths.{moment_length}
use Rattle.lr_state.proofs.measured.moment_len.Goals as goal

pub returns : goal.returns
returns c =
    let year = c.year_digits.ensures.digits in
    let month = c.part_digits.ensures.digits in
    let day = c.part_digits-2.ensures.digits in
    let hour = c.part_digits-3.ensures.digits in
    let minute = c.part_digits-4.ensures.digits in
    let second = c.part_digits-5.ensures.digits in
    let all = moment_length c.args.moment.now in
    omega (arith, year, month, day, hour, minute, second, all)
