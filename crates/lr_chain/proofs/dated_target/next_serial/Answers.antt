use Rattle.std.proofs.Common.{arith, w64, to_z, of_z}
use Rattle.lr_chain.proofs.Serials.{next_taken}
use Rattle.lr_chain.proofs.dated_target.next_serial.Goals as goal

pub loop-member-preserved : goal.loop-member-preserved
loop-member-preserved c =
    let more = next_taken (to_z w64 (of_z w64 c.args.seconds)) c.args.members.now c.loop-member.member-index c.member-item.result c.member-item.is c.loop-member-test.true in
    let so_far = c.loop-member.invariant.next in
    let behind = c.serial_behind.ensures in
    let greater = c.max-next.ensures in
    record { next = omega (arith, more, so_far, behind, greater) }
