use Rattle.std.proofs.Common.{◌≡◌, take}
use Rattle.lr_chain.specs.Serials.{next_serial}
use Rattle.lr_chain.proofs.dated_target.next_serial.Given as goal

abbrev pub invariant-loop-member : goal.invariant-loop-member
invariant-loop-member l = record { next : l.next ≡ next_serial (take l.member-index l.members) l.seconds }
