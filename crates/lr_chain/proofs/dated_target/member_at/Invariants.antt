use Rattle.std.proofs.Common.{◌≡◌, [], take}
use Rattle.lr_rules.specs.declared.fault.Fault.{Fault}
use Rattle.lr_rules.specs.declared.path.Path.{Path}
use Rattle.lr_chain.specs.Hindrances.{fault_at}
use Rattle.lr_chain.proofs.dated_target.member_at.Given as goal

abbrev pub invariant-loop-member : goal.invariant-loop-member
invariant-loop-member l = record { none : (why : Path → Fault) → fault_at why l.seconds l.serial (take l.member-index l.members) ≡ [] }
