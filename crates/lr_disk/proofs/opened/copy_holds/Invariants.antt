use Rattle.std.proofs.Common.{◌≡◌, take, map, Some}
use Rattle.lr_disk.proofs.opened.copy_holds.Given as goal

abbrev pub invariant-loop-hold : goal.invariant-loop-hold
invariant-loop-hold l = l.holds.items ≡ map (λ h. (h.0, Some h.1)) (take l.hold-index l.held)
