use Rattle.std.proofs.Common.{◌≡◌, ◌++◌, take, drop, map}
use Rattle.lr_disk.specs.Names.{named_in}
use Rattle.lr_disk.proofs.names.take_over.Given as goal

abbrev pub invariant-loop-i : goal.invariant-loop-i
invariant-loop-i l = l.names ≡ map (λ p. (p.0, named_in l.other p.0)) (take l.i l.fn.names) ++ drop l.i l.fn.names
