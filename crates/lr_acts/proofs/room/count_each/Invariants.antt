use Rattle.std.proofs.Common.{◌≡◌, length, take}
use Rattle.lr_acts.specs.Making.{all_of_each}
use Rattle.lr_acts.proofs.room.count_each.Given as goal

abbrev pub invariant-loop-steps : goal.invariant-loop-steps
invariant-loop-steps l = record { count : l.count ≡ length (all_of_each (take l.steps-index l.each)) }
