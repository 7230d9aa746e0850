use Rattle.std.proofs.Common.{◌≡◌, length, take}
use Rattle.lr_acts.specs.Making.{all_of_sets}
use Rattle.lr_acts.proofs.room.count_all.Given as goal

abbrev pub invariant-loop-set : goal.invariant-loop-set
invariant-loop-set l = record { count : l.count ≡ length (all_of_sets (take l.set-index l.sets)) }
