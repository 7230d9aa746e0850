use Rattle.std.proofs.Common.{◌≡◌, map, take}
use Rattle.lr_chain.specs.Rotation.{leftovers}
use Rattle.lr_chain.specs.Ready.{removal_at}
use Rattle.lr_chain.proofs.numbered_parts.leftover_removals.Given as goal

abbrev pub invariant-loop-place : goal.invariant-loop-place
invariant-loop-place l = record { removals : l.removals.items ≡ map (removal_at l.family.naming) (leftovers l.count (take l.place-index l.places)) }
