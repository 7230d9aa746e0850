use Rattle.std.proofs.Common.{◌≡◌, map, take}
use Rattle.lr_chain.specs.Rotation.{kept}
use Rattle.lr_chain.specs.Ready.{move_from}
use Rattle.lr_chain.proofs.numbered_parts.moves_of.Given as goal

abbrev pub invariant-loop-place : goal.invariant-loop-place
invariant-loop-place l = record { moves : l.moves.items ≡ map (move_from l.family.naming) (kept l.count (take l.place-index l.places)) }
