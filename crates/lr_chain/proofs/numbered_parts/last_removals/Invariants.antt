use Rattle.std.proofs.Common.{◌≡◌, suc, map, take}
use Rattle.lr_chain.specs.Ready.{removal_at}
use Rattle.lr_chain.proofs.numbered_parts.last_removals.Given as goal

abbrev pub invariant-loop-place : goal.invariant-loop-place
invariant-loop-place l = record { removals : l.removals.items ≡ map (removal_at l.family.naming) (map suc (take l.place-index l.from)) }
