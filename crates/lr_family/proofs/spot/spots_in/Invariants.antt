use Rattle.std.proofs.Common.{take}
use Rattle.lr_family.specs.Spots.{HasSpots}
use Rattle.lr_family.proofs.spot.spots_in.Given as goal

abbrev pub invariant-loop-name : goal.invariant-loop-name
invariant-loop-name l = record { all : HasSpots l.naming (take l.name-index l.names) l.spots.items }
