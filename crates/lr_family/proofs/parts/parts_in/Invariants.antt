use Rattle.std.proofs.Common.{take}
use Rattle.lr_family.specs.InternalParts.{HasParts}
use Rattle.lr_family.proofs.parts.parts_in.Given as goal

abbrev pub invariant-loop-name : goal.invariant-loop-name
invariant-loop-name l = record { all : HasParts l.naming (take l.name-index l.names) l.paths.items }
