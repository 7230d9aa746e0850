use Rattle.std.proofs.Common.{take}
use Rattle.lr_glob.specs.Gathers.{Gathers, AddsPaths}
use Rattle.lr_glob.specs.Parts.{PickOf}
use Rattle.lr_glob.proofs.picking.add_matches.Given as goal

abbrev pub invariant-loop-name : goal.invariant-loop-name
invariant-loop-name l = AddsPaths (Gathers (PickOf l.part l.dir) (take l.name-index l.names)) l.fn.into.items l.into.items
