use Rattle.std.proofs.Common.{take}
use Rattle.lr_glob.specs.Gathers.{Gathers, AddsPaths}
use Rattle.lr_glob.specs.Parts.{JoinOf}
use Rattle.lr_glob.proofs.picking.join_each.Given as goal

abbrev pub invariant-loop-dir : goal.invariant-loop-dir
invariant-loop-dir l = AddsPaths (Gathers (λ dir its. JoinOf dir l.name its) (take l.dir-index l.dirs)) l.fn.into.items l.into.items
