use Rattle.std.proofs.Common.{ℕ, ◌<◌, get_or, Contains}
use Rattle.lr_rules.specs.declared.path.Path.{Path}
use Rattle.lr_rules.specs.Path.{parent_of}
use Rattle.lr_host.specs.declared.thing.Thing.{Thing}
use Rattle.lr_disk.proofs.valid.are_inside.Given as goal

abbrev pub invariant-loop-name : goal.invariant-loop-name
invariant-loop-name l = (k : ℕ) (d : Path × Thing) → k < l.name-index → Contains l.dirs (parent_of (get_or l.names k d).0)
