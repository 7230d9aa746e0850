use Rattle.std.proofs.Common.{◌≡◌, drop}
use Rattle.lr_memhost.specs.Acts.{how_of}
use Rattle.lr_memhost.proofs.turn.listed.Given as goal

abbrev pub invariant-loop-f : goal.invariant-loop-f
invariant-loop-f l = how_of (drop l.f-index l.failing) l.number ≡ how_of l.failing l.number
