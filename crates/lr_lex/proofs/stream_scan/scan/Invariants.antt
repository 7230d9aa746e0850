use Rattle.std.proofs.Common.{◌≤◌, length}
use Rattle.lr_lex.specs.Holding.{IsHeld, IsSameToCome, rest_of, size_of}
use Rattle.lr_lex.proofs.stream_scan.scan.Given as goal

abbrev pub invariant-loop-held : goal.invariant-loop-held
invariant-loop-held l = record { held : IsHeld l.held; same : IsSameToCome l.initial.held l.held; few : size_of l.held ≤ size_of l.initial.held }

abbrev pub decreases-loop-held : goal.decreases-loop-held
decreases-loop-held l = length (rest_of l.held)
