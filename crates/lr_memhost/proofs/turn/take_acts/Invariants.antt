use Rattle.std.proofs.Common.{vec_len, ◌-◌}
use Rattle.lr_host.specs.World.{past}
use Rattle.lr_memhost.proofs.TurnLemmas.{SoFar}
use Rattle.lr_memhost.proofs.turn.take_acts.Given as goal

abbrev pub invariant-loop-at : goal.invariant-loop-at
invariant-loop-at l = SoFar l.number (past l.fn.disk) l.fn.acts.items (past l.disk) l.acts.items l.at

abbrev pub decreases-loop-at : goal.decreases-loop-at
decreases-loop-at l = vec_len l.acts - l.at
