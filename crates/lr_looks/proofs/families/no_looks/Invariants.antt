use Rattle.std.proofs.Common.{◌≡◌, [], length}
use Rattle.lr_looks.specs.Ready.{AreReady}
use Rattle.lr_looks.specs.Sets.{HaveLooks}
use Rattle.lr_looks.proofs.families.no_looks.Given as goal

abbrev pub invariant-loop-at : goal.invariant-loop-at
invariant-loop-at l = record { none : HaveLooks [] l.sets.items; many : length l.sets.items ≡ l._at; ready : AreReady l.sets.items }
