use Rattle.std.proofs.Common.{List, take}
use Rattle.lr_host.specs.World.{Opens, then}
use Rattle.lr_host.specs.Sets.{LogSet}
use Rattle.lr_nights.specs.Summary.{AreSetsOf, logs_of}
use Rattle.lr_nights.specs.Walk.{IsWalk}
use Rattle.lr_nights.proofs.walking.walk_through.Given as goal

abbrev pub invariant-loop-entry : goal.invariant-loop-entry
invariant-loop-entry l = (sets : List LogSet) → AreSetsOf (logs_of l.logs) sets → IsWalk sets (then (Opens l.journal.opening) (take l.entry-index l.entries)) l.walk
