use Rattle.std.proofs.Common.{◌≡◌, take}
use Rattle.lr_host.specs.declared.journal.Opening.{Opening}
use Rattle.lr_host.specs.World.{Opens, then}
use Rattle.lr_nights.specs.Summary.{starts_in}
use Rattle.lr_nights.proofs.runs.runs_of.Given as goal

abbrev pub invariant-loop-entry : goal.invariant-loop-entry
invariant-loop-entry l = (o : Opening) → l.runs ≡ starts_in (then (Opens o) (take l.entry-index l.entries))
