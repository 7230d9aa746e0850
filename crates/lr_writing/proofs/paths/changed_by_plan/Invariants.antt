use Rattle.std.proofs.Common.{◌≡◌, take}
use Rattle.lr_writing.specs.Synced.{all_changed_of}
use Rattle.lr_writing.proofs.paths.changed_by_plan.Given as goal

abbrev pub invariant-loop-set : goal.invariant-loop-set
invariant-loop-set l = record { paths : l.paths.items ≡ all_changed_of (take l.set-index l.sets) }
