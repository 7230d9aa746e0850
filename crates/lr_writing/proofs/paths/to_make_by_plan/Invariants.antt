use Rattle.std.proofs.Common.{◌≡◌, take}
use Rattle.lr_writing.specs.Synced.{all_to_make_of}
use Rattle.lr_writing.proofs.paths.to_make_by_plan.Given as goal

abbrev pub invariant-loop-set : goal.invariant-loop-set
invariant-loop-set l = record { dirs : l.dirs.items ≡ all_to_make_of (take l.set-index l.sets) }
