use Rattle.std.proofs.Common.{◌≡◌, take}
use Rattle.lr_run.specs.Paths.{all_logs_of}
use Rattle.lr_run.proofs.paths.logs_of_plan.Given as goal

abbrev pub invariant-loop-set : goal.invariant-loop-set
invariant-loop-set l = record { paths : l.paths.items ≡ all_logs_of (take l.set-index l.sets) }
