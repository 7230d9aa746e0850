use Rattle.std.proofs.Common.{◌≡◌, ◌++◌, take}
use Rattle.std.specs.List.{flat_map}
use Rattle.lr_plan.specs.Steps.{rotation_of, retirement_of}
use Rattle.lr_plan.proofs.sets.add_logs.Given as goal

abbrev pub invariant-loop-log : goal.invariant-loop-log
invariant-loop-log l = record {
  made : l.steps.items ≡ l.initial.steps.items ++ flat_map rotation_of (take l.log-index l.logs);
  kept : l.rest.items ≡ l.initial.rest.items ++ flat_map retirement_of (take l.log-index l.logs);
}
