use Rattle.std.proofs.Common.{◌≡◌, ◌++◌, take}
use Rattle.lr_plan.specs.Planned.{decision, all_decisions, all_plans, all_faults}
use Rattle.lr_planning.proofs.planning.plan_sets.Given as goal

abbrev pub invariant-loop-at : goal.invariant-loop-at
invariant-loop-at l = record {
  decisions : l.draft.decisions.items ≡ l.initial.draft.decisions.items ++ all_decisions (decision l.state l.clock.now l.force) (take l.at l.rules) (take l.at l.sets);
  sets : l.draft.sets.items ≡ l.initial.draft.sets.items ++ all_plans l.clock l.mailer (decision l.state l.clock.now l.force) (take l.at l.rules) (take l.at l.sets);
  faults : l.draft.faults.items ≡ l.initial.draft.faults.items ++ all_faults l.clock (decision l.state l.clock.now l.force) (take l.at l.rules) (take l.at l.sets);
}
