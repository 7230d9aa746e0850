use Rattle.std.proofs.Common.{◌≡◌, ◌++◌, take}
use Rattle.lr_plan.specs.Planned.{decision, log_plans, log_faults}
use Rattle.lr_planning.proofs.planning.plan_all.Given as goal

abbrev pub invariant-loop-look : goal.invariant-loop-look
invariant-loop-look l = record {
  plans : l.plans.items ≡ log_plans l.clock l.mailer l.rule (decision l.state l.clock.now l.force l.rule) (take l.look-index l.looks);
  faults : l.faults.items ≡ l.initial.faults.items ++ log_faults l.clock l.rule (decision l.state l.clock.now l.force l.rule) (take l.look-index l.looks);
}
