use Rattle.std.proofs.Common.{◌≡◌, ◌++◌, take}
use Rattle.lr_plan.specs.Planned.{decision, decisions_of}
use Rattle.lr_planning.proofs.planning.add_decisions.Given as goal

abbrev pub invariant-loop-look : goal.invariant-loop-look
invariant-loop-look l = record { decisions : l.decisions.items ≡ l.initial.decisions.items ++ decisions_of (decision l.state l.clock.now l.force l.rule) (take l.look-index l.looks) }
