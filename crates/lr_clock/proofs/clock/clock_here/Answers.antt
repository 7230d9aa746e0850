use Rattle.std.proofs.Common.{IfOk, subst}
use Rattle.std.specs.Prelude.{ℤ}
use Rattle.lr_due.specs.Zone.{IsClockIn}
use Rattle.lr_clock.proofs.Clocked.{own_seconds, text_stopped, clock_told, clock_stopped, has_clock, refused_fault}
use Rattle.lr_clock.proofs.clock.clock_here.Goals as goal

pub returns-in-Ok-clause-told : goal.returns-in-Ok-clause-told
returns-in-Ok-clause-told g c = clock_told c.args.zone.now c.args.seconds c.in-Ok.text c.clock_by.result _ _ c.requires c.in-Ok.ensures.told
    (subst (λ (z : ℤ). IfOk c.clock_by.result (IsClockIn c.in-Ok.text z)) (own_seconds c.args.seconds c.ranges.seconds.sfits) c.clock_by.ensures.clock)

pub returns-in-Ok-clause-stopped : goal.returns-in-Ok-clause-stopped
returns-in-Ok-clause-stopped g c = clock_stopped c.args.zone.now c.args.seconds c.in-Ok.text c.clock_by.result _ _ c.requires c.in-Ok.ensures.told c.clock_by.ensures.refused c.clock_by.ensures.memory

pub returns-in-Ok-clause-clock : goal.returns-in-Ok-clause-clock
returns-in-Ok-clause-clock g c = has_clock c.args.zone.now c.args.seconds c.in-Ok.text c.clock_by.result c.requires c.in-Ok.ensures.text c.clock_by.ensures.refuses
    (subst (λ (z : ℤ). IfOk c.clock_by.result (IsClockIn c.in-Ok.text z)) (own_seconds c.args.seconds c.ranges.seconds.sfits) c.clock_by.ensures.clock)

pub returns-in-Ok-clause-fault : goal.returns-in-Ok-clause-fault
returns-in-Ok-clause-fault g c = λ f e. refused_fault c.args.zone.now c.args.seconds c.in-Ok.text f _ _ c.requires c.in-Ok.ensures.text (c.clock_by.ensures.refused f e) c.in-Ok.ensures.counts.0

pub returns-in-Err-clause-stopped : goal.returns-in-Err-clause-stopped
returns-in-Err-clause-stopped g c = text_stopped c.args.zone.now c.args.seconds c.in-Err.stop c.requires c.in-Err.ensures.stopped
