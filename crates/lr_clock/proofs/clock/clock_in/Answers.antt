use Rattle.std.proofs.Common.{[], ◌∷◌, IfErr, subst}
use Rattle.std.specs.Prelude.{ℤ}
use Rattle.lr_host.specs.Told.{Left}
use Rattle.lr_clock.specs.Clock.{ClockStopped, IsClockFault}
use Rattle.lr_report.specs.Reported.{AreReported}
use Rattle.lr_clock.proofs.Clocked.{own_seconds, is_out, range_told}
use Rattle.lr_clock.proofs.clock.clock_in.Goals as goal

pub returns-then-not-is_in_range-clause-stopped : goal.returns-then-not-is_in_range-clause-stopped
returns-then-not-is_in_range-clause-stopped g c = range_told c.args.zone.now c.args.seconds _ (is_out _ c.args.seconds c.is_in_range.result (own_seconds c.args.seconds c.ranges.seconds.sfits) c.is_in_range.ensures c.if-not-is_in_range.true)

pub returns-clause-stopped : goal.returns-clause-stopped
returns-clause-stopped g c = subst (λ (z : ℤ). IfErr c.clock_here.result (λ why. Left (ClockStopped c.args.zone.now z why) (g.H.Host.told c.args.host.now) (g.H.Host.told c.clock_here.new.host))) (own_seconds c.args.seconds c.ranges.seconds.sfits) c.clock_here.ensures.stopped

pub returns-clause-fault : goal.returns-clause-fault
returns-clause-fault g c = λ f e. subst (λ (z : ℤ). IsClockFault c.args.zone.now z f × AreReported (f ∷ []) (g.H.Host.counts c.args.host.now) (g.H.Host.counts c.clock_here.new.host)) (own_seconds c.args.seconds c.ranges.seconds.sfits) (c.clock_here.ensures.fault f e)
