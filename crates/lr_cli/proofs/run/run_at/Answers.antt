use Rattle.std.proofs.Common.{[]}
use Rattle.lr_host.proofs.Counts.{onward_on, went_onward}
use Rattle.lr_host.proofs.Left.{left_first}
use Rattle.lr_host.specs.Quiet.{AreQuiet}
use Rattle.lr_host.proofs.Known.{left_journal}
use Rattle.lr_cli.specs.Faults.{answer_of, plan_told}
use Rattle.lr_cli.specs.Internal.{only_looked}
use Rattle.lr_clock.proofs.Clocked.{own_seconds}
use Rattle.lr_cli.proofs.Came.{no_clock_came, stop_came, clock_came}
use Rattle.lr_cli.proofs.Called.{stop_shape, stop_clocked, clock_shape, clock_clocked, clock_reported}
use Rattle.lr_cli.proofs.run.run_at.Goals as goal

pub returns-in_default-clause-told : goal.returns-in_default-clause-told
returns-in_default-clause-told g c = no_clock_came c.args.request.now c.args.zone.now c.args.seconds _

pub returns-in_default-clause-shape : goal.returns-in_default-clause-shape
returns-in_default-clause-shape g c = only_looked (left_first AreQuiet _ tt)

pub run_confs-requires : goal.run_confs-requires
run_confs-requires g c = record { disk = left_journal c.in-Ok-clock_in.ensures.told c.requires.disk }

pub returns-in-Ok-clock_in-clause-told : goal.returns-in-Ok-clock_in-clause-told
returns-in-Ok-clock_in-clause-told g c = clock_came c.args.request.now c.args.zone.now c.args.seconds c.in-Ok-clock_in.clock (plan_told c.run_confs.result) (answer_of c.run_confs.result) _ (own_seconds c.args.seconds c.ranges.seconds.sfits) c.in-Ok-clock_in.ensures.told c.run_confs.ensures.told

pub returns-in-Ok-clock_in-clause-clock : goal.returns-in-Ok-clock_in-clause-clock
returns-in-Ok-clock_in-clause-clock g c = clock_clocked c.args.zone.now _ c.args.seconds c.in-Ok-clock_in.clock c.run_confs.result _ _ (own_seconds c.args.seconds c.ranges.seconds.sfits) c.in-Ok-clock_in.ensures.clock c.run_confs.ensures.went

pub returns-in-Ok-clock_in-clause-counted : goal.returns-in-Ok-clock_in-clause-counted
returns-in-Ok-clock_in-clause-counted g c = clock_reported c.run_confs.result _ _ _ c.in-Ok-clock_in.ensures.counts.0 c.run_confs.ensures.went

pub returns-in-Ok-clock_in-clause-counts : goal.returns-in-Ok-clock_in-clause-counts
returns-in-Ok-clock_in-clause-counts g c = onward_on _ _ _ c.in-Ok-clock_in.ensures.counts (went_onward c.run_confs.result [] _ _ _ c.run_confs.ensures.went)

pub returns-in-Ok-clock_in-clause-shape : goal.returns-in-Ok-clock_in-clause-shape
returns-in-Ok-clock_in-clause-shape g c = clock_shape c.args.zone.now _ c.args.seconds c.in-Ok-clock_in.clock (own_seconds c.args.seconds c.ranges.seconds.sfits) c.in-Ok-clock_in.ensures.told c.run_confs.ensures.shape

pub returns-in-Err-clause-told : goal.returns-in-Err-clause-told
returns-in-Err-clause-told g c = stop_came c.args.request.now c.args.zone.now _ c.args.seconds c.in-Err.stop (plan_told c.without_clock.result) (answer_of c.without_clock.result) (own_seconds c.args.seconds c.ranges.seconds.sfits) c.without_clock.ensures.plan c.without_clock.ensures.answer c.in-Err.ensures.stopped

pub returns-in-Err-clause-clock : goal.returns-in-Err-clause-clock
returns-in-Err-clause-clock g c = stop_clocked c.args.zone.now _ c.args.seconds c.without_clock.result c.clock_in.result c.in-Err.stop _ (own_seconds c.args.seconds c.ranges.seconds.sfits) c.without_clock.ensures.answer c.in-Err.is c.clock_in.ensures.fault

pub returns-in-Err-clause-shape : goal.returns-in-Err-clause-shape
returns-in-Err-clause-shape g c = stop_shape c.args.zone.now _ c.args.seconds c.in-Err.stop c.in-Err.ensures.stopped
