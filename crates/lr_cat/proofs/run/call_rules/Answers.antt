use Rattle.std.proofs.Common.{Option, refl, subst}
use Rattle.lr_family.specs.declared.family.Family.{Family}
use Rattle.lr_include.specs.Readers.{meaning_of}
use Rattle.lr_cat.specs.declared.outcome.CatOutcome.TheVariants as outcome
use Rattle.lr_cat.specs.Came.{RulesEnd, no_log, lacks}
use Rattle.lr_cat.specs.First.{IsFound}
use Rattle.lr_cat.proofs.Calling.{came_nowhere, found_ends}
use Rattle.lr_cat.proofs.run.call_rules.Goals as goal

pub returns-in-Ok-Some-clause-told : goal.returns-in-Ok-Some-clause-told
returns-in-Ok-Some-clause-told g c = found_ends c.args.wanted.now c.args.clock.now c.call_log.result (meaning_of c.args.reading) c.args.reading.rules c.in-Ok-Some.family
    (subst (λ (f : Option Family). IsFound c.args.reading.rules.sets c.args.wanted.now.log f) c.in-Ok-Some.field-0-is c.in-Ok-Some.ensures) c.call_log.ensures.told

pub returns-in-Ok-None-clause-told : goal.returns-in-Ok-None-clause-told
returns-in-Ok-None-clause-told g c = came_nowhere (RulesEnd c.args.wanted.now c.args.clock.now (meaning_of c.args.reading) c.args.reading.rules outcome.NoLog) (g.H.Host.told c.args.host.now) (g.K.Sink.taken c.args.out.now)
    (no_log refl refl (subst (λ (f : Option Family). IsFound c.args.reading.rules.sets c.args.wanted.now.log f) c.in-Ok-None.field-0-is c.in-Ok-None.ensures) refl)

pub returns-clause-told : goal.returns-clause-told
returns-clause-told g c = came_nowhere (RulesEnd c.args.wanted.now c.args.clock.now (meaning_of c.args.reading) c.args.reading.rules outcome.OutOfMemory) (g.H.Host.told c.args.host.now) (g.K.Sink.taken c.args.out.now) (lacks refl refl refl)
