use Rattle.std.proofs.Common.{refl, sym, ap, ◌∙◌, subst}
use Rattle.std.proofs.lemmas.Bool.{both_ways}
use Rattle.lr_host.specs.Counted.{calls_in}
use Rattle.lr_host.specs.Told.{Left}
use Rattle.lr_include.specs.Lacking.{LacksReading}
use Rattle.lr_include.specs.Readers.{meaning_of}
use Rattle.lr_include.specs.Stages.{Reads}
use Rattle.lr_cat.specs.declared.outcome.CatOutcome.TheVariants as outcome
use Rattle.lr_cat.proofs.Calling.{confs_broke, confs_end, confs_lack}
use Rattle.lr_cat.proofs.run.call_confs.Goals as goal

pub returns-in_default-clause-told : goal.returns-in_default-clause-told
returns-in_default-clause-told g c = confs_lack c.args.wanted.now c.args.clock.now outcome.OutOfMemory (g.K.Sink.taken c.args.out.now) refl
    (subst (λ ps. Left (LacksReading ps) (g.H.Host.told c.args.host.now) (g.H.Host.told c.read_all.new.host)) c.as_slice.ensures c.in_default.ensures.lacking)

pub returns-then-no_call_failed-clause-told : goal.returns-then-no_call_failed-clause-told
returns-then-no_call_failed-clause-told g c = confs_end c.args.wanted.now c.args.clock.now c.call_rules.result (meaning_of c.in-Ok.reading) c.in-Ok.reading.rules refl
    (ap calls_in (sym c.as_slice-2.ensures) ∙ c.no_call_failed.ensures.0 c.if-no_call_failed.true)
    (subst (λ ps. Left (Reads ps (meaning_of c.in-Ok.reading)) (g.H.Host.told c.args.host.now) (g.H.Host.told c.read_all.new.host)) c.as_slice.ensures c.in-Ok.ensures.told) c.call_rules.ensures.told

pub returns-else-no_call_failed-clause-told : goal.returns-else-no_call_failed-clause-told
returns-else-no_call_failed-clause-told g c = confs_broke c.args.wanted.now c.args.clock.now c.reported.result (meaning_of c.in-Ok.reading) (g.K.Sink.taken c.args.out.now) c.reported.ensures
    (λ none. both_ways c.no_call_failed.result c.if-no_call_failed.false (c.no_call_failed.ensures.1 (ap calls_in c.as_slice-2.ensures ∙ none)))
    (subst (λ ps. Left (Reads ps (meaning_of c.in-Ok.reading)) (g.H.Host.told c.args.host.now) (g.H.Host.told c.read_all.new.host)) c.as_slice.ensures c.in-Ok.ensures.told)
