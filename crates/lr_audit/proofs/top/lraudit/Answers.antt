use Rattle.std.proofs.Common.{inl, inr, refl, ap, ◌∙◌, Err}
use Rattle.lr_host.proofs.Left.{left_first}
use Rattle.lr_host.specs.Quiet.{AreQuiet}
use Rattle.lr_report.specs.declared.outcome.Outcome.TheVariants.{BadWords, OutOfMemory}
use Rattle.lr_clock.proofs.Clocked.{own_seconds}
use Rattle.lr_audit.proofs.Saying.{says_nothing, says_so, left_quiet, none_done, ends_out, ends_not, none_of, wanted_fits}
use Rattle.lr_audit.proofs.top.lraudit.Goals as goal

pub returns-in-Err-Refused-clause-quiet : goal.returns-in-Err-Refused-clause-quiet
returns-in-Err-Refused-clause-quiet g c = left_first AreQuiet _ tt

pub returns-in-Err-Refused-clause-told : goal.returns-in-Err-Refused-clause-told
returns-in-Err-Refused-clause-told g c = says_nothing c.args.here.now c.args.words.now c.args.zone.now c.args.now _ BadWords _ _ _ _ _ _ _ (inl refl) refl (λ report e. absurd (cc)) c.printed.ensures.same c.printed.ensures.printed c.printed.ensures.whole

pub returns-in-Err-Refused-clause-out : goal.returns-in-Err-Refused-clause-out
returns-in-Err-Refused-clause-out g c = none_done _ BadWords _ c.printed.ensures.same (λ report e. absurd (cc))

pub returns-in-Err-Refused-clause-bad_words : goal.returns-in-Err-Refused-clause-bad_words
returns-in-Err-Refused-clause-bad_words g c = λ memory. ((λ e. c.wanted_of.ensures.refused (c.in-Err-Refused.is ∙ ap Err c.in-Err-Refused.field-0-is)), (λ none. c.printed.ensures.same))

pub returns-in-Err-Memory-clause-quiet : goal.returns-in-Err-Memory-clause-quiet
returns-in-Err-Memory-clause-quiet g c = left_first AreQuiet _ tt

pub returns-in-Err-Memory-clause-told : goal.returns-in-Err-Memory-clause-told
returns-in-Err-Memory-clause-told g c = says_nothing c.args.here.now c.args.words.now c.args.zone.now c.args.now _ OutOfMemory _ _ _ _ _ _ _ (inr refl) refl (λ report e. absurd (cc)) c.printed-in-Err-Memory.ensures.same c.printed-in-Err-Memory.ensures.printed c.printed-in-Err-Memory.ensures.whole

pub returns-in-Err-Memory-clause-out : goal.returns-in-Err-Memory-clause-out
returns-in-Err-Memory-clause-out g c = none_done _ OutOfMemory _ c.printed-in-Err-Memory.ensures.same (λ report e. absurd (cc))

pub audit_at-run-requires : goal.audit_at-run-requires
audit_at-run-requires g c = wanted_fits c.args.here.now c.args.words.now c.in-Ok.wanted c.in-Ok.ensures.wanted

pub returns-clause-quiet : goal.returns-clause-quiet
returns-clause-quiet g c = left_quiet c.in-Ok.wanted c.args.zone.now _ _ _ _ _ c.audit_at-run.ensures.told

pub returns-clause-told : goal.returns-clause-told
returns-clause-told g c = says_so c.args.here.now c.args.words.now c.args.zone.now _ c.args.now (own_seconds c.args.now c.ranges.now.sfits) c.in-Ok.wanted c.audit_at-run.result _ _ _ _ _ _ _ _ _ c.requires c.in-Ok.ensures.wanted c.audit_at-run.ensures.told c.audit_at-run.ensures.clock c.audit_at-run.ensures.counted c.finish.ensures.answers

pub returns-clause-out : goal.returns-clause-out
returns-clause-out g c = ends_out c.audit_at-run.result _ _ _ _ _ _ _ _ c.audit_at-run.ensures.counted c.finish.ensures.answers

pub returns-clause-bad_words : goal.returns-clause-bad_words
returns-clause-bad_words g c = λ memory. ((λ e. absurd ((ends_not c.audit_at-run.result _ _ _ _ _ _ c.finish.ensures.answers).0 e)), (λ none. absurd (none_of _ c.in-Ok.wanted none c.in-Ok.ensures.wanted)))

pub returns-clause-never_held : goal.returns-clause-never_held
returns-clause-never_held g c = (ends_not c.audit_at-run.result _ _ _ _ _ _ c.finish.ensures.answers).1

pub returns-clause-nothing : goal.returns-clause-nothing
returns-clause-nothing g c = λ none. absurd (none_of _ c.in-Ok.wanted none c.in-Ok.ensures.wanted)
