use Rattle.std.proofs.Common.{inl, inr, refl, ap, ◌∙◌, Err}
use Rattle.lr_host.proofs.Left.{left_as, left_first}
use Rattle.lr_host.specs.Looking.{AreSights}
use Rattle.lr_report.specs.declared.outcome.Outcome.TheVariants.{BadWords, OutOfMemory}
use Rattle.lr_cli.specs.Faults.{answer_of, plan_told}
use Rattle.lr_cli.specs.Printed.{without_out}
use Rattle.lr_clock.proofs.Clocked.{own_seconds}
use Rattle.lr_cli.proofs.Called.{has_counted, has_clocked, not_counted, none_out, says_nothing, says_so, safe_alone, turns_safe}
use Rattle.lr_cli.proofs.Moved.{ends_lets, moved_alone, turns_moved}
use Rattle.lr_cli.proofs.Still.{left_dry}
use Rattle.lr_cli.proofs.top.logrotate.Goals as goal

pub returns-in-Err-Refused-clause-safe : goal.returns-in-Err-Refused-clause-safe
returns-in-Err-Refused-clause-safe g c = safe_alone c.args.zone.now c.args.now _

pub returns-in-Err-Refused-clause-told : goal.returns-in-Err-Refused-clause-told
returns-in-Err-Refused-clause-told g c = says_nothing c.args.here.now c.args.words.now c.args.zone.now c.args.now _ BadWords _ _ _ _ _ _ _ c.requires c.printed.ensures.same (inl refl) tt (ap without_out c.printed.ensures.same) refl c.printed.ensures.printed c.printed.ensures.whole

pub returns-in-Err-Refused-clause-counted : goal.returns-in-Err-Refused-clause-counted
returns-in-Err-Refused-clause-counted g c = not_counted _ BadWords _ _ (ap without_out c.printed.ensures.same) (inl refl)

pub returns-in-Err-Refused-clause-dry : goal.returns-in-Err-Refused-clause-dry
returns-in-Err-Refused-clause-dry g c = λ request asks dry. left_first AreSights _ tt

pub returns-in-Err-Memory-clause-safe : goal.returns-in-Err-Memory-clause-safe
returns-in-Err-Memory-clause-safe g c = safe_alone c.args.zone.now c.args.now _

pub returns-in-Err-Memory-clause-told : goal.returns-in-Err-Memory-clause-told
returns-in-Err-Memory-clause-told g c = says_nothing c.args.here.now c.args.words.now c.args.zone.now c.args.now _ OutOfMemory _ _ _ _ _ _ _ c.requires c.printed-in-Err-Memory.ensures.same (inr refl) tt (ap without_out c.printed-in-Err-Memory.ensures.same) refl c.printed-in-Err-Memory.ensures.printed c.printed-in-Err-Memory.ensures.whole

pub returns-in-Err-Memory-clause-counted : goal.returns-in-Err-Memory-clause-counted
returns-in-Err-Memory-clause-counted g c = not_counted _ OutOfMemory _ _ (ap without_out c.printed-in-Err-Memory.ensures.same) (inr refl)

pub returns-in-Err-Memory-clause-dry : goal.returns-in-Err-Memory-clause-dry
returns-in-Err-Memory-clause-dry g c = λ request asks dry. left_first AreSights _ tt

pub returns-in-Err-Refused-clause-bad_words : goal.returns-in-Err-Refused-clause-bad_words
returns-in-Err-Refused-clause-bad_words g c = λ memory. ((λ e. c.request_of.ensures.refused (c.in-Err-Refused.is ∙ ap Err c.in-Err-Refused.field-0-is)), (λ none. c.printed.ensures.same))

pub finish-requires-clause-no_out : goal.finish-requires-clause-no_out
finish-requires-clause-no_out g c = none_out c.run_at-run.result _ _ c.run_at-run.ensures.counted

pub returns-clause-safe : goal.returns-clause-safe
returns-clause-safe g c = turns_safe c.args.zone.now _ c.args.now (own_seconds c.args.now c.ranges.now.sfits) c.run_at-run.ensures.shape

pub returns-clause-told : goal.returns-clause-told
returns-clause-told g c = says_so c.args.here.now c.args.words.now c.args.zone.now _ c.args.now c.in-Ok.request (plan_told c.run_at-run.result) _ (answer_of c.run_at-run.result) _ _ _ _ _ _ _ _
    c.requires (own_seconds c.args.now c.ranges.now.sfits) c.finish.ensures.answer c.in-Ok.ensures.request c.run_at-run.ensures.told (has_counted c.run_at-run.result _ _ _ c.finish.ensures.answer c.run_at-run.ensures.counted) c.finish.ensures.prints

pub returns-clause-counted : goal.returns-clause-counted
returns-clause-counted g c = has_counted c.run_at-run.result _ _ _ c.finish.ensures.answer c.run_at-run.ensures.counted

pub returns-clause-clock : goal.returns-clause-clock
returns-clause-clock g c = λ report done. has_clocked c.args.zone.now _ c.args.now c.run_at-run.result _ report (own_seconds c.args.now c.ranges.now.sfits) c.finish.ensures.answer done c.run_at-run.ensures.clock

pub returns-clause-dry : goal.returns-clause-dry
returns-clause-dry g c = λ request asks dry. let s = returns-clause-told g c in left_dry c.args.here.now c.args.words.now c.args.zone.now c.args.now request s.plan _ s.came asks dry s.shown

pub returns-in-Err-Refused-clause-moved : goal.returns-in-Err-Refused-clause-moved
returns-in-Err-Refused-clause-moved g c = moved_alone c.args.zone.now c.args.now _

pub returns-in-Err-Memory-clause-moved : goal.returns-in-Err-Memory-clause-moved
returns-in-Err-Memory-clause-moved g c = moved_alone c.args.zone.now c.args.now _

pub returns-clause-moved : goal.returns-clause-moved
returns-clause-moved g c = turns_moved c.args.zone.now _ c.args.now (own_seconds c.args.now c.ranges.now.sfits) c.run_at-run.ensures.shape
    (left_as c.run_at-run.ensures.told.shows (λ ts e. ends_lets c.in-Ok.request c.args.zone.now _ (plan_told c.run_at-run.result) (answer_of c.run_at-run.result) c.run_at-run.ensures.told.came ts e))
