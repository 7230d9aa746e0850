use Rattle.std.proofs.Common.{◌∙◌, All, subst, refl}
use Rattle.std.proofs.lemmas.Result.{IfOk-weaker}
use Rattle.lr_nights.specs.Month.{drawn_nights, HasStartAt}
use Rattle.lr_nights.specs.Trial.{HasStarts, IsTrialSummary}
use Rattle.lr_nights.proofs.trial.month.Goals as goal

pub returns-clause-nights : goal.returns-clause-nights
returns-clause-nights g c =
    let drawn : All (λ night. HasStartAt night.seconds c.journal.result.now.entries) (drawn_nights c.args.logs) = subst (All (λ night. HasStartAt night.seconds c.journal.result.now.entries)) (c.deref-2.ensures.value ∙ c.in_ok-nights.ensures) (c.if-not-is_lived.ensures.nights refl) in
    let starts : HasStarts c.args.logs c.live.new.host.journal = subst (HasStarts c.args.logs) c.journal.ensures.is drawn in
    IfOk-weaker c.summary_of.result (IsTrialSummary c.args.logs c.live.new.host.journal) (λ _. HasStarts c.args.logs c.live.new.host.journal) (λ _ _. starts) c.summary_of.ensures
