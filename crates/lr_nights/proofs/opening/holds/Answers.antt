use Rattle.std.proofs.Common.{◌+◌, [], ◌∷◌, ◌∙◌, suc, arith, sym}
use Rattle.std.proofs.lemmas.List.{append-nil}
use Rattle.lr_nights.specs.Opening.{holds_from}
use Rattle.lr_nights.proofs.Fronts.{moved}
use Rattle.lr_nights.proofs.opening.holds.Goals as goal

pub loop-log-preserved : goal.loop-log-preserved
loop-log-preserved c = λ left e. rw (c.in_ok-push.ensures.items, c.hold.ensures) (moved c.loop-log.holds.items ((c.loop-log.log, c.loop-log.log) ∷ []) (holds_from (c.loop-log.log + 1) left) _ (c.loop-log.invariant (suc left) (omega arith)))

pub returns : goal.returns
returns c = sym (append-nil c.loop-log.holds.items) ∙ c.loop-log.invariant 0 (omega arith)
