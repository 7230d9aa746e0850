use Rattle.std.proofs.Common.{[], ◌∷◌, ◌+◌, ◌∙◌, ℕ, suc, arith, sym, ap}
use Rattle.std.proofs.lemmas.List.{append-nil}
use Rattle.lr_nights.specs.Month.{night_of, behind_night, nights_from}
use Rattle.lr_nights.proofs.Fronts.{moved}
use Rattle.lr_nights.proofs.month.draw_each.Goals as goal

pub loop-night-init : goal.loop-night-init
loop-night-init c = λ left e. rw c.new-nights.ensures.items (ap (λ (k : ℕ). nights_from c.args.logs 1 k c.args.x.now) (omega arith))

pub loop-night-preserved : goal.loop-night-preserved
loop-night-preserved c = λ left e. rw (c.in_ok-push.ensures.items, c.in_ok-draw_night.ensures.night, c.in_ok-draw_night.ensures.next) (moved c.loop-night.nights.items (night_of c.args.logs c.loop-night.night c.loop-night.x ∷ []) (nights_from c.args.logs (c.loop-night.night + 1) left (behind_night c.args.logs c.loop-night.x)) _ (c.loop-night.invariant (suc left) (omega arith)))

pub returns : goal.returns
returns c = sym (append-nil c.loop-night.nights.items) ∙ c.loop-night.invariant 0 (omega arith)
