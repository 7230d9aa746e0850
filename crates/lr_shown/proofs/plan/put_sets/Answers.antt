use Rattle.std.proofs.Common.{rules, ◌≡◌, map, Ok, Err}
use Rattle.std.specs.List.{flat_map}
use Rattle.lr_plan.specs.Steps.{steps_of_set}
use Rattle.lr_shown.specs.Lines.{set_lines}
use Rattle.lr_shown.proofs.Joined.{puts_all, puts_as, puts_broken, puts_next}
use Rattle.lr_shown.proofs.Texts.{texts_map}
use Rattle.lr_shown.proofs.plan.put_sets.Goals as goal

pub returns-in_err-put_set : goal.returns-in_err-put_set
returns-in_err-put_set g c =
    let failed : c.from_residual.result ≡ Err c.in_err-put_set.field-0.0 = search rules in
    puts_as _ (flat_map set_lines (map steps_of_set c.args.sets.now)) c.from_residual.result _ _ _ _ (texts_map set_lines steps_of_set c.args.sets.now)
    (puts_broken (λ set. set_lines (steps_of_set set)) c.args.sets.now c.loop-set.set-index c.set-item.result c.in_err-put_set.field-0.0 c.in_err-put_set.field-0.0 c.from_residual.result _ _ _ _ _ _ c.set-item.is c.loop-set-test.true failed c.loop-set.invariant c.in_err-put_set.ensures)

pub loop-set-preserved : goal.loop-set-preserved
loop-set-preserved g c = puts_next (λ set. set_lines (steps_of_set set)) c.args.sets.now c.loop-set.set-index c.set-item.result _ _ _ _ _ _ c.set-item.is c.loop-set-test.true c.loop-set.invariant c.in_ok-put_set.ensures

pub returns : goal.returns
returns g c = puts_as _ (flat_map set_lines (map steps_of_set c.args.sets.now)) (Ok tt) _ _ _ _ (texts_map set_lines steps_of_set c.args.sets.now) (puts_all (λ set. set_lines (steps_of_set set)) c.args.sets.now c.loop-set.set-index _ _ _ _ c.loop-set-test.false c.loop-set.invariant)
