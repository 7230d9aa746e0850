use Rattle.std.specs.Prelude.{All}
use Rattle.std.proofs.Common.{◌≡◌, ◌≤◌, ◌++◌, List, length, take, sym, ap, ◌∙◌, subst, rules, arith}
use Rattle.std.proofs.lemmas.List.{take_all}
use Rattle.lr_rules.specs.declared.rule.Rule.{Rule}
use Rattle.lr_plan.specs.declared.looks.LogLook.{LogLook}
use Rattle.lr_plan.specs.declared.looks.SetLooks.{SetLooks}
use Rattle.lr_plan.specs.Planned.{CanPlan}
use Rattle.lr_planning.proofs.Hindrances.{as_many}
use Rattle.lr_audited.specs.Lines.{rule_lines, sets_lines}
use Rattle.lr_audited.proofs.Telling.{can_at, sets_more}
use Rattle.lr_audited.proofs.lines.add_sets.Goals as goal

pub bounds-sets-at : goal.bounds-sets-at
bounds-sets-at c = omega (arith, c.loop-at-test.true, as_many c.args.rules.now c.args.sets.now c.requires)

pub add_set-requires : goal.add_set-requires
add_set-requires c = subst (All CanPlan) (sym (c.as_slice.ensures ∙ ap (λ (s : SetLooks). s.logs) (sym c.index-sets-at.is)))
    (can_at c.args.rules.now c.args.sets.now c.loop-at.at c.index-sets-at.result c.requires c.loop-at-test.true c.index-sets-at.is)

pub loop-at-preserved : goal.loop-at-preserved
loop-at-preserved c = record {
  lines = sets_more c.args.rules.now c.args.sets.now c.loop-at.at c.index-rules-at.result c.index-sets-at.result c.args.lines.now.items c.loop-at.lines.items c.add_set.new.lines.items c.loop-at-test.true (as_many c.args.rules.now c.args.sets.now c.requires) c.index-rules-at.is c.index-sets-at.is c.loop-at.invariant.lines
      (subst (λ (ls : List LogLook). c.add_set.new.lines.items ≡ c.loop-at.lines.items ++ rule_lines c.index-rules-at.result ls) (c.as_slice.ensures ∙ ap (λ (s : SetLooks). s.logs) (sym c.index-sets-at.is)) c.in_ok-add_set.ensures);
}

pub returns : goal.returns
returns c =
    let end : length c.args.rules.now ≤ c.loop-at.at = search rules in
    let many = as_many c.args.rules.now c.args.sets.now c.requires in
    c.loop-at.invariant.lines ∙ (ap (λ (rs : List Rule). c.args.lines.now.items ++ sets_lines rs (take c.loop-at.at c.args.sets.now)) (take_all c.loop-at.at c.args.rules.now end)
    ∙ ap (λ (ss : List SetLooks). c.args.lines.now.items ++ sets_lines c.args.rules.now ss) (take_all c.loop-at.at c.args.sets.now (omega (arith, end, many))))
