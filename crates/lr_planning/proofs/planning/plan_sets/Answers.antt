use Rattle.std.proofs.Common.{◌≤◌, ◌++◌, ◌∷◌, [], List, length, take, sym, ap, ◌∙◌, subst, rules, arith}
use Rattle.std.proofs.lemmas.List.{take_all}
use Rattle.lr_rules.specs.declared.rule.Rule.{Rule}
use Rattle.lr_plan.specs.declared.looks.LogLook.{LogLook}
use Rattle.lr_plan.specs.declared.looks.SetLooks.{SetLooks}
use Rattle.lr_plan.specs.Planned.{decision, decisions_of, log_plans, log_faults, set_plan, all_decisions, all_plans, all_faults, CanPlanSet}
use Rattle.lr_planning.proofs.Hindrances.{as_many, can_at, decisions_more, plans_more, faults_more, grown}
use Rattle.lr_planning.proofs.planning.plan_sets.Goals as goal

pub bounds-sets-at : goal.bounds-sets-at
bounds-sets-at c = omega (arith, c.loop-at-test.true, as_many c.args.rules.now c.args.sets.now c.requires)

pub add_set-requires : goal.add_set-requires
add_set-requires c = subst (CanPlanSet c.index-rules-at.result) (sym (c.as_slice.ensures ∙ ap (λ (s : SetLooks). s.logs) (sym c.index-sets-at.is)))
    (can_at c.args.rules.now c.args.sets.now c.loop-at.at c.index-rules-at.result c.index-sets-at.result c.requires c.loop-at-test.true c.index-rules-at.is c.index-sets-at.is)

pub loop-at-preserved : goal.loop-at-preserved
loop-at-preserved c =
    let many = as_many c.args.rules.now c.args.sets.now c.requires in
    record {
      decisions = grown c.args.draft.now.decisions.items c.loop-at.draft.decisions.items c.add_set.new.draft.decisions.items _ _ _ c.loop-at.invariant.decisions c.in_ok-add_set.ensures.decisions
          (decisions_more (decision c.args.state.now c.args.clock.now.now c.args.force) c.args.rules.now c.args.sets.now c.loop-at.at c.index-rules-at.result c.index-sets-at.result c.loop-at-test.true many c.index-rules-at.is c.index-sets-at.is
          ∙ ap (λ (ls : List LogLook). all_decisions (decision c.args.state.now c.args.clock.now.now c.args.force) (take c.loop-at.at c.args.rules.now) (take c.loop-at.at c.args.sets.now) ++ decisions_of (decision c.args.state.now c.args.clock.now.now c.args.force c.index-rules-at.result) ls) (sym (c.as_slice.ensures ∙ ap (λ (s : SetLooks). s.logs) (sym c.index-sets-at.is))));
      sets = grown c.args.draft.now.sets.items c.loop-at.draft.sets.items c.add_set.new.draft.sets.items _ _ _ c.loop-at.invariant.sets c.in_ok-add_set.ensures.sets
          (plans_more c.args.clock.now c.args.mailer.now (decision c.args.state.now c.args.clock.now.now c.args.force) c.args.rules.now c.args.sets.now c.loop-at.at c.index-rules-at.result c.index-sets-at.result c.loop-at-test.true many c.index-rules-at.is c.index-sets-at.is
          ∙ ap (λ (ls : List LogLook). all_plans c.args.clock.now c.args.mailer.now (decision c.args.state.now c.args.clock.now.now c.args.force) (take c.loop-at.at c.args.rules.now) (take c.loop-at.at c.args.sets.now) ++ set_plan c.index-rules-at.result (log_plans c.args.clock.now c.args.mailer.now c.index-rules-at.result (decision c.args.state.now c.args.clock.now.now c.args.force c.index-rules-at.result) ls) ∷ []) (sym (c.as_slice.ensures ∙ ap (λ (s : SetLooks). s.logs) (sym c.index-sets-at.is))));
      faults = grown c.args.draft.now.faults.items c.loop-at.draft.faults.items c.add_set.new.draft.faults.items _ _ _ c.loop-at.invariant.faults c.in_ok-add_set.ensures.faults
          (faults_more c.args.clock.now (decision c.args.state.now c.args.clock.now.now c.args.force) c.args.rules.now c.args.sets.now c.loop-at.at c.index-rules-at.result c.index-sets-at.result c.loop-at-test.true many c.index-rules-at.is c.index-sets-at.is
          ∙ ap (λ (ls : List LogLook). all_faults c.args.clock.now (decision c.args.state.now c.args.clock.now.now c.args.force) (take c.loop-at.at c.args.rules.now) (take c.loop-at.at c.args.sets.now) ++ log_faults c.args.clock.now c.index-rules-at.result (decision c.args.state.now c.args.clock.now.now c.args.force c.index-rules-at.result) ls) (sym (c.as_slice.ensures ∙ ap (λ (s : SetLooks). s.logs) (sym c.index-sets-at.is))));
    }

pub returns-clause-decisions : goal.returns-clause-decisions
returns-clause-decisions c =
    let end : length c.args.rules.now ≤ c.loop-at.at = search rules in
    let many = as_many c.args.rules.now c.args.sets.now c.requires in
    c.loop-at.invariant.decisions ∙ (ap (λ (rs : List Rule). c.args.draft.now.decisions.items ++ all_decisions (decision c.args.state.now c.args.clock.now.now c.args.force) rs (take c.loop-at.at c.args.sets.now)) (take_all c.loop-at.at c.args.rules.now end)
    ∙ ap (λ (ss : List SetLooks). c.args.draft.now.decisions.items ++ all_decisions (decision c.args.state.now c.args.clock.now.now c.args.force) c.args.rules.now ss) (take_all c.loop-at.at c.args.sets.now (omega (arith, end, many))))

pub returns-clause-sets : goal.returns-clause-sets
returns-clause-sets c =
    let end : length c.args.rules.now ≤ c.loop-at.at = search rules in
    let many = as_many c.args.rules.now c.args.sets.now c.requires in
    c.loop-at.invariant.sets ∙ (ap (λ (rs : List Rule). c.args.draft.now.sets.items ++ all_plans c.args.clock.now c.args.mailer.now (decision c.args.state.now c.args.clock.now.now c.args.force) rs (take c.loop-at.at c.args.sets.now)) (take_all c.loop-at.at c.args.rules.now end)
    ∙ ap (λ (ss : List SetLooks). c.args.draft.now.sets.items ++ all_plans c.args.clock.now c.args.mailer.now (decision c.args.state.now c.args.clock.now.now c.args.force) c.args.rules.now ss) (take_all c.loop-at.at c.args.sets.now (omega (arith, end, many))))

pub returns-clause-faults : goal.returns-clause-faults
returns-clause-faults c =
    let end : length c.args.rules.now ≤ c.loop-at.at = search rules in
    let many = as_many c.args.rules.now c.args.sets.now c.requires in
    c.loop-at.invariant.faults ∙ (ap (λ (rs : List Rule). c.args.draft.now.faults.items ++ all_faults c.args.clock.now (decision c.args.state.now c.args.clock.now.now c.args.force) rs (take c.loop-at.at c.args.sets.now)) (take_all c.loop-at.at c.args.rules.now end)
    ∙ ap (λ (ss : List SetLooks). c.args.draft.now.faults.items ++ all_faults c.args.clock.now (decision c.args.state.now c.args.clock.now.now c.args.force) c.args.rules.now ss) (take_all c.loop-at.at c.args.sets.now (omega (arith, end, many))))
