use Rattle.std.proofs.Common.{◌++◌, List, sym, ap, ◌∙◌}
use Rattle.std.proofs.lemmas.List.{append-nil}
use Rattle.lr_rules.specs.declared.fault.Fault.{Fault}
use Rattle.lr_plan.specs.declared.plan.LogPlan.{LogPlan}
use Rattle.lr_plan.specs.Planned.{or_else, unfinished}
use Rattle.lr_planning.proofs.Hindrances.{where_ok, plans_there, plans_none}
use Rattle.lr_planning.proofs.Standing.{can_stand, ready_stands, free_stands, fault_stands}
use Rattle.lr_planning.proofs.planning.add_standing.Goals as goal

pub make_ready-requires-clause-look : goal.make_ready-requires-clause-look
make_ready-requires-clause-look c = can_stand c.args.rule.now c.args.look.now c.args.stand.now c.requires.stand c.requires.look

pub returns-in-Ok-clause-plans : goal.returns-in-Ok-clause-plans
returns-in-Ok-clause-plans c =
    let rule = c.args.rule.now in
    let look = c.args.look.now in
    let ready = ready_stands rule look c.args.stand.now c.requires.stand c.args.clock.now c.in-Ok.ready c.in-Ok.ensures.ready in
    let free = free_stands rule look c.args.stand.now c.requires.stand c.args.clock.now c.in-Ok.ensures.free in
    where_ok c.add_ready.result c.add_ready.ensures.plans (λ added. added ∙ ap (λ (xs : List LogPlan). c.args.plans.now.items ++ xs) (plans_there c.args.clock.now c.args.mailer.now rule look c.in-Ok.ready ready free))

pub returns-in-Ok-clause-faults : goal.returns-in-Ok-clause-faults
returns-in-Ok-clause-faults c =
    where_ok c.add_ready.result c.add_ready.ensures.faults
    (λ added. added ∙ ap (λ (xs : List Fault). c.args.faults.now.items ++ or_else xs (unfinished c.args.rule.now.way c.args.look.now.path c.args.look.now.tmp)) (sym (free_stands c.args.rule.now c.args.look.now c.args.stand.now c.requires.stand c.args.clock.now c.in-Ok.ensures.free)))

pub returns-in_ok-push-in-Err-clause-plans : goal.returns-in_ok-push-in-Err-clause-plans
returns-in_ok-push-in-Err-clause-plans c =
    let rule = c.args.rule.now in
    let look = c.args.look.now in
    let told = fault_stands rule look c.args.stand.now c.requires.stand c.args.clock.now c.in-Err.stop c.in_ok-hindrance-in-Err.field-0 c.in-Err.ensures.hindered (sym c.in_ok-hindrance-in-Err.was ∙ c.hindrance.ensures) in
    sym (append-nil c.args.plans.now.items) ∙ ap (λ (xs : List LogPlan). c.args.plans.now.items ++ xs) (sym (plans_none c.args.clock.now c.args.mailer.now rule look c.in_ok-hindrance-in-Err.field-0 told))

pub returns-in_ok-push-in-Err-clause-faults : goal.returns-in_ok-push-in-Err-clause-faults
returns-in_ok-push-in-Err-clause-faults c =
    c.in_ok-push-in-Err.ensures.items ∙ ap (λ (xs : List Fault). c.args.faults.now.items ++ or_else xs (unfinished c.args.rule.now.way c.args.look.now.path c.args.look.now.tmp))
    (sym (fault_stands c.args.rule.now c.args.look.now c.args.stand.now c.requires.stand c.args.clock.now c.in-Err.stop c.in_ok-hindrance-in-Err.field-0 c.in-Err.ensures.hindered (sym c.in_ok-hindrance-in-Err.was ∙ c.hindrance.ensures)))
