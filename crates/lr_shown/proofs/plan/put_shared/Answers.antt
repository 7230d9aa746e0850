use Rattle.std.proofs.Common.{rules, ◌≡◌, ◌++◌, Err}
use Rattle.std.specs.List.{flat_map}
use Rattle.lr_rules.specs.declared.fault.Phase.TheVariants as phase
use Rattle.lr_plan.specs.Steps.{program, retirement_of, rotation_of, shared_steps}
use Rattle.lr_shown.specs.Lines.{lines_of}
use Rattle.lr_shown.proofs.Joined.{puts_as, puts_on, puts_stop}
use Rattle.lr_shown.proofs.Texts.{regrouped}
use Rattle.lr_shown.proofs.plan.put_shared.Goals as goal

pub returns-in_err-put_shared_front : goal.returns-in_err-put_shared_front
returns-in_err-put_shared_front g c =
    let failed : c.from_residual.result ≡ Err c.in_err-put_shared_front.field-0.0 = search rules in
    puts_as _ (lines_of (shared_steps c.args.set.now)) c.from_residual.result _ _ _ _ (regrouped (program phase.First c.args.set.now.first) (program phase.Pre c.args.set.now.pre) (flat_map rotation_of c.args.set.now.logs) (program phase.Post c.args.set.now.post ++ (flat_map retirement_of c.args.set.now.logs ++ program phase.Last c.args.set.now.last)))
    (puts_stop (lines_of (program phase.First c.args.set.now.first ++ (program phase.Pre c.args.set.now.pre ++ flat_map rotation_of c.args.set.now.logs))) (lines_of (program phase.Post c.args.set.now.post ++ (flat_map retirement_of c.args.set.now.logs ++ program phase.Last c.args.set.now.last))) c.in_err-put_shared_front.field-0.0 c.in_err-put_shared_front.field-0.0 c.from_residual.result _ _ _ _ failed c.in_err-put_shared_front.ensures)

pub returns : goal.returns
returns g c =
    puts_as _ (lines_of (shared_steps c.args.set.now)) c.put_shared_rest.result _ _ _ _ (regrouped (program phase.First c.args.set.now.first) (program phase.Pre c.args.set.now.pre) (flat_map rotation_of c.args.set.now.logs) (program phase.Post c.args.set.now.post ++ (flat_map retirement_of c.args.set.now.logs ++ program phase.Last c.args.set.now.last)))
    (puts_on (lines_of (program phase.First c.args.set.now.first ++ (program phase.Pre c.args.set.now.pre ++ flat_map rotation_of c.args.set.now.logs))) (lines_of (program phase.Post c.args.set.now.post ++ (flat_map retirement_of c.args.set.now.logs ++ program phase.Last c.args.set.now.last))) c.put_shared_rest.result _ _ _ _ _ _ c.in_ok-put_shared_front.ensures c.put_shared_rest.ensures)
