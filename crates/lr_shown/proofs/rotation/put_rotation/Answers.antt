use Rattle.std.proofs.Common.{rules, ◌≡◌, ◌++◌, ◌∷◌, Err, List, map}
use Rattle.lr_plan.specs.declared.step.Step.{Step}
use Rattle.lr_plan.specs.declared.step.Step.TheVariants as step
use Rattle.lr_plan.specs.declared.plan.LogPlan.{LogPlan}
use Rattle.lr_plan.specs.Steps.{directory, made_anew, move, removals, rotation_of, transfer}
use Rattle.lr_shown.specs.Lines.{lines_of}
use Rattle.lr_shown.proofs.Joined.{puts_as, puts_on, puts_stop}
use Rattle.lr_shown.proofs.Texts.{regrouped}
use Rattle.lr_shown.proofs.rotation.put_rotation.Goals as goal

-- what comes before the log's own way, and that
abbrev chain : LogPlan → List Step
chain log = removals log.ready.leftovers ++ (directory log.ready.dir ++ map move log.ready.moves)

abbrev own_way : LogPlan → List Step
own_way log = transfer log.ready.log log.ready.target log.job log.aside ++ (step.Rotated log.log ∷ made_anew log.ready.make log.log log.job log.aside)

pub returns-in_err-put_chain : goal.returns-in_err-put_chain
returns-in_err-put_chain g c =
    let failed : c.from_residual.result ≡ Err c.in_err-put_chain.field-0.0 = search rules in
    puts_as _ (lines_of (rotation_of c.args.log.now)) c.from_residual.result _ _ _ _ (regrouped (removals c.args.log.now.ready.leftovers) (directory c.args.log.now.ready.dir) (map move c.args.log.now.ready.moves) (own_way c.args.log.now))
    (puts_stop (lines_of (chain c.args.log.now)) (lines_of (own_way c.args.log.now)) c.in_err-put_chain.field-0.0 c.in_err-put_chain.field-0.0 c.from_residual.result _ _ _ _ failed c.in_err-put_chain.ensures)

pub returns : goal.returns
returns g c =
    puts_as _ (lines_of (rotation_of c.args.log.now)) c.put_own_way.result _ _ _ _ (regrouped (removals c.args.log.now.ready.leftovers) (directory c.args.log.now.ready.dir) (map move c.args.log.now.ready.moves) (own_way c.args.log.now))
    (puts_on (lines_of (chain c.args.log.now)) (lines_of (own_way c.args.log.now)) c.put_own_way.result _ _ _ _ _ _ c.in_ok-put_chain.ensures c.put_own_way.ensures)
