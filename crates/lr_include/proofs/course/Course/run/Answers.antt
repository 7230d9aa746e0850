use Rattle.std.proofs.Common.{rules}
use Rattle.lr_rules.proofs.Results.{on_err}
use Rattle.lr_include.proofs.Stages.{stayed, goes_on}
use Rattle.lr_include.proofs.Lacking.{lacks_on, lacks_behind}
use Rattle.lr_include.proofs.course.Course.run.Goals as goal

pub loop-turn-init : goal.loop-turn-init
loop-turn-init g c = record { told = λ s st. stayed c.args.self.now s _ _ st; counts = search rules }

pub loop-turn-preserved : goal.loop-turn-preserved
loop-turn-preserved g c = record {
  told = λ s st. goes_on s c.loop-turn.self c.step.new.self _ _ _ (c.loop-turn.invariant.told s st) c.in_ok-more.ensures.told;
  counts = search rules;
}

pub returns-then-not-more-clause-told : goal.returns-then-not-more-clause-told
returns-then-not-more-clause-told g c = λ s st. goes_on s c.loop-turn.self c.step.new.self _ _ _ (c.loop-turn.invariant.told s st) c.in_ok-more.ensures.told

pub returns-in_err-more-clause-lacking : goal.returns-in_err-more-clause-lacking
returns-in_err-more-clause-lacking g c = on_err c.from_residual.result _ (λ s st. lacks_on s c.loop-turn.self _ _ (c.loop-turn.invariant.told s st) c.in_err-more.ensures.lacking)

pub returns-clause-lacking : goal.returns-clause-lacking
returns-clause-lacking g c = λ s st. lacks_behind s c.loop-turn.self _ _ _ _ (c.loop-turn.invariant.told s st)
