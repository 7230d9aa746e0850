use Rattle.std.proofs.Common.{refl, true, false, subst, sym, ◌≡◌, rules, [], ◌∷◌}
use Rattle.lr_rules.specs.declared.fault.CallKind.TheVariants as call
use Rattle.lr_rules.specs.declared.fault.Fault.TheVariants as fault
use Rattle.lr_host.specs.declared.entry.Entry.TheVariants as entry
use Rattle.lr_plan.specs.declared.step.Step.TheVariants as step
use Rattle.lr_plan.specs.Steps.{step_if}
use Rattle.lr_writing.specs.Writes.{ComesTo}
use Rattle.lr_writing.proofs.Coming.{comes_one, comes_not, comes_nothing}
use Rattle.lr_writing.proofs.part.clear_part.Goals as goal

pub returns-then-not-stale : goal.returns-then-not-stale
returns-then-not-stale g c = let no : c.args.stale ≡ false = search rules in
    subst (λ b. ComesTo (step_if b (step.Removes c.args.part.now)) [] (g.H.Host.told c.args.host.now) (g.H.Host.told c.args.host.now) (g.H.Host.counts c.args.host.now) (g.H.Host.counts c.args.host.now)) (sym no) (comes_nothing (g.H.Host.told c.args.host.now) (g.H.Host.counts c.args.host.now))

pub returns-in-Ok : goal.returns-in-Ok
returns-in-Ok g c = let x = c.args.part.now in let yes : c.args.stale ≡ true = search rules in
    subst (λ b. ComesTo (step_if b (step.Removes x)) [] (g.H.Host.told c.args.host.now) (g.H.Host.told c.unlink.new.self) (g.H.Host.counts c.args.host.now) (g.H.Host.counts c.unlink.new.self)) (sym yes)
    (comes_one (step.Removes x) (entry.Unlinks x) refl (λ ts t. t) tt c.in-Ok.ensures.told c.in-Ok.ensures.counts)

pub returns-in-Err : goal.returns-in-Err
returns-in-Err g c = let x = c.args.part.now in let yes : c.args.stale ≡ true = search rules in
    subst (λ b. ComesTo (step_if b (step.Removes x)) (fault.Call call.Unlink x ∷ []) (g.H.Host.told c.args.host.now) (g.H.Host.told c.unlink.new.self) (g.H.Host.counts c.args.host.now) (g.H.Host.counts c.unlink.new.self)) (sym yes)
    (comes_not (step.Removes x) (fault.Call call.Unlink x) (entry.Unlinks x) (λ ts t. (refl, t)) tt c.in-Err.ensures.told c.in-Err.ensures.cause c.in-Err.ensures.counts)
