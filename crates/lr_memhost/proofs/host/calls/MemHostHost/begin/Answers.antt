use Rattle.std.proofs.Common.{true, ap, ◌∙◌, [], ◌∷◌, refl, sym, subst, arith}
use Rattle.lr_host.specs.declared.entry.Entry.TheVariants as entry
use Rattle.lr_host.specs.Told.{Are}
use Rattle.lr_memhost.specs.Acts.{CallTurned}
use Rattle.lr_memhost.proofs.TurnLemmas.{turned_left, turned_as, turned_rest, failed_where}
use Rattle.lr_memhost.proofs.CalmLemmas.{calm_how, calm_lock, with_mine}
use Rattle.lr_memhost.proofs.host.calls.MemHostHost.begin.Goals as goal

pub returns-in_err-change-clause-turned : goal.returns-in_err-change-clause-turned
returns-in_err-change-clause-turned c =
    let e = entry.Starts c.args.state.now c.args.now.now c.args.rules.now in
    turned_as _ (failed_where _ e c.from_residual.ensures.0) (c.in_err-change.ensures.turned e c.starts-entry.ensures)

pub returns-in_err-change-clause-told : goal.returns-in_err-change-clause-told
returns-in_err-change-clause-told c = turned_left (returns-in_err-change-clause-turned c)

pub returns-clause-turned : goal.returns-clause-turned
returns-clause-turned c =
    let e = entry.Starts c.args.state.now c.args.now.now c.args.rules.now in
    turned_rest _ (subst (λ m. CallTurned (Are (e ∷ [])) c.args.self.now m) (sym c.self-2.view_is) (c.in_ok-change.ensures.turned e c.starts-entry.ensures))
    (record { acts = refl; failing = refl; calls = refl; down = refl; starved = omega arith }) refl

pub returns-clause-told : goal.returns-clause-told
returns-clause-told c = turned_left (returns-clause-turned c)

pub returns-then-is_locked-clause-calm : goal.returns-then-is_locked-clause-calm
returns-then-is_locked-clause-calm c = λ mine calm. absurd (c.is_locked.ensures.0 c.if-is_locked.true (mine, calm.free))

pub returns-in_err-change-clause-calm : goal.returns-in_err-change-clause-calm
returns-in_err-change-clause-calm c = λ mine calm. c.change.ensures.calm (c.how-how.ensures ∙ calm_how c.args.self.now calm) calm

pub returns-clause-calm : goal.returns-clause-calm
returns-clause-calm c = λ mine. calm_lock true (returns-clause-turned c) (ap (λ v. with_mine true v.rest) c.self-2.view_is ∙ ap (with_mine true) c.change.ensures.rest) (ap (λ v. v.faults) c.self-2.view_is ∙ c.in_ok-change.ensures.steady.0)
