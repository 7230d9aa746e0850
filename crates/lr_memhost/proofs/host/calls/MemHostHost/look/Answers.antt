use Rattle.std.proofs.Common.{inl, inr, refl, sym, ap, subst, ◌∙◌, arith, []}
use Rattle.lr_host.specs.Told.{Are}
use Rattle.lr_memhost.specs.Acts.{CallTurned}
use Rattle.lr_memhost.proofs.TurnLemmas.{turned_left, turned_kept, turned_entry, like, like_same}
use Rattle.lr_memhost.proofs.CalmLemmas.{calm_how, calm_alike, not_some}
use Rattle.lr_memhost.proofs.host.calls.MemHostHost.look.Goals as goal

pub returns-then-is_some-clause-turned : goal.returns-then-is_some-clause-turned
returns-then-is_some-clause-turned c =
    turned_kept _ c.turn.ensures.turned (like_same _ _ _ c.fail_call.ensures.counted refl refl refl refl refl) (ap (λ v. v.journal) c.fail_call.ensures.counted) refl

pub returns-then-is_some-clause-told : goal.returns-then-is_some-clause-told
returns-then-is_some-clause-told c = turned_left (returns-then-is_some-clause-turned c)

pub returns-in-Ok-clause-turned : goal.returns-in-Ok-clause-turned
returns-in-Ok-clause-turned c =
    turned_entry _ _ (subst (λ m. CallTurned (Are []) c.args.self.now m) (sym c.self.view_is) c.turn.ensures.turned) (record { acts = refl; failing = refl; calls = refl; down = refl; starved = omega arith }) c.in-Ok.ensures.0 tt c.in-Ok.ensures.1 refl

pub returns-in-Ok-clause-told : goal.returns-in-Ok-clause-told
returns-in-Ok-clause-told c = turned_left (returns-in-Ok-clause-turned c)

pub returns-in-Err-clause-turned : goal.returns-in-Err-clause-turned
returns-in-Err-clause-turned c =
    turned_kept _ (subst (λ m. CallTurned (Are []) c.args.self.now m) (sym c.self.view_is) c.turn.ensures.turned) (like _ _ _ c.starve.ensures.counted c.starve.ensures.later.1 refl refl refl refl)
    (ap (λ v. v.journal) c.starve.ensures.counted ∙ c.in-Err.ensures) refl

pub returns-in-Err-clause-told : goal.returns-in-Err-clause-told
returns-in-Err-clause-told c = turned_left (returns-in-Err-clause-turned c)

pub returns-then-is_some-clause-calm : goal.returns-then-is_some-clause-calm
returns-then-is_some-clause-calm c = λ calm. absurd (not_some c.turn.result (c.turn.ensures.listed ∙ calm_how c.args.self.now calm) (sym c.is_some.ensures ∙ c.if-is_some.true))

pub returns-in-Ok-clause-calm : goal.returns-in-Ok-clause-calm
returns-in-Ok-clause-calm c = calm_alike (subst (λ m. CallTurned (Are []) c.args.self.now m) (sym c.self.view_is) c.turn.ensures.turned) (record { acts = refl; failing = refl; calls = refl; down = refl; starved = omega arith }) (ap (λ v. v.rest) c.self.view_is ∙ c.turn.ensures.rest) (inl (ap (λ v. v.faults) c.self.view_is ∙ c.turn.ensures.faults))

pub returns-in-Err-clause-calm : goal.returns-in-Err-clause-calm
returns-in-Err-clause-calm c =
    calm_alike (subst (λ m. CallTurned (Are []) c.args.self.now m) (sym c.self.view_is) c.turn.ensures.turned) (like _ _ _ c.starve.ensures.counted c.starve.ensures.later.1 refl refl refl refl) (ap (λ v. v.rest) c.starve.ensures.counted ∙ (ap (λ v. v.rest) c.self.view_is ∙ c.turn.ensures.rest))
    (inr (let e = ap (λ v. v.starved) c.starve.ensures.counted in let s = ap (λ v. v.starved) c.self.view_is in let l = c.turn.ensures.starved in omega arith))
