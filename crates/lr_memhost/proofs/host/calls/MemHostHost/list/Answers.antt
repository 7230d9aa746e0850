use Rattle.std.proofs.Common.{inl, refl, sym, ap, subst, ◌∙◌, arith, []}
use Rattle.lr_host.specs.Told.{Are}
use Rattle.lr_memhost.specs.Acts.{CallTurned}
use Rattle.lr_memhost.proofs.TurnLemmas.{turned_left, turned_kept, turned_entry, like_same, still_can}
use Rattle.lr_memhost.proofs.CalmLemmas.{calm_how, calm_alike, not_some}
use Rattle.lr_memhost.proofs.host.calls.MemHostHost.list.Goals as goal

pub list-requires : goal.list-requires
list-requires c = still_can c.requires (subst (λ m. CallTurned (Are []) c.args.self.now m) (sym c.self.view_is) c.turn.ensures.turned)

pub returns-then-is_some-clause-turned : goal.returns-then-is_some-clause-turned
returns-then-is_some-clause-turned c =
    turned_kept _ c.turn.ensures.turned (like_same _ _ _ c.fail_call.ensures.counted refl refl refl refl refl) (ap (λ v. v.journal) c.fail_call.ensures.counted) refl

pub returns-then-is_some-clause-told : goal.returns-then-is_some-clause-told
returns-then-is_some-clause-told c = turned_left (returns-then-is_some-clause-turned c)

pub returns-clause-turned : goal.returns-clause-turned
returns-clause-turned c =
    let t : CallTurned (Are []) c.args.self.now _ = subst (λ m. CallTurned (Are []) c.args.self.now m) (sym c.self.view_is) c.turn.ensures.turned in
    turned_entry _ _ t (record { acts = refl; failing = refl; calls = refl; down = refl; starved = omega arith }) c.in-Ok.ensures.ok.0 tt c.in-Ok.ensures.ok.1 refl

pub returns-clause-told : goal.returns-clause-told
returns-clause-told c = turned_left (returns-clause-turned c)

pub returns-in_default-clause-turned : goal.returns-in_default-clause-turned
returns-in_default-clause-turned c =
    let t : CallTurned (Are []) c.args.self.now _ = subst (λ m. CallTurned (Are []) c.args.self.now m) (sym c.self.view_is) c.turn.ensures.turned in
    turned_kept _ t (record { acts = refl; failing = refl; calls = refl; down = refl; starved = omega arith }) c.in_default.ensures.err refl

pub returns-in_default-clause-told : goal.returns-in_default-clause-told
returns-in_default-clause-told c = turned_left (returns-in_default-clause-turned c)

pub returns-then-is_some-clause-calm : goal.returns-then-is_some-clause-calm
returns-then-is_some-clause-calm c = λ calm. absurd (not_some c.turn.result (c.turn.ensures.listed ∙ calm_how c.args.self.now calm) (sym c.is_some.ensures ∙ c.if-is_some.true))

pub returns-clause-calm : goal.returns-clause-calm
returns-clause-calm c = calm_alike (subst (λ m. CallTurned (Are []) c.args.self.now m) (sym c.self.view_is) c.turn.ensures.turned) (record { acts = refl; failing = refl; calls = refl; down = refl; starved = omega arith }) (ap (λ v. v.rest) c.self.view_is ∙ c.turn.ensures.rest) (inl (ap (λ v. v.faults) c.self.view_is ∙ c.turn.ensures.faults))

pub returns-in_default-clause-calm : goal.returns-in_default-clause-calm
returns-in_default-clause-calm c = calm_alike (subst (λ m. CallTurned (Are []) c.args.self.now m) (sym c.self.view_is) c.turn.ensures.turned) (record { acts = refl; failing = refl; calls = refl; down = refl; starved = omega arith }) (ap (λ v. v.rest) c.self.view_is ∙ c.turn.ensures.rest) (inl (ap (λ v. v.faults) c.self.view_is ∙ c.turn.ensures.faults))
