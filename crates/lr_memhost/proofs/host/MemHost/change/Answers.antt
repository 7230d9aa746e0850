use Rattle.std.proofs.Common.{inl, inr, refl, sym, ap, subst, ◌∙◌, arith, [], Some}
use Rattle.lr_host.specs.World.{past}
use Rattle.lr_host.specs.Told.{Are, Can}
use Rattle.lr_memhost.specs.Acts.{CallTurned, IsSure}
use Rattle.lr_memhost.proofs.TurnLemmas.{turned_kept, turned_entry, like, like_same, still_can, still_fits, of_made, sure_tools, sure_fits}
use Rattle.lr_memhost.proofs.CalmLemmas.{calm_alike, not_idle, not_some}
use Rattle.lr_memhost.proofs.host.MemHost.change.Goals as goal

pub leave-requires : goal.leave-requires
leave-requires c = still_fits c.args.entry c.requires (subst (λ m. CallTurned (Are []) c.args.self.now m) (sym c.self.view_is) c.turn.ensures.turned)

pub returns-then-is_idle-clause-turned : goal.returns-then-is_idle-clause-turned
returns-then-is_idle-clause-turned c = λ e is. turned_kept _ (c.turn.ensures.turned) (like_same _ _ _ c.fail_call.ensures.counted refl refl refl refl refl) (ap (λ v. v.journal) c.fail_call.ensures.counted) (inl refl)

pub returns-then-is_idle-clause-nothing : goal.returns-then-is_idle-clause-nothing
returns-then-is_idle-clause-nothing c = λ idle. turned_kept _ (c.turn.ensures.turned) (like_same _ _ _ c.fail_call.ensures.counted refl refl refl refl refl) (ap (λ v. v.journal) c.fail_call.ensures.counted) refl

pub returns-in_default-clause-turned : goal.returns-in_default-clause-turned
returns-in_default-clause-turned c = λ e is. turned_kept _ (subst (λ m. CallTurned (Are []) c.args.self.now m) (sym c.self.view_is) c.turn.ensures.turned) (like _ _ _ c.starve.ensures.counted c.starve.ensures.later.1 refl refl refl refl) (ap (λ v. v.journal) c.starve.ensures.counted ∙ c.in_default.ensures.err) (inl refl)

pub returns-in_default-clause-nothing : goal.returns-in_default-clause-nothing
returns-in_default-clause-nothing c = λ idle. turned_kept _ (subst (λ m. CallTurned (Are []) c.args.self.now m) (sym c.self.view_is) c.turn.ensures.turned) (like _ _ _ c.starve.ensures.counted c.starve.ensures.later.1 refl refl refl refl) (ap (λ v. v.journal) c.starve.ensures.counted ∙ c.in_default.ensures.err) refl

pub returns-then-is_some-clause-turned : goal.returns-then-is_some-clause-turned
returns-then-is_some-clause-turned c = λ e is.
    let r = of_made (λ x. IsSure x × Can (Some c.args.self.now.journal) x) c.args.entry e c.in-Ok.ensures.made c.requires is in
    let t : CallTurned (Are []) c.args.self.now _ = subst (λ m. CallTurned (Are []) c.args.self.now m) (sym c.self.view_is) c.turn.ensures.turned in
    turned_entry _ e t (like_same _ _ _ c.fail_call-then-is_some.ensures.counted refl refl refl refl refl) (ap (λ v. v.journal) c.fail_call-then-is_some.ensures.counted ∙ c.in-Ok.ensures.ok e is) (sure_tools e r.0) (sure_fits (past c.self.inside.disk) e r.0 (still_can r.1 t)) (inr refl)

pub returns-then-is_some-clause-effect : goal.returns-then-is_some-clause-effect
returns-then-is_some-clause-effect c = λ e is how.
    let r = of_made (λ x. IsSure x × Can (Some c.args.self.now.journal) x) c.args.entry e c.in-Ok.ensures.made c.requires is in
    let t : CallTurned (Are []) c.args.self.now _ = subst (λ m. CallTurned (Are []) c.args.self.now m) (sym c.self.view_is) c.turn.ensures.turned in
    inl (turned_entry _ e t (like_same _ _ _ c.fail_call-then-is_some.ensures.counted refl refl refl refl refl) (ap (λ v. v.journal) c.fail_call-then-is_some.ensures.counted ∙ c.in-Ok.ensures.ok e is) (sure_tools e r.0) (sure_fits (past c.self.inside.disk) e r.0 (still_can r.1 t)) refl)

pub returns-clause-turned : goal.returns-clause-turned
returns-clause-turned c = λ e is.
    let r = of_made (λ x. IsSure x × Can (Some c.args.self.now.journal) x) c.args.entry e c.in-Ok.ensures.made c.requires is in
    let t : CallTurned (Are []) c.args.self.now _ = subst (λ m. CallTurned (Are []) c.args.self.now m) (sym c.self.view_is) c.turn.ensures.turned in
    turned_entry _ e t (record { acts = refl; failing = refl; calls = refl; down = refl; starved = omega arith }) (c.in-Ok.ensures.ok e is) (sure_tools e r.0) (sure_fits (past c.self.inside.disk) e r.0 (still_can r.1 t)) refl

pub returns-then-is_idle-clause-calm : goal.returns-then-is_idle-clause-calm
returns-then-is_idle-clause-calm c = λ none. absurd (not_idle c.args.how none (sym c.is_idle.ensures ∙ c.if-is_idle.true))

pub returns-in_default-clause-calm : goal.returns-in_default-clause-calm
returns-in_default-clause-calm c = λ none.
    calm_alike (subst (λ m. CallTurned (Are []) c.args.self.now m) (sym c.self.view_is) c.turn.ensures.turned) (like _ _ _ c.starve.ensures.counted c.starve.ensures.later.1 refl refl refl refl) (ap (λ v. v.rest) c.starve.ensures.counted ∙ (ap (λ v. v.rest) c.self.view_is ∙ c.turn.ensures.rest))
    (inr (let e = ap (λ v. v.starved) c.starve.ensures.counted in let s = ap (λ v. v.starved) c.self.view_is in let l = c.turn.ensures.starved in omega arith))

pub returns-then-is_some-clause-calm : goal.returns-then-is_some-clause-calm
returns-then-is_some-clause-calm c = λ none. absurd (not_some c.args.how none (sym c.is_some.ensures ∙ c.if-is_some.true))

pub returns-clause-calm : goal.returns-clause-calm
returns-clause-calm c = λ none. calm_alike (subst (λ m. CallTurned (Are []) c.args.self.now m) (sym c.self.view_is) c.turn.ensures.turned) (record { acts = refl; failing = refl; calls = refl; down = refl; starved = omega arith }) (ap (λ v. v.rest) c.self.view_is ∙ c.turn.ensures.rest) (inl (ap (λ v. v.faults) c.self.view_is ∙ c.turn.ensures.faults))
