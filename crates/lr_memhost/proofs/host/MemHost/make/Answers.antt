use Rattle.std.proofs.Common.{inl, inr, refl, sym, ap, subst, ◌∙◌, arith, []}
use Rattle.lr_host.specs.declared.host.CallFault.{CallFault}
use Rattle.lr_host.specs.Told.{Are}
use Rattle.lr_memhost.specs.Acts.{CallTurned}
use Rattle.lr_memhost.proofs.TurnLemmas.{turned_new, turned_failed, turned_effect, named_new, some_entry, like, like_same, still_making}
use Rattle.lr_memhost.proofs.CalmLemmas.{calm_alike, not_idle, not_some}
use Rattle.lr_memhost.proofs.host.MemHost.make.Goals as goal

pub leave_new-requires : goal.leave_new-requires
leave_new-requires c = still_making c.args.entry c.args.path.now c.requires (subst (λ m. CallTurned (Are []) c.args.self.now m) (sym c.self.view_is) c.turn.ensures.turned)

pub returns-then-is_some-clause-turned : goal.returns-then-is_some-clause-turned
returns-then-is_some-clause-turned c = λ e is.
    turned_failed c.args.path.now c.in-Ok.made e _ (subst (λ m. CallTurned (Are []) c.args.self.now m) (sym c.self.view_is) c.turn.ensures.turned) (like_same _ _ _ c.fail_call-then-is_some.ensures.counted refl refl refl refl refl) (ap (λ v. v.journal) c.fail_call-then-is_some.ensures.counted) (c.in-Ok.ensures.ok e is)

pub returns-then-is_some-clause-effect : goal.returns-then-is_some-clause-effect
returns-then-is_some-clause-effect c = λ e is how.
    turned_effect c.args.path.now c.in-Ok.made e _ _ (subst (λ m. CallTurned (Are []) c.args.self.now m) (sym c.self.view_is) c.turn.ensures.turned) (like_same _ _ _ c.fail_call-then-is_some.ensures.counted refl refl refl refl refl) (ap (λ v. v.journal) c.fail_call-then-is_some.ensures.counted) (c.in-Ok.ensures.ok e is)

pub returns-clause-turned : goal.returns-clause-turned
returns-clause-turned c = λ e is. turned_new c.args.path.now c.in-Ok.made e CallFault (subst (λ m. CallTurned (Are []) c.args.self.now m) (sym c.self.view_is) c.turn.ensures.turned) (record { acts = refl; failing = refl; calls = refl; down = refl; starved = omega arith }) (c.in-Ok.ensures.ok e is)

pub returns-then-is_idle-clause-calm : goal.returns-then-is_idle-clause-calm
returns-then-is_idle-clause-calm c = λ none. absurd (not_idle c.args.how none (sym c.is_idle.ensures ∙ c.if-is_idle.true))

pub returns-in_default-clause-calm : goal.returns-in_default-clause-calm
returns-in_default-clause-calm c = λ none.
    calm_alike (subst (λ m. CallTurned (Are []) c.args.self.now m) (sym c.self.view_is) c.turn.ensures.turned) (like _ _ _ c.starve.ensures.counted c.starve.ensures.later.1 refl refl refl refl) (ap (λ v. v.rest) c.starve.ensures.counted ∙ (ap (λ v. v.rest) c.self.view_is ∙ c.turn.ensures.rest))
    (inr (let e = ap (λ v. v.starved) c.starve.ensures.counted in let s = ap (λ v. v.starved) c.self.view_is in let l = c.turn.ensures.starved in omega arith))

pub returns-then-is_some-clause-calm : goal.returns-then-is_some-clause-calm
returns-then-is_some-clause-calm c = λ none. absurd (not_some c.args.how none (sym c.is_some.ensures ∙ c.if-is_some.true))

pub returns-clause-calm : goal.returns-clause-calm
returns-clause-calm c = λ none. calm_alike (subst (λ m. CallTurned (Are []) c.args.self.now m) (sym c.self.view_is) c.turn.ensures.turned) (record { acts = refl; failing = refl; calls = refl; down = refl; starved = omega arith }) (ap (λ v. v.rest) c.self.view_is ∙ c.turn.ensures.rest) (inl (ap (λ v. v.faults) c.self.view_is ∙ c.turn.ensures.faults))

pub returns-clause-named : goal.returns-clause-named
returns-clause-named c = λ is. let m = some_entry c.args.entry in named_new c.args.path.now c.in-Ok.made m.0 _ _ (cc) (c.in-Ok.ensures.ok m.0 m.1)
