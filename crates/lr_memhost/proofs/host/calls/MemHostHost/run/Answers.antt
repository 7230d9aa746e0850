use Rattle.std.proofs.Common.{inr, refl, sym, ap, subst, ◌∙◌, [], ◌∷◌}
use Rattle.std.specs.Prelude.{option_copied}
use Rattle.lr_host.specs.declared.entry.Entry.{Entry}
use Rattle.lr_host.specs.declared.entry.Entry.TheVariants as entry
use Rattle.lr_host.specs.World.{past}
use Rattle.lr_host.specs.Told.{Are}
use Rattle.lr_memhost.specs.Acts.{CallTurned, first_end, after_end}
use Rattle.lr_memhost.proofs.TurnLemmas.{turned_left, turned_entry, turned_as, turned_rest, like_same, still_can, made_fits}
use Rattle.lr_memhost.proofs.CalmLemmas.{calm_how, calm_ran, not_idle, not_some}
use Rattle.lr_memhost.proofs.host.calls.MemHostHost.run.Goals as goal

pub leave-requires : goal.leave-requires
leave-requires c =
    let t : CallTurned (Are []) c.args.self.now _ = subst (λ m. CallTurned (Are []) c.args.self.now m) (sym c.self.view_is) c.turn-how.ensures.turned in
    made_fits (past c.self.inside.disk) c.runs-entry.result (entry.Runs c.args.program.now c.args.args.now (option_copied c.args.input) c.next_end-end.result) c.runs-entry.ensures (still_can c.requires t)

pub returns-then-is_some-clause-turned : goal.returns-then-is_some-clause-turned
returns-then-is_some-clause-turned c =
    let e : Entry = entry.Runs c.args.program.now c.args.args.now (option_copied c.args.input) c.next_end-end.result in
    let t : CallTurned (Are []) c.args.self.now _ = subst (λ m. CallTurned (Are []) c.args.self.now m) (sym c.self.view_is) c.turn-how.ensures.turned in
    let ran : CallTurned (Are (e ∷ [])) c.args.self.now c.count_end.new.self =
    turned_entry _ e t (like_same _ _ _ c.count_end.ensures refl refl refl refl refl) (ap (λ v. v.journal) c.count_end.ensures ∙ c.in-Ok.ensures.ok e c.runs-entry.ensures) tt (still_can c.requires t) refl in
    let failed : CallTurned (Are (e ∷ [])) c.args.self.now c.fail_call-then-is_some.new.self =
    turned_rest _ ran (like_same _ _ _ c.fail_call-then-is_some.ensures.counted refl refl refl refl refl) (ap (λ v. v.journal) c.fail_call-then-is_some.ensures.counted) in
    turned_as _ (λ ts has. inr (c.next_end-end.result, has)) failed

pub returns-then-is_some-clause-told : goal.returns-then-is_some-clause-told
returns-then-is_some-clause-told c = turned_left (returns-then-is_some-clause-turned c)

pub returns-then-is_some-clause-effect : goal.returns-then-is_some-clause-effect
returns-then-is_some-clause-effect c = λ how same.
    let e : Entry = entry.Runs c.args.program.now c.args.args.now (option_copied c.args.input) c.next_end-end.result in
    let t : CallTurned (Are []) c.args.self.now _ = subst (λ m. CallTurned (Are []) c.args.self.now m) (sym c.self.view_is) c.turn-how.ensures.turned in
    let ran : CallTurned (Are (e ∷ [])) c.args.self.now c.count_end.new.self =
    turned_entry _ e t (like_same _ _ _ c.count_end.ensures refl refl refl refl refl) (ap (λ v. v.journal) c.count_end.ensures ∙ c.in-Ok.ensures.ok e c.runs-entry.ensures) tt (still_can c.requires t) refl in
    let failed : CallTurned (Are (e ∷ [])) c.args.self.now c.fail_call-then-is_some.new.self =
    turned_rest _ ran (like_same _ _ _ c.fail_call-then-is_some.ensures.counted refl refl refl refl refl) (ap (λ v. v.journal) c.fail_call-then-is_some.ensures.counted) in
    let end = c.next_end-end.ensures ∙ ap (λ r. first_end r.ends) c.turn-how.ensures.rest in (
      turned_as _ (λ ts has. has ∙ ap (λ e. e ∷ []) (ap (λ d. entry.Runs c.args.program.now c.args.args.now (option_copied c.args.input) d) end)) failed,
      ap (λ v. v.rest) c.fail_call-then-is_some.ensures.counted ∙ (ap (λ v. v.rest) c.count_end.ensures ∙ ap after_end (ap (λ v. v.rest) c.self.view_is ∙ c.turn-how.ensures.rest)),
    )

pub returns-then-is_some-clause-calm : goal.returns-then-is_some-clause-calm
returns-then-is_some-clause-calm c = λ calm. absurd (not_some c.turn-how.result (c.turn-how.ensures.listed ∙ calm_how c.args.self.now calm) (sym c.is_some.ensures ∙ c.if-is_some.true))

pub returns-clause-turned : goal.returns-clause-turned
returns-clause-turned c =
    let e : Entry = entry.Runs c.args.program.now c.args.args.now (option_copied c.args.input) c.next_end-end.result in
    let t : CallTurned (Are []) c.args.self.now _ = subst (λ m. CallTurned (Are []) c.args.self.now m) (sym c.self.view_is) c.turn-how.ensures.turned in
    let ran : CallTurned (Are (e ∷ [])) c.args.self.now c.count_end.new.self =
    turned_entry _ e t (like_same _ _ _ c.count_end.ensures refl refl refl refl refl) (ap (λ v. v.journal) c.count_end.ensures ∙ c.in-Ok.ensures.ok e c.runs-entry.ensures) tt (still_can c.requires t) refl in
    turned_as _ (λ ts has. has) ran

pub returns-clause-told : goal.returns-clause-told
returns-clause-told c = turned_left (returns-clause-turned c)

pub returns-clause-calm : goal.returns-clause-calm
returns-clause-calm c = calm_ran (returns-clause-turned c) (ap (λ v. v.rest) c.count_end.ensures ∙ ap after_end (ap (λ v. v.rest) c.self.view_is ∙ c.turn-how.ensures.rest)) (ap (λ v. v.faults) c.count_end.ensures ∙ (ap (λ v. v.faults) c.self.view_is ∙ c.turn-how.ensures.faults))

pub returns-then-is_idle-clause-calm : goal.returns-then-is_idle-clause-calm
returns-then-is_idle-clause-calm c = λ calm. absurd (not_idle c.turn-how.result (c.turn-how.ensures.listed ∙ calm_how c.args.self.now calm) (sym c.is_idle.ensures ∙ c.if-is_idle.true))
