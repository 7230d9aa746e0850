use Rattle.std.proofs.Common.{◌≡◌, refl, sym, subst, rules, [], ◌∷◌, Some, Err}
use Rattle.lr_state.specs.Written.{table_text}
use Rattle.lr_plan.specs.declared.step.Step.TheVariants as step
use Rattle.lr_plan.specs.Steps.{step_if}
use Rattle.lr_writing.specs.Writes.{ComesTo, refusal_fault, refusal, part_steps}
use Rattle.lr_writing.proofs.Coming.{comes_on, comes_short, fits_first}
use Rattle.lr_writing.proofs.part.write_part.Goals as goal

pub returns-in_err-clear_part : goal.returns-in_err-clear_part
returns-in_err-clear_part g c =
    let x = c.args.part.now in
    let text = table_text c.args.table.now in
    let clear = step_if c.args.stale (step.Removes x) in
    let is : c.from_residual.result ≡ Err c.in_err-clear_part.field-0.0 = search rules in
    subst (λ r. ComesTo (part_steps x c.args.stale text) (refusal x r) (g.H.Host.told c.args.host.now) (g.H.Host.told c.clear_part.new.host) (g.H.Host.counts c.args.host.now) (g.H.Host.counts c.clear_part.new.host)) (sym is)
    (comes_short clear (step.Takes x (Some 416) ∷ step.Appends x text ∷ step.SyncsFile x ∷ []) (refusal_fault x c.in_err-clear_part.field-0.0) c.in_err-clear_part.ensures)

pub returns-in_err-take_part : goal.returns-in_err-take_part
returns-in_err-take_part g c =
    let x = c.args.part.now in
    let text = table_text c.args.table.now in
    let clear = step_if c.args.stale (step.Removes x) in
    let f = refusal_fault x c.in_err-take_part.field-0.0 in
    let is : c.from_residual-in_err-take_part.result ≡ Err c.in_err-take_part.field-0.0 = search rules in
    subst (λ r. ComesTo (part_steps x c.args.stale text) (refusal x r) (g.H.Host.told c.args.host.now) (g.H.Host.told c.take_part.new.host) (g.H.Host.counts c.args.host.now) (g.H.Host.counts c.take_part.new.host)) (sym is)
    (comes_on clear (step.Takes x (Some 416) ∷ step.Appends x text ∷ step.SyncsFile x ∷ []) (f ∷ []) c.in_ok-clear_part.ensures
    (comes_short (step.Takes x (Some 416) ∷ []) (step.Appends x text ∷ step.SyncsFile x ∷ []) f c.in_err-take_part.ensures))

pub fill_part-requires-clause-fits : goal.fill_part-requires-clause-fits
fill_part-requires-clause-fits g c =
    let x = c.args.part.now in
    let text = table_text c.args.table.now in
    fits_first (g.H.Host.told c.take_part.new.host) (step.Appends x text ∷ []) (step.SyncsFile x ∷ [])
    (c.in_ok-take_part.ensures.next refl (step.Appends x text ∷ step.SyncsFile x ∷ []) (c.in_ok-clear_part.ensures.next refl (step.Takes x (Some 416) ∷ step.Appends x text ∷ step.SyncsFile x ∷ []) c.requires.fits))

pub returns-in_err-fill_part : goal.returns-in_err-fill_part
returns-in_err-fill_part g c =
    let x = c.args.part.now in
    let text = table_text c.args.table.now in
    let clear = step_if c.args.stale (step.Removes x) in
    let f = refusal_fault x c.in_err-fill_part.field-0.0 in
    let is : c.from_residual-in_err-fill_part.result ≡ Err c.in_err-fill_part.field-0.0 = search rules in
    subst (λ r. ComesTo (part_steps x c.args.stale text) (refusal x r) (g.H.Host.told c.args.host.now) (g.H.Host.told c.fill_part.new.host) (g.H.Host.counts c.args.host.now) (g.H.Host.counts c.fill_part.new.host)) (sym is)
    (comes_on clear (step.Takes x (Some 416) ∷ step.Appends x text ∷ step.SyncsFile x ∷ []) (f ∷ []) c.in_ok-clear_part.ensures
    (comes_on (step.Takes x (Some 416) ∷ []) (step.Appends x text ∷ step.SyncsFile x ∷ []) (f ∷ []) c.in_ok-take_part.ensures
    (comes_short (step.Appends x text ∷ []) (step.SyncsFile x ∷ []) f c.in_err-fill_part.ensures)))

pub sync_part-requires : goal.sync_part-requires
sync_part-requires g c =
    let x = c.args.part.now in
    let text = table_text c.args.table.now in
    c.in_ok-fill_part.ensures.next refl (step.SyncsFile x ∷ [])
    (c.in_ok-take_part.ensures.next refl (step.Appends x text ∷ step.SyncsFile x ∷ []) (c.in_ok-clear_part.ensures.next refl (step.Takes x (Some 416) ∷ step.Appends x text ∷ step.SyncsFile x ∷ []) c.requires.fits))

pub returns : goal.returns
returns g c =
    let x = c.args.part.now in
    let text = table_text c.args.table.now in
    let clear = step_if c.args.stale (step.Removes x) in
    let fs = refusal x c.sync_part.result in
    comes_on clear (step.Takes x (Some 416) ∷ step.Appends x text ∷ step.SyncsFile x ∷ []) fs c.in_ok-clear_part.ensures
    (comes_on (step.Takes x (Some 416) ∷ []) (step.Appends x text ∷ step.SyncsFile x ∷ []) fs c.in_ok-take_part.ensures
    (comes_on (step.Appends x text ∷ []) (step.SyncsFile x ∷ []) fs c.in_ok-fill_part.ensures c.sync_part.ensures))
