use Rattle.std.proofs.Common.{◌≡◌, inl, inr, true, refl, sym, ap, subst, ◌∙◌}
use Rattle.lr_host.specs.World.{◌▸◌, world, past}
use Rattle.lr_host.specs.Fits.{Fits}
use Rattle.lr_host.specs.Told.{IsWriters}
use Rattle.lr_disk.proofs.JournalLemmas.{past_entry}
use Rattle.lr_memhost.proofs.TurnLemmas.{same_act}
use Rattle.lr_memhost.proofs.turn.take_act.Goals as goal

pub returns-then-not-is_due-clause-came : goal.returns-then-not-is_due-clause-came
returns-then-not-is_due-clause-came c = λ a is.
    let same : a ≡ c.remove-before.result = same_act c.args.acts.now.items c.args.at a c.remove-before.result c.requires is c.remove-before.ensures.value in
    inr (
      (λ fit.
          let t : c.is_due.result ≡ true = c.is_due.ensures.1 (subst (λ b. IsWriters b.what × Fits (world (past c.args.disk.now)) b.what) same fit) in
          let f = c.if-not-is_due.true in cc),
      refl,
    )

pub returns-in-Ok-clause-came : goal.returns-in-Ok-clause-came
returns-in-Ok-clause-came c = λ a is.
    let same : a ≡ c.remove-before.result = same_act c.args.acts.now.items c.args.at a c.remove-before.result c.requires is c.remove-before.ensures.value in
    let fit = c.is_due.ensures.0 c.if-not-is_due.false in
    inl (subst (λ b. IsWriters b.what × Fits (world (past c.args.disk.now)) b.what × (past c.enter.new.self ≡ past c.args.disk.now ▸ b.what)) (sym same)
    (fit.0, fit.1, ap past c.in-Ok.ensures ∙ past_entry c.args.disk.now c.remove-before.result.what))
