use Rattle.std.proofs.Common.{◌≡◌, refl, sym, subst, rules, [], ◌∷◌, Err}
use Rattle.lr_plan.specs.declared.step.Step.TheVariants as step
use Rattle.lr_writing.specs.Writes.{ComesTo, faults_in, name_steps}
use Rattle.lr_writing.proofs.Coming.{comes_on, comes_short}
use Rattle.lr_writing.proofs.naming.name_state.Goals as goal

pub returns-in_err-rename_part : goal.returns-in_err-rename_part
returns-in_err-rename_part g c =
    let is : c.from_residual.result ≡ Err c.in_err-rename_part.field-0.0 = search rules in
    subst (λ r. ComesTo (name_steps c.args.part c.args.state.now c.args.dir) (faults_in r) (g.H.Host.told c.args.host.now) (g.H.Host.told c.rename_part.new.host) (g.H.Host.counts c.args.host.now) (g.H.Host.counts c.rename_part.new.host)) (sym is)
    (comes_short (step.Renames c.args.part c.args.state.now ∷ []) (step.SyncsDir c.args.dir ∷ []) c.in_err-rename_part.field-0.0 c.in_err-rename_part.ensures)

pub sync_one-requires : goal.sync_one-requires
sync_one-requires g c = c.in_ok-rename_part.ensures.next refl (step.SyncsDir c.args.dir ∷ []) c.requires

pub returns : goal.returns
returns g c = comes_on (step.Renames c.args.part c.args.state.now ∷ []) (step.SyncsDir c.args.dir ∷ []) (faults_in c.sync_one.result) c.in_ok-rename_part.ensures c.sync_one.ensures
