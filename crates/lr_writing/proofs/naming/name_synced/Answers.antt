use Rattle.std.proofs.Common.{◌≡◌, refl, sym, subst, rules, ◌++◌, map, Err}
use Rattle.lr_plan.specs.declared.step.Step.TheVariants as step
use Rattle.lr_writing.specs.Writes.{ComesTo, faults_in, name_steps}
use Rattle.lr_writing.proofs.Coming.{comes_on, comes_short, fits_first}
use Rattle.lr_writing.proofs.naming.name_synced.Goals as goal

pub sync_all-requires : goal.sync_all-requires
sync_all-requires g c = fits_first (g.H.Host.told c.args.host.now) (map step.SyncsDir c.args.dirs) (name_steps c.args.part c.args.state c.args.dir) c.requires

pub name_state-requires : goal.name_state-requires
name_state-requires g c = c.in_ok-sync_all.ensures.next refl (name_steps c.args.part c.args.state c.args.dir) c.requires

pub returns-in_err-sync_all : goal.returns-in_err-sync_all
returns-in_err-sync_all g c =
    let names = name_steps c.args.part c.args.state c.args.dir in
    let f = c.in_err-sync_all.field-0.0 in
    let is : c.from_residual.result ≡ Err f = search rules in
    subst (λ r. ComesTo (map step.SyncsDir c.args.dirs ++ names) (faults_in r) (g.H.Host.told c.args.host.now) (g.H.Host.told c.sync_all.new.host) (g.H.Host.counts c.args.host.now) (g.H.Host.counts c.sync_all.new.host)) (sym is)
    (comes_short (map step.SyncsDir c.args.dirs) names f c.in_err-sync_all.ensures)

pub returns : goal.returns
returns g c = comes_on (map step.SyncsDir c.args.dirs) (name_steps c.args.part c.args.state c.args.dir) (faults_in c.name_state.result) c.in_ok-sync_all.ensures c.name_state.ensures
