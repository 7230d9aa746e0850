use Rattle.std.proofs.Common.{refl, sym, subst, ◌++◌, [], ◌∷◌, List, map}
use Rattle.lr_rules.specs.declared.fault.Fault.{Fault}
use Rattle.lr_state.specs.Written.{table_text}
use Rattle.lr_plan.specs.declared.step.Step.{Step}
use Rattle.lr_plan.specs.declared.step.Step.TheVariants as step
use Rattle.lr_plan.specs.Steps.{state_steps}
use Rattle.lr_plan.specs.Asking.{CanMake}
use Rattle.lr_writing.specs.Writes.{ComesTo, faults_in, refusal_fault, part_steps, name_steps}
use Rattle.lr_writing.proofs.Coming.{comes_on, comes_short, fits_first, whole_is}
use Rattle.lr_writing.proofs.write.make_all.Goals as goal

pub write_part-requires-clause-fits : goal.write_part-requires-clause-fits
write_part-requires-clause-fits g c =
    let w = c.writing.inside in
    let text = table_text c.args.table.now in
    let all = whole_is w.part w.state w.dir w.stale c.args.dirs text c.args.writing c.writing.view_is c.writing.invariant.0 c.writing.invariant.1 in
    fits_first (g.H.Host.told c.args.host.now) (part_steps w.part w.stale text) (map step.SyncsDir c.args.dirs ++ name_steps w.part w.state w.dir) (subst (CanMake (g.H.Host.told c.args.host.now)) (sym all) c.requires)

pub returns-in-Err : goal.returns-in-Err
returns-in-Err g c =
    let w = c.writing.inside in
    let text = table_text c.args.table.now in
    let all = whole_is w.part w.state w.dir w.stale c.args.dirs text c.args.writing c.writing.view_is c.writing.invariant.0 c.writing.invariant.1 in
    subst (λ (f : Fault). ComesTo (state_steps c.args.writing.state c.args.writing.stale c.args.dirs text) (f ∷ []) (g.H.Host.told c.args.host.now) (g.H.Host.told c.write_part.new.host) (g.H.Host.counts c.args.host.now) (g.H.Host.counts c.write_part.new.host)) (sym c.fault_at.ensures)
    (subst (λ (ss : List Step). ComesTo ss (refusal_fault w.part c.in-Err.why ∷ []) (g.H.Host.told c.args.host.now) (g.H.Host.told c.write_part.new.host) (g.H.Host.counts c.args.host.now) (g.H.Host.counts c.write_part.new.host)) all
    (comes_short (part_steps w.part w.stale text) (map step.SyncsDir c.args.dirs ++ name_steps w.part w.state w.dir) (refusal_fault w.part c.in-Err.why) c.in-Err.ensures))

pub name_synced-requires : goal.name_synced-requires
name_synced-requires g c =
    let w = c.writing.inside in
    let text = table_text c.args.table.now in
    let all = whole_is w.part w.state w.dir w.stale c.args.dirs text c.args.writing c.writing.view_is c.writing.invariant.0 c.writing.invariant.1 in
    c.in_default.ensures.next refl (map step.SyncsDir c.args.dirs ++ name_steps w.part w.state w.dir) (subst (CanMake (g.H.Host.told c.args.host.now)) (sym all) c.requires)

pub returns : goal.returns
returns g c =
    let w = c.writing.inside in
    let text = table_text c.args.table.now in
    let all = whole_is w.part w.state w.dir w.stale c.args.dirs text c.args.writing c.writing.view_is c.writing.invariant.0 c.writing.invariant.1 in
    let fs = faults_in c.name_synced.result in
    subst (λ (ss : List Step). ComesTo ss fs (g.H.Host.told c.args.host.now) (g.H.Host.told c.name_synced.new.host) (g.H.Host.counts c.args.host.now) (g.H.Host.counts c.name_synced.new.host)) all
    (comes_on (part_steps w.part w.stale text) (map step.SyncsDir c.args.dirs ++ name_steps w.part w.state w.dir) fs c.in_default.ensures c.name_synced.ensures)
