use Rattle.std.proofs.Common.{◌≡◌, List, [], ◌∷◌, ◌++◌, length, map, Err, refl, sym, ◌∙◌, ap, subst, rules, arith, append_assoc}
use Rattle.std.specs.Vec.Iter.{into_iter_items}
use Rattle.lr_rules.specs.declared.path.Path.{Path}
use Rattle.lr_plan.specs.declared.step.Step.{Step}
use Rattle.lr_plan.specs.declared.step.Step.TheVariants as step
use Rattle.lr_plan.specs.Asking.{CanMake}
use Rattle.lr_writing.specs.Writes.{ComesTo, faults_in}
use Rattle.lr_writing.proofs.Coming.{comes_nothing, comes_on, comes_short, map_both}
use Rattle.lr_writing.proofs.naming.sync_all.Goals as goal

pub loop-dir-init : goal.loop-dir-init
loop-dir-init g c =
    let same : into_iter_items c.into_iter-dir-iterator.result ≡ c.args.dirs = c.into_iter-dir-iterator.ensures.into_iter_gives.0 ∙ c.into_vec-dir-items.ensures in record {
      next = tt;
      finite = tt;
      all = refl;
      long = search rules;
      fits = subst (λ (xs : List Path). CanMake (g.H.Host.told c.args.host.now) (map step.SyncsDir xs)) (sym same) c.requires;
      made = comes_nothing (g.H.Host.told c.args.host.now) (g.H.Host.counts c.args.host.now);
    }

pub returns-in_err-sync_one : goal.returns-in_err-sync_one
returns-in_err-sync_one g c =
    let at = c.loop-dir in
    let x = c.in-Some.dir in
    let rest = into_iter_items c.next.new.self in
    let steps : into_iter_items at.dir-iterator ≡ x ∷ rest = c.in-Some.ensures.steps.0 in
    let same : into_iter_items c.into_iter-dir-iterator.result ≡ c.args.dirs = c.into_iter-dir-iterator.ensures.into_iter_gives.0 ∙ c.into_vec-dir-items.ensures in
    let all : at.yielded ++ x ∷ rest ≡ c.args.dirs = sym (ap (λ xs. at.yielded ++ xs) steps) ∙ (at.invariant.all ∙ same) in
    let f = c.in_err-sync_one.field-0.0 in
    let is : c.from_residual.result ≡ Err f = search rules in
    subst (λ r. ComesTo (map step.SyncsDir c.args.dirs) (faults_in r) (g.H.Host.told c.args.host.now) (g.H.Host.told c.sync_one.new.host) (g.H.Host.counts c.args.host.now) (g.H.Host.counts c.sync_one.new.host)) (sym is)
    (subst (λ (ss : List Step). ComesTo ss (f ∷ []) (g.H.Host.told c.args.host.now) (g.H.Host.told c.sync_one.new.host) (g.H.Host.counts c.args.host.now) (g.H.Host.counts c.sync_one.new.host)) (sym (map_both step.SyncsDir at.yielded (x ∷ rest)) ∙ ap (map step.SyncsDir) all)
    (comes_on (map step.SyncsDir at.yielded) (step.SyncsDir x ∷ map step.SyncsDir rest) (f ∷ []) at.invariant.made
    (comes_short (step.SyncsDir x ∷ []) (map step.SyncsDir rest) f c.in_err-sync_one.ensures)))

pub loop-dir-preserved : goal.loop-dir-preserved
loop-dir-preserved g c =
    let at = c.loop-dir in
    let x = c.in-Some.dir in
    let rest = into_iter_items c.next.new.self in
    let steps : into_iter_items at.dir-iterator ≡ x ∷ rest = c.in-Some.ensures.steps.0 in
    let short : length (into_iter_items at.dir-iterator) ≡ length (x ∷ rest) = ap length steps in record {
      next = tt;
      finite = tt;
      all = append_assoc at.yielded (x ∷ []) rest ∙ (sym (ap (λ xs. at.yielded ++ xs) steps) ∙ at.invariant.all);
      long = (let was = at.invariant.long in let gone = c.in-Some.ensures.steps.1 in omega arith);
      fits = c.in_ok-sync_one.ensures.next refl (map step.SyncsDir rest) (subst (λ (xs : List Path). CanMake (g.H.Host.told at.host) (map step.SyncsDir xs)) steps at.invariant.fits);
      made = subst (λ (ss : List Step). ComesTo ss [] (g.H.Host.told c.args.host.now) (g.H.Host.told c.sync_one.new.host) (g.H.Host.counts c.args.host.now) (g.H.Host.counts c.sync_one.new.host)) (sym (map_both step.SyncsDir at.yielded (x ∷ [])))
          (comes_on (map step.SyncsDir at.yielded) (step.SyncsDir x ∷ []) [] at.invariant.made c.in_ok-sync_one.ensures);
    }
