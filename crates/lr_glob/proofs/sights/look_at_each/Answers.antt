use Rattle.std.proofs.Common.{[], ◌∷◌, ◌++◌, List, refl, sym, ap, ◌∙◌, append_assoc, rules}
use Rattle.lr_rules.specs.declared.path.Path.{Path}
use Rattle.lr_glob.proofs.Looking.{looked_none, looked_more, looks_broken}
use Rattle.lr_glob.proofs.sights.look_at_each.Goals as goal

pub loop-path-init : goal.loop-path-init
loop-path-init g c = record { done = []; seam = refl; told = looked_none c.new-found.result.items _ c.new-found.ensures.items; counts = search rules }

pub returns-in-Err-clause-stopped : goal.returns-in-Err-clause-stopped
returns-in-Err-clause-stopped g c = looks_broken c.args.paths.items c.loop-path.invariant.done c.loop-path.found.items c.in-Some.path _ c.in-Err.stop
    (sym c.into_iter-path-iterator.ensures.into_iter_gives.0 ∙ (c.loop-path.invariant.seam ∙ ap (λ (ds : List Path). c.loop-path.invariant.done ++ ds) c.in-Some.ensures.steps.0)) c.loop-path.invariant.told c.in-Err.ensures.stopped

pub loop-path-preserved : goal.loop-path-preserved
loop-path-preserved g c = record {
  done = c.loop-path.invariant.done ++ c.in-Some.path ∷ [];
  seam = c.loop-path.invariant.seam ∙ (ap (λ (ds : List Path). c.loop-path.invariant.done ++ ds) c.in-Some.ensures.steps.0 ∙ sym (append_assoc c.loop-path.invariant.done (c.in-Some.path ∷ []) _));
  told = looked_more c.loop-path.invariant.done c.loop-path.found.items c.look_at.new.found.items c.in-Some.path c.loop-path.invariant.told c.in_default.ensures.told;
  counts = search rules;
}
