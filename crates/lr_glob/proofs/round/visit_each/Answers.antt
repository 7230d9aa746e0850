use Rattle.std.proofs.Common.{[], ◌∷◌, ◌++◌, List, refl, sym, ap, ◌∙◌, append_assoc, rules}
use Rattle.lr_rules.specs.declared.path.Path.{Path}
use Rattle.lr_glob.proofs.Rounds.{gives_none, gives_more, round_broken}
use Rattle.lr_glob.proofs.round.visit_each.Goals as goal

pub loop-dir-init : goal.loop-dir-init
loop-dir-init g c = record { done = []; seam = refl; told = gives_none c.args.part.now c.new-paths.result.items _ c.new-paths.ensures.items; counts = search rules }

pub returns-in-Err-clause-stopped : goal.returns-in-Err-clause-stopped
returns-in-Err-clause-stopped g c = round_broken c.args.part.now c.args.dirs.items c.loop-dir.invariant.done c.loop-dir.paths.items _ c.in-Some.dir c.in-Err.stop
    (sym c.into_iter-dir-iterator.ensures.into_iter_gives.0 ∙ (c.loop-dir.invariant.seam ∙ ap (λ (ds : List Path). c.loop-dir.invariant.done ++ ds) c.in-Some.ensures.steps.0)) c.loop-dir.invariant.told c.in-Err.ensures.stopped

pub loop-dir-preserved : goal.loop-dir-preserved
loop-dir-preserved g c = record {
  done = c.loop-dir.invariant.done ++ c.in-Some.dir ∷ [];
  seam = c.loop-dir.invariant.seam ∙ (ap (λ (ds : List Path). c.loop-dir.invariant.done ++ ds) c.in-Some.ensures.steps.0 ∙ sym (append_assoc c.loop-dir.invariant.done (c.in-Some.dir ∷ []) _));
  told = gives_more c.args.part.now c.loop-dir.invariant.done c.loop-dir.paths.items c.visit_one.new.into.items c.in-Some.dir c.loop-dir.invariant.told c.in_default.ensures.told;
  counts = search rules;
}
