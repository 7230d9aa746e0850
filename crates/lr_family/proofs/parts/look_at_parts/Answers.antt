use Rattle.std.proofs.Common.{[], ◌∷◌, ◌++◌, false, List, refl, sym, ap, ◌∙◌, append_assoc, rules}
use Rattle.std.specs.Result.{is_err}
use Rattle.lr_rules.specs.declared.path.Path.{Path}
use Rattle.lr_rules.proofs.Results.{on_ok}
use Rattle.lr_family.proofs.PartLooks.{sees_none, sees_more, sees_stop, sees_some}
use Rattle.lr_family.proofs.parts.look_at_parts.Goals as goal

pub loop-path-init : goal.loop-path-init
loop-path-init g c = record { done = []; seam = refl; told = sees_none c.new-parts.result.items _ c.new-parts.ensures.items; counts = search rules }

pub returns-in_default-clause-stopped : goal.returns-in_default-clause-stopped
returns-in_default-clause-stopped g c = sees_stop c.args.paths.items c.loop-path.invariant.done _ c.loop-path.parts.items c.in-Some.path
    (sym c.into_iter-path-iterator.ensures.into_iter_gives.0 ∙ (c.loop-path.invariant.seam ∙ ap (λ (ps : List Path). c.loop-path.invariant.done ++ ps) c.in-Some.ensures.steps.0)) c.loop-path.invariant.told c.in_default.ensures.told

pub returns-then-is_err-clause-stopped : goal.returns-then-is_err-clause-stopped
returns-then-is_err-clause-stopped g c = sees_some c.args.paths.items c.loop-path.invariant.done _ c.loop-path.parts.items c.in-Some.path c.in-Ok.seen
    (sym c.into_iter-path-iterator.ensures.into_iter_gives.0 ∙ (c.loop-path.invariant.seam ∙ ap (λ (ps : List Path). c.loop-path.invariant.done ++ ps) c.in-Some.ensures.steps.0)) c.loop-path.invariant.told c.in-Ok.ensures.told

pub loop-path-preserved : goal.loop-path-preserved
loop-path-preserved g c = record {
  done = c.loop-path.invariant.done ++ c.in-Some.path ∷ [];
  seam = c.loop-path.invariant.seam ∙ (ap (λ (ps : List Path). c.loop-path.invariant.done ++ ps) c.in-Some.ensures.steps.0 ∙ sym (append_assoc c.loop-path.invariant.done (c.in-Some.path ∷ []) _));
  told = sees_more c.loop-path.invariant.done c.loop-path.parts.items c.add_seen.new.parts.items c.in-Some.path c.in-Ok.seen c.loop-path.invariant.told c.in-Ok.ensures.told (on_ok c.add_seen.result (sym c.is_err.ensures.value ∙ c.if-is_err.false) c.add_seen.ensures);
  counts = search rules;
}
