use Rattle.std.proofs.Common.{[], ◌∷◌, ◌++◌, false, List, refl, sym, ap, ◌∙◌, subst, append_assoc, rules}
use Rattle.std.specs.Result.{is_err}
use Rattle.lr_rules.proofs.Results.{on_ok}
use Rattle.lr_host.specs.Told.{Left}
use Rattle.lr_family.specs.declared.spot.Spot.{Spot}
use Rattle.lr_family.specs.Stops.{SomeStopped}
use Rattle.lr_family.proofs.Looking.{shows_none, shows_more, shows_stop, shows_some, seen_none, seen_more}
use Rattle.lr_family.proofs.look.look_at_all.Goals as goal

pub loop-spot-init : goal.loop-spot-init
loop-spot-init g c = record { done = []; seam = refl; told = shows_none c.new-members.result.items _ c.new-members.ensures.items; seen = seen_none c.new-members.result.items c.new-members.ensures.items; counts = search rules }

pub returns-in-Err-clause-stopped : goal.returns-in-Err-clause-stopped
returns-in-Err-clause-stopped g c =
    subst (λ s. Left (SomeStopped c.args.spots.items s) (g.H.Host.told c.args.host.now) (g.H.Host.told c.look_at.new.host)) (sym c.stop_at.ensures)
    (shows_stop c.args.spots.items c.loop-spot.invariant.done _ c.loop-spot.members.items c.in-Some.spot c.in-Err.stop
    (sym c.into_iter-spot-iterator.ensures.into_iter_gives.0 ∙ (c.loop-spot.invariant.seam ∙ ap (λ (ss : List Spot). c.loop-spot.invariant.done ++ ss) c.in-Some.ensures.steps.0)) c.loop-spot.invariant.told c.in-Err.ensures.stopped)

pub returns-then-is_err-clause-stopped : goal.returns-then-is_err-clause-stopped
returns-then-is_err-clause-stopped g c = shows_some c.args.spots.items c.loop-spot.invariant.done _ c.loop-spot.members.items c.in-Some.spot c.in-Ok.seen
    (sym c.into_iter-spot-iterator.ensures.into_iter_gives.0 ∙ (c.loop-spot.invariant.seam ∙ ap (λ (ss : List Spot). c.loop-spot.invariant.done ++ ss) c.in-Some.ensures.steps.0)) c.loop-spot.invariant.told c.in-Ok.ensures.told c.in-Ok.ensures.file

pub loop-spot-preserved : goal.loop-spot-preserved
loop-spot-preserved g c = record {
  done = c.loop-spot.invariant.done ++ c.in-Some.spot ∷ [];
  seam = c.loop-spot.invariant.seam ∙ (ap (λ (ss : List Spot). c.loop-spot.invariant.done ++ ss) c.in-Some.ensures.steps.0 ∙ sym (append_assoc c.loop-spot.invariant.done (c.in-Some.spot ∷ []) _));
  told = shows_more c.loop-spot.invariant.done c.loop-spot.members.items c.add_seen.new.members.items c.in-Some.spot c.in-Ok.seen c.loop-spot.invariant.told c.in-Ok.ensures.told c.in-Ok.ensures.file (on_ok c.add_seen.result (sym c.is_err.ensures.value ∙ c.if-is_err.false) c.add_seen.ensures);
  seen = seen_more c.loop-spot.invariant.done c.loop-spot.members.items c.add_seen.new.members.items c.in-Some.spot c.in-Ok.seen c.loop-spot.invariant.seen (on_ok c.add_seen.result (sym c.is_err.ensures.value ∙ c.if-is_err.false) c.add_seen.ensures);
  counts = search rules;
}
