use Rattle.std.proofs.Common.{◌≡◌, ◌+◌, List, [], ◌∷◌, ◌++◌, length, Err, refl, sym, ◌∙◌, ap, subst, rules, arith, append_assoc}
use Rattle.std.proofs.lemmas.List.{length-append}
use Rattle.std.specs.Vec.Iter.{into_iter_items}
use Rattle.lr_rules.proofs.Results.{on_err}
use Rattle.lr_plan.specs.declared.step.SetSteps.{SetSteps}
use Rattle.lr_plan.specs.declared.step.Step.{Step}
use Rattle.lr_plan.specs.Asking.{CanSets}
use Rattle.lr_plan.specs.Cut.{SetCut, SetsCut}
use Rattle.lr_plan.specs.Done.{SetDone, SetsDone}
use Rattle.lr_plan.proofs.Courses.{every_more}
use Rattle.lr_plan.proofs.Cuts.{list_cut}
use Rattle.lr_acts.specs.Adding.{AddsSteps, HasRoom}
use Rattle.lr_acts.specs.Making.{HasProgram, EndsSo, all_of_set, all_of_sets}
use Rattle.lr_acts.proofs.Adding.{adds_on, adds_of_more, adds_none, fills_none, fills_on, room_part, room_rest}
use Rattle.lr_acts.proofs.Parts.{leads, sets_next, sets_rest}
use Rattle.lr_acts.proofs.Programs.{program_first, program_later}
use Rattle.lr_acts.proofs.acts.act.Goals as goal

pub loop-set-init : goal.loop-set-init
loop-set-init g c =
    let same : into_iter_items c.into_iter-set-iterator.result ≡ c.args.sets = c.into_iter-set-iterator.ensures.into_iter_gives.0 ∙ c.into_vec-set-items.ensures in record {
      next = tt;
      finite = tt;
      all = refl;
      long = search rules;
      fits = subst (CanSets (g.H.Host.told c.args.host.now)) (sym same) c.requires.fits;
      room = subst (λ (xs : List SetSteps). HasRoom (length (all_of_sets xs)) c.args.progress.now) (sym same) c.requires.room;
      added = adds_none c.args.progress.now (g.H.Host.told c.args.host.now) (g.H.Host.counts c.args.host.now) (refl, refl, refl);
      fills = fills_none c.args.progress.now;
    }

pub make_set-requires-clause-room : goal.make_set-requires-clause-room
make_set-requires-clause-room g c =
    let at = c.loop-set in
    let rest = into_iter_items c.next.new.self in
    let steps : into_iter_items at.set-iterator ≡ c.in-Some.set ∷ rest = c.in-Some.ensures.steps.0 in
    let size : length (all_of_sets (into_iter_items at.set-iterator)) ≡ length (all_of_set c.in-Some.set) + length (all_of_sets rest) = ap (λ (xs : List SetSteps). length (all_of_sets xs)) steps ∙ length-append (all_of_set c.in-Some.set) (all_of_sets rest) in
    room_part (length (all_of_set c.in-Some.set)) (length (all_of_sets rest)) (length (all_of_sets (into_iter_items at.set-iterator))) at.progress (omega (arith, size)) at.invariant.room

pub returns-in_err-make_set-clause-told : goal.returns-in_err-make_set-clause-told
returns-in_err-make_set-clause-told g c =
    let at = c.loop-set in
    let x = c.in-Some.set in
    let rest = into_iter_items c.next.new.self in
    let steps : into_iter_items at.set-iterator ≡ x ∷ rest = c.in-Some.ensures.steps.0 in
    let same : into_iter_items c.into_iter-set-iterator.result ≡ c.args.sets = c.into_iter-set-iterator.ensures.into_iter_gives.0 ∙ c.into_vec-set-items.ensures in
    let all : at.yielded ++ x ∷ rest ≡ c.args.sets = sym (ap (λ xs. at.yielded ++ xs) steps) ∙ (at.invariant.all ∙ same) in
    let is : c.from_residual.result ≡ Err c.in_err-make_set.field-0.0 = search rules in
    subst (λ r. AddsSteps (EndsSo (SetsDone c.args.sets) (SetsCut c.args.sets) r) (all_of_sets c.args.sets) c.args.progress.now c.make_set.new.progress (g.H.Host.told c.args.host.now) (g.H.Host.told c.make_set.new.host) (g.H.Host.counts c.args.host.now) (g.H.Host.counts c.make_set.new.host)) (sym is)
    (adds_of_more (all_of_sets at.yielded ++ (all_of_set x)) (all_of_sets rest) (all_of_sets c.args.sets) (sym (ap all_of_sets all) ∙ sets_rest at.yielded x rest)
    (adds_on (all_of_sets at.yielded) (all_of_set x) at.invariant.added c.in_err-make_set.ensures.told (λ ms ms' f f' ts ts' p q. list_cut SetDone SetCut at.yielded rest c.args.sets x ms ms' f f' ts ts' (sym all) p q)))

pub returns-in_err-make_set-clause-fills : goal.returns-in_err-make_set-clause-fills
returns-in_err-make_set-clause-fills g c =
    let at = c.loop-set in
    let x = c.in-Some.set in
    let rest = into_iter_items c.next.new.self in
    let steps : into_iter_items at.set-iterator ≡ x ∷ rest = c.in-Some.ensures.steps.0 in
    let same : into_iter_items c.into_iter-set-iterator.result ≡ c.args.sets = c.into_iter-set-iterator.ensures.into_iter_gives.0 ∙ c.into_vec-set-items.ensures in
    let all : at.yielded ++ x ∷ rest ≡ c.args.sets = sym (ap (λ xs. at.yielded ++ xs) steps) ∙ (at.invariant.all ∙ same) in
    let parts : all_of_sets c.args.sets ≡ (all_of_sets at.yielded ++ (all_of_set x)) ++ all_of_sets rest = sym (ap all_of_sets all) ∙ sets_rest at.yielded x rest in
    let size : length (all_of_sets c.args.sets) ≡ length (all_of_sets at.yielded ++ (all_of_set x)) + length (all_of_sets rest) = ap length parts ∙ length-append (all_of_sets at.yielded ++ (all_of_set x)) (all_of_sets rest) in
    let front : length (all_of_sets at.yielded ++ (all_of_set x)) ≡ length (all_of_sets at.yielded) + length (all_of_set x) = length-append (all_of_sets at.yielded) (all_of_set x) in
    fills_on (length (all_of_sets at.yielded)) (length (all_of_set x)) (length (all_of_sets c.args.sets)) c.args.progress.now at.progress c.make_set.new.progress (omega (arith, size, front)) at.invariant.fills c.make_set.ensures.fills

pub returns-in_err-make_set-clause-memory : goal.returns-in_err-make_set-clause-memory
returns-in_err-make_set-clause-memory g c =
    let at = c.loop-set in
    let x = c.in-Some.set in
    let rest = into_iter_items c.next.new.self in
    let steps : into_iter_items at.set-iterator ≡ x ∷ rest = c.in-Some.ensures.steps.0 in
    let same : into_iter_items c.into_iter-set-iterator.result ≡ c.args.sets = c.into_iter-set-iterator.ensures.into_iter_gives.0 ∙ c.into_vec-set-items.ensures in
    let all : at.yielded ++ x ∷ rest ≡ c.args.sets = sym (ap (λ xs. at.yielded ++ xs) steps) ∙ (at.invariant.all ∙ same) in
    let parts : (all_of_sets at.yielded ++ all_of_set x) ++ all_of_sets rest ≡ all_of_sets c.args.sets = sym (sets_rest at.yielded x rest) ∙ ap all_of_sets all in
    on_err c.from_residual.result (HasProgram (all_of_sets c.args.sets))
    (subst HasProgram parts (program_first (all_of_sets at.yielded ++ all_of_set x) (all_of_sets rest) (program_later (all_of_sets at.yielded) (all_of_set x) c.in_err-make_set.ensures.memory)))

pub loop-set-preserved : goal.loop-set-preserved
loop-set-preserved g c =
    let at = c.loop-set in
    let x = c.in-Some.set in
    let rest = into_iter_items c.next.new.self in
    let steps : into_iter_items at.set-iterator ≡ x ∷ rest = c.in-Some.ensures.steps.0 in
    let short : length (into_iter_items at.set-iterator) ≡ length (x ∷ rest) = ap length steps in
    let size : length (all_of_sets (into_iter_items at.set-iterator)) ≡ length (all_of_set x) + length (all_of_sets rest) = ap (λ (xs : List SetSteps). length (all_of_sets xs)) steps ∙ length-append (all_of_set x) (all_of_sets rest) in
    let more : length (all_of_sets (at.yielded ++ x ∷ [])) ≡ length (all_of_sets at.yielded) + length (all_of_set x) = ap length (sets_next at.yielded x) ∙ length-append (all_of_sets at.yielded) (all_of_set x) in record {
      next = tt;
      finite = tt;
      all = append_assoc at.yielded (x ∷ []) rest ∙ (sym (ap (λ xs. at.yielded ++ xs) steps) ∙ at.invariant.all);
      long = (let was = at.invariant.long in let gone = c.in-Some.ensures.steps.1 in omega arith);
      fits = (subst (CanSets (g.H.Host.told at.host)) steps at.invariant.fits).1 (g.H.Host.told c.make_set.new.host) (leads c.in_ok-make_set.ensures.told (λ ms f ts p. p));
      room = room_rest (length (all_of_set x)) (length (all_of_sets rest)) (length (all_of_sets (into_iter_items at.set-iterator))) at.progress c.make_set.new.progress (omega (arith, size)) at.invariant.room c.make_set.ensures.fills;
      added = subst (λ (ss : List Step). AddsSteps (SetsDone (at.yielded ++ x ∷ [])) ss c.args.progress.now c.make_set.new.progress (g.H.Host.told c.args.host.now) (g.H.Host.told c.make_set.new.host) (g.H.Host.counts c.args.host.now) (g.H.Host.counts c.make_set.new.host)) (sym (sets_next at.yielded x))
          (adds_on (all_of_sets at.yielded) (all_of_set x) at.invariant.added c.in_ok-make_set.ensures.told (λ ms ms' f f' ts ts' p q. every_more SetDone at.yielded x ms ms' f f' ts ts' p q));
      fills = fills_on (length (all_of_sets at.yielded)) (length (all_of_set x)) (length (all_of_sets (at.yielded ++ x ∷ []))) c.args.progress.now at.progress c.make_set.new.progress (omega (arith, more)) at.invariant.fills c.make_set.ensures.fills;
    }
