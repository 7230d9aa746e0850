use Rattle.std.proofs.Common.{◌≡◌, ◌+◌, List, [], ◌∷◌, ◌++◌, length, Err, refl, sym, ◌∙◌, ap, subst, rules, arith, append_assoc}
use Rattle.std.proofs.lemmas.List.{length-append}
use Rattle.std.specs.Vec.Iter.{into_iter_items}
use Rattle.lr_rules.proofs.Results.{on_err}
use Rattle.lr_plan.specs.declared.step.Step.{Step}
use Rattle.lr_plan.specs.Asking.{CanEach}
use Rattle.lr_plan.specs.Cut.{CourseCut, ListCut}
use Rattle.lr_plan.specs.Course.{Course}
use Rattle.lr_plan.specs.Done.{EachDone}
use Rattle.lr_plan.proofs.Courses.{every_more}
use Rattle.lr_plan.proofs.Cuts.{list_cut}
use Rattle.lr_acts.specs.Adding.{AddsSteps, HasRoom}
use Rattle.lr_acts.specs.Making.{HasProgram, EndsSo, all_of_each}
use Rattle.lr_acts.proofs.Adding.{adds_on, adds_of_more, adds_none, fills_none, fills_on, room_part, room_rest}
use Rattle.lr_acts.proofs.Parts.{course_of, leads, each_next, each_rest}
use Rattle.lr_acts.proofs.Programs.{program_first, program_later}
use Rattle.lr_acts.proofs.acts.make_each.Goals as goal

pub loop-steps-init : goal.loop-steps-init
loop-steps-init g c =
    let same : into_iter_items c.into_iter-steps-iterator.result ≡ c.args.each = c.into_iter-steps-iterator.ensures.into_iter_gives.0 ∙ c.into_vec-steps-items.ensures in record {
      next = tt;
      finite = tt;
      all = refl;
      long = search rules;
      fits = subst (CanEach (g.H.Host.told c.args.host.now)) (sym same) c.requires.fits;
      room = subst (λ (xs : List (List Step)). HasRoom (length (all_of_each xs)) c.args.progress.now) (sym same) c.requires.room;
      added = adds_none c.args.progress.now (g.H.Host.told c.args.host.now) (g.H.Host.counts c.args.host.now) (refl, refl, refl);
      fills = fills_none c.args.progress.now;
    }

pub make_all-requires-clause-room : goal.make_all-requires-clause-room
make_all-requires-clause-room g c =
    let at = c.loop-steps in
    let rest = into_iter_items c.next.new.self in
    let steps : into_iter_items at.steps-iterator ≡ c.in-Some.steps ∷ rest = c.in-Some.ensures.steps.0 in
    let size : length (all_of_each (into_iter_items at.steps-iterator)) ≡ length c.in-Some.steps + length (all_of_each rest) = ap (λ (xs : List (List Step)). length (all_of_each xs)) steps ∙ length-append c.in-Some.steps (all_of_each rest) in
    room_part (length c.in-Some.steps) (length (all_of_each rest)) (length (all_of_each (into_iter_items at.steps-iterator))) at.progress (omega (arith, size)) at.invariant.room

pub returns-in_err-_went-clause-told : goal.returns-in_err-_went-clause-told
returns-in_err-_went-clause-told g c =
    let at = c.loop-steps in
    let x = c.in-Some.steps in
    let rest = into_iter_items c.next.new.self in
    let steps : into_iter_items at.steps-iterator ≡ x ∷ rest = c.in-Some.ensures.steps.0 in
    let same : into_iter_items c.into_iter-steps-iterator.result ≡ c.args.each = c.into_iter-steps-iterator.ensures.into_iter_gives.0 ∙ c.into_vec-steps-items.ensures in
    let all : at.yielded ++ x ∷ rest ≡ c.args.each = sym (ap (λ xs. at.yielded ++ xs) steps) ∙ (at.invariant.all ∙ same) in
    let is : c.from_residual.result ≡ Err c.in_err-_went.field-0.0 = search rules in
    subst (λ r. AddsSteps (EndsSo (EachDone c.args.each) (ListCut Course CourseCut c.args.each) r) (all_of_each c.args.each) c.args.progress.now c.make_all.new.progress (g.H.Host.told c.args.host.now) (g.H.Host.told c.make_all.new.host) (g.H.Host.counts c.args.host.now) (g.H.Host.counts c.make_all.new.host)) (sym is)
    (adds_of_more (all_of_each at.yielded ++ x) (all_of_each rest) (all_of_each c.args.each) (sym (ap all_of_each all) ∙ each_rest at.yielded x rest)
    (adds_on (all_of_each at.yielded) x at.invariant.added c.in_err-_went.ensures.told (λ ms ms' f f' ts ts' p q. list_cut Course CourseCut at.yielded rest c.args.each x ms ms' f f' ts ts' (sym all) p q)))

pub returns-in_err-_went-clause-fills : goal.returns-in_err-_went-clause-fills
returns-in_err-_went-clause-fills g c =
    let at = c.loop-steps in
    let x = c.in-Some.steps in
    let rest = into_iter_items c.next.new.self in
    let steps : into_iter_items at.steps-iterator ≡ x ∷ rest = c.in-Some.ensures.steps.0 in
    let same : into_iter_items c.into_iter-steps-iterator.result ≡ c.args.each = c.into_iter-steps-iterator.ensures.into_iter_gives.0 ∙ c.into_vec-steps-items.ensures in
    let all : at.yielded ++ x ∷ rest ≡ c.args.each = sym (ap (λ xs. at.yielded ++ xs) steps) ∙ (at.invariant.all ∙ same) in
    let parts : all_of_each c.args.each ≡ (all_of_each at.yielded ++ x) ++ all_of_each rest = sym (ap all_of_each all) ∙ each_rest at.yielded x rest in
    let size : length (all_of_each c.args.each) ≡ length (all_of_each at.yielded ++ x) + length (all_of_each rest) = ap length parts ∙ length-append (all_of_each at.yielded ++ x) (all_of_each rest) in
    let front : length (all_of_each at.yielded ++ x) ≡ length (all_of_each at.yielded) + length x = length-append (all_of_each at.yielded) x in
    fills_on (length (all_of_each at.yielded)) (length x) (length (all_of_each c.args.each)) c.args.progress.now at.progress c.make_all.new.progress (omega (arith, size, front)) at.invariant.fills c.make_all.ensures.fills

pub returns-in_err-_went-clause-memory : goal.returns-in_err-_went-clause-memory
returns-in_err-_went-clause-memory g c =
    let at = c.loop-steps in
    let x = c.in-Some.steps in
    let rest = into_iter_items c.next.new.self in
    let steps : into_iter_items at.steps-iterator ≡ x ∷ rest = c.in-Some.ensures.steps.0 in
    let same : into_iter_items c.into_iter-steps-iterator.result ≡ c.args.each = c.into_iter-steps-iterator.ensures.into_iter_gives.0 ∙ c.into_vec-steps-items.ensures in
    let all : at.yielded ++ x ∷ rest ≡ c.args.each = sym (ap (λ xs. at.yielded ++ xs) steps) ∙ (at.invariant.all ∙ same) in
    let parts : (all_of_each at.yielded ++ x) ++ all_of_each rest ≡ all_of_each c.args.each = sym (each_rest at.yielded x rest) ∙ ap all_of_each all in
    on_err c.from_residual.result (HasProgram (all_of_each c.args.each))
    (subst HasProgram parts (program_first (all_of_each at.yielded ++ x) (all_of_each rest) (program_later (all_of_each at.yielded) x c.in_err-_went.ensures.memory)))

pub loop-steps-preserved : goal.loop-steps-preserved
loop-steps-preserved g c =
    let at = c.loop-steps in
    let x = c.in-Some.steps in
    let rest = into_iter_items c.next.new.self in
    let steps : into_iter_items at.steps-iterator ≡ x ∷ rest = c.in-Some.ensures.steps.0 in
    let short : length (into_iter_items at.steps-iterator) ≡ length (x ∷ rest) = ap length steps in
    let size : length (all_of_each (into_iter_items at.steps-iterator)) ≡ length x + length (all_of_each rest) = ap (λ (xs : List (List Step)). length (all_of_each xs)) steps ∙ length-append x (all_of_each rest) in
    let more : length (all_of_each (at.yielded ++ x ∷ [])) ≡ length (all_of_each at.yielded) + length x = ap length (each_next at.yielded x) ∙ length-append (all_of_each at.yielded) x in record {
      next = tt;
      finite = tt;
      all = append_assoc at.yielded (x ∷ []) rest ∙ (sym (ap (λ xs. at.yielded ++ xs) steps) ∙ at.invariant.all);
      long = (let was = at.invariant.long in let gone = c.in-Some.ensures.steps.1 in omega arith);
      fits = (subst (CanEach (g.H.Host.told at.host)) steps at.invariant.fits).1 (g.H.Host.told c.make_all.new.host) (leads c.in_ok-_went.ensures.told (course_of x c.in_ok-_went._went));
      room = room_rest (length x) (length (all_of_each rest)) (length (all_of_each (into_iter_items at.steps-iterator))) at.progress c.make_all.new.progress (omega (arith, size)) at.invariant.room c.make_all.ensures.fills;
      added = subst (λ (ss : List Step). AddsSteps (EachDone (at.yielded ++ x ∷ [])) ss c.args.progress.now c.make_all.new.progress (g.H.Host.told c.args.host.now) (g.H.Host.told c.make_all.new.host) (g.H.Host.counts c.args.host.now) (g.H.Host.counts c.make_all.new.host)) (sym (each_next at.yielded x))
          (adds_on (all_of_each at.yielded) x at.invariant.added c.in_ok-_went.ensures.told (λ ms ms' f f' ts ts' p q. every_more Course at.yielded x ms ms' f f' ts ts' p (course_of x c.in_ok-_went._went ms' f' ts' q)));
      fills = fills_on (length (all_of_each at.yielded)) (length x) (length (all_of_each (at.yielded ++ x ∷ []))) c.args.progress.now at.progress c.make_all.new.progress (omega (arith, more)) at.invariant.fills c.make_all.ensures.fills;
    }
