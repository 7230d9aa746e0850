use Rattle.std.proofs.Common.{◌≡◌, inl, true, false, ◌+◌, List, [], ◌∷◌, ◌++◌, length, Err, refl, sym, ◌∙◌, ap, subst, rules, arith, append_assoc}
use Rattle.std.proofs.lemmas.List.{length-append}
use Rattle.std.specs.Vec.Iter.{into_iter_items}
use Rattle.lr_rules.proofs.Results.{on_err}
use Rattle.lr_host.specs.Told.{Left}
use Rattle.lr_host.proofs.Left.{left_as}
use Rattle.lr_plan.specs.declared.step.Step.{Step}
use Rattle.lr_plan.specs.Asking.{CanMake}
use Rattle.lr_plan.specs.Outcomes.{Succeeds}
use Rattle.lr_plan.specs.Course.{Course, BrokenOff}
use Rattle.lr_plan.proofs.Courses.{course_more, course_stops}
use Rattle.lr_plan.proofs.Cuts.{course_cut}
use Rattle.lr_acts.specs.Adding.{AddsSteps, HasRoom}
use Rattle.lr_acts.specs.Making.{HasProgram, WasMade, StepsEnd}
use Rattle.lr_acts.proofs.Adding.{adds_on, adds_of_more, adds_none, fills_none, fills_on, room_rest}
use Rattle.lr_acts.proofs.Programs.{program_later}
use Rattle.lr_acts.proofs.acts.make_all.Goals as goal

pub loop-step-init : goal.loop-step-init
loop-step-init g c =
    let same : into_iter_items c.into_iter-step-iterator.result ≡ c.args.steps = c.into_iter-step-iterator.ensures.into_iter_gives.0 ∙ c.into_vec-step-items.ensures in record {
      next = tt;
      finite = tt;
      all = refl;
      long = search rules;
      fits = subst (CanMake (g.H.Host.told c.args.host.now)) (sym same) c.requires.fits;
      room = subst (λ (xs : List Step). HasRoom (length xs) c.args.progress.now) (sym same) c.requires.room;
      added = adds_none c.args.progress.now (g.H.Host.told c.args.host.now) (g.H.Host.counts c.args.host.now) (refl, (refl, refl, refl));
      fills = fills_none c.args.progress.now;
    }

pub returns-in_err-went-clause-told : goal.returns-in_err-went-clause-told
returns-in_err-went-clause-told g c =
    let at = c.loop-step in
    let x = c.in-Some.step in
    let rest = into_iter_items c.next.new.self in
    let steps : into_iter_items at.step-iterator ≡ x ∷ rest = c.in-Some.ensures.steps.0 in
    let same : into_iter_items c.into_iter-step-iterator.result ≡ c.args.steps = c.into_iter-step-iterator.ensures.into_iter_gives.0 ∙ c.into_vec-step-items.ensures in
    let all : at.yielded ++ x ∷ rest ≡ c.args.steps = sym (ap (λ xs. at.yielded ++ xs) steps) ∙ (at.invariant.all ∙ same) in
    let is : c.from_residual.result ≡ Err c.in_err-went.field-0.0 = search rules in
    subst (λ r. AddsSteps (StepsEnd c.args.steps r) c.args.steps c.args.progress.now c.take_step.new.progress (g.H.Host.told c.args.host.now) (g.H.Host.told c.take_step.new.host) (g.H.Host.counts c.args.host.now) (g.H.Host.counts c.take_step.new.host)) (sym is)
    (adds_of_more (at.yielded ++ x ∷ []) rest c.args.steps (sym all ∙ sym (append_assoc at.yielded (x ∷ []) rest))
    (adds_on at.yielded (x ∷ []) at.invariant.added c.in_err-went.ensures.told (λ ms ms' f f' ts ts' w n. course_cut at.yielded rest c.args.steps x ms ms' f f' ts ts' (sym all) c.in_err-went.ensures.memory w n)))

pub returns-in_err-went-clause-memory : goal.returns-in_err-went-clause-memory
returns-in_err-went-clause-memory g c =
    let at = c.loop-step in
    let x = c.in-Some.step in
    let rest = into_iter_items c.next.new.self in
    let steps : into_iter_items at.step-iterator ≡ x ∷ rest = c.in-Some.ensures.steps.0 in
    let same : into_iter_items c.into_iter-step-iterator.result ≡ c.args.steps = c.into_iter-step-iterator.ensures.into_iter_gives.0 ∙ c.into_vec-step-items.ensures in
    let all : at.yielded ++ x ∷ rest ≡ c.args.steps = sym (ap (λ xs. at.yielded ++ xs) steps) ∙ (at.invariant.all ∙ same) in
    on_err c.from_residual.result (HasProgram c.args.steps) (subst HasProgram all (program_later at.yielded (x ∷ rest) (inl c.in_err-went.ensures.memory)))

pub returns-then-not-went-clause-told : goal.returns-then-not-went-clause-told
returns-then-not-went-clause-told g c =
    let at = c.loop-step in
    let x = c.in-Some.step in
    let rest = into_iter_items c.next.new.self in
    let steps : into_iter_items at.step-iterator ≡ x ∷ rest = c.in-Some.ensures.steps.0 in
    let same : into_iter_items c.into_iter-step-iterator.result ≡ c.args.steps = c.into_iter-step-iterator.ensures.into_iter_gives.0 ∙ c.into_vec-step-items.ensures in
    let all : at.yielded ++ x ∷ rest ≡ c.args.steps = sym (ap (λ xs. at.yielded ++ xs) steps) ∙ (at.invariant.all ∙ same) in
    let no : c.in_ok-went.went ≡ false = search rules in
    subst (λ (xs : List Step). AddsSteps (BrokenOff (Course xs)) xs c.args.progress.now c.take_step.new.progress (g.H.Host.told c.args.host.now) (g.H.Host.told c.take_step.new.host) (g.H.Host.counts c.args.host.now) (g.H.Host.counts c.take_step.new.host)) all
    (adds_of_more (at.yielded ++ x ∷ []) rest (at.yielded ++ x ∷ rest) (sym (append_assoc at.yielded (x ∷ []) rest))
    (adds_on at.yielded (x ∷ []) at.invariant.added (rw no at c.in_ok-went.ensures.told) (λ ms ms' f f' ts ts' w s. course_stops at.yielded rest x ms ms' f f' ts ts' w s)))

pub loop-step-preserved : goal.loop-step-preserved
loop-step-preserved g c =
    let at = c.loop-step in
    let x = c.in-Some.step in
    let rest = into_iter_items c.next.new.self in
    let steps : into_iter_items at.step-iterator ≡ x ∷ rest = c.in-Some.ensures.steps.0 in
    let yes : c.in_ok-went.went ≡ true = search rules in
    let took : AddsSteps (WasMade x) (x ∷ []) at.progress c.take_step.new.progress (g.H.Host.told at.host) (g.H.Host.told c.take_step.new.host) (g.H.Host.counts at.host) (g.H.Host.counts c.take_step.new.host) = rw yes at c.in_ok-went.ensures.told in
    let left : Left (Succeeds x) (g.H.Host.told at.host) (g.H.Host.told c.take_step.new.host) = left_as took.entries (λ ts w. w.2) in
    let short : length (into_iter_items at.step-iterator) ≡ length (x ∷ rest) = ap length steps in
    let longer : length (at.yielded ++ x ∷ []) ≡ length at.yielded + length (x ∷ []) = length-append at.yielded (x ∷ []) in record {
      next = tt;
      finite = tt;
      all = append_assoc at.yielded (x ∷ []) rest ∙ (sym (ap (λ xs. at.yielded ++ xs) steps) ∙ at.invariant.all);
      long = (let was = at.invariant.long in let gone = c.in-Some.ensures.steps.1 in omega arith);
      fits = (subst (CanMake (g.H.Host.told at.host)) steps at.invariant.fits).1 (g.H.Host.told c.take_step.new.host) left;
      room = room_rest 1 (length rest) (length (into_iter_items at.step-iterator)) at.progress c.take_step.new.progress (omega arith) at.invariant.room c.take_step.ensures.fills;
      added = adds_on at.yielded (x ∷ []) at.invariant.added took (λ ms ms' f f' ts ts' w m. course_more at.yielded x ms ms' f f' ts ts' w m.0 m.1 m.2);
      fills = fills_on (length at.yielded) 1 (length (at.yielded ++ x ∷ [])) c.args.progress.now at.progress c.take_step.new.progress (omega (arith, longer)) at.invariant.fills c.take_step.ensures.fills;
    }
