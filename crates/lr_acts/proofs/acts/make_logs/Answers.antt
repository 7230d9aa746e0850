use Rattle.std.proofs.Common.{◌≡◌, ◌++◌, length, true, false, Err, Ok, refl, sym, ◌∙◌, ap, subst, rules, arith}
use Rattle.std.proofs.lemmas.List.{length-append}
use Rattle.lr_rules.proofs.Results.{on_err}
use Rattle.lr_plan.specs.Course.{Course}
use Rattle.lr_plan.specs.Cut.{CourseCut, LogsCut, in_each, in_last}
use Rattle.lr_plan.specs.Done.{LogsDone}
use Rattle.lr_acts.specs.Adding.{AddsSteps}
use Rattle.lr_acts.specs.Making.{EndsSo, HasProgram, StepsEnd, all_of_each}
use Rattle.lr_acts.proofs.Adding.{adds_as, adds_of_more, fills_more, fills_on, room_part, room_rest}
use Rattle.lr_acts.proofs.Parts.{any_added, logs_last, logs_alone, course_of}
use Rattle.lr_acts.proofs.Programs.{program_first, program_later}
use Rattle.lr_acts.proofs.acts.make_logs.Goals as goal

pub make_each-requires-clause-room : goal.make_each-requires-clause-room
make_each-requires-clause-room g c =
    let size = length-append (all_of_each c.args.each) c.args.last in
    room_part (length (all_of_each c.args.each)) (length c.args.last) (length (all_of_each c.args.each ++ c.args.last)) c.args.progress.now (omega (arith, size)) c.requires.room

pub returns-in_err-make_each-clause-told : goal.returns-in_err-make_each-clause-told
returns-in_err-make_each-clause-told g c =
    let is : c.from_residual.result ≡ Err c.in_err-make_each.field-0.0 = search rules in
    subst (λ r. AddsSteps (EndsSo (LogsDone c.args.each c.args.last) (LogsCut c.args.each c.args.last) r) (all_of_each c.args.each ++ c.args.last) c.args.progress.now c.make_each.new.progress (g.H.Host.told c.args.host.now) (g.H.Host.told c.make_each.new.host) (g.H.Host.counts c.args.host.now) (g.H.Host.counts c.make_each.new.host)) (sym is)
    (adds_of_more (all_of_each c.args.each) c.args.last (all_of_each c.args.each ++ c.args.last) refl (adds_as c.in_err-make_each.ensures.told (λ ms f ts p. in_each p)))

pub returns-in_err-make_each-clause-fills : goal.returns-in_err-make_each-clause-fills
returns-in_err-make_each-clause-fills g c =
    let size = length-append (all_of_each c.args.each) c.args.last in
    fills_more (length (all_of_each c.args.each)) (length (all_of_each c.args.each ++ c.args.last)) c.args.progress.now c.make_each.new.progress (omega (arith, size)) c.make_each.ensures.fills

pub make_all-requires-clause-room : goal.make_all-requires-clause-room
make_all-requires-clause-room g c =
    let size = length-append (all_of_each c.args.each) c.args.last in
    room_rest (length (all_of_each c.args.each)) (length c.args.last) (length (all_of_each c.args.each ++ c.args.last)) c.args.progress.now c.make_each.new.progress (omega (arith, size)) c.requires.room c.make_each.ensures.fills

pub returns-in_err-_went-clause-told : goal.returns-in_err-_went-clause-told
returns-in_err-_went-clause-told g c =
    let before = ap length c.as_slice-before.ensures.value in
    let some = any_added c.in_ok-make_each.ensures.told true c.as_slice.result.now (length c.as_slice-before.result.now) c.as_slice.ensures.value before (sym c.if-any_rotated.true ∙ c.any_rotated.ensures) in
    let is : c.from_residual-in_err-_went.result ≡ Err c.in_err-_went.field-0.0 = search rules in
    subst (λ r. AddsSteps (EndsSo (LogsDone c.args.each c.args.last) (LogsCut c.args.each c.args.last) r) (all_of_each c.args.each ++ c.args.last) c.args.progress.now c.make_all.new.progress (g.H.Host.told c.args.host.now) (g.H.Host.told c.make_all.new.host) (g.H.Host.counts c.args.host.now) (g.H.Host.counts c.make_all.new.host)) (sym is)
    (adds_as (logs_last CourseCut CourseCut c.args.each c.args.last c.in_ok-make_each.ensures.told some (λ ms f ts p. p) c.in_err-_went.ensures.told) (λ ms f ts p. in_last p))

pub returns-in_ok-_went-clause-told : goal.returns-in_ok-_went-clause-told
returns-in_ok-_went-clause-told g c =
    let before = ap length c.as_slice-before.ensures.value in
    let some = any_added c.in_ok-make_each.ensures.told true c.as_slice.result.now (length c.as_slice-before.result.now) c.as_slice.ensures.value before (sym c.if-any_rotated.true ∙ c.any_rotated.ensures) in
    logs_last Course (λ steps. StepsEnd steps (Ok c.in_ok-_went._went)) c.args.each c.args.last c.in_ok-make_each.ensures.told some (course_of c.args.last c.in_ok-_went._went) c.in_ok-_went.ensures.told

pub returns-else-any_rotated-clause-told : goal.returns-else-any_rotated-clause-told
returns-else-any_rotated-clause-told g c =
    let before = ap length c.as_slice-before.ensures.value in
    let none = any_added c.in_ok-make_each.ensures.told false c.as_slice.result.now (length c.as_slice-before.result.now) c.as_slice.ensures.value before (sym c.if-any_rotated.false ∙ c.any_rotated.ensures) in
    logs_alone c.args.each c.args.last c.in_ok-make_each.ensures.told none

pub returns-in_err-_went-clause-fills : goal.returns-in_err-_went-clause-fills
returns-in_err-_went-clause-fills g c =
    let size = length-append (all_of_each c.args.each) c.args.last in
    fills_on (length (all_of_each c.args.each)) (length c.args.last) (length (all_of_each c.args.each ++ c.args.last)) c.args.progress.now c.make_each.new.progress c.make_all.new.progress (omega (arith, size)) c.make_each.ensures.fills c.make_all.ensures.fills

pub returns-in_ok-_went-clause-fills : goal.returns-in_ok-_went-clause-fills
returns-in_ok-_went-clause-fills g c =
    let size = length-append (all_of_each c.args.each) c.args.last in
    fills_on (length (all_of_each c.args.each)) (length c.args.last) (length (all_of_each c.args.each ++ c.args.last)) c.args.progress.now c.make_each.new.progress c.make_all.new.progress (omega (arith, size)) c.make_each.ensures.fills c.make_all.ensures.fills

pub returns-else-any_rotated-clause-fills : goal.returns-else-any_rotated-clause-fills
returns-else-any_rotated-clause-fills g c =
    let size = length-append (all_of_each c.args.each) c.args.last in
    fills_more (length (all_of_each c.args.each)) (length (all_of_each c.args.each ++ c.args.last)) c.args.progress.now c.make_each.new.progress (omega (arith, size)) c.make_each.ensures.fills

pub returns-in_err-make_each-clause-memory : goal.returns-in_err-make_each-clause-memory
returns-in_err-make_each-clause-memory g c =
    on_err c.from_residual.result (HasProgram (all_of_each c.args.each ++ c.args.last)) (program_first (all_of_each c.args.each) c.args.last c.in_err-make_each.ensures.memory)

pub returns-in_err-_went-clause-memory : goal.returns-in_err-_went-clause-memory
returns-in_err-_went-clause-memory g c =
    on_err c.from_residual-in_err-_went.result (HasProgram (all_of_each c.args.each ++ c.args.last)) (program_later (all_of_each c.args.each) c.args.last c.in_err-_went.ensures.memory)
