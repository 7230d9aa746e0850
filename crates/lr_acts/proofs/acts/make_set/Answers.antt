use Rattle.std.proofs.Common.{◌≡◌, ◌++◌, length, true, false, Err, refl, sym, subst, rules, arith}
use Rattle.std.proofs.lemmas.List.{length-append}
use Rattle.std.proofs.lemmas.Result.{IfErr-weaker}
use Rattle.lr_rules.proofs.Results.{on_err}
use Rattle.lr_plan.specs.Cut.{SetCut, in_first}
use Rattle.lr_plan.specs.Done.{SetDone, broke_off}
use Rattle.lr_acts.specs.Adding.{AddsSteps}
use Rattle.lr_acts.specs.Making.{EndsSo, HasProgram, all_of_each, all_of_set}
use Rattle.lr_acts.proofs.Adding.{adds_as, adds_of_more, fills_more, fills_on, room_part, room_rest}
use Rattle.lr_acts.proofs.Parts.{set_ends, leads, course_of}
use Rattle.lr_acts.proofs.Programs.{program_first, program_later}
use Rattle.lr_acts.proofs.acts.make_set.Goals as goal

pub make_all-requires-clause-room : goal.make_all-requires-clause-room
make_all-requires-clause-room g c =
    let size = length-append c.args.set.first (all_of_each c.args.set.each ++ c.args.set.last) in
    room_part (length c.args.set.first) (length (all_of_each c.args.set.each ++ c.args.set.last)) (length (all_of_set c.args.set)) c.args.progress.now (omega (arith, size)) c.requires.room

pub returns-in_err-went-clause-told : goal.returns-in_err-went-clause-told
returns-in_err-went-clause-told g c =
    let is : c.from_residual.result ≡ Err c.in_err-went.field-0.0 = search rules in
    subst (λ r. AddsSteps (EndsSo (SetDone c.args.set) (SetCut c.args.set) r) (all_of_set c.args.set) c.args.progress.now c.make_all.new.progress (g.H.Host.told c.args.host.now) (g.H.Host.told c.make_all.new.host) (g.H.Host.counts c.args.host.now) (g.H.Host.counts c.make_all.new.host)) (sym is)
    (adds_of_more c.args.set.first (all_of_each c.args.set.each ++ c.args.set.last) (all_of_set c.args.set) refl (adds_as c.in_err-went.ensures.told (λ ms f ts p. in_first p)))

pub returns-in_err-went-clause-fills : goal.returns-in_err-went-clause-fills
returns-in_err-went-clause-fills g c =
    let size = length-append c.args.set.first (all_of_each c.args.set.each ++ c.args.set.last) in
    fills_more (length c.args.set.first) (length (all_of_set c.args.set)) c.args.progress.now c.make_all.new.progress (omega (arith, size)) c.make_all.ensures.fills

pub returns-then-not-went-clause-told : goal.returns-then-not-went-clause-told
returns-then-not-went-clause-told g c =
    let no : c.in_ok-went.went ≡ false = search rules in
    adds_of_more c.args.set.first (all_of_each c.args.set.each ++ c.args.set.last) (all_of_set c.args.set) refl (adds_as (rw no at c.in_ok-went.ensures.told) (λ ms f ts p. broke_off p))

pub returns-then-not-went-clause-fills : goal.returns-then-not-went-clause-fills
returns-then-not-went-clause-fills g c =
    let size = length-append c.args.set.first (all_of_each c.args.set.each ++ c.args.set.last) in
    fills_more (length c.args.set.first) (length (all_of_set c.args.set)) c.args.progress.now c.make_all.new.progress (omega (arith, size)) c.make_all.ensures.fills

pub make_logs-requires-clause-fits : goal.make_logs-requires-clause-fits
make_logs-requires-clause-fits g c = c.requires.fits.each (g.H.Host.told c.make_all.new.host) (leads c.in_ok-went.ensures.told (course_of c.args.set.first c.in_ok-went.went))

pub make_logs-requires-clause-fits_last : goal.make_logs-requires-clause-fits_last
make_logs-requires-clause-fits_last g c = λ later l. c.requires.fits.last (g.H.Host.told c.make_all.new.host) later (leads c.in_ok-went.ensures.told (course_of c.args.set.first c.in_ok-went.went)) l

pub make_logs-requires-clause-room : goal.make_logs-requires-clause-room
make_logs-requires-clause-room g c =
    let size = length-append c.args.set.first (all_of_each c.args.set.each ++ c.args.set.last) in
    room_rest (length c.args.set.first) (length (all_of_each c.args.set.each ++ c.args.set.last)) (length (all_of_set c.args.set)) c.args.progress.now c.make_all.new.progress (omega (arith, size)) c.requires.room c.make_all.ensures.fills

pub returns-clause-told : goal.returns-clause-told
returns-clause-told g c =
    let yes : c.in_ok-went.went ≡ true = search rules in
    set_ends c.args.set c.make_logs.result (rw yes at c.in_ok-went.ensures.told) c.make_logs.ensures.told

pub returns-clause-fills : goal.returns-clause-fills
returns-clause-fills g c =
    let size = length-append c.args.set.first (all_of_each c.args.set.each ++ c.args.set.last) in
    fills_on (length c.args.set.first) (length (all_of_each c.args.set.each ++ c.args.set.last)) (length (all_of_set c.args.set)) c.args.progress.now c.make_all.new.progress c.make_logs.new.progress (omega (arith, size)) c.make_all.ensures.fills c.make_logs.ensures.fills

pub returns-in_err-went-clause-memory : goal.returns-in_err-went-clause-memory
returns-in_err-went-clause-memory g c =
    on_err c.from_residual.result (HasProgram (all_of_set c.args.set)) (program_first c.args.set.first (all_of_each c.args.set.each ++ c.args.set.last) c.in_err-went.ensures.memory)

pub returns-clause-memory : goal.returns-clause-memory
returns-clause-memory g c =
    let logs = all_of_each c.args.set.each ++ c.args.set.last in
    IfErr-weaker c.make_logs.result (λ _. HasProgram logs) (λ _. HasProgram (all_of_set c.args.set)) (λ _ p. program_later c.args.set.first logs p) c.make_logs.ensures.memory
