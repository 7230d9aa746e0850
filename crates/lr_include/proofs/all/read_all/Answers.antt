use Rattle.std.proofs.Common.{sym, subst}
use Rattle.std.specs.Prelude.{All}
use Rattle.lr_rules.proofs.Results.{on_err}
use Rattle.lr_conf.specs.Meaning.{Meaning}
use Rattle.lr_conf.specs.Plain.{IsPlainRule}
use Rattle.lr_conf.proofs.Plain.{all_plain}
use Rattle.lr_include.specs.Stages.{begun}
use Rattle.lr_include.proofs.Stages.{reads_all, all_mean, no_todo}
use Rattle.lr_include.specs.Readers.{IsConfOrCall}
use Rattle.lr_include.proofs.Allowed.{only_those}
use Rattle.lr_include.proofs.Calls.{told_rose_by, told_rose}
use Rattle.lr_include.proofs.Lacking.{lacks_here}
use Rattle.lr_include.proofs.all.read_all.Goals as goal

pub returns-clause-told : goal.returns-clause-told
returns-clause-told g c =
    let went = c.in_ok-ran.ensures.told (begun c.args.paths.now) c.in_ok-course.ensures in
    reads_all c.args.paths.now _ went.stage went.went (no_todo c.run-ran.new.self went.stage went.stands c.in_ok-ran.ensures.none) (c.finish-reading.ensures went.stage went.stands)

pub returns-clause-plain : goal.returns-clause-plain
returns-clause-plain g c =
    let went = c.in_ok-ran.ensures.told (begun c.args.paths.now) c.in_ok-course.ensures in
    subst (λ (m : Meaning). All IsPlainRule m.rules) (sym (c.finish-reading.ensures went.stage went.stands)) (all_plain went.stage.lines)

pub returns-clause-only : goal.returns-clause-only
returns-clause-only g c =
    let went = c.in_ok-ran.ensures.told (begun c.args.paths.now) c.in_ok-course.ensures in
    subst (λ (m : Meaning). All IsConfOrCall m.faults) (sym (all_mean c.args.paths.now _ went.stage went.went (no_todo c.run-ran.new.self went.stage went.stands c.in_ok-ran.ensures.none) (c.finish-reading.ensures went.stage went.stands)))
    (only_those c.args.paths.now went.went.visits)

pub returns-clause-counted : goal.returns-clause-counted
returns-clause-counted g c =
    let went = c.in_ok-ran.ensures.told (begun c.args.paths.now) c.in_ok-course.ensures in
    told_rose_by c.args.paths.now _ went.went.visits _ _ (all_mean c.args.paths.now _ went.stage went.went (no_todo c.run-ran.new.self went.stage went.stands c.in_ok-ran.ensures.none) (c.finish-reading.ensures went.stage went.stands)) went.went.counted

pub returns-clause-cause : goal.returns-clause-cause
returns-clause-cause g c = λ kind path h. told_rose c.finish-reading.result.faults _ _ kind path (returns-clause-counted g c) h

pub returns-in_err-course-clause-lacking : goal.returns-in_err-course-clause-lacking
returns-in_err-course-clause-lacking g c = on_err c.from_residual.result _ (lacks_here (begun c.args.paths.now) _)
