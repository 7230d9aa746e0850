use Rattle.std.proofs.Common.{true, false}
use Rattle.lr_glob.proofs.Visits.{visited_dir, visited_other, not_listed, seen_as}
use Rattle.lr_glob.proofs.visit.visit.Goals as goal

pub returns-in-Ok-true-clause-told : goal.returns-in-Ok-true-clause-told
returns-in-Ok-true-clause-told g c = visited_dir (λ l. l.items) c.args.dir.now c.list.result _ (seen_as c.args.dir.now c.in-Ok-true.field-0 true c.in-Ok-true.field-0-test c.in-Ok-true.ensures.told) c.list.ensures.told

pub returns-in-Ok-true-clause-stopped : goal.returns-in-Ok-true-clause-stopped
returns-in-Ok-true-clause-stopped g c = not_listed c.args.dir.now c.list.result _ (seen_as c.args.dir.now c.in-Ok-true.field-0 true c.in-Ok-true.field-0-test c.in-Ok-true.ensures.told) c.list.ensures.late c.list.ensures.stopped

pub returns-in-Ok-false-clause-told : goal.returns-in-Ok-false-clause-told
returns-in-Ok-false-clause-told g c = visited_other c.args.dir.now c.new.result.items c.new.ensures.items (seen_as c.args.dir.now c.in-Ok-false.field-0 false c.in-Ok-false.field-0-test c.in-Ok-false.ensures.told)
