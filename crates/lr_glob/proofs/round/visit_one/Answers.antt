use Rattle.std.proofs.Common.{subst}
use Rattle.lr_glob.specs.Gathers.{Gathers, AddsPaths}
use Rattle.lr_glob.specs.Parts.{PickOf}
use Rattle.lr_glob.proofs.Rounds.{visit_early, visit_late, visit_adds}
use Rattle.lr_glob.proofs.round.visit_one.Goals as goal

pub returns-in-Err-clause-stopped : goal.returns-in-Err-clause-stopped
returns-in-Err-clause-stopped g c = visit_early c.args.dir c.stop_at.result c.in-Err.stop c.stop_at.ensures c.in-Err.ensures.stopped

pub returns-in-Ok-add_matches-clause-told : goal.returns-in-Ok-add_matches-clause-told
returns-in-Ok-add_matches-clause-told g c = visit_adds c.args.part.now c.args.dir c.in-Ok.names.items c.args.into.now.items c.add_matches.new.into.items c.in-Ok.ensures.told
    (subst (λ ns. AddsPaths (Gathers (PickOf c.args.part.now c.args.dir) ns) c.args.into.now.items c.add_matches.new.into.items) c.as_slice.ensures.value c.in-Ok-add_matches.ensures)

pub returns-clause-stopped : goal.returns-clause-stopped
returns-clause-stopped g c = visit_late c.args.dir c.in-Ok.names.items c.in-Ok.ensures.told
