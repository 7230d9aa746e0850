use Rattle.std.proofs.Common.{ap, ◌∙◌}
use Rattle.lr_cat.specs.Saw.{files_behind}
use Rattle.lr_cat.proofs.Standing.{both_not, cause_from, files_can, saw_short, sees_all, stands_not}
use Rattle.lr_cat.proofs.seeing.see.Goals as goal

pub returns-in-Err-clause-stopped : goal.returns-in-Err-clause-stopped
returns-in-Err-clause-stopped g c = stands_not c.args.family.now.naming c.args.log c.in-Err.why c.stand_stop.result c.stand_stop.ensures c.in-Err.ensures.stopped

pub returns-in-Err-find_both-clause-stopped : goal.returns-in-Err-find_both-clause-stopped
returns-in-Err-find_both-clause-stopped g c = both_not c.args.family.now.naming c.in-Ok.stand c.args.aside c.args.log c.in-Err-find_both.fault c.requires.aside c.in-Ok.ensures.told c.in-Err-find_both.ensures.stopped

pub returns-in-Err-find_both-clause-cause : goal.returns-in-Err-find_both-clause-cause
returns-in-Err-find_both-clause-cause g c = λ puts later. cause_from c.in-Err-find_both.fault (g.H.Host.counts c.args.host.now) (g.H.Host.counts c.stand.new.host) (g.H.Host.counts c.find_both.new.host) puts later c.in-Ok.ensures.counts.0.0 (c.in-Err-find_both.ensures.cause puts later)

pub returns-in-Ok-files_of-clause-told : goal.returns-in-Ok-files_of-clause-told
returns-in-Ok-files_of-clause-told g c = sees_all c.args.family.now.naming c.in-Ok.stand c.args.aside c.args.log c.in-Ok-find_both.found c.in-Ok-files_of.files.paths.items c.in-Ok-files_of.files.waits c.requires.aside c.in-Ok.ensures.told c.in-Ok-find_both.ensures.told
    (c.in-Ok-files_of.ensures.paths ∙ ap (files_behind c.in-Ok-find_both.found.log c.in-Ok-find_both.found.aside) c.as_slice.ensures) c.in-Ok-files_of.ensures.waits

pub returns-in-Ok-files_of-clause-can : goal.returns-in-Ok-files_of-clause-can
returns-in-Ok-files_of-clause-can g c = files_can c.args.family.now.naming c.in-Ok.stand c.args.aside c.args.log c.in-Ok-find_both.found c.in-Ok-files_of.files.paths.items c.in-Ok.ensures.told c.in-Ok-find_both.ensures.told c.in-Ok-find_both.ensures.can_aside c.in-Ok-find_both.ensures.can_log
    (c.in-Ok-files_of.ensures.paths ∙ ap (files_behind c.in-Ok-find_both.found.log c.in-Ok-find_both.found.aside) c.as_slice.ensures)

pub returns-clause-stopped : goal.returns-clause-stopped
returns-clause-stopped g c = saw_short c.args.family.now.naming c.in-Ok.stand c.args.aside c.args.log c.in-Ok-find_both.found c.in-Ok.ensures.told c.in-Ok-find_both.ensures.told
