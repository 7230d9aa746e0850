use Rattle.std.proofs.Common.{◌∙◌}
use Rattle.lr_glob.proofs.Giving.{sought_led, sought_none}
use Rattle.lr_glob.proofs.word.paths_of.Goals as goal

pub returns-in-Ok-clause-stopped : goal.returns-in-Ok-clause-stopped
returns-in-Ok-clause-stopped g c = sought_led c.args.word.now c.as_slice.result.now c.in-Ok.start.items c.lead.result _ _ (c.as_slice.ensures.value ∙ c.in-Ok.ensures.0) c.in-Ok.ensures.1 c.lead.ensures.stopped

pub returns-in-Err-clause-stopped : goal.returns-in-Err-clause-stopped
returns-in-Err-clause-stopped g c = sought_none c.args.word.now _
