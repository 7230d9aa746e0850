use Rattle.lr_cat.proofs.Working.{put_all, put_some, saw_not, sights_all, sights_not, sights_some}
use Rattle.lr_cat.proofs.locked.see_and_put.Goals as goal

pub returns-in-Ok-put_texts-clause-came : goal.returns-in-Ok-put_texts-clause-came
returns-in-Ok-put_texts-clause-came g c = put_all c.args.family.now.naming c.args.log c.in-Ok.files.paths.items c.in-Ok.files.waits c.in-Ok.ensures.told c.in-Ok-put_texts.ensures.told

pub returns-in-Ok-put_texts-clause-sights : goal.returns-in-Ok-put_texts-clause-sights
returns-in-Ok-put_texts-clause-sights g c = sights_all c.args.family.now.naming c.args.log c.in-Ok.files.paths.items c.in-Ok.files.waits c.in-Ok.ensures.told c.in-Ok-put_texts.ensures.told

pub returns-in-Err-put_texts-clause-came : goal.returns-in-Err-put_texts-clause-came
returns-in-Err-put_texts-clause-came g c = put_some c.args.family.now.naming c.args.log c.in-Ok.files.paths.items c.in-Ok.files.waits c.in-Err-put_texts.fault c.in-Ok.ensures.told c.in-Err-put_texts.ensures.stopped

pub returns-in-Err-put_texts-clause-sights : goal.returns-in-Err-put_texts-clause-sights
returns-in-Err-put_texts-clause-sights g c = sights_some c.args.family.now.naming c.args.log c.in-Ok.files.paths.items c.in-Ok.files.waits c.in-Err-put_texts.fault c.in-Ok.ensures.told c.in-Err-put_texts.ensures.stopped

pub returns-in-Err-clause-came : goal.returns-in-Err-clause-came
returns-in-Err-clause-came g c = saw_not c.args.family.now.naming c.args.log c.in-Err.why (g.H.Host.told c.args.host.now) (g.H.Host.told c.see.new.host) (g.K.Sink.taken c.args.out.now) c.in-Err.ensures.stopped

pub returns-in-Err-clause-sights : goal.returns-in-Err-clause-sights
returns-in-Err-clause-sights g c = sights_not c.args.family.now.naming c.args.log c.in-Err.why (g.H.Host.told c.args.host.now) (g.H.Host.told c.see.new.host) c.in-Err.ensures.stopped
