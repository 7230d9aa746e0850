use Rattle.lr_glob.proofs.Giving.{not_sought, search_told, search_stopped, search_between}
use Rattle.lr_glob.proofs.word.search.Goals as goal

pub returns-in-Err-clause-stopped : goal.returns-in-Err-clause-stopped
returns-in-Err-clause-stopped g c = not_sought c.args.word.now c.in-Err.stop c.requires.wild c.in-Err.ensures.stopped

pub returns-in-Ok-ordered-clause-told : goal.returns-in-Ok-ordered-clause-told
returns-in-Ok-ordered-clause-told g c = search_told (λ l. l.items) c.args.word.now c.in-Ok.paths.items c.in-Ok-ordered.all.items c.look_at_each.result _ c.requires.wild c.requires.absolute c.in-Ok-ordered.ensures c.in-Ok.ensures.told c.look_at_each.ensures.told

pub returns-in-Ok-ordered-clause-stopped : goal.returns-in-Ok-ordered-clause-stopped
returns-in-Ok-ordered-clause-stopped g c = search_stopped c.args.word.now c.in-Ok.paths.items c.in-Ok-ordered.all.items c.look_at_each.result _ c.requires.wild c.in-Ok-ordered.ensures c.in-Ok.ensures.told c.look_at_each.ensures.stopped

pub returns-in-Err-ordered-clause-stopped : goal.returns-in-Err-ordered-clause-stopped
returns-in-Err-ordered-clause-stopped g c = search_between c.args.word.now c.in-Ok.paths.items c.requires.wild c.in-Ok.ensures.told
