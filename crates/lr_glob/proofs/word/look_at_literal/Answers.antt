use Rattle.lr_host.proofs.Looking.{sees}
use Rattle.lr_glob.proofs.Giving.{literal_failed, literal_lost}
use Rattle.lr_glob.proofs.word.look_at_literal.Goals as goal

pub returns-in_default-clause-stopped : goal.returns-in_default-clause-stopped
returns-in_default-clause-stopped g c = literal_failed c.args.path c.in_default.ensures.told

pub returns-in-Ok-seen_there-clause-told : goal.returns-in-Ok-seen_there-clause-told
returns-in-Ok-seen_there-clause-told g c = sees c.args.path _ c.in-Ok.look c.in-Ok.ensures.told c.in-Ok-seen_there.ensures

pub returns-in-Err-clause-stopped : goal.returns-in-Err-clause-stopped
returns-in-Err-clause-stopped g c = literal_lost c.args.path c.in-Ok.look c.in-Ok.ensures.told
