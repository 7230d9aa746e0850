use Rattle.std.proofs.Common.{Err}
use Rattle.lr_family.proofs.BehindListing.{exactly}
use Rattle.lr_family.proofs.Few.{few_then, few_unlisted}
use Rattle.lr_family.proofs.Whole.{stand_told, stand_stopped, never_listed}
use Rattle.lr_family.proofs.family.Family.stand.Goals as goal

pub returns-in-Ok-clause-told : goal.returns-in-Ok-clause-told
returns-in-Ok-clause-told g c = stand_told c.args.self.now.naming c.in-Ok.listing.there c.in-Ok.listing.parent c.in-Ok.listing.names c.stand_in.result _ c.in-Ok.ensures.told c.stand_in.ensures.told

pub returns-in-Ok-clause-stopped : goal.returns-in-Ok-clause-stopped
returns-in-Ok-clause-stopped g c = stand_stopped c.args.self.now.naming c.in-Ok.listing.there c.in-Ok.listing.parent c.in-Ok.listing.names c.stand_in.result _ c.in-Ok.ensures.told c.stand_in.ensures.stopped

pub returns-in-Ok-clause-exactly : goal.returns-in-Ok-clause-exactly
returns-in-Ok-clause-exactly g c = exactly c.args.self.now.naming c.stand_in.result
    (stand_told c.args.self.now.naming c.in-Ok.listing.there c.in-Ok.listing.parent c.in-Ok.listing.names c.stand_in.result _ c.in-Ok.ensures.told c.stand_in.ensures.told)
    (stand_stopped c.args.self.now.naming c.in-Ok.listing.there c.in-Ok.listing.parent c.in-Ok.listing.names c.stand_in.result _ c.in-Ok.ensures.told c.stand_in.ensures.stopped)

pub returns-in-Ok-clause-few : goal.returns-in-Ok-clause-few
returns-in-Ok-clause-few g c = few_then c.args.self.now.naming c.args.self.now.naming.dir c.in-Ok.listing.there c.in-Ok.listing.parent c.in-Ok.listing.names c.in-Ok.ensures.told c.stand_in.ensures.few

pub returns-in-Err-clause-stopped : goal.returns-in-Err-clause-stopped
returns-in-Err-clause-stopped g c = never_listed c.args.self.now.naming c.in-Err.stop c.in-Err.ensures.stopped

pub returns-in-Err-clause-exactly : goal.returns-in-Err-clause-exactly
returns-in-Err-clause-exactly g c = exactly c.args.self.now.naming (Err c.in-Err.stop) tt (never_listed c.args.self.now.naming c.in-Err.stop c.in-Err.ensures.stopped)

pub returns-in-Err-clause-few : goal.returns-in-Err-clause-few
returns-in-Err-clause-few g c = few_unlisted c.args.self.now.naming c.args.self.now.naming.dir c.in-Err.stop c.in-Err.ensures.stopped
