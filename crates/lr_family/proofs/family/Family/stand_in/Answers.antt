use Rattle.lr_family.proofs.Exact.{exactly_among}
use Rattle.lr_family.proofs.Few.{few_among}
use Rattle.lr_family.proofs.family.Family.stand_in.Goals as goal

pub returns-clause-exactly : goal.returns-clause-exactly
returns-clause-exactly g c = exactly_among c.args.self.now.naming c.args.listing.now.there c.args.listing.now.parent c.args.listing.now.names c.stand_among.result c.stand_among.ensures.told c.stand_among.ensures.stopped

pub returns-clause-few : goal.returns-clause-few
returns-clause-few g c = few_among c.args.self.now.naming c.args.listing.now.there c.args.listing.now.parent c.args.listing.now.names c.stand_among.result c.stand_among.ensures.told c.stand_among.ensures.stopped
