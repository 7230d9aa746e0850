use Rattle.lr_family.proofs.Exact.{exactly_no_dir}
use Rattle.lr_family.proofs.Few.{at_most_three}
use Rattle.lr_family.proofs.listing.Listing.take.Goals as goal

pub returns-clause-exactly : goal.returns-clause-exactly
returns-clause-exactly g c = exactly_no_dir c.args.dir.now (λ l. l.there) (λ l. l.parent) (λ l. l.names) c.listing_of.result c.listing_of.ensures.told c.listing_of.ensures.stopped

pub returns-clause-few : goal.returns-clause-few
returns-clause-few g c = at_most_three c.args.dir.now (λ l. l.there) (λ l. l.parent) (λ l. l.names) c.listing_of.result c.listing_of.ensures.told c.listing_of.ensures.stopped
