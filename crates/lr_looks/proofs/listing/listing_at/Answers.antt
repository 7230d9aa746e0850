use Rattle.std.proofs.Common.{sym, ◌∙◌}
use Rattle.lr_looks.specs.Internal.{places_in}
use Rattle.lr_looks.proofs.Known.{was_before, at_before}
use Rattle.lr_looks.proofs.listing.listing_at.Goals as goal

pub take_listing-requires-clause-new : goal.take_listing-requires-clause-new
take_listing-requires-clause-new g c = c.requires.none c.args.dir.now (sym c.place_of.ensures ∙ c.in-None.is)

pub returns-in-Some-clause-told : goal.returns-in-Some-clause-told
returns-in-Some-clause-told g c = was_before c.args.listings.now.taken.items (places_in c.args.listings.now) c.args.dir.now c.in-Some.place c.requires (sym c.in-Some.is ∙ c.place_of.ensures)

pub returns-in-Some-clause-there : goal.returns-in-Some-clause-there
returns-in-Some-clause-there g c = at_before c.args.listings.now.taken.items (places_in c.args.listings.now) c.args.dir.now c.in-Some.place c.requires (sym c.in-Some.is ∙ c.place_of.ensures)
