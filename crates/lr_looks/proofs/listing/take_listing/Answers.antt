use Rattle.lr_looks.proofs.Known.{none_new, taken_now, lacks_one, part_one, part_unadded, at_end}
use Rattle.lr_looks.proofs.listing.take_listing.Goals as goal

pub add_listing-requires-clause-new : goal.add_listing-requires-clause-new
add_listing-requires-clause-new g c = none_new c.args.listings.now.taken.items c.args.dir.now c.in-Ok.listing.dir c.in-Ok.ensures.dir c.requires.new

pub returns-in-Ok-add_listing-clause-told : goal.returns-in-Ok-add_listing-clause-told
returns-in-Ok-add_listing-clause-told g c = taken_now c.args.listings.now.taken.items c.add_listing.new.listings.taken.items c.args.dir.now c.in-Ok-add_listing.place c.in-Ok.listing c.requires.new c.in-Ok.ensures.dir
    c.in-Ok-add_listing.ensures.taken c.in-Ok-add_listing.ensures.place c.in-Ok.ensures.told

pub returns-in-Err-clause-stopped : goal.returns-in-Err-clause-stopped
returns-in-Err-clause-stopped g c = λ ne. lacks_one c.args.listings.now.taken.items c.args.dir.now c.in-Err.why c.requires.new c.in-Err.ensures.stopped

pub returns-in-Ok-add_listing-clause-there : goal.returns-in-Ok-add_listing-clause-there
returns-in-Ok-add_listing-clause-there g c = at_end c.args.listings.now.taken.items c.add_listing.new.listings.taken.items c.args.dir.now c.in-Ok-add_listing.place c.in-Ok.listing c.in-Ok.ensures.dir c.in-Ok-add_listing.ensures.taken c.in-Ok-add_listing.ensures.place

pub returns-in-Err-clause-part : goal.returns-in-Err-clause-part
returns-in-Err-clause-part g c = part_one c.args.listings.now.taken.items c.args.dir.now c.in-Err.why c.requires.new c.in-Err.ensures.stopped

pub returns-in-Err-add_listing-clause-part : goal.returns-in-Err-add_listing-clause-part
returns-in-Err-add_listing-clause-part g c = part_unadded c.args.listings.now.taken.items c.args.dir.now c.in-Ok.listing c.requires.new c.in-Ok.ensures.dir c.in-Ok.ensures.told
