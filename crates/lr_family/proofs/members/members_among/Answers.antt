use Rattle.std.proofs.Common.{inl, refl, true}
use Rattle.lr_host.proofs.Left.{left_first}
use Rattle.lr_family.specs.declared.stand.StandStop.TheVariants as stop
use Rattle.lr_family.specs.Among.{ShowsNoneIn}
use Rattle.lr_family.proofs.Newness.{members_apart}
use Rattle.lr_family.proofs.Placed.{seen_named, named_sorted}
use Rattle.lr_family.proofs.Whole.{stands_among, stops_among}
use Rattle.lr_family.proofs.members.members_among.Goals as goal

pub returns-in_default-clause-stopped : goal.returns-in_default-clause-stopped
returns-in_default-clause-stopped g c = left_first (ShowsNoneIn c.args.naming.now true c.args.names.now stop.Memory) _ (inl (refl, refl))

pub sort_newest-requires : goal.sort_newest-requires
sort_newest-requires g c = members_apart c.args.naming.now c.args.names.now c.in-Ok.spots.items c.in-Ok-look_at_all.members.items c.requires.format c.in-Ok.ensures c.in-Ok-look_at_all.ensures.seen

pub returns-in-Ok-look_at_all-clause-told : goal.returns-in-Ok-look_at_all-clause-told
returns-in-Ok-look_at_all-clause-told g c = stands_among c.args.naming.now c.args.names.now c.in-Ok.spots.items c.in-Ok-look_at_all.members.items c.sort_newest.new.members.items c.in-Ok.ensures c.sort_newest.ensures.same c.sort_newest.ensures.newest c.in-Ok-look_at_all.ensures.told

pub returns-in-Ok-look_at_all-clause-named : goal.returns-in-Ok-look_at_all-clause-named
returns-in-Ok-look_at_all-clause-named g c = named_sorted c.args.naming.now c.in-Ok-look_at_all.members.items c.sort_newest.new.members.items c.sort_newest.ensures.same (seen_named c.args.naming.now c.in-Ok.spots.items c.in-Ok-look_at_all.members.items c.in-Ok.ensures.has.places c.in-Ok-look_at_all.ensures.seen)

pub returns-in-Err-clause-stopped : goal.returns-in-Err-clause-stopped
returns-in-Err-clause-stopped g c = stops_among c.args.naming.now c.args.names.now c.in-Ok.spots.items c.in-Err.stop c.in-Ok.ensures c.in-Err.ensures.stopped
