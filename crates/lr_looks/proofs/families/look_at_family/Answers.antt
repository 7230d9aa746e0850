use Rattle.lr_host.proofs.Counts.{went_only}
use Rattle.lr_looks.specs.Found.{found_in}
use Rattle.lr_looks.proofs.Behind.{stood_told, stop_told, some_told, stop_went}
use Rattle.lr_looks.proofs.families.look_at_family.Goals as goal

pub stand_at-requires-clause-size : goal.stand_at-requires-clause-size
stand_at-requires-clause-size g c = c.requires.path.size

pub returns-in-Ok-clause-told : goal.returns-in-Ok-clause-told
returns-in-Ok-clause-told g c = stood_told c.add_look.result c.args.listings.now.taken.items c.stand_at.new.listings.taken.items (found_in c.args.found) c.in-Ok.standing.stand c.in-Ok.standing.tmp c.args.faults.now.items
    c.args.sets.now.items c.add_look.new.sets.items (c.in-Ok.ensures.told (λ e. absurd (cc e))) c.add_look.ensures.looked

pub returns-in-Err-clause-told : goal.returns-in-Err-clause-told
returns-in-Err-clause-told g c = stop_told c.add_stop.result c.args.listings.now.taken.items c.stand_at.new.listings.taken.items (found_in c.args.found) c.in-Err.why c.args.faults.now.items c.add_stop.new.faults.items
    c.args.sets.now.items (λ ne. c.in-Err.ensures.told (λ e. ne (cc e))) c.add_stop.ensures.known c.add_stop.ensures.faults

pub returns-in-Ok-clause-some : goal.returns-in-Ok-clause-some
returns-in-Ok-clause-some g c = some_told c.add_look.result c.args.listings.now.taken.items (found_in c.args.found) _ c.in-Ok.ensures.part

pub returns-in-Err-clause-some : goal.returns-in-Err-clause-some
returns-in-Err-clause-some g c = some_told c.add_stop.result c.args.listings.now.taken.items (found_in c.args.found) _ c.in-Err.ensures.part

pub returns-in-Ok-clause-went : goal.returns-in-Ok-clause-went
returns-in-Ok-clause-went g c = went_only c.add_look.result c.args.faults.now.items _ _ c.in-Ok.ensures.counts

pub returns-in-Err-clause-went : goal.returns-in-Err-clause-went
returns-in-Err-clause-went g c = stop_went c.add_stop.result c.in-Err.why c.args.faults.now.items c.add_stop.new.faults.items
    _ _ c.in-Err.ensures.cause c.in-Err.ensures.counts c.add_stop.ensures.faults
