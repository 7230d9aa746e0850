use Rattle.std.proofs.Common.{ap}
use Rattle.lr_rules.specs.declared.rule.Naming.{Naming}
use Rattle.lr_looks.specs.Families.{sight_of}
use Rattle.lr_looks.proofs.Behind.{its_listing, family_told, family_lacks, family_part, part_of}
use Rattle.lr_looks.proofs.families.stand_at.Goals as goal

pub returns-in-Ok-clause-told : goal.returns-in-Ok-clause-told
returns-in-Ok-clause-told g c = λ ne. family_told c.args.listings.now.taken.items c.listing_at.new.listings.taken.items c.args.family.now.log c.args.family.now.naming _ c.in-Ok.place c.index.result.now (sight_of c.standing_in.result)
    (ap (λ (n : Naming). n.dir) c.naming.ensures) (its_listing c.listing_at.new.listings.taken.items c.in-Ok.place _ c.index.result.now c.in-Ok.ensures.there c.index.ensures) c.in-Ok.ensures.told c.standing_in.ensures.told

pub returns-in-Err-clause-told : goal.returns-in-Err-clause-told
returns-in-Err-clause-told g c = λ ne. family_lacks c.args.listings.now.taken.items c.listing_at.new.listings.taken.items c.args.family.now.log c.args.family.now.naming _ c.in-Err.why (ap (λ (n : Naming). n.dir) c.naming.ensures)
    (c.in-Err.ensures.stopped (λ e. ne (cc e)))

pub returns-in-Ok-clause-part : goal.returns-in-Ok-clause-part
returns-in-Ok-clause-part g c = part_of c.args.listings.now.taken.items c.listing_at.new.listings.taken.items c.args.family.now.log c.args.family.now.naming _ (family_told c.args.listings.now.taken.items c.listing_at.new.listings.taken.items c.args.family.now.log
    c.args.family.now.naming _ c.in-Ok.place c.index.result.now (sight_of c.standing_in.result) (ap (λ (n : Naming). n.dir) c.naming.ensures)
    (its_listing c.listing_at.new.listings.taken.items c.in-Ok.place _ c.index.result.now c.in-Ok.ensures.there c.index.ensures) c.in-Ok.ensures.told c.standing_in.ensures.told)

pub returns-in-Err-clause-part : goal.returns-in-Err-clause-part
returns-in-Err-clause-part g c = family_part c.args.listings.now.taken.items c.args.family.now.log c.args.family.now.naming _ c.in-Err.why (ap (λ (n : Naming). n.dir) c.naming.ensures) c.in-Err.ensures.part
