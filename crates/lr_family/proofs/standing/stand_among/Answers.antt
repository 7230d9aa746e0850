use Rattle.std.proofs.Common.{sym, refl, ◌∙◌}
use Rattle.lr_family.proofs.Newness.{none_apart}
use Rattle.lr_family.proofs.Whole.{shows_none_in, shows_in, none_in, none_behind}
use Rattle.lr_family.proofs.standing.stand_among.Goals as goal

pub returns-then-not-there-clause-told : goal.returns-then-not-there-clause-told
returns-then-not-there-clause-told g c = shows_none_in c.args.naming.now c.args.listing.now.there c.args.listing.now.parent c.args.listing.now.names _ _ (sym c.there-there.ensures ∙ c.if-not-there.true) c.there-there.ensures c.parent-parent.ensures c.new.ensures c.new-then-not-there.ensures

pub returns-then-not-there-clause-newest : goal.returns-then-not-there-clause-newest
returns-then-not-there-clause-newest g c = none_apart _ c.new.ensures

pub returns-in-Err-clause-stopped : goal.returns-in-Err-clause-stopped
returns-in-Err-clause-stopped g c = none_in c.args.naming.now c.args.listing.now.there c.names.result.now c.args.listing.now.names c.in-Err.stop (sym c.there-there.ensures ∙ c.if-not-there.false) c.names.ensures.names c.in-Err.ensures.stopped

pub returns-in-Ok-parts_among-clause-told : goal.returns-in-Ok-parts_among-clause-told
returns-in-Ok-parts_among-clause-told g c = shows_in c.args.naming.now c.args.listing.now.there c.args.listing.now.parent c.names.result.now c.names-2.result.now c.args.listing.now.names c.in-Ok.members.items c.in-Ok-parts_among.parts _ (sym c.there-there.ensures ∙ c.if-not-there.false) c.there-there.ensures c.parent-parent.ensures c.from_vec-members.ensures refl
    c.names.ensures.names c.names-2.ensures.names c.in-Ok.ensures.told c.in-Ok-parts_among.ensures.told

pub returns-in-Err-parts_among-clause-stopped : goal.returns-in-Err-parts_among-clause-stopped
returns-in-Err-parts_among-clause-stopped g c = none_behind c.args.naming.now c.args.listing.now.there c.names.result.now c.names-2.result.now c.args.listing.now.names c.in-Ok.members.items c.in-Err-parts_among.stop (sym c.there-there.ensures ∙ c.if-not-there.false)
    c.names.ensures.names c.names-2.ensures.names c.in-Ok.ensures.told c.in-Err-parts_among.ensures.stopped
