use Rattle.std.proofs.Common.{◌≡◌, ap, ◌∙◌, ◌+◌, ◌++◌, ◌∷◌, [], Bool, cond, List, map, take, subst}
use Rattle.lr_family.specs.declared.stand.Member.{Member}
use Rattle.lr_scripts.specs.declared.removal.Removal.{Removal}
use Rattle.lr_chain.specs.DatedRotation.{gone}
use Rattle.lr_chain.specs.DatedReady.{ranked, removal_of, plain_removal}
use Rattle.lr_chain.proofs.Removed.{gone_whole, rest_whole}
use Rattle.lr_chain.proofs.dated_gone.removals_of.Goals as goal

pub returns : goal.returns
returns c = gone_whole c.args.kept.count c.args.kept.maxage c.args.kept.now c.args.target.now.seconds c.args.target.now.serial c.args.target.now.path c.args.members.now c.later_than-place.result c.add_gone.new.into.items c.add_one.new.into.items c.add_gone-2.new.into.items c.reverse.new.self.items
    c.later_than-place.ensures.bound (c.later_than-place.ensures.place c.args.kept.maxage c.args.kept.now) (c.in_ok-add_gone.ensures ∙ ap (λ (xs : List Removal). xs ++ map removal_of (gone c.args.kept.count 0 (map (ranked c.args.kept.maxage c.args.kept.now) (take c.later_than-place.result c.args.members.now)))) c.new-removals.ensures.items) (subst (λ (b : Bool). c.add_one.new.into.items ≡ c.add_gone.new.into.items ++ cond b (plain_removal c.args.target.now.path ∷ []) []) c.has_no_room.ensures c.in_ok-add_one.ensures)
    (subst (λ (ms : List Member). c.add_gone-2.new.into.items ≡ c.add_one.new.into.items ++ map removal_of (gone c.args.kept.count (c.later_than-place.result + 1) (map (ranked c.args.kept.maxage c.args.kept.now) ms))) (rest_whole c.args.members.now c.later_than-place.result) c.in_ok-add_gone-2.ensures)
    c.reverse.ensures.items
