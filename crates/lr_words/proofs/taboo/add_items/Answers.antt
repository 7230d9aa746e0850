use Rattle.std.proofs.Common.{[], ◌∷◌, ◌++◌, map, filter, rules, tests, sym, ap, ◌∙◌, append_assoc}
use Rattle.std.proofs.lemmas.List.{append-nil, map-append}
use Rattle.std.proofs.lemmas.List.Elements.{filter-append}
use Rattle.std.proofs.lemmas.Iterator.Consumers.{YieldsList-end}
use Rattle.std.proofs.lemmas.Iterator.Splits.{YieldsList-from_slice_split}
use Rattle.std.specs.Slice.Iter as slice
use Rattle.lr_words.specs.Lists.{is_comma, is_item}
use Rattle.lr_words.proofs.taboo.add_items.Goals as goal

pub loop-part-init : goal.loop-part-init
loop-part-init c = sym (append-nil c.args.into.now.items)

pub loop-part-preserved : goal.loop-part-preserved
loop-part-preserved c =
    let seen = map (λ x. x.now) c.loop-part.yielded in
    c.in_ok-add_part.ensures
    ∙ (ap (λ xs. xs ++ filter is_item (c.in-Some.part.now ∷ [])) c.loop-part.invariant
    ∙ (append_assoc c.args.into.now.items (filter is_item seen) (filter is_item (c.in-Some.part.now ∷ []))
    ∙ ap (λ xs. c.args.into.now.items ++ xs) (sym (ap (filter is_item) (map-append (λ x. x.now) c.loop-part.yielded (c.in-Some.part ∷ [])) ∙ filter-append is_item seen (c.in-Some.part.now ∷ [])))))

pub returns : goal.returns
returns c =
    let same = c.into_iter-part-iterator.ensures.into_iter_gives in
    let e = YieldsList-end
    (YieldsList-from_slice_split {s = c.into_iter-part-iterator.result} _ is_comma c.args.word.now
    (ap slice.split_rest same ∙ c.split-part-items.ensures.rest) (ap slice.split_done same ∙ c.split-part-items.ensures.done) (ap slice.split_callee same ∙ c.split-part-items.ensures.closure)
    (λ x b q k. search (rules, tests)))
    c.loop-part.yielded _ c.loop-part.yielded_by _ _ c.in-None.is c.next.ensures.steps in
    c.loop-part.invariant ∙ ap (λ xs. c.args.into.now.items ++ filter is_item xs) e.0
