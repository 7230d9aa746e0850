use Rattle.std.proofs.Common.{[], ◌∷◌, ◌++◌, rules, tests, sym, ap, ◌∙◌}
use Rattle.std.proofs.lemmas.List.{map-append}
use Rattle.std.proofs.lemmas.Iterator.Consumers.{YieldsList-end}
use Rattle.std.proofs.lemmas.Iterator.Splits.{YieldsList-from_slice_split}
use Rattle.std.specs.Slice.Iter as slice
use Rattle.lr_rules.specs.Path.{is_slash}
use Rattle.lr_glob.proofs.lead.parts_of.Goals as goal

pub loop-part-preserved : goal.loop-part-preserved
loop-part-preserved c = c.in_ok-push_text.ensures ∙ (ap (λ xs. xs ++ c.in-Some.part.now ∷ []) c.loop-part.invariant ∙ sym (map-append (λ x. x.now) c.loop-part.yielded (c.in-Some.part ∷ [])))

pub returns : goal.returns
returns c =
    let same = c.into_iter-part-iterator.ensures.into_iter_gives in
    let e = YieldsList-end
    (YieldsList-from_slice_split {s = c.into_iter-part-iterator.result} _ is_slash c.args.behind.now
    (ap slice.split_rest same ∙ c.split-part-items.ensures.rest) (ap slice.split_done same ∙ c.split-part-items.ensures.done) (ap slice.split_callee same ∙ c.split-part-items.ensures.closure)
    (λ x b q k. search (rules, tests)))
    c.loop-part.yielded _ c.loop-part.yielded_by _ _ c.in-None.is c.next.ensures.steps in
    c.loop-part.invariant ∙ e.0
