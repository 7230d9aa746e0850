use Rattle.std.proofs.Common.{◌≡◌, List, [], ◌∷◌, ◌++◌, ℕ, map, rules, tests, sym, ap, ◌∙◌, append_assoc}
use Rattle.std.proofs.lemmas.List.{append-nil, map-append}
use Rattle.std.proofs.lemmas.Iterator.Consumers.{YieldsList-end}
use Rattle.std.proofs.lemmas.Iterator.Splits.{YieldsList-from_slice_split}
use Rattle.std.specs.Slice.Iter as slice
use Rattle.lr_rules.specs.Path.{is_slash}
use Rattle.lr_words.specs.Names.{behind_word_slash, behind_word_slashes}
use Rattle.lr_words.proofs.name.kept_bytes.Goals as goal

one_more : (parts : List (List ℕ)) (part : List ℕ) → behind_word_slashes (parts ++ part ∷ []) ≡ behind_word_slashes parts ++ behind_word_slash part
one_more [] part = append-nil (behind_word_slash part)
one_more (p ∷ ps) part = ap (λ xs. behind_word_slash p ++ xs) (one_more ps part) ∙ sym (append_assoc (behind_word_slash p) (behind_word_slashes ps) (behind_word_slash part))

pub loop-part-preserved : goal.loop-part-preserved
loop-part-preserved c =
    c.in_ok-add_part.ensures
    ∙ (ap (λ xs. xs ++ behind_word_slash c.in-Some.part.now) c.loop-part.invariant
    ∙ sym (ap behind_word_slashes (map-append (λ x. x.now) c.loop-part.yielded (c.in-Some.part ∷ [])) ∙ one_more (map (λ x. x.now) c.loop-part.yielded) c.in-Some.part.now))

pub returns : goal.returns
returns c =
    let same = c.into_iter-part-iterator.ensures.into_iter_gives in
    let e = YieldsList-end
    (YieldsList-from_slice_split {s = c.into_iter-part-iterator.result} _ is_slash c.args.word.now
    (ap slice.split_rest same ∙ c.split-part-items.ensures.rest) (ap slice.split_done same ∙ c.split-part-items.ensures.done) (ap slice.split_callee same ∙ c.split-part-items.ensures.closure)
    (λ x b q k. search (rules, tests)))
    c.loop-part.yielded _ c.loop-part.yielded_by _ _ c.in-None.is c.next.ensures.steps in
    c.loop-part.invariant ∙ ap behind_word_slashes e.0
