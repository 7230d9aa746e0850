use Rattle.std.proofs.Common.{◌≡◌, ◌<◌, ◌∷◌, [], List, length, map, take, get_or, ap, subst, arith}
use Rattle.std.proofs.lemmas.List.{take_all}
use Rattle.lr_host.proofs.Counts.{went_none, went_on}
use Rattle.lr_looks.specs.Asked.{word_of, AreTexts}
use Rattle.lr_looks.specs.Found.{all_found_in}
use Rattle.lr_looks.specs.Internal.{AddsFound}
use Rattle.lr_looks.proofs.AskedBy.{words_more, words_part}
use Rattle.lr_looks.proofs.Looking.{looked_words, words_none, words_on, words_some, found_none, found_more, texts_more}
use Rattle.lr_looks.proofs.words.look_at_rule.Goals as goal

pub loop-word-init : goal.loop-word-init
loop-word-init g c = record {
  told = words_none c.args.faults.now.items (all_found_in c.args.found.now.items);
  found = found_none (all_found_in c.args.found.now.items);
  paths = λ h. h;
  texts = tt;
  went = went_none c.args.faults.now.items _;
}

pub loop-word-preserved : goal.loop-word-preserved
loop-word-preserved g c =
    let lt : c.loop-word.word-index < length c.args.rule.now.words = subst (λ (ws : List (List _)). c.loop-word.word-index < length ws) c.as_slice-word-items.ensures c.loop-word-test.true in
    let is : c.word-item.result ≡ get_or c.args.rule.now.words c.loop-word.word-index c.word-item.result = subst (λ (ws : List (List _)). c.word-item.result ≡ get_or ws c.loop-word.word-index c.word-item.result) c.as_slice-word-items.ensures c.word-item.is in
    let more = words_more c.args.set c.args.rule.now c.args.rule.now.words c.loop-word.word-index c.word-item.result lt is in record {
      told = words_on _ (map (word_of c.args.set c.args.rule.now) (take c.loop-word.word-index c.args.rule.now.words)) (word_of c.args.set c.args.rule.now c.word-item.result ∷ []) c.args.faults.now.items c.loop-word.faults.items c.look_at_word.new.faults.items
          (all_found_in c.args.found.now.items) (all_found_in c.loop-word.found.items) (all_found_in c.look_at_word.new.found.items) more c.loop-word.invariant.told c.in_ok-look_at_word.ensures.told;
      found = found_more _ (map (word_of c.args.set c.args.rule.now) (take c.loop-word.word-index c.args.rule.now.words)) (word_of c.args.set c.args.rule.now c.word-item.result ∷ []) (all_found_in c.args.found.now.items) (all_found_in c.loop-word.found.items) (all_found_in c.look_at_word.new.found.items) more
          c.loop-word.invariant.found c.in_ok-look_at_word.ensures.found;
      paths = λ h. c.in_ok-look_at_word.ensures.paths (c.loop-word.invariant.paths h);
      texts = texts_more _ (map (word_of c.args.set c.args.rule.now) (take c.loop-word.word-index c.args.rule.now.words)) (word_of c.args.set c.args.rule.now c.word-item.result ∷ []) more c.loop-word.invariant.texts c.in_ok-look_at_word.ensures.text;
      went = went_on c.args.faults.now.items c.loop-word.faults.items c.look_at_word.new.faults.items
          _ _ _ c.loop-word.invariant.went c.in_ok-look_at_word.ensures.went;
    }

pub returns-in_err-look_at_word-clause-some : goal.returns-in_err-look_at_word-clause-some
returns-in_err-look_at_word-clause-some g c =
    let lt : c.loop-word.word-index < length c.args.rule.now.words = subst (λ (ws : List (List _)). c.loop-word.word-index < length ws) c.as_slice-word-items.ensures c.loop-word-test.true in
    let is : c.word-item.result ≡ get_or c.args.rule.now.words c.loop-word.word-index c.word-item.result = subst (λ (ws : List (List _)). c.word-item.result ≡ get_or ws c.loop-word.word-index c.word-item.result) c.as_slice-word-items.ensures c.word-item.is in
    words_some c.from_residual.result (map (word_of c.args.set c.args.rule.now) c.args.rule.now.words) (map (word_of c.args.set c.args.rule.now) (take c.loop-word.word-index c.args.rule.now.words)) (word_of c.args.set c.args.rule.now c.word-item.result ∷ [])
    c.args.faults.now.items c.loop-word.faults.items (all_found_in c.args.found.now.items) (all_found_in c.loop-word.found.items)
    (words_part c.args.set c.args.rule.now c.args.rule.now.words c.loop-word.word-index c.word-item.result lt is) c.loop-word.invariant.told c.in_err-look_at_word.ensures.some

pub returns-clause-told : goal.returns-clause-told
returns-clause-told g c =
    let whole : take c.loop-word.word-index c.args.rule.now.words ≡ c.args.rule.now.words = subst (λ (ws : List (List _)). take c.loop-word.word-index ws ≡ ws) c.as_slice-word-items.ensures (take_all c.loop-word.word-index c.as_slice-word-items.result.now (omega arith)) in
    looked_words (map (word_of c.args.set c.args.rule.now) (take c.loop-word.word-index c.args.rule.now.words)) (map (word_of c.args.set c.args.rule.now) c.args.rule.now.words) c.args.faults.now.items c.loop-word.faults.items (all_found_in c.args.found.now.items) (all_found_in c.loop-word.found.items)
    (ap (map (word_of c.args.set c.args.rule.now)) whole) c.loop-word.invariant.told

pub returns-clause-found : goal.returns-clause-found
returns-clause-found g c =
    let whole : take c.loop-word.word-index c.args.rule.now.words ≡ c.args.rule.now.words = subst (λ (ws : List (List _)). take c.loop-word.word-index ws ≡ ws) c.as_slice-word-items.ensures (take_all c.loop-word.word-index c.as_slice-word-items.result.now (omega arith)) in
    subst (λ (ws : List (List _)). AddsFound (map (word_of c.args.set c.args.rule.now) ws) (all_found_in c.args.found.now.items) (all_found_in c.loop-word.found.items)) whole c.loop-word.invariant.found

pub returns-clause-texts : goal.returns-clause-texts
returns-clause-texts g c =
    let whole : take c.loop-word.word-index c.args.rule.now.words ≡ c.args.rule.now.words = subst (λ (ws : List (List _)). take c.loop-word.word-index ws ≡ ws) c.as_slice-word-items.ensures (take_all c.loop-word.word-index c.as_slice-word-items.result.now (omega arith)) in
    subst (λ (ws : List (List _)). AreTexts (map (word_of c.args.set c.args.rule.now) ws)) whole c.loop-word.invariant.texts
