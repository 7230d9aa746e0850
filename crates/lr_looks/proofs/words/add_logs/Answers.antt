use Rattle.std.proofs.Common.{◌≡◌, [], ◌∷◌, ◌++◌, List, length, map, refl, sym, ap, ◌∙◌, append_assoc, subst, rules, arith}
use Rattle.std.specs.Vec.Iter.{into_iter_items}
use Rattle.std.proofs.lemmas.List.{append-nil, nil_from_length}
use Rattle.lr_glob.specs.declared.found.Found.{Found as Match}
use Rattle.lr_looks.specs.Asked.{word_of}
use Rattle.lr_looks.specs.Found.{all_found_in}
use Rattle.lr_looks.specs.Sights.{found_at}
use Rattle.lr_looks.proofs.Looking.{next_short, logs_none, logs_more, paths_more}
use Rattle.lr_looks.proofs.words.add_logs.Goals as goal

pub add_log-requires-clause-short : goal.add_log-requires-clause-short
add_log-requires-clause-short c = next_short c.args.matches.items c.loop-at.invariant.done _ c.in-Some.at
    (sym c.into_iter-at-iterator.ensures.into_iter_gives.0 ∙ (c.loop-at.invariant.seam ∙ ap (λ (ls : List Match). c.loop-at.invariant.done ++ ls) c.in-Some.ensures.steps.0)) c.requires.short

pub loop-at-init : goal.loop-at-init
loop-at-init c = record { done = []; seam = refl; long = search rules; found = logs_none (word_of c.args.set c.args.rule.now c.args.word.now) (all_found_in c.args.found.now.items); paths = λ h. h }

pub loop-at-preserved : goal.loop-at-preserved
loop-at-preserved c =
    let short : length (into_iter_items c.loop-at.at-iterator) ≡ length (c.in-Some.at ∷ into_iter_items c.next.new.self) = ap length c.in-Some.ensures.steps.0 in
    record {
      long = (let was = c.loop-at.invariant.long in let gone = c.in-Some.ensures.steps.1 in omega arith);
      done = c.loop-at.invariant.done ++ c.in-Some.at ∷ [];
      seam = c.loop-at.invariant.seam ∙ (ap (λ (ls : List Match). c.loop-at.invariant.done ++ ls) c.in-Some.ensures.steps.0 ∙ sym (append_assoc c.loop-at.invariant.done (c.in-Some.at ∷ []) _));
      found = logs_more (word_of c.args.set c.args.rule.now c.args.word.now) c.loop-at.invariant.done c.in-Some.at (all_found_in c.args.found.now.items) (all_found_in c.loop-at.found.items) (all_found_in c.add_log.new.found.items) c.loop-at.invariant.found c.in_ok-add_log.ensures.found;
      paths = λ h. paths_more (all_found_in c.loop-at.found.items) (all_found_in c.add_log.new.found.items) (found_at (word_of c.args.set c.args.rule.now c.args.word.now) c.in-Some.at) c.in_ok-add_log.ensures.found c.in_ok-add_log.ensures.path (c.loop-at.invariant.paths h);
    }

pub returns-clause-found : goal.returns-clause-found
returns-clause-found c =
    let rest = into_iter_items c.loop-at.at-iterator in
    let none : rest ≡ [] = nil_from_length rest (sym c.loop-at.invariant.long ∙ c.in-None.ensures.steps.0) in
    let whole : c.args.matches.items ≡ c.loop-at.invariant.done = sym c.into_iter-at-iterator.ensures.into_iter_gives.0 ∙ (c.loop-at.invariant.seam ∙ (ap (λ (ls : List Match). c.loop-at.invariant.done ++ ls) none ∙ append-nil c.loop-at.invariant.done)) in
    subst (λ (ms : List Match). all_found_in c.loop-at.found.items ≡ all_found_in c.args.found.now.items ++ map (found_at (word_of c.args.set c.args.rule.now c.args.word.now)) ms) (sym whole) c.loop-at.invariant.found
