use Rattle.std.proofs.Common.{◌<◌, ◌+◌, [], ◌∷◌, ◌++◌, List, length, refl, sym, ap, ◌∙◌, append_assoc}
use Rattle.std.proofs.lemmas.List.{length-append}
use Rattle.lr_looks.specs.declared.found.Found.{Found}
use Rattle.lr_looks.specs.Choices.{where_file, kind_fault}
use Rattle.lr_looks.specs.Found.{all_found_in}
use Rattle.lr_looks.proofs.Choosing.{kept_more, next_within}
use Rattle.lr_looks.proofs.keeping.files_of.Goals as goal

pub loop-item-preserved : goal.loop-item-preserved
loop-item-preserved c =
    let lt : c.loop-item.at < length c.args.choices.now = next_within c.args.found.items c.loop-item.invariant.done _ c.in-Some.item c.loop-item.at (length c.args.choices.now)
    (sym c.into_iter-item-iterator.ensures.into_iter_gives.0 ∙ (c.loop-item.invariant.seam ∙ ap (λ (ls : List Found). c.loop-item.invariant.done ++ ls) c.in-Some.ensures.steps.0)) c.requires c.loop-item.invariant.at in
    record {
      done = c.loop-item.invariant.done ++ c.in-Some.item ∷ [];
      seam = c.loop-item.invariant.seam ∙ (ap (λ (ls : List Found). c.loop-item.invariant.done ++ ls) c.in-Some.ensures.steps.0 ∙ sym (append_assoc c.loop-item.invariant.done (c.in-Some.item ∷ []) _));
      at = ap (λ n. n + 1) c.loop-item.invariant.at ∙ sym (length-append c.loop-item.invariant.done (c.in-Some.item ∷ []));
      left = kept_more where_file c.loop-item.invariant.done c.args.choices.now c.loop-item.at c.in-Some.item _ [] (all_found_in c.loop-item.left.items) (all_found_in c.add_item.new.left.items)
          c.loop-item.invariant.at lt refl c.loop-item.invariant.left c.in_ok-add_item.ensures.left;
      faults = kept_more kind_fault c.loop-item.invariant.done c.args.choices.now c.loop-item.at c.in-Some.item _ c.args.faults.now.items c.loop-item.faults.items c.add_item.new.faults.items
          c.loop-item.invariant.at lt refl c.loop-item.invariant.faults c.in_ok-add_item.ensures.faults;
    }
