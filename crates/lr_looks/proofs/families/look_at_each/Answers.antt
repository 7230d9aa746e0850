use Rattle.std.proofs.Common.{◌≡◌, ◌<◌, ◌++◌, ◌∷◌, [], List, length, ap, sym, refl, ◌∙◌, subst, append_assoc, rules, arith}
use Rattle.std.specs.Vec.Iter.{into_iter_items}
use Rattle.std.proofs.lemmas.List.{append-nil, nil_from_length}
use Rattle.lr_looks.specs.declared.found.Found.{Found}
use Rattle.lr_looks.specs.Found.{HasBounds, HasLogPath}
use Rattle.lr_looks.proofs.Known.{places_none}
use Rattle.lr_host.proofs.Counts.{went_none, went_on}
use Rattle.lr_looks.proofs.Behind.{families_none, families_more, families_part, families_all, next_holds}
use Rattle.lr_looks.proofs.families.look_at_each.Goals as goal

pub look_at_family-requires-clause-bounds : goal.look_at_family-requires-clause-bounds
look_at_family-requires-clause-bounds g c = next_holds HasBounds c.args.found.items c.loop-item.invariant.done _ c.in-Some.item
    (sym c.into_iter-item-iterator.ensures.into_iter_gives.0 ∙ (c.loop-item.invariant.seam ∙ ap (λ (ls : List Found). c.loop-item.invariant.done ++ ls) c.in-Some.ensures.steps.0)) c.requires.bounds

pub look_at_family-requires-clause-path : goal.look_at_family-requires-clause-path
look_at_family-requires-clause-path g c = next_holds HasLogPath c.args.found.items c.loop-item.invariant.done _ c.in-Some.item
    (sym c.into_iter-item-iterator.ensures.into_iter_gives.0 ∙ (c.loop-item.invariant.seam ∙ ap (λ (ls : List Found). c.loop-item.invariant.done ++ ls) c.in-Some.ensures.steps.0)) c.requires.paths

pub look_at_family-requires-clause-set : goal.look_at_family-requires-clause-set
look_at_family-requires-clause-set g c = subst (λ n. c.in-Some.item.set < n) (sym c.loop-item.invariant.many) (next_holds (λ f. f.log.set < length c.args.sets.now.items) c.args.found.items c.loop-item.invariant.done _ c.in-Some.item
    (sym c.into_iter-item-iterator.ensures.into_iter_gives.0 ∙ (c.loop-item.invariant.seam ∙ ap (λ (ls : List Found). c.loop-item.invariant.done ++ ls) c.in-Some.ensures.steps.0)) c.requires.sets)

pub loop-item-init : goal.loop-item-init
loop-item-init g c = record {
  done = [];
  seam = refl;
  long = search rules;
  known = places_none c.new-2.result.items c.new.result.entries c.new-2.ensures.items c.new.ensures.empty;
  told = families_none c.args.faults.now.items c.args.sets.now.items c.new-2.result.items c.new-2.ensures.items;
  many = refl;
  ready = λ r. r;
  went = went_none c.args.faults.now.items _;
}

pub loop-item-preserved : goal.loop-item-preserved
loop-item-preserved g c =
    let short : length (into_iter_items c.loop-item.item-iterator) ≡ length (c.in-Some.item ∷ into_iter_items c.next.new.self) = ap length c.in-Some.ensures.steps.0 in record {
      long = (let was = c.loop-item.invariant.long in let gone = c.in-Some.ensures.steps.1 in omega arith);
      done = c.loop-item.invariant.done ++ c.in-Some.item ∷ [];
      seam = c.loop-item.invariant.seam ∙ (ap (λ (ls : List Found). c.loop-item.invariant.done ++ ls) c.in-Some.ensures.steps.0 ∙ sym (append_assoc c.loop-item.invariant.done (c.in-Some.item ∷ []) _));
      known = c.in_ok-look_at_family.ensures.known;
      told = families_more c.loop-item.listings.taken.items c.look_at_family.new.listings.taken.items c.loop-item.invariant.done c.in-Some.item c.args.faults.now.items c.loop-item.faults.items c.look_at_family.new.faults.items
          c.args.sets.now.items c.loop-item.sets.items c.look_at_family.new.sets.items c.loop-item.invariant.told c.in_ok-look_at_family.ensures.told;
      many = c.in_ok-look_at_family.ensures.many ∙ c.loop-item.invariant.many;
      ready = λ r. c.in_ok-look_at_family.ensures.ready (c.loop-item.invariant.ready r);
      went = went_on c.args.faults.now.items c.loop-item.faults.items c.look_at_family.new.faults.items
          _ _ _ c.loop-item.invariant.went c.in_ok-look_at_family.ensures.went;
    }

pub returns-in_err-look_at_family-clause-some : goal.returns-in_err-look_at_family-clause-some
returns-in_err-look_at_family-clause-some g c = families_part c.from_residual.result c.loop-item.listings.taken.items c.args.found.items c.loop-item.invariant.done _ c.in-Some.item c.args.faults.now.items c.loop-item.faults.items
    c.args.sets.now.items c.loop-item.sets.items (sym c.into_iter-item-iterator.ensures.into_iter_gives.0 ∙ (c.loop-item.invariant.seam ∙ ap (λ (ls : List Found). c.loop-item.invariant.done ++ ls) c.in-Some.ensures.steps.0))
    c.loop-item.invariant.told c.in_err-look_at_family.ensures.some

pub returns-clause-told : goal.returns-clause-told
returns-clause-told g c =
    let rest = into_iter_items c.loop-item.item-iterator in
    let none : rest ≡ [] = nil_from_length rest (sym c.loop-item.invariant.long ∙ c.in-None.ensures.steps.0) in
    let whole : c.args.found.items ≡ c.loop-item.invariant.done = sym c.into_iter-item-iterator.ensures.into_iter_gives.0 ∙ (c.loop-item.invariant.seam ∙ (ap (λ (ls : List Found). c.loop-item.invariant.done ++ ls) none ∙ append-nil c.loop-item.invariant.done)) in
    families_all c.args.found.items c.loop-item.invariant.done c.loop-item.listings.taken.items c.args.faults.now.items c.loop-item.faults.items c.args.sets.now.items c.loop-item.sets.items whole c.loop-item.invariant.told
