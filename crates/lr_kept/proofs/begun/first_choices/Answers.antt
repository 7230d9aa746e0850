use Rattle.std.proofs.Common.{◌∙◌, ap, sym, subst, ℕ, ◌<◌, length, List, arith}
use Rattle.lr_kept.specs.declared.choice.Choice.{Choice}
use Rattle.lr_kept.specs.Begun.{Found, place_in, AddsChoice}
use Rattle.lr_kept.proofs.Elements.{read_from}
use Rattle.lr_kept.proofs.Places.{HaveBegun, no_places, more_places, more_begun, none_begun, one_begun, all_begun}
use Rattle.lr_kept.proofs.begun.first_choices.Goals as goal

pub loop-place-init : goal.loop-place-init
loop-place-init c = record {
  places = no_places c.args.logs.now (place_in c.new-found.result.entries) (λ q. ap (λ (es : List Found). place_in es q) c.new-found.ensures.empty);
  begun = subst (λ (cs : List Choice). HaveBegun c.args.logs.now 0 cs) (sym c.new-choices.ensures.items) (none_begun c.args.logs.now);
}

pub loop-place-preserved : goal.loop-place-preserved
loop-place-preserved c =
    let lt : c.loop-place.place < length c.args.logs.now = omega arith in
    let at = read_from c.args.logs.now c.loop-place.place c.index-logs-place.result lt c.index-logs-place.is in
    let added = subst (λ (path : List ℕ). AddsChoice (place_in c.loop-place.found.entries) (place_in c.add_choice.new.found.entries) path c.loop-place.place c.loop-place.choices.items c.add_choice.new.choices.items)
    (c.bytes-path.ensures.bytes ∙ c.log.ensures) c.in_ok-add_choice.ensures in
    record {
      places = more_places c.args.logs.now c.loop-place.place c.index-logs-place.result at (place_in c.loop-place.found.entries) (place_in c.add_choice.new.found.entries) c.loop-place.invariant.places added.0 added.2;
      begun = one_begun c.args.logs.now c.loop-place.place c.loop-place.choices.items c.add_choice.new.choices.items added.0 c.loop-place.invariant.begun
          (more_begun c.args.logs.now c.loop-place.place c.index-logs-place.result at (place_in c.loop-place.found.entries) (place_in c.add_choice.new.found.entries) c.loop-place.invariant.places added.0 added.2)
          added.1;
    }

pub returns : goal.returns
returns c = all_begun c.args.logs.now c.loop-place.place c.loop-place.choices.items (omega arith) c.loop-place.invariant.begun
