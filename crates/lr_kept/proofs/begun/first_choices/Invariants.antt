use Rattle.lr_kept.specs.Begun.{ArePlaces, place_in}
use Rattle.lr_kept.proofs.Places.{HaveBegun}
use Rattle.lr_kept.proofs.begun.first_choices.Given as goal

abbrev pub invariant-loop-place : goal.invariant-loop-place
invariant-loop-place l = record {
  places : ArePlaces l.logs l.place (place_in l.found.entries);
  begun : HaveBegun l.logs l.place l.choices.items;
}
