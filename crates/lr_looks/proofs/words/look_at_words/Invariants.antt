use Rattle.std.proofs.Common.{[], take}
use Rattle.lr_host.specs.Told.{Left}
use Rattle.lr_host.specs.Counted.{Went}
use Rattle.lr_looks.specs.Asked.{asked_by, AreTexts}
use Rattle.lr_looks.specs.Found.{all_found_in, HaveLogPaths}
use Rattle.lr_looks.specs.Internal.{AddsFound}
use Rattle.lr_looks.specs.Sights.{LookedAtWords}
use Rattle.lr_looks.proofs.words.look_at_words.Given as goal

abbrev pub invariant-loop-set : goal.invariant-loop-set
invariant-loop-set g l = record {
  told : Left (LookedAtWords (asked_by (take l.set l.sets)) l.initial.faults.items l.faults.items [] (all_found_in l.found.items)) (g.H.Host.told l.initial.host) (g.H.Host.told l.host);
  found : AddsFound (asked_by (take l.set l.sets)) [] (all_found_in l.found.items);
  paths : HaveLogPaths (all_found_in l.found.items);
  texts : AreTexts (asked_by (take l.set l.sets));
  went : Went l.initial.faults.items l.faults.items (g.H.Host.counts l.initial.host) (g.H.Host.counts l.host);
}
