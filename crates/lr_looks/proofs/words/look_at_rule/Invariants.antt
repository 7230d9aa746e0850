use Rattle.std.proofs.Common.{map, take}
use Rattle.lr_host.specs.Told.{Left}
use Rattle.lr_host.specs.Counted.{Went}
use Rattle.lr_looks.specs.Asked.{word_of, AreTexts}
use Rattle.lr_looks.specs.Found.{all_found_in, HaveLogPaths}
use Rattle.lr_looks.specs.Internal.{AddsFound}
use Rattle.lr_looks.specs.Sights.{LookedAtWords}
use Rattle.lr_looks.proofs.words.look_at_rule.Given as goal

abbrev pub invariant-loop-word : goal.invariant-loop-word
invariant-loop-word g l = record {
  told : Left (LookedAtWords (map (word_of l.set l.rule) (take l.word-index l.rule.words)) l.initial.faults.items l.faults.items (all_found_in l.initial.found.items) (all_found_in l.found.items)) (g.H.Host.told l.initial.host) (g.H.Host.told l.host);
  found : AddsFound (map (word_of l.set l.rule) (take l.word-index l.rule.words)) (all_found_in l.initial.found.items) (all_found_in l.found.items);
  paths : HaveLogPaths (all_found_in l.initial.found.items) → HaveLogPaths (all_found_in l.found.items);
  texts : AreTexts (map (word_of l.set l.rule) (take l.word-index l.rule.words));
  went : Went l.initial.faults.items l.faults.items (g.H.Host.counts l.initial.host) (g.H.Host.counts l.host);
}
