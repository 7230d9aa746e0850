use Rattle.std.proofs.Common.{◌≡◌, [], List, take, sym, ap, ◌∙◌, subst, arith}
use Rattle.std.proofs.lemmas.List.{take_all}
use Rattle.lr_host.proofs.Counts.{went_none, went_on}
use Rattle.lr_rules.specs.declared.rule.Rule.{Rule}
use Rattle.lr_looks.specs.Asked.{rule_words, asked_by, AreTexts}
use Rattle.lr_looks.specs.Found.{FoundLog, all_found_in, HaveLogPaths}
use Rattle.lr_looks.specs.Internal.{AddsFound}
use Rattle.lr_looks.proofs.AskedBy.{IsPart, asked_more, asked_part}
use Rattle.lr_looks.proofs.Looking.{looked_words, looked_until, words_none, words_on, words_some, found_none, found_more, found_all, texts_more}
use Rattle.lr_looks.proofs.words.look_at_words.Goals as goal

pub loop-set-init : goal.loop-set-init
loop-set-init g c =
    let none : all_found_in c.new-found.result.items ≡ [] = ap all_found_in c.new-found.ensures.items in record {
      told = looked_until [] c.args.faults.now.items c.args.faults.now.items [] [] (all_found_in c.new-found.result.items) (sym none) (words_none c.args.faults.now.items []);
      found = subst (λ (fs : List FoundLog). AddsFound [] [] fs) (sym none) (found_none []);
      paths = subst HaveLogPaths (sym none) tt;
      texts = tt;
      went = went_none c.args.faults.now.items _;
    }

pub loop-set-preserved : goal.loop-set-preserved
loop-set-preserved g c =
    let more = asked_more c.as_slice-sets.result.now c.loop-set.set c.index-sets-set.result c.loop-set-test.true c.index-sets-set.is in record {
      told = words_on _ (asked_by (take c.loop-set.set c.as_slice-sets.result.now)) (rule_words c.loop-set.set c.index-sets-set.result) c.args.faults.now.items c.loop-set.faults.items c.look_at_rule.new.faults.items
          [] (all_found_in c.loop-set.found.items) (all_found_in c.look_at_rule.new.found.items) more c.loop-set.invariant.told c.in_ok-look_at_rule.ensures.told;
      found = found_more _ (asked_by (take c.loop-set.set c.as_slice-sets.result.now)) (rule_words c.loop-set.set c.index-sets-set.result) [] (all_found_in c.loop-set.found.items) (all_found_in c.look_at_rule.new.found.items) more
          c.loop-set.invariant.found c.in_ok-look_at_rule.ensures.found;
      paths = c.in_ok-look_at_rule.ensures.paths c.loop-set.invariant.paths;
      texts = texts_more _ (asked_by (take c.loop-set.set c.as_slice-sets.result.now)) (rule_words c.loop-set.set c.index-sets-set.result) more c.loop-set.invariant.texts c.in_ok-look_at_rule.ensures.texts;
      went = went_on c.args.faults.now.items c.loop-set.faults.items c.look_at_rule.new.faults.items
          _ _ _ c.loop-set.invariant.went c.in_ok-look_at_rule.ensures.went;
    }

pub returns-in_err-look_at_rule-clause-some : goal.returns-in_err-look_at_rule-clause-some
returns-in_err-look_at_rule-clause-some g c =
    words_some c.from_residual.result (asked_by c.args.rules.now.sets) (asked_by (take c.loop-set.set c.as_slice-sets.result.now)) (rule_words c.loop-set.set c.index-sets-set.result) c.args.faults.now.items c.loop-set.faults.items [] (all_found_in c.loop-set.found.items)
    (subst (λ (rs : List Rule). IsPart (asked_by rs) (asked_by (take c.loop-set.set c.as_slice-sets.result.now)) (rule_words c.loop-set.set c.index-sets-set.result)) c.as_slice-sets.ensures
    (asked_part c.as_slice-sets.result.now c.loop-set.set c.index-sets-set.result c.loop-set-test.true c.index-sets-set.is)) c.loop-set.invariant.told c.in_err-look_at_rule.ensures.some

pub returns-clause-told : goal.returns-clause-told
returns-clause-told g c =
    let whole : take c.loop-set.set c.as_slice-sets.result.now ≡ c.args.rules.now.sets = take_all c.loop-set.set c.as_slice-sets.result.now (omega arith) ∙ c.as_slice-sets.ensures in
    looked_words (asked_by (take c.loop-set.set c.as_slice-sets.result.now)) (asked_by c.args.rules.now.sets) c.args.faults.now.items c.loop-set.faults.items [] (all_found_in c.loop-set.found.items) (ap asked_by whole) c.loop-set.invariant.told

pub returns-clause-found : goal.returns-clause-found
returns-clause-found g c =
    let whole : take c.loop-set.set c.as_slice-sets.result.now ≡ c.args.rules.now.sets = take_all c.loop-set.set c.as_slice-sets.result.now (omega arith) ∙ c.as_slice-sets.ensures in
    found_all (asked_by c.args.rules.now.sets) (asked_by (take c.loop-set.set c.as_slice-sets.result.now)) (all_found_in c.loop-set.found.items) (ap asked_by (sym whole)) c.loop-set.invariant.found

pub returns-clause-texts : goal.returns-clause-texts
returns-clause-texts g c =
    let whole : take c.loop-set.set c.as_slice-sets.result.now ≡ c.args.rules.now.sets = take_all c.loop-set.set c.as_slice-sets.result.now (omega arith) ∙ c.as_slice-sets.ensures in
    subst (λ (rs : List Rule). AreTexts (asked_by rs)) whole c.loop-set.invariant.texts
