use Rattle.std.proofs.Common.{[], ◌∷◌, ◌++◌, List, sym, ap, ◌∙◌, append_assoc}
use Rattle.lr_rules.specs.declared.path.Path.{Path}
use Rattle.lr_rules.specs.Match.{part_end}
use Rattle.lr_rules.specs.Names.{ends_with}
use Rattle.lr_glob.proofs.Looking.{kept_whole, left_aside}
use Rattle.lr_glob.proofs.sights.whole_ones.Goals as goal

pub loop-path-preserved-in-Continue-1 : goal.loop-path-preserved-in-Continue-1
loop-path-preserved-in-Continue-1 c = record {
  done = c.loop-path.invariant.done ++ c.in-Some.path ∷ [];
  seam = c.loop-path.invariant.seam ∙ (ap (λ (ds : List Path). c.loop-path.invariant.done ++ ds) c.in-Some.ensures.steps.0 ∙ sym (append_assoc c.loop-path.invariant.done (c.in-Some.path ∷ []) _));
  kept = kept_whole c.loop-path.invariant.done c.push.new.self.items c.loop-path.whole.items c.in-Some.path c.has_part_end.result (c.has_part_end.ensures ∙ ap (ends_with part_end) c.bytes.ensures.bytes) c.if-not-has_part_end.true c.in_ok-push.ensures.items c.loop-path.invariant.kept;
}

pub loop-path-preserved : goal.loop-path-preserved
loop-path-preserved c = record {
  done = c.loop-path.invariant.done ++ c.in-Some.path ∷ [];
  seam = c.loop-path.invariant.seam ∙ (ap (λ (ds : List Path). c.loop-path.invariant.done ++ ds) c.in-Some.ensures.steps.0 ∙ sym (append_assoc c.loop-path.invariant.done (c.in-Some.path ∷ []) _));
  kept = left_aside c.loop-path.invariant.done c.loop-path.whole.items c.in-Some.path c.has_part_end.result (c.has_part_end.ensures ∙ ap (ends_with part_end) c.bytes.ensures.bytes) c.if-not-has_part_end.false c.loop-path.invariant.kept;
}
