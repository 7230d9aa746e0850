use Rattle.std.proofs.Common.{◌≡◌, [], get_or, true, false, sym, ◌∙◌, subst, below_more, arith}
use Rattle.std.proofs.lemmas.List.{get_or_default}
use Rattle.lr_rules.specs.Match.{EndsWith}
use Rattle.lr_match.proofs.Ends.{none_any}
use Rattle.lr_match.proofs.bars.has_end.Goals as goal

pub loop-end-preserved : goal.loop-end-preserved
loop-end-preserved c = below_more _ _ c.loop-end.invariant (λ e.
    let item : get_or c.args.extensions.now c.loop-end.end-index [] ≡ c.bytes.result.now = get_or_default c.args.extensions.now c.loop-end.end-index [] c.end-item.result c.loop-end-test.true ∙ sym c.end-item.is ∙ sym c.bytes.ensures.bytes in
    let yes : c.ends_with.result ≡ true = c.ends_with.ensures.1 (subst (EndsWith c.args.name.now) item e) in
    let no_one : c.ends_with.result ≡ false = c.if-ends_with.false in
    absurd (cc))

pub returns : goal.returns
returns c = (λ t. absurd (cc), λ a. absurd (none_any (λ end. EndsWith c.args.name.now end) c.args.extensions.now c.loop-end.end-index (omega arith) c.loop-end.invariant a))
