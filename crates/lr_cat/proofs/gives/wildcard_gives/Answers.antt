use Rattle.std.proofs.Common.{true, false, ◌≡◌, ap, ◌∙◌, subst, sym}
use Rattle.lr_rules.specs.Path.{is_absolute}
use Rattle.lr_glob.specs.Parts.{parts_in}
use Rattle.lr_cat.proofs.Giving.{by_none, by_parts, by_slices, first_of_may, may_now}
use Rattle.lr_cat.proofs.gives.wildcard_gives.Goals as goal

pub returns-then-not-may_match : goal.returns-then-not-may_match
returns-then-not-may_match c = by_none c.args.word.now c.args.path.now c.requires (may_now c.bytes-pattern.result.now c.bytes-bytes.result.now c.args.word.now c.args.path.now c.may_match.result false c.bytes-pattern.ensures.bytes c.bytes-bytes.ensures.bytes c.may_match.ensures c.if-not-may_match.true)

pub parts_behind-requires : goal.parts_behind-requires
parts_behind-requires c = subst (λ b. is_absolute b ≡ true) (sym c.bytes-pattern.ensures.bytes) (first_of_may c.args.word.now c.args.path.now (may_now c.bytes-pattern.result.now c.bytes-bytes.result.now c.args.word.now c.args.path.now c.may_match.result true c.bytes-pattern.ensures.bytes c.bytes-bytes.ensures.bytes c.may_match.ensures c.if-not-may_match.false)).0

pub parts_behind-requires-2 : goal.parts_behind-requires-2
parts_behind-requires-2 c = subst (λ b. is_absolute b ≡ true) (sym c.bytes-bytes.ensures.bytes) (first_of_may c.args.word.now c.args.path.now (may_now c.bytes-pattern.result.now c.bytes-bytes.result.now c.args.word.now c.args.path.now c.may_match.result true c.bytes-pattern.ensures.bytes c.bytes-bytes.ensures.bytes c.may_match.ensures c.if-not-may_match.false)).1

pub returns : goal.returns
returns c = by_parts c.args.word.now c.args.path.now c.parts_match.result c.requires
    (may_now c.bytes-pattern.result.now c.bytes-bytes.result.now c.args.word.now c.args.path.now c.may_match.result true c.bytes-pattern.ensures.bytes c.bytes-bytes.ensures.bytes c.may_match.ensures c.if-not-may_match.false)
    (by_slices c.args.word.now c.args.path.now c.as_slice.result.now c.as_slice-2.result.now c.parts_match.result
    (c.as_slice.ensures.value ∙ (c.in_ok-parts.ensures ∙ ap parts_in c.bytes-pattern.ensures.bytes))
    (c.as_slice-2.ensures.value ∙ (c.in_ok-names.ensures ∙ ap parts_in c.bytes-bytes.ensures.bytes)) c.parts_match.ensures)
