use Rattle.std.proofs.Common.{◌≡◌, ◌∙◌, sym, ap, subst, ◌↔◌, ◌<◌, true, false, true≢false, length, get_or, Some, arith}
use Rattle.std.proofs.lemmas.Option.{slice_get-get_or, get_or_from_slice_get}
use Rattle.lr_rules.specs.declared.path.Path.{Path}
use Rattle.lr_family.specs.Parts.{IsMember}
use Rattle.lr_kept.proofs.Elements.{read_from}
use Rattle.lr_kept.proofs.Joining.{matched_decided}
use Rattle.lr_kept.proofs.members.is_matched.Goals as goal

pub returns-then-wild-place : goal.returns-then-wild-place
returns-then-wild-place c =
    let within : c.args.place < length c.args.wild.now = omega (arith, c.requires.place, c.requires.wild) in
    matched_decided c.args.logs.now c.args.wild.now c.args.place c.args.log c.index-logs-log.result c.index-logs-place.result
    (read_from c.args.logs.now c.args.log c.index-logs-log.result c.requires.log c.index-logs-log.is)
    (read_from c.args.logs.now c.args.place c.index-logs-place.result c.requires.place c.index-logs-place.is)
    (read_from c.args.wild.now c.args.place true within (sym (by within)))
    c.has_member.result
    (subst (λ (x : Path). (c.has_member.result ≡ true) ↔ IsMember c.index-logs-log.result.now.naming x) c.log.ensures c.has_member.ensures)
  where
    by : c.args.place < length c.args.wild.now → get_or c.args.wild.now c.args.place true ≡ true
    by within = get_or_from_slice_get c.args.wild.now c.args.place true true (slice_get-get_or c.args.wild.now c.args.place false within ∙ ap (λ b. Some b) c.if-wild-place.true)

pub returns-else-wild-place : goal.returns-else-wild-place
returns-else-wild-place c = (
  λ h. absurd (true≢false (sym h ∙ c.if-wild-place.false)),
  λ h. get_or_from_slice_get c.args.wild.now c.args.place true false h.0,
)
