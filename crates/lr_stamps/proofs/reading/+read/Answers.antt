use Rattle.std.proofs.Common.{◌∷◌, sym, ap, ◌∙◌, subst, rules}
use Rattle.lr_rules.specs.Stamps.{IsStampReading}
use Rattle.lr_stamps.specs.Asked.{FieldsDiffer}
use Rattle.lr_rules.specs.declared.stamp_parts.StampParts.{StampParts}
use Rattle.lr_stamps.proofs.Readings.{empty_is, none_read, byte_read, field_read, no_field, apart_rest}
use Rattle.lr_stamps.proofs.reading.+read.Goals as goal

pub returns-then-is_empty : goal.returns-then-is_empty
returns-then-is_empty t c = λ p. none_read c.args.before.now p c.args.pieces.now c.args.bytes.now c.in_default.ensures (empty_is c.args.bytes.now c.if-is_empty.ensures)

pub read-requires-in-Some-read_field : goal.read-requires-in-Some-read_field
read-requires-in-Some-read_field t c = (search rules, apart_rest c.in-Field.field c.in-Some.rest.now (subst FieldsDiffer (c.in-Some.ensures ∙ ap (λ q. q ∷ c.in-Some.rest.now) c.in-Field.is) c.requires))

pub returns-then-b-c : goal.returns-then-b-c
returns-then-b-c t c = λ p.
    let law = byte_read c.args.before.now p c.in-Byte.b c.in-Some.rest.now c.args.pieces.now c.args.bytes.now c.in-Some-first_byte.more.now
    (c.in-Some.ensures ∙ ap (λ q. q ∷ c.in-Some.rest.now) c.in-Byte.is)
    (c.in-Some-first_byte.ensures ∙ ap (λ x. x ∷ c.in-Some-first_byte.more.now) (sym c.if-b-c.true)) in
    (λ s. law.0 ((c.read.ensures p).0 s), λ r. (c.read.ensures p).1 (law.1 r))

pub returns-in-Some-read_field : goal.returns-in-Some-read_field
returns-in-Some-read_field t c = λ p.
    let law = field_read c.args.before.now p c.in-Field.field c.in-Some-read_field.value c.in-Some.rest.now c.args.pieces.now c.args.bytes.now c.in-Some-read_field.more.now
    (c.in-Some.ensures ∙ ap (λ q. q ∷ c.in-Some.rest.now) c.in-Field.is) c.requires c.in-Some-read_field.ensures.some in
    let turn = λ (b : StampParts). IsStampReading c.in-Some.rest.now b p c.in-Some-read_field.more.now in
    (λ s. law.0 (subst turn c.with_value.ensures ((c.read-in-Some-read_field.ensures p).0 s)), λ r. (c.read-in-Some-read_field.ensures p).1 (subst turn (sym c.with_value.ensures) (law.1 r)))

pub returns-in-None-read_field : goal.returns-in-None-read_field
returns-in-None-read_field t c = λ p. (
  λ s. absurd (cc),
  λ r. absurd (no_field c.args.before.now p c.in-Field.field c.in-Some.rest.now c.args.pieces.now c.args.bytes.now (c.in-Some.ensures ∙ ap (λ q. q ∷ c.in-Some.rest.now) c.in-Field.is) c.requires c.in-None-read_field.ensures.none r),
)
