use Rattle.std.proofs.Common.{◌≡◌, false, sym, subst, rules, FitsSigned, to_z, of_z, w64, ℤ, List, Some}
use Rattle.std.specs.Prelude.{◌↔◌}
use Rattle.std.proofs.lemmas.Int.{to_z-of_z}
use Rattle.lr_rules.specs.declared.rule.Piece.{Piece}
use Rattle.lr_stamps.specs.Asked.{FieldsDiffer}
use Rattle.lr_rules.specs.Moments.{IsStamp}
use Rattle.lr_stamps.specs.Serials.{IsCounted}
use Rattle.lr_stamps.proofs.Formats.{format_apart}
use Rattle.lr_stamps.proofs.Serials.{Same, reads_plain, reads_serial, reads_none}
use Rattle.lr_stamps.proofs.serial.read_stamp.Goals as goal

pub moment_of-requires : goal.moment_of-requires
moment_of-requires c = subst FieldsDiffer (sym c.as_slice-pieces.ensures) (format_apart c.args.format.now c.requires)

pub counted-requires : goal.counted-requires
counted-requires c = subst FieldsDiffer (sym c.as_slice-pieces.ensures) (format_apart c.args.format.now c.requires)

pub returns-in-Some : goal.returns-in-Some
returns-in-Some c =
    let fits : FitsSigned w64 c.in-Some.seconds = search rules in
    reads_plain c.args.format.now c.args.bytes.now c.in-Some.seconds (to_z w64 (of_z w64 c.in-Some.seconds)) c.moment_of.result
    (format_apart c.args.format.now c.requires) (subst (λ (ps : List Piece). (t : ℤ) → (c.moment_of.result ≡ Some t) ↔ IsStamp ps t c.args.bytes.now) c.as_slice-pieces.ensures c.moment_of.ensures) c.in-Some.is (to_z-of_z w64 c.in-Some.seconds fits)

pub returns-then-format : goal.returns-then-format
returns-then-format c = reads_serial c.args.format.now c.args.bytes.now c.moment_of.result c.counted.result c.if-format.true
    (subst (λ (ps : List Piece). (t : ℤ) → (c.moment_of.result ≡ Some t) ↔ IsStamp ps t c.args.bytes.now) c.as_slice-pieces.ensures c.moment_of.ensures) c.in_default.is
    (subst (λ (ps : List Piece). (t : ℤ) (k : _) → Same c.counted.result t k ↔ IsCounted ps t k c.args.bytes.now) c.as_slice-pieces.ensures c.counted.ensures)

pub returns-else-format : goal.returns-else-format
returns-else-format c = reads_none c.args.format.now c.args.bytes.now c.moment_of.result (λ e. let f : c.args.format.now.serial ≡ false = c.if-format.false in absurd (cc))
    (subst (λ (ps : List Piece). (t : ℤ) → (c.moment_of.result ≡ Some t) ↔ IsStamp ps t c.args.bytes.now) c.as_slice-pieces.ensures c.moment_of.ensures) c.in_default.is
