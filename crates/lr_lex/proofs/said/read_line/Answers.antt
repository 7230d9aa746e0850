use Rattle.std.proofs.Common.{◌≡◌, length, false, sym, ap, subst, ◌∙◌, arith}
use Rattle.std.specs.Prelude.{IsUtf8, Some, nat_lt}
use Rattle.std.proofs.lemmas.Bool.{ne_eqb}
use Rattle.std.proofs.lemmas.Bool.Decides.{nat_tests}
use Rattle.lr_lex.specs.Signs.{line_signs}
use Rattle.lr_lex.specs.Lines.{line_at}
use Rattle.lr_lex.specs.Items.{by_signs}
use Rattle.lr_lex.specs.Scanning.{sign_bytes}
use Rattle.lr_lex.proofs.Ascii.{line-utf8, utf8_of_text}
use Rattle.lr_lex.proofs.First.{signs-are, said-signs, on_ok}
use Rattle.lr_lex.proofs.said.read_line.Goals as goal

pub from_signs-requires-clause-utf8 : goal.from_signs-requires-clause-utf8
from_signs-requires-clause-utf8 c =
    let names = c.is_name_sign-names.result in
    let bytes = c.args.bytes.now in
    let found = sym c.in_ok-signs_of.ensures.signs ∙ c.in-Some-2.is in
    subst (λ l. IsUtf8 (sign_bytes l)) (signs-are names bytes c.in-Some-2.signs found ∙ sym c.as_slice.ensures)
    (line-utf8 names bytes (utf8_of_text bytes (sym c.is_text.ensures ∙ c.if-not-is_text.false)))

pub returns-in-Some-2 : goal.returns-in-Some-2
returns-in-Some-2 c =
    let bytes = c.args.bytes.now in
    let first = c.in-Some.first in
    let ss = c.in-Some-2.signs in
    let found = sym c.in_ok-signs_of.ensures.signs ∙ c.in-Some-2.is in
    let names = c.is_name_sign-names.ensures in
    let few : nat_lt 8192 (length bytes) ≡ false = grind (arith, nat_tests) in
    on_ok c.from_signs.result _ _ c.from_signs.ensures
    (ap (λ l. by_signs c.args.line c.args.at c.is_name_sign-names.result (Some l)) c.as_slice.ensures
    ∙ ap (λ n. by_signs c.args.line c.args.at n (Some ss)) names
    ∙ said-signs (line_at c.args.line c.args.at bytes) first ss few (sym c.is_text.ensures ∙ c.if-not-is_text.false) (sym c.first_sign.ensures ∙ c.in-Some.is)
    (ne_eqb first 35 c.if-first-eq35.false) (ap (λ n. line_signs n bytes) (sym names) ∙ found))
