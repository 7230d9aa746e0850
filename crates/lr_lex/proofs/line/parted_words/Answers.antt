use Rattle.std.proofs.Common.{◌≡◌, ◌+◌, ◌-◌, ◌++◌, List, length, take, drop, sym, ap, subst, ◌∙◌, length-take, arith}
use Rattle.std.proofs.lemmas.List.{take_rest}
use Rattle.std.specs.Prelude.{IsUtf8}
use Rattle.std.proofs.lemmas.List.Quantifiers.{position-Some}
use Rattle.std.proofs.lemmas.Str.{IsUtf8-append}
use Rattle.lr_lex.specs.declared.sign.Sign.{Sign}
use Rattle.lr_lex.specs.declared.sign.Sign.TheVariants.{Blank}
use Rattle.lr_lex.specs.Words.{is_equals}
use Rattle.lr_lex.specs.Scanning.{to_come, draft_bytes, sign_bytes}
use Rattle.lr_lex.proofs.Scanned.{no_bytes}
use Rattle.lr_lex.proofs.Braces.{utf8_parts, utf8_from}
use Rattle.lr_lex.proofs.Parted.{apart, whole_words}
use Rattle.lr_lex.proofs.First.{on_ok}
use Rattle.lr_lex.proofs.line.parted_words.Goals as goal

pub take_all-requires-clause-utf8 : goal.take_all-requires-clause-utf8
take_all-requires-clause-utf8 c =
    let ss = c.args.signs.now in
    let at = position-Some is_equals ss c.args.equals Blank c.requires.equals in
    subst (λ l. IsUtf8 (l ++ sign_bytes (take c.args.equals ss))) (sym (no_bytes c.new-scan.result c.new-scan.ensures.inside))
    (utf8_parts ss c.args.equals 61 at.0 (omega arith) at.1 c.requires.utf8).0

pub finish-requires-clause-utf8 : goal.finish-requires-clause-utf8
finish-requires-clause-utf8 c =
    let ss = c.args.signs.now in
    let p = c.args.equals in
    let at = position-Some is_equals ss p Blank c.requires.equals in
    let u = (utf8_parts ss p 61 at.0 (omega arith) at.1 c.requires.utf8).1 in
    subst (λ l. IsUtf8 (l ++ sign_bytes (take (length ss - (p + 1)) (drop (p + 1) ss)))) (sym c.in_ok-take.ensures.bytes)
    (subst (λ l. IsUtf8 (sign_bytes l)) (sym (take_rest ss (p + 1))) u)

pub finish-requires-2-clause-utf8 : goal.finish-requires-2-clause-utf8
finish-requires-2-clause-utf8 c =
    let ss = c.args.signs.now in
    let p = c.args.equals in
    let at = position-Some is_equals ss p Blank c.requires.equals in
    let u = utf8_from ss p 61 at.0 (omega arith) at.1 c.requires.utf8 in
    IsUtf8-append (draft_bytes c.take_all.new.self) (sign_bytes (take (length ss - p) (drop p ss))) c.in_ok-take_all.ensures.utf8
    (subst (λ l. IsUtf8 (sign_bytes l)) (sym (take_rest ss p)) u)

pub returns-then-has_one : goal.returns-then-has_one
returns-then-has_one c =
    let ss = c.args.signs.now in
    let p = c.args.equals in
    let at = position-Some is_equals ss p Blank c.requires.equals in
    let e : c.args.at + length (take p ss) ≡ c.args.at + p = omega (arith, length-take p ss, at.0) in
    let front = λ (more : List Sign). c.in_ok-take_all.ensures.words more ∙ ap (λ n. to_come c.take_all.new.self n more) e in
    on_ok c.finish.result _ _ c.finish.ensures
    (ap (to_come c.take.new.self (c.args.at + p + 1)) (take_rest ss (p + 1))
    ∙ apart c.new-scan.result c.take_all.new.self c.args.at p ss c.new-scan.ensures.words c.new-scan.ensures.inside front c.take.new.self
    (sym (c.has_one.ensures (c.args.at + p)) ∙ c.if-has_one.true) (c.in_ok-take.ensures.words (drop (p + 1) ss)))

pub returns : goal.returns
returns c =
    let ss = c.args.signs.now in
    let p = c.args.equals in
    let at = position-Some is_equals ss p Blank c.requires.equals in
    let e : c.args.at + length (take p ss) ≡ c.args.at + p = omega (arith, length-take p ss, at.0) in
    let front = λ (more : List Sign). c.in_ok-take_all.ensures.words more ∙ ap (λ n. to_come c.take_all.new.self n more) e in
    on_ok c.finish-2.result _ _ c.finish-2.ensures
    (ap (to_come c.take_all.new.self (c.args.at + p)) (take_rest ss p)
    ∙ whole_words c.new-scan.result c.take_all.new.self c.args.at p ss c.new-scan.ensures.words c.new-scan.ensures.inside front
    (omega (arith, at.0)) (sym (c.has_one.ensures (c.args.at + p)) ∙ c.if-has_one.false))
