use Rattle.std.proofs.Common.{◌≡◌, ◌+◌, ◌++◌, drop, get_or, sym, ap, subst, ◌∙◌, arith}
use Rattle.std.specs.Prelude.{IsUtf8}
use Rattle.lr_lex.specs.declared.sign.Sign.TheVariants.{Blank}
use Rattle.lr_lex.specs.Scanning.{to_come, draft_bytes, sign_bytes}
use Rattle.lr_lex.proofs.Ascii.{utf8_behind, utf8_at_blank}
use Rattle.lr_lex.proofs.SignsOf.{more_signs}
use Rattle.lr_lex.proofs.scan.Scan.take_all.Goals as goal

pub take-requires-clause-utf8 : goal.take-requires-clause-utf8
take-requires-clause-utf8 c =
    let ss = c.args.signs.now in
    let i = c.loop-i.i in
    utf8_at_blank (draft_bytes c.loop-i.self) (get_or ss i Blank) (drop (i + 1) ss)
    (subst (λ l. IsUtf8 (draft_bytes c.loop-i.self ++ sign_bytes l)) (more_signs ss i (omega arith)) c.loop-i.invariant.utf8)

pub loop-i-preserved : goal.loop-i-preserved
loop-i-preserved c =
    let ss = c.args.signs.now in
    let i = c.loop-i.i in
    let m = more_signs ss i (omega arith) in
    let a : c.args.at + i + 1 ≡ c.args.at + (i + 1) = omega arith in
    let u = utf8_behind (draft_bytes c.loop-i.self) (get_or ss i Blank) (drop (i + 1) ss)
    (subst (λ l. IsUtf8 (draft_bytes c.loop-i.self ++ sign_bytes l)) m c.loop-i.invariant.utf8) in
    record {
      len = omega (arith, c.in_ok-take.ensures.len, c.loop-i.invariant.len);
      utf8 = subst (λ l. IsUtf8 (l ++ sign_bytes (drop (i + 1) ss))) (sym c.in_ok-take.ensures.bytes) u;
      words = λ more. ap (λ n. to_come c.take.new.self n (drop (i + 1) ss ++ more)) (sym a)
          ∙ sym (c.in_ok-take.ensures.words (drop (i + 1) ss ++ more))
          ∙ ap (λ l. to_come c.loop-i.self (c.args.at + i) (l ++ more)) (sym m)
          ∙ c.loop-i.invariant.words more;
    }
