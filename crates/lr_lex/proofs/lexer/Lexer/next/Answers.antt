use Rattle.std.proofs.Common.{◌≡◌, ◌∷◌, Err, sym, ap, subst, ◌∙◌}
use Rattle.lr_lex.specs.Lines.{line_at}
use Rattle.lr_lex.specs.Items.{said, script}
use Rattle.lr_lex.specs.Lexing.{coming, coming_from, ByKind, LexerGives}
use Rattle.lr_lex.specs.declared.lexer.Lexer.{Lexer}
use Rattle.lr_lex.specs.declared.said.Said.TheVariants as says
use Rattle.lr_lex.proofs.First.{passes, nonempty, step, at_script, at_fault, gives, ToldFine, script-fine}
use Rattle.lr_lex.proofs.lexer.Lexer.next.Goals as goal

pub loop-self-preserved : goal.loop-self-preserved
loop-self-preserved c =
    let here = c.loop-self.self.place in
    let bytes = c.pass.result.0.now in
    let p = passes here c.pass.result.1 bytes (nonempty _ c.loop-self-test.ensures) c.pass.ensures.passes c.pass.ensures.line in
    let e = c.in-Ok.ensures ∙ ap (λ n. said (line_at n here.at bytes)) c.number-number.ensures in
    c.loop-self.invariant ∙ step here c.pass.result.1 (line_at here.line here.at bytes) says.Nothing p (sym c.in-Nothing.is ∙ e)

pub returns-in-Item : goal.returns-in-Item
returns-in-Item c =
    let here = c.loop-self.self.place in
    let bytes = c.pass.result.0.now in
    let p = passes here c.pass.result.1 bytes (nonempty _ c.loop-self-test.ensures) c.pass.ensures.passes c.pass.ensures.line in
    let e = c.in-Ok.ensures ∙ ap (λ n. said (line_at n here.at bytes)) c.number-number.ensures in
    c.loop-self.invariant ∙ step here c.pass.result.1 (line_at here.line here.at bytes) (says.Item c.in-Item.item) p (sym c.in-Item.is ∙ e)

pub returns-in-Fault : goal.returns-in-Fault
returns-in-Fault c =
    let here = c.loop-self.self.place in
    let behind = c.pass.result.1 in
    let bytes = c.pass.result.0.now in
    let p = passes here behind bytes (nonempty _ c.loop-self-test.ensures) c.pass.ensures.passes c.pass.ensures.line in
    let e = c.in-Ok.ensures ∙ ap (λ n. said (line_at n here.at bytes)) c.number-number.ensures in
    let f = at_fault here behind (line_at here.line here.at bytes) c.in-Fault.fault (coming_from behind ≡ coming c.args.self.now) p (sym c.in-Fault.is ∙ e) in
    subst (λ x. ByKind c.in-Fault.fault.kind (coming_from behind ≡ coming c.args.self.now) (x ≡ Err c.in-Fault.fault ∷ coming_from behind)) (sym c.loop-self.invariant) f

pub returns-in-Script : goal.returns-in-Script
returns-in-Script c =
    let here = c.loop-self.self.place in
    let behind = c.pass.result.1 in
    let bytes = c.pass.result.0.now in
    let s = c.in-Script in
    let text = c.read_script-ended.result.0.now in
    let ended = c.read_script-ended.result.1 in
    let rest = c.read_script-ended.result.2 in
    let t = c.in-Ok-script_item.told in
    let p = passes here behind bytes (nonempty _ c.loop-self-test.ensures) c.pass.ensures.passes c.pass.ensures.line in
    let e = c.in-Ok.ensures ∙ ap (λ n. said (line_at n here.at bytes)) c.number-number.ensures in
    let is : t ≡ script here.line s.word s.brace s.stray text ended =
    c.in-Ok-script_item.ensures ∙ ap (λ n. script n s.word s.brace s.stray text ended) c.number-number.ensures in
    let first = at_script here behind rest (line_at here.line here.at bytes) s.word s.brace s.stray ended text p (sym s.is ∙ e) c.read_script-ended.ensures in
    let fine = subst ToldFine (sym is) (script-fine here.line s.word s.brace s.stray text ended) in
    let new : Lexer = record { alloc = c.loop-self.self.alloc; place = rest } in
    subst (LexerGives c.args.self.now new) (sym c.answer.ensures)
    (gives c.args.self.now new t fine (c.loop-self.invariant ∙ first ∙ ap (λ x. x ∷ coming_from rest) (sym is)))
