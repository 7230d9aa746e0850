use Rattle.std.proofs.Common.{◌≡◌, ◌-◌, ◌<◌, ◌++◌, ◌∷◌, [], false, length, take, sym, ap, subst, ◌∙◌, append_assoc, append-nil, arith}
use Rattle.lr_lex.specs.Lines.{line_at}
use Rattle.lr_lex.specs.Items.{is_text, body, ended, behind_script, script_text}
use Rattle.lr_lex.specs.Scanning.{lines_from}
use Rattle.lr_lex.proofs.First.{passes, nonempty, empty-lines, script-ends, script-goes}
use Rattle.lr_lex.proofs.Scripts.{front-of, before, open-test, zero-length}
use Rattle.lr_lex.proofs.script.read_script.Goals as goal

pub returns-then-is_end : goal.returns-then-is_end
returns-then-is_end c =
    let here = c.loop-here.here in
    let i = c.loop-here.invariant in
    let some = nonempty _ c.loop-here-test.ensures in
    let front = take (length c.args.from.rest.now - length here.rest.now) c.args.from.rest.now in
    let p = passes here c.pass.result.1 c.pass.result.0.now some c.pass.ensures.passes c.pass.ensures.line in
    let e = script-ends here c.pass.result.1 (line_at here.line here.at c.pass.result.0.now) p (sym (c.is_end.ensures here.line here.at) ∙ c.if-is_end.true) in
    let text = sym (append-nil front) ∙ ap (λ x. front ++ x) (sym e.0) ∙ i.text some in
    record {
      reads = λ _. text;
      same_test = ap is_text text;
      closes = sym e.1 ∙ i.ends;
      behind = sym e.2 ∙ i.behind;
    }

pub loop-here-preserved : goal.loop-here-preserved
loop-here-preserved c =
    let here = c.loop-here.here in
    let new = c.pass.result.1 in
    let i = c.loop-here.invariant in
    let bytes = c.pass.result.0.now in
    let all = c.args.from.rest.now in
    let some = nonempty _ c.loop-here-test.ensures in
    let front = take (length all - length here.rest.now) all in
    let p = passes here new bytes some c.pass.ensures.passes c.pass.ensures.line in
    let e = script-goes here new (line_at here.line here.at bytes) p (sym (c.is_end.ensures here.line here.at) ∙ c.if-is_end.false) in
    let f = front-of here.rest.now in
    let whole : all ≡ (front ++ f.0) ++ new.rest.now =
    i.whole ∙ ap (λ x. front ++ x) f.1 ∙ sym (append_assoc front f.0 _) ∙ ap (λ x. (front ++ f.0) ++ x) (sym c.pass.ensures.passes.rest) in
    let taken : take (length all - length new.rest.now) all ≡ front ++ f.0 = before (front ++ f.0) new.rest.now all whole in
    let rest = script_text (body (lines_from new)) in
    record {
      size = omega (arith, i.size, c.pass.ensures.less);
      whole = whole ∙ ap (λ x. x ++ new.rest.now) (sym taken);
      text = λ more.
          let line : f.0 ≡ bytes ++ 10 ∷ [] = f.2 (subst (λ x. 0 < length x) c.pass.ensures.passes.rest more) ∙ ap (λ x. x ++ 10 ∷ []) (sym c.pass.ensures.line) in
          ap (λ x. x ++ rest) (taken ∙ ap (λ x. front ++ x) line) ∙ append_assoc front (bytes ++ 10 ∷ []) rest ∙ ap (λ x. front ++ x) (sym e.0) ∙ i.text some;
      ends = sym e.1 ∙ i.ends;
      behind = sym e.2 ∙ i.behind;
    }

pub returns : goal.returns
returns c =
    let here = c.loop-here.here in
    let from = c.args.from in
    let i = c.loop-here.invariant in
    let none : lines_from here ≡ [] = empty-lines here (zero-length _ c.loop-here-test.ensures) in
    let shut : ended (lines_from from) ≡ false = sym i.ends ∙ ap ended none in
    record {
      reads = λ e. absurd (cc);
      same_test = open-test from.line from.at from.rest.now shut;
      closes = sym shut;
      behind = none ∙ sym (ap behind_script none) ∙ i.behind;
    }
