use Rattle.std.proofs.Common.{◌≡◌, ◌+◌, ◌++◌, ◌∷◌, [], ◌≤◌, length, drop, get_or, sym, ap, ◌∙◌, arith}
use Rattle.lr_lex.specs.Signs.{signs, left_open}
use Rattle.lr_lex.proofs.SignsOf.{signs-escape, open-escape, signs-plain, open-plain, one-more, pushed-size}
use Rattle.lr_lex.proofs.sign.add_signs.Goals as goal
use Rattle.lr_lex.proofs.sign.add_signs.Goals.{else-byte-eq92-via-then-byte-eq92+else-i-line, else-byte-eq92-via-else-byte-eq92}

pub loop-i-preserved-then-i-line : goal.loop-i-preserved-then-i-line
loop-i-preserved-then-i-line c =
    let i = c.loop-i.i in
    let line = c.args.line.now in
    let q = c.loop-i.quote in
    let out = c.loop-i.into in
    let first = c.in_ok-push.ensures.pushed ∙ ap (λ s. out ++ s ∷ []) c.backslash.ensures in
    let second = c.in_ok-push-2.ensures.pushed in
    let read = ap (λ l. out ++ l) (sym (signs-escape c.args.names q line i (omega arith) c.if-byte-eq92.true)) ∙ c.loop-i.invariant.signs in
    record {
      within = omega arith;
      size = omega (arith, pushed-size _ _ _ first, pushed-size _ _ _ second, c.loop-i.invariant.size);
      signs = one-more _ _ _ _ _ second (one-more _ _ _ _ _ first read);
      quote = sym (open-escape q line i (omega arith) c.if-byte-eq92.true) ∙ c.loop-i.invariant.quote;
    }

pub loop-i-preserved : goal.loop-i-preserved
loop-i-preserved c =
    let i = c.loop-i.i in
    let line = c.args.line.now in
    let q = c.loop-i.quote in
    let out = c.loop-i.into in
    let last : get_or line i 0 ≡ 92 → length line ≤ i + 1 =
    elim c.else-byte-eq92.branch [ else-byte-eq92-via-then-byte-eq92+else-i-line w ↦ λ e. omega arith | else-byte-eq92-via-else-byte-eq92 w ↦ λ e. absurd (w.if-byte-eq92.false e) ] in
    let first = c.in_ok-push-3.ensures.pushed ∙ ap (λ s. out ++ s ∷ []) c.read_sign.ensures in
    let read = ap (λ l. out ++ l) (sym (signs-plain c.args.names q line i (omega arith) last)) ∙ c.loop-i.invariant.signs in
    record {
      within = omega arith;
      size = omega (arith, pushed-size _ _ _ first, c.loop-i.invariant.size);
      signs = ap (λ x. c.push-else-byte-eq92.new.self ++ signs c.args.names x (drop (i + 1) line)) c.quote_after-quote.ensures ∙ one-more _ _ _ _ _ first read;
      quote = ap (λ x. left_open x (drop (i + 1) line)) c.quote_after-quote.ensures ∙ sym (open-plain q line i (omega arith) last) ∙ c.loop-i.invariant.quote;
    }
