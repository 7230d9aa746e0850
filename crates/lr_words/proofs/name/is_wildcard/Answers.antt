use Rattle.std.proofs.Common.{◌≡◌, ℕ, ◌+◌, ◌||◌, ◌==◌, Bool, true, false, List, ◌∷◌, drop, get_or, refl, sym, ap, ◌∙◌}
use Rattle.lr_rules.specs.Match.{is_wild_sign, has_sign}
use Rattle.lr_words.proofs.FromPlace.{from_place}
use Rattle.lr_words.proofs.name.is_wildcard.Goals as goal
use Rattle.lr_words.proofs.name.is_wildcard.Goals.{then-escaped, else-escaped+else-sign}

escaped_step : (e n : Bool) (x : ℕ) (xs : List ℕ) → e ≡ true → n ≡ false → has_sign e (x ∷ xs) ≡ has_sign n xs
escaped_step true false x xs _ _ = refl
escaped_step true true x xs _ h = absurd (cc)
escaped_step false n x xs h _ = absurd (cc)

plain_step : (e n : Bool) (x : ℕ) (xs : List ℕ) → e ≡ false → is_wild_sign x ≡ false → n ≡ (x == 92) → has_sign e (x ∷ xs) ≡ has_sign n xs
plain_step true n x xs h _ _ = absurd (cc)
plain_step false n x xs _ plain same = ap (λ b. b || has_sign (x == 92) xs) plain ∙ ap (λ b. has_sign b xs) (sym same)

pub loop-byte-preserved : goal.loop-byte-preserved
loop-byte-preserved c =
    let s = c.args.word.now in
    let i = c.loop-byte.byte-index in
    c.loop-byte.invariant ∙ ap (has_sign c.loop-byte.escaped) (from_place s i c.loop-byte-test.true)
    ∙ elim c.if-escaped.branch [
      | then-escaped w ↦ escaped_step c.loop-byte.escaped c.if-escaped.escaped (get_or s i 0) (drop (i + 1) s) w.if-escaped.true w.escaped-is
      | else-escaped+else-sign w ↦ plain_step c.loop-byte.escaped c.if-escaped.escaped (get_or s i 0) (drop (i + 1) s) w.if-escaped.false (sym w.sign.ensures ∙ w.if-sign.false) w.escaped-is
    ]
