-- A whole line stays, and words rise.
use Rattle.std.proofs.Common.{◌≡◌, ◌+◌, ◌<◌, ℕ, true, false, Bool, cond, eqb, ◌||◌, List, [], ◌∷◌, ◌++◌, length, refl, ap, ◌∙◌, arith}
use Rattle.std.specs.Prelude.{IsTrue}
use Rattle.lr_lex.specs.Lines.{line_at, lines, line_of, after_line}
use Rattle.lr_lex.specs.Pieces.{has_line}
use Rattle.lr_lex.proofs.First.{lines-are}

-- ---- a whole line

line_more : (bs more : List ℕ) → IsTrue (has_line bs) → line_of (bs ++ more) ≡ line_of bs
unfolding line_of
line_more [] more h = absurd (cc)
line_more (b ∷ bs) more h = by_test (eqb b 10) h (λ k. line_more bs more k)
  where
    by_test : (t : Bool) → IsTrue (t || has_line bs) → (IsTrue (has_line bs) → line_of (bs ++ more) ≡ line_of bs)
        → cond t [] (b ∷ line_of (bs ++ more)) ≡ cond t [] (b ∷ line_of bs)
    by_test true h k = refl
    by_test false h k = ap (λ x. b ∷ x) (k h)

after_more : (bs more : List ℕ) → IsTrue (has_line bs) → after_line (bs ++ more) ≡ after_line bs ++ more
unfolding after_line
after_more [] more h = absurd (cc)
after_more (b ∷ bs) more h = by_test (eqb b 10) h (λ k. after_more bs more k)
  where
    by_test : (t : Bool) → IsTrue (t || has_line bs) → (IsTrue (has_line bs) → after_line (bs ++ more) ≡ after_line bs ++ more)
        → cond t (bs ++ more) (after_line (bs ++ more)) ≡ cond t bs (after_line bs) ++ more
    by_test true h k = refl
    by_test false h k = k h

some-bytes : (bs more : List ℕ) → IsTrue (has_line bs) → 0 < length (bs ++ more)
some-bytes [] more h = absurd (cc)
some-bytes (b ∷ bs) more h = omega arith

pub lines-more : (n at : ℕ) (bs more : List ℕ) → IsTrue (has_line bs) → lines n at (bs ++ more) ≡ line_at n at (line_of bs) ∷ lines (n + 1) (at + length (line_of bs) + 1) (after_line bs ++ more)
lines-more n at bs more h =
    lines-are n at (bs ++ more) (some-bytes bs more h)
    ∙ ap (λ l. line_at n at l ∷ lines (n + 1) (at + length l + 1) (after_line (bs ++ more))) (line_more bs more h)
    ∙ ap (λ r. line_at n at (line_of bs) ∷ lines (n + 1) (at + length (line_of bs) + 1) r) (after_more bs more h)
