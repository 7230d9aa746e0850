-- Where lines end.
use Rattle.std.proofs.Common.{◌≡◌, ◌≢◌, ◌+◌, ◌<◌, ℕ, zero, suc, List, [], ◌∷◌, length, take, drop, slice_index, refl, ap, ◌∙◌, arith}
use Rattle.std.proofs.lemmas.Bool.{cond-true, cond-false, eq-eqb, ne_eqb}
use Rattle.lr_lex.specs.Lines.{line_of, after_line}

pub line_of-at : (bs : List ℕ) (e : ℕ) → e < length bs → slice_index bs e ≡ 10 → ((k : ℕ) → k < e → slice_index bs k ≢ 10) → line_of bs ≡ take e bs
unfolding line_of
line_of-at [] e l is before = absurd (omega arith)
line_of-at (b ∷ rest) zero l is before = cond-true _ _ _ (eq-eqb b 10 is)
line_of-at (b ∷ rest) (suc e) l is before =
    cond-false _ _ _ (ne_eqb b 10 (before 0 (omega arith)))
    ∙ ap (λ xs. b ∷ xs) (line_of-at rest e (omega arith) is (λ k a. before (suc k) (omega arith)))

pub line_of-none : (bs : List ℕ) → ((k : ℕ) → k < length bs → slice_index bs k ≢ 10) → line_of bs ≡ bs
unfolding line_of
line_of-none [] none = refl
line_of-none (b ∷ rest) none =
    cond-false _ _ _ (ne_eqb b 10 (none 0 (omega arith)))
    ∙ ap (λ xs. b ∷ xs) (line_of-none rest (λ k a. none (suc k) (omega arith)))

drop-suc : (b : ℕ) (rest : List ℕ) (e : ℕ) → drop (e + 1) rest ≡ drop (suc e + 1) (b ∷ rest)
drop-suc b rest e = grind arith

pub after_line-at : (bs : List ℕ) (e : ℕ) → e < length bs → slice_index bs e ≡ 10 → ((k : ℕ) → k < e → slice_index bs k ≢ 10) → after_line bs ≡ drop (e + 1) bs
unfolding after_line
after_line-at [] e l is before = absurd (omega arith)
after_line-at (b ∷ rest) zero l is before = cond-true _ _ _ (eq-eqb b 10 is)
after_line-at (b ∷ rest) (suc e) l is before =
    cond-false _ _ _ (ne_eqb b 10 (before 0 (omega arith)))
    ∙ after_line-at rest e (omega arith) is (λ k a. before (suc k) (omega arith)) ∙ drop-suc b rest e

pub after_line-none : (bs : List ℕ) → ((k : ℕ) → k < length bs → slice_index bs k ≢ 10) → after_line bs ≡ []
unfolding after_line
after_line-none [] none = refl
after_line-none (b ∷ rest) none =
    cond-false _ _ _ (ne_eqb b 10 (none 0 (omega arith)))
    ∙ after_line-none rest (λ k a. none (suc k) (omega arith))
