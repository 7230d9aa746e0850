-- Where a newline stands.
use Rattle.std.proofs.Common.{◌≡◌, ◌≢◌, ◌∙◌, sym, ap, refl, ◌<◌, ◌≤◌, ◌-◌, ℕ, zero, suc, false, List, [], ◌∷◌, length, take, drop, slice_index, drop-cons, length-drop, arith}
use Rattle.std.specs.Prelude.{◌||◌}
use Rattle.std.proofs.lemmas.Bool.{ne_eqb}
use Rattle.std.proofs.lemmas.List.{take_all}
use Rattle.lr_lex.specs.Pieces.{has_line}
use Rattle.lr_lex.specs.Newlines.{IsNewline}

none_before : (bs : List ℕ) (k : ℕ) → k ≤ length bs → ((i : ℕ) → i < k → slice_index bs i ≢ 10) → has_line (take k bs) ≡ false
none_before bs zero le h = refl
none_before [] (suc k) le h = refl
none_before (b ∷ bs) (suc k) le h = ap (λ t. t || has_line (take k bs)) (ne_eqb b 10 (h 0 (omega arith))) ∙ none_before bs k (omega arith) (λ i lt. h (suc i) (omega arith))

pub none_in : (bs : List ℕ) → ((i : ℕ) → i < length bs → slice_index bs i ≢ 10) → has_line bs ≡ false
none_in bs h = ap has_line (let le : length bs ≤ length bs = omega arith in sym (take_all (length bs) bs le)) ∙ none_before bs (length bs) (omega arith) h

pub first_at : (bs : List ℕ) (k : ℕ) → k < length bs → slice_index bs k ≡ 10 → ((i : ℕ) → i < k → slice_index bs i ≢ 10) → IsNewline bs k
first_at bs k lt is h = record {
  before = none_before bs k (omega arith) h;
  behind = drop-cons bs k 0 lt ∙ ap (λ b. b ∷ drop (suc k) bs) is;
  within = lt;
}

pub rest_whole : (xs : List ℕ) (f : ℕ) → take (length xs - f) (drop f xs) ≡ drop f xs
rest_whole xs f = take_all (length xs - f) (drop f xs) (let e = length-drop f xs in omega (arith, e))
