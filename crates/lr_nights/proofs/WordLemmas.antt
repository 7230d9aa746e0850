-- The number that a word says.
use Rattle.std.proofs.Common.{◌≡◌, ◌≤◌, ◌<◌, ◌↔◌, ℕ, List, [], ◌∷◌, length, get_or, Some, ap, sym, ◌∙◌, arith}
use Rattle.std.specs.Prelude.{decimal}
use Rattle.std.proofs.lemmas.Fmt.{decimal_injective}

pub found_number : (text : List ℕ) (number : ℕ) → text ≡ decimal number → 1 ≤ number → number < 65 → (n : ℕ) → (Some number ≡ Some n) ↔ ((text ≡ decimal n) × (1 ≤ n) × (n ≤ 64))
found_number text number e low high n = (
  λ s. let same : number ≡ n = cc in (e ∙ ap decimal same, omega arith, omega arith),
  λ h. let top : n ≤ 64 = h.2 in ap Some (decimal_injective number n (omega arith) (omega arith) (sym e ∙ h.0)),
)

pub one_word : (ws : List (List ℕ)) (w : List ℕ) → 1 ≤ length ws → length ws < 2 → w ≡ get_or ws 0 w → ws ≡ w ∷ []
one_word [] w low high is = absurd (omega arith)
one_word (v ∷ []) w low high is = ap (λ x. x ∷ []) (sym is)
one_word (v ∷ (u ∷ ws)) w low high is = absurd (omega arith)

head_same : (v w : List ℕ) → v ∷ [] ≡ w ∷ [] → v ≡ w
head_same v w e = cc

-- one word says what its text says
pub one_number : (ws : List (List ℕ)) (w : List ℕ) (n : ℕ) (R : Type 0) → ws ≡ w ∷ [] → R ↔ ((w ≡ decimal n) × (1 ≤ n) × (n ≤ 64)) → R ↔ ((ws ≡ decimal n ∷ []) × (1 ≤ n) × (n ≤ 64))
one_number ws w n R is tell = (
  λ r. let h = tell.0 r in (is ∙ ap (λ x. x ∷ []) h.0, h.1, h.2),
  λ h. tell.1 (head_same w (decimal n) (sym is ∙ h.0), h.1, h.2),
)
