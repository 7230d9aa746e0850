-- The words of which the first are moved.
use Rattle.std.proofs.Common.{◌≡◌, ◌+◌, ◌<◌, ◌≤◌, ℕ, zero, suc, List, [], ◌∷◌, length, map, set, get_or, refl, ap, ◌∙◌, arith}
use Rattle.lr_lex.specs.declared.word.Word.{Word}
use Rattle.lr_lex.specs.Moved.{moved_word}

abbrev pub so_far : ℕ → ℕ → List Word → List Word
so_far by zero ws = ws
so_far by (suc i) [] = []
so_far by (suc i) (w ∷ ws) = moved_word by w ∷ so_far by i ws

pub next_is : (by i : ℕ) (ws : List Word) (d : Word) → get_or (so_far by i ws) i d ≡ get_or ws i d
next_is by zero ws d = refl
next_is by (suc i) [] d = refl
next_is by (suc i) (w ∷ ws) d = next_is by i ws d

more_by : (by i : ℕ) (ws : List Word) (d : Word) → i < length ws → set (so_far by i ws) i (moved_word by (get_or ws i d)) ≡ so_far by (suc i) ws
more_by by i [] d lt = absurd (let l : i < 0 = lt in omega arith)
more_by by zero (x ∷ ws) d lt = refl
more_by by (suc i) (x ∷ ws) d lt = ap (λ ys. moved_word by x ∷ ys) (more_by by i ws d (omega arith))

pub more_moved : (by i : ℕ) (ws now : List Word) (d : Word) → now ≡ so_far by i ws → i < length ws → set now i (moved_word by (get_or now i d)) ≡ so_far by (i + 1) ws
more_moved by i ws now d e lt =
    ap (λ (xs : List Word). set xs i (moved_word by (get_or xs i d))) e
    ∙ (ap (λ (w : Word). set (so_far by i ws) i (moved_word by w)) (next_is by i ws d)
    ∙ (more_by by i ws d lt ∙ ap (λ k. so_far by k ws) (let f : suc i ≡ i + 1 = omega arith in f)))

pub all_moved : (by i : ℕ) (ws : List Word) → length ws ≤ i → so_far by i ws ≡ map (moved_word by) ws
all_moved by zero [] le = refl
all_moved by zero (w ∷ ws) le = absurd (omega arith)
all_moved by (suc i) [] le = refl
all_moved by (suc i) (w ∷ ws) le = ap (λ ys. moved_word by w ∷ ys) (all_moved by i ws (omega arith))
