-- Cases that cover the lines of the table of when a log is due.
use Rattle.std.proofs.Common.{◌≡◌, ◌≤◌, ℕ, zero, suc, List, [], ◌∷◌, map, Contains, refl, sym, subst, arith}
use Rattle.std.specs.List.{Any}
use Rattle.lr_tables.specs.declared.due_case.DueCase.{DueCase}
use Rattle.lr_tables.specs.Cases.{Covers}

each_line : (P : ℕ → Type 0) → P 1 → P 2 → P 3 → P 4 → P 5 → P 6 → P 7 → P 8 → P 9 → P 10 → P 11 → (line : ℕ) → 1 ≤ line → line ≤ 11 → P line
each_line P a b c d e f g h i j k zero low high = absurd (omega arith)
each_line P a b c d e f g h i j k (suc zero) low high = a
each_line P a b c d e f g h i j k (suc (suc zero)) low high = b
each_line P a b c d e f g h i j k (suc (suc (suc zero))) low high = c
each_line P a b c d e f g h i j k (suc (suc (suc (suc zero)))) low high = d
each_line P a b c d e f g h i j k (suc (suc (suc (suc (suc zero))))) low high = e
each_line P a b c d e f g h i j k (suc (suc (suc (suc (suc (suc zero)))))) low high = f
each_line P a b c d e f g h i j k (suc (suc (suc (suc (suc (suc (suc zero))))))) low high = g
each_line P a b c d e f g h i j k (suc (suc (suc (suc (suc (suc (suc (suc zero)))))))) low high = h
each_line P a b c d e f g h i j k (suc (suc (suc (suc (suc (suc (suc (suc (suc zero))))))))) low high = i
each_line P a b c d e f g h i j k (suc (suc (suc (suc (suc (suc (suc (suc (suc (suc zero)))))))))) low high = j
each_line P a b c d e f g h i j k (suc (suc (suc (suc (suc (suc (suc (suc (suc (suc (suc zero))))))))))) low high = k
each_line P a b c d e f g h i j k (suc (suc (suc (suc (suc (suc (suc (suc (suc (suc (suc (suc line)))))))))))) low high = absurd (omega arith)

has_line : (rows : List DueCase) (line : ℕ) → Contains (map (λ row. row.answer) rows) line → Any (λ row. row.answer ≡ line) rows
has_line [] line (k, lt, is) = absurd (omega (arith, lt))
has_line (r ∷ rows) line (zero, lt, is) = (0, r, omega arith, refl, is)
has_line (r ∷ rows) line (suc k, lt, is) =
    let (j, row, below, same, answer) = has_line rows line (k, omega (arith, lt), is) in
    (suc j, row, omega (arith, below), same, answer)

-- cases whose answers are the lines in their order
pub all_covered : (rows : List DueCase) → map (λ row. row.answer) rows ≡ 1 ∷ 2 ∷ 3 ∷ 4 ∷ 5 ∷ 6 ∷ 7 ∷ 8 ∷ 9 ∷ 10 ∷ 11 ∷ [] → Covers rows
all_covered rows are line low high =
    has_line rows line (subst (λ answers. Contains answers line) (sym are) (each_line (Contains (1 ∷ 2 ∷ 3 ∷ 4 ∷ 5 ∷ 6 ∷ 7 ∷ 8 ∷ 9 ∷ 10 ∷ 11 ∷ []))
    (0, omega arith, refl) (1, omega arith, refl) (2, omega arith, refl) (3, omega arith, refl) (4, omega arith, refl) (5, omega arith, refl)
    (6, omega arith, refl) (7, omega arith, refl) (8, omega arith, refl) (9, omega arith, refl) (10, omega arith, refl) line low high))
