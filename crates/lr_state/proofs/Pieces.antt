-- Pieces written one behind the other.
use Rattle.std.proofs.Common.{◌∙◌, ap, ℕ, List, ◌++◌, take, append_assoc, length-append, arith}
use Rattle.lr_state.specs.Piece.{WritesPiece}

pub then_writes : (o m n : List ℕ) (a b c : ℕ) (p q : List ℕ) → WritesPiece o a m b p → WritesPiece m b n c q → WritesPiece o a n c (p ++ q)
then_writes o m n a b c p q first second =
    let e = length-append p q in
    let from = first.0 in
    let to = second.0 in
    (omega (arith, e), second.1 ∙ ap (λ x. x ++ q) first.1 ∙ append_assoc (take a o) p q)
