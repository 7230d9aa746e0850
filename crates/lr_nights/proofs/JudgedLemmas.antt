-- What holds of each element so far, and of one more.
use Rattle.std.proofs.Common.{◌≡◌, ◌<◌, ◌+◌, ℕ, List, [], ◌∷◌, ◌++◌, length, get_or, take, All, ap, sym, subst, ◌∙◌, arith}
use Rattle.std.proofs.lemmas.List.{take_more}
use Rattle.std.proofs.lemmas.List.Elements.{All-cons, All-append}

pub one_more : {X : Type 0} (P : X → Type 0) (xs : List X) (i : ℕ) (x : X) → i < length xs → x ≡ get_or xs i x → All P (take i xs) → P x → All P (take (i + 1) xs)
one_more P xs i x lt is so_far h =
    subst (All P) (sym (take_more xs i x lt ∙ ap (λ y. take i xs ++ y ∷ []) (sym is)))
    (All-append P (take i xs) (x ∷ []) so_far (All-cons P x [] h (λ k d le. absurd (omega arith))))
