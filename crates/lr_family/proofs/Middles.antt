-- What stands between a base with a dot and an end.
use Rattle.std.proofs.Common.{◌≡◌, ℕ, ◌+◌, List, [], ◌∷◌, ◌++◌, length, take, drop, sym, ap, ◌∙◌, Option, Some, None, Bor, true, false, nat_eq}
use Rattle.std.specs.Prelude.{◌≢◌, MatchOption}
use Rattle.std.specs.Cmp.Lexicographic.{pointwise}
use Rattle.lr_stamps.proofs.Members.{middle_same}
use Rattle.lr_stamps.proofs.Middles.{not_begun, begun}
use Rattle.lr_family.specs.Named.{framed}

pub no_middle : (base ext name : List ℕ) → ((middle : List ℕ) → name ≢ base ++ middle ++ ext) → (digits : List ℕ) → name ≢ framed base digits ext
no_middle base ext name h digits = h (46 ∷ digits)

pub by_dot : (base ext name rest : List ℕ) (r : Option (Bor (List ℕ))) → name ≡ base ++ rest ++ ext
    → MatchOption r (pointwise nat_eq (take 1 rest) (46 ∷ []) ≡ false) (λ x. (pointwise nat_eq (take 1 rest) (46 ∷ []) ≡ true) × (x.now ≡ drop 1 rest) × (length x.now + 1 ≡ length rest))
    → MatchOption r ((digits : List ℕ) → name ≢ framed base digits ext) (λ x. name ≡ framed base x.now ext)
by_dot base ext name rest None is m = λ digits e. not_begun rest (46 ∷ []) m digits (middle_same base ext rest (46 ∷ digits) (sym is ∙ e))
by_dot base ext name rest (Some x) is m = is ∙ ap (λ (xs : List ℕ). base ++ xs ++ ext) (begun rest (46 ∷ []) x m)
