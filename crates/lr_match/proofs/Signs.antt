-- Characters that stand for themselves.
use Rattle.std.proofs.Common.{◌≡◌, ◌≢◌, ℕ, Bool, List, [], ◌∷◌, refl}
use Rattle.lr_rules.specs.Match.{IsClass}
use Rattle.lr_match.specs.declared.sign.Sign.TheVariants as sign
use Rattle.lr_match.specs.declared.sign.Sign.{Sign}
use Rattle.lr_match.specs.Signs.{BeginsWithSign, IsSingle}
use Rattle.lr_match.proofs.Matching.{differ}

-- one that is no sign
pub plain_sign : (c : ℕ) (rest : List ℕ) → c ≢ 42 → c ≢ 63 → c ≢ 91 → c ≢ 92 → BeginsWithSign (c ∷ rest) (sign.Itself c) rest
plain_sign c rest no_run no_one no_bracket no_backslash =
    BeginsWithSign.itself c rest refl (record { no_one = no_one; no_run = no_run; no_class = λ is t signs behind k. no_bracket is; no_escape = λ is. absurd (no_backslash is) })

-- a `[` that begins no class
pub lone_bracket : (rest : List ℕ) → ((is_turned : Bool) (signs behind : List ℕ) → IsClass rest is_turned signs behind → ⊥) → BeginsWithSign (91 ∷ rest) (sign.Itself 91) rest
lone_bracket rest none =
    BeginsWithSign.itself 91 rest refl (record { no_one = differ 91 63 refl; no_run = differ 91 42 refl; no_class = λ is t signs behind k. none t signs behind k; no_escape = λ is. absurd (differ 91 92 refl is) })

-- a backslash that is the last character
pub last_backslash : (rest : List ℕ) → rest ≡ [] → BeginsWithSign (92 ∷ rest) (sign.Itself 92) rest
last_backslash rest none =
    BeginsWithSign.itself 92 rest refl (record { no_one = differ 92 63 refl; no_run = differ 92 42 refl; no_class = λ is t signs behind k. absurd (differ 92 91 refl is); no_escape = λ is. none })

-- ---- runs, and others

pub run_text : (text : List ℕ) (s : Sign) (rest : List ℕ) → BeginsWithSign text s rest → s ≡ sign.Run → text ≡ 42 ∷ rest
run_text text _ _ (BeginsWithSign.run rest e) is = e
run_text text _ _ (BeginsWithSign.one rest e) is = absurd (cc)
run_text text _ _ (BeginsWithSign.itself c rest e plain) is = absurd (cc)
run_text text _ _ (BeginsWithSign.escaped c rest e) is = absurd (cc)
run_text text _ _ (BeginsWithSign.of_class k part rest e isk) is = absurd (cc)

pub single_of : (s : Sign) → (s ≡ sign.Run → ⊥) → IsSingle s
single_of sign.Run other = other refl
single_of sign.One other = tt
single_of (sign.Itself c) other = tt
single_of (sign.Class k) other = tt
