-- The signs of a class, one by one.
use Rattle.std.proofs.Common.{◌≡◌, ℕ, ◌==◌, Bool, true, false, cond, ◌||◌, ◌&&◌, List, [], ◌∷◌, ◌++◌, drop, nat_le, refl, sym, ap, ◌∙◌, arith}
use Rattle.std.specs.List.{list_any}
use Rattle.std.proofs.lemmas.Bool.Decides.{nat_tests}
use Rattle.std.proofs.lemmas.List.Folds.{list_any-append}
use Rattle.lr_rules.specs.Match.{ranges_have, is_close, IsClass}
use Rattle.lr_match.specs.Classes.{before_close, signs_of, TurnedClass, HasNoClass}

-- ---- ranges

or_nothing : (b : Bool) → b ≡ b || false
or_nothing true = refl
or_nothing false = refl

-- a range from a sign to itself is the sign
single : (a c : ℕ) → (a == c) ≡ nat_le a c && nat_le c a
single a c = by (a == c) (nat_le a c) (nat_le c a) refl refl refl
  where
    by : (e l r : Bool) → (a == c) ≡ e → nat_le a c ≡ l → nat_le c a ≡ r → e ≡ l && r
    by true true true he hl hr = refl
    by true true false he hl hr = absurd (grind (arith, nat_tests))
    by true false r he hl hr = absurd (grind (arith, nat_tests))
    by false true true he hl hr = absurd (grind (arith, nat_tests))
    by false true false he hl hr = refl
    by false false r he hl hr = refl

-- a sign that begins no range is a single one
pub not_range : (from : ℕ) (s : List ℕ) → ((b : ℕ) (signs : List ℕ) → s ≡ 45 ∷ b ∷ signs → ⊥) → (c : ℕ) → ranges_have (from ∷ s) c ≡ (nat_le from c && nat_le c from) || ranges_have s c
not_range from [] h c = single from c ∙ or_nothing (nat_le from c && nat_le c from)
not_range from (b ∷ []) h c = ap (λ e. e || b == c) (single from c)
not_range from (dash ∷ b ∷ signs) h c = by (dash == 45) refl
  where
    by : (e : Bool) → (dash == 45) ≡ e → cond e ((nat_le from c && nat_le c b) || ranges_have signs c) (from == c || ranges_have (dash ∷ b ∷ signs) c) ≡ (nat_le from c && nat_le c from) || ranges_have (dash ∷ b ∷ signs) c
    by true is = absurd (h b signs (ap (λ d. d ∷ b ∷ signs) (grind (arith, nat_tests))))
    by false is = ap (λ e. e || ranges_have (dash ∷ b ∷ signs) c) (single from c)

-- ---- the `]`

none_closes : (cs : List ℕ) → list_any is_close (before_close cs) ≡ false
none_closes [] = refl
none_closes (c ∷ cs) = by (is_close c) refl (none_closes cs)
  where
    by : (b : Bool) → is_close c ≡ b → list_any is_close (before_close cs) ≡ false → list_any is_close (cond b [] (c ∷ before_close cs)) ≡ false
    by true is more = refl
    by false is more = ap (λ b. b || list_any is_close (before_close cs)) is ∙ more

true_or : (b : Bool) → b || true ≡ true
true_or true = refl
true_or false = refl

-- with a `]` there is one
pub some_closes : (more rest : List ℕ) → list_any is_close (more ++ 93 ∷ rest) ≡ true
some_closes more rest = list_any-append is_close more (93 ∷ rest) ∙ true_or (list_any is_close more)

-- the signs before the first `]` are those without one
pub before_first_close : (more rest : List ℕ) → list_any is_close more ≡ false → before_close (more ++ 93 ∷ rest) ≡ more
before_first_close [] rest h = refl
before_first_close (c ∷ more) rest h = by (is_close c) refl h (before_first_close more rest)
  where
    by : (b : Bool) → is_close c ≡ b → (b || list_any is_close more) ≡ false → (list_any is_close more ≡ false → before_close (more ++ 93 ∷ rest) ≡ more) → cond b [] (c ∷ before_close (more ++ 93 ∷ rest)) ≡ c ∷ more
    by true is none goes = absurd (cc)
    by false is none goes = ap (λ m. c ∷ m) (goes none)

-- ---- classes

-- signs with a `]` behind them
abbrev pub Ends : List ℕ → List ℕ → Type 0
Ends signs rest = signs ≡ signs_of signs ++ 93 ∷ rest

-- what a `!` turns round, and what none does
pub class_straight : (cs bs rest : List ℕ) (is_turned : Bool) → is_turned ≡ false → cs ≡ bs → ((r : List ℕ) → cs ≡ 33 ∷ r → ⊥) → Ends bs rest → IsClass cs is_turned (signs_of bs) rest
class_straight cs [] rest t is same other e = absurd (cc)
class_straight cs (b ∷ bs) rest true is same other e = absurd (cc)
class_straight cs (b ∷ bs) rest false is same other e = IsClass.straight b (before_close bs) rest (λ turn. other bs (same ∙ ap (λ x. x ∷ bs) turn)) (none_closes bs) (same ∙ e)

pub class_turned : (cs bs rest : List ℕ) (is_turned : Bool) → is_turned ≡ true → cs ≡ 33 ∷ bs → Ends bs rest → IsClass cs is_turned (signs_of bs) rest
class_turned cs [] rest t is turn e = absurd (cc)
class_turned cs (b ∷ bs) rest false is turn e = absurd (cc)
class_turned cs (b ∷ bs) rest true is turn e = IsClass.turned b (before_close bs) rest (none_closes bs) (turn ∙ ap (λ t. 33 ∷ t) e)

-- ---- what a `!` leaves

pub class_by : (cs bs rest : List ℕ) (t : Bool) → TurnedClass cs t bs → Ends bs rest → IsClass cs t (signs_of bs) rest
class_by cs bs rest true h e = class_turned cs bs rest true refl h e
class_by cs bs rest false h e = class_straight cs bs rest false refl (sym h.0) h.1 e

closed_behind : (sign : ℕ) (bs more rest : List ℕ) → bs ≡ sign ∷ more ++ 93 ∷ rest → list_any is_close (drop 1 bs) ≡ false → ⊥
closed_behind sign bs more rest e n = let t = sym (some_closes more rest) ∙ (ap (λ xs. list_any is_close (drop 1 xs)) (sym e) ∙ n) in absurd (cc)

-- ---- where no class begins

-- none does behind a `[`
pub no_class_behind : (behind : List ℕ) → HasNoClass (91 ∷ behind) → (u : Bool) (signs rest : List ℕ) → IsClass behind u signs rest → ⊥
no_class_behind behind n _ _ _ (IsClass.straight sign more rest other none e) = closed_behind sign behind more rest e n
no_class_behind behind n _ _ _ (IsClass.turned sign more rest none e) = closed_behind 33 behind (sign ∷ more) rest e n
