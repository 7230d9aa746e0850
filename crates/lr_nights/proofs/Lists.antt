-- Tests of the items of a list, gone through one by one.
use Rattle.std.proofs.Common.{◌≡◌, inl, inr, ⊎_elim, ℕ, zero, suc, ◌<◌, ◌≤◌, ◌+◌, Bool, true, false, not, ◌||◌, ◌&&◌, List, [], ◌∷◌, length, drop, get_or, refl, sym, ◌∙◌, ap, arith}
use Rattle.std.specs.Prelude.{sum_by}
use Rattle.std.specs.List.{list_any}
use Rattle.std.proofs.Math.Seq.{drop-cons}
use Rattle.std.proofs.lemmas.List.Sums.{sum_by-cons}
use Rattle.std.proofs.lemmas.Bool.{or_cases, or_left, or_right}
use Rattle.lr_host.specs.Lists.{IsIn}

-- an item and those behind it
pub drop_item : {A : Type 0} (xs : List A) (i : ℕ) (x : A) → i < length xs → x ≡ get_or xs i x → drop i xs ≡ x ∷ drop (i + 1) xs
drop_item xs i x lt is = drop-cons xs i x lt ∙ ap (λ y. y ∷ drop (suc i) xs) (sym is) ∙ ap (λ (k : ℕ). x ∷ drop k xs) (let e : suc i ≡ i + 1 = omega arith in e)

-- nothing is left
pub drop_end : {A : Type 0} (xs : List A) (i : ℕ) → length xs ≤ i → drop i xs ≡ []
drop_end [] zero le = refl
drop_end [] (suc i) le = refl
drop_end (x ∷ xs) zero le = absurd (omega arith)
drop_end (x ∷ xs) (suc i) le = drop_end xs i (omega arith)

or_over : (a p r : Bool) → ((a || p) || r) ≡ (a || (p || r))
or_over true p r = refl
or_over false p r = refl

or_none : (a : Bool) → a ≡ (a || false)
or_none true = refl
or_none false = refl

and_over : (a p r : Bool) → ((a && not p) && not r) ≡ (a && not (p || r))
and_over true true r = refl
and_over true false r = refl
and_over false p r = refl

and_all : (a : Bool) → a ≡ (a && true)
and_all true = refl
and_all false = refl

-- a mark was set for one item more
pub any_on : {A : Type 0} (p : A → Bool) (xs : List A) (i : ℕ) (x : A) (a b t : Bool) → i < length xs → x ≡ get_or xs i x → b ≡ (a || p x) → (a || list_any p (drop i xs)) ≡ t → (b || list_any p (drop (i + 1) xs)) ≡ t
any_on p xs i x a b t lt is new old =
    ap (λ (c : Bool). c || list_any p (drop (i + 1) xs)) new ∙ or_over a (p x) (list_any p (drop (i + 1) xs)) ∙ ap (λ ys. a || list_any p ys) (sym (drop_item xs i x lt is)) ∙ old

pub any_end : {A : Type 0} (p : A → Bool) (xs : List A) (i : ℕ) (a t : Bool) → length xs ≤ i → (a || list_any p (drop i xs)) ≡ t → a ≡ t
any_end p xs i a t le all = or_none a ∙ ap (λ ys. a || list_any p ys) (sym (drop_end xs i le)) ∙ all

-- a mark was taken for one item more
pub any_off : {A : Type 0} (p : A → Bool) (xs : List A) (i : ℕ) (x : A) (a b t : Bool) → i < length xs → x ≡ get_or xs i x → b ≡ (a && not (p x)) → (a && not (list_any p (drop i xs))) ≡ t → (b && not (list_any p (drop (i + 1) xs))) ≡ t
any_off p xs i x a b t lt is new old =
    ap (λ (c : Bool). c && not (list_any p (drop (i + 1) xs))) new ∙ and_over a (p x) (list_any p (drop (i + 1) xs)) ∙ ap (λ ys. a && not (list_any p ys)) (sym (drop_item xs i x lt is)) ∙ old

pub off_end : {A : Type 0} (p : A → Bool) (xs : List A) (i : ℕ) (a t : Bool) → length xs ≤ i → (a && not (list_any p (drop i xs))) ≡ t → a ≡ t
off_end p xs i a t le all = and_all a ∙ ap (λ ys. a && not (list_any p ys)) (sym (drop_end xs i le)) ∙ all

-- one item more was added
pub sum_on : {A : Type 0} (f : A → ℕ) (xs : List A) (i : ℕ) (x : A) (a b t : ℕ) → i < length xs → x ≡ get_or xs i x → b ≡ a + f x → a + sum_by f (drop i xs) ≡ t → b + sum_by f (drop (i + 1) xs) ≡ t
sum_on f xs i x a b t lt is new old = let parted : sum_by f (drop i xs) ≡ f x + sum_by f (drop (i + 1) xs) = ap (sum_by f) (drop_item xs i x lt is) ∙ sum_by-cons f x (drop (i + 1) xs) in omega arith

pub sum_end : {A : Type 0} (f : A → ℕ) (xs : List A) (i : ℕ) (a t : ℕ) → length xs ≤ i → a + sum_by f (drop i xs) ≡ t → a ≡ t
sum_end f xs i a t le all = let none : sum_by f (drop i xs) ≡ 0 = ap (sum_by f) (drop_end xs i le) in omega arith

-- ---- the item that passes a test

pub any_in : {A : Type 0} (p : A → Bool) (xs : List A) → list_any p xs ≡ true → (x : A) × IsIn x xs × (p x ≡ true)
any_in p [] h = absurd (cc)
any_in p (x ∷ xs) h = ⊎_elim (λ here. (x, inl refl, here)) (λ more. let r = any_in p xs more in (r.0, inr r.1, r.2)) (or_cases (p x) (list_any p xs) h)

pub any_from : {A : Type 0} (p : A → Bool) (xs : List A) (x : A) → IsIn x xs → p x ≡ true → list_any p xs ≡ true
any_from p [] x h here = absurd h
any_from p (y ∷ ys) x (inl e) here = or_left (p y) (list_any p ys) (ap p e ∙ here)
any_from p (y ∷ ys) x (inr h) here = or_right (p y) (list_any p ys) (any_from p ys x h here)
