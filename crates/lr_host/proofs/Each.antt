-- What holds of each entry of a list.
use Rattle.std.proofs.Common.{◌≡◌, Bool, true, false, cond, sym, ap, ◌∙◌, refl, subst, List, [], ◌∷◌, ◌++◌, map, reverse, ◌⊎◌, ⊎_elim}
use Rattle.std.specs.Prelude.{filter}
use Rattle.std.proofs.lemmas.List.{reverse-append, reverse-reverse, append-nil}
use Rattle.std.proofs.lemmas.List.Elements.{filter-append}
use Rattle.lr_host.specs.declared.entry.Entry.{Entry}
use Rattle.lr_host.specs.Told.{Each}

pub each_append : (P : Entry → Type 0) (xs ys : List Entry) → Each P xs → Each P ys → Each P (xs ++ ys)
each_append P [] ys a b = b
each_append P (e ∷ xs) ys a b = (a.0, each_append P xs ys a.1 b)

pub each_first : (P : Entry → Type 0) (xs ys : List Entry) → Each P (xs ++ ys) → Each P xs
each_first P [] ys a = tt
each_first P (x ∷ xs) ys a = (a.0, each_first P xs ys a.1)

pub each_as : (P Q : Entry → Type 0) (xs : List Entry) → ((e : Entry) → P e → Q e) → Each P xs → Each Q xs
each_as P Q [] f a = tt
each_as P Q (e ∷ xs) f a = (f e a.0, each_as P Q xs f a.1)

pub each_reverse : (P : Entry → Type 0) (es : List Entry) → Each P es → Each P (reverse es)
each_reverse P [] a = tt
each_reverse P (e ∷ es) a = subst (Each P) (sym (reverse-append (e ∷ []) es)) (each_append P (reverse es) (e ∷ []) (each_reverse P es a.1) (a.0, tt))

pub each_in_order : (P : Entry → Type 0) (es : List Entry) → Each P (reverse es) → Each P es
each_in_order P es a = subst (Each P) (reverse-reverse es) (each_reverse P (reverse es) a)

pub each_map : {X : Type 0} (P : Entry → Type 0) (f : X → Entry) (xs : List X) → ((x : X) → P (f x)) → Each P (map f xs)
each_map P f [] all = tt
each_map P f (x ∷ xs) all = (all x, each_map P f xs all)

pub filter_reverse : (f : Entry → Bool) (es : List Entry) → filter f (reverse es) ≡ reverse (filter f es)
filter_reverse f [] = refl
filter_reverse f (e ∷ es) = ap (filter f) (reverse-append (e ∷ []) es) ∙ (filter-append f (reverse es) (e ∷ []) ∙ (ap (λ (xs : List Entry). xs ++ filter f (e ∷ [])) (filter_reverse f es) ∙ go (f e)))
  where
    go : (b : Bool) → reverse (filter f es) ++ cond b (e ∷ []) [] ≡ reverse (cond b (e ∷ filter f es) (filter f es))
    go true = sym (reverse-append (e ∷ []) (filter f es))
    go false = append-nil (reverse (filter f es))

-- none of them passes the test
pub none_pass : (f : Entry → Bool) (es : List Entry) → Each (λ e. f e ≡ false) es → filter f es ≡ []
none_pass f [] a = refl
none_pass f (e ∷ es) a = ap (λ b. cond b (e ∷ filter f es) (filter f es)) a.0 ∙ none_pass f es a.1

-- each does
pub all_pass : (f : Entry → Bool) (es : List Entry) → Each (λ e. f e ≡ true) es → filter f es ≡ es
all_pass f [] a = refl
all_pass f (e ∷ es) a = ap (λ b. cond b (e ∷ filter f es) (filter f es)) a.0 ∙ ap (λ us. e ∷ us) (all_pass f es a.1)

-- where none passes, the first doesn't, and none behind it does
pub none_passed : (f : Entry → Bool) (e : Entry) (es : List Entry) → filter f (e ∷ es) ≡ [] → (f e ≡ false) × (filter f es ≡ [])
none_passed f e es h = go (f e) refl h
  where
    go : (b : Bool) → f e ≡ b → cond b (e ∷ filter f es) (filter f es) ≡ [] → (f e ≡ false) × (filter f es ≡ [])
    go true is h = absurd (cc)
    go false is h = (is, h)

pub each_last : (P : Entry → Type 0) (xs ys : List Entry) → Each P (xs ++ ys) → Each P ys
each_last P [] ys a = a
each_last P (x ∷ xs) ys a = each_last P xs ys a.1

pub each_filter : (Q : Entry → Type 0) (f : Entry → Bool) (xs : List Entry) → Each Q xs → Each Q (filter f xs)
each_filter Q f [] a = tt
each_filter Q f (x ∷ xs) a = go (each_filter Q f xs a.1) (f x)
  where
    go : Each Q (filter f xs) → (b : Bool) → Each Q (cond b (x ∷ filter f xs) (filter f xs))
    go rest true = (a.0, rest)
    go rest false = rest

pub each_none : (P : Entry → Type 0) {ts : List Entry} → ts ≡ [] → Each P ts
each_none P is = subst (Each P) (sym is) tt

pub each_one : (P : Entry → Type 0) {e : Entry} {ts : List Entry} → ts ≡ e ∷ [] → P e → Each P ts
each_one P is k = subst (Each P) (sym is) (k, tt)

pub each_maybe : (P : Entry → Type 0) (e : Entry) {ts : List Entry} → (ts ≡ []) ⊎ (ts ≡ e ∷ []) → P e → Each P ts
each_maybe P e m k = ⊎_elim (λ none. each_none P none) (λ one. each_one P one k) m
