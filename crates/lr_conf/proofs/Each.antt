-- What holds of each element, through the parts of a list that the meaning speaks of.
use Rattle.std.proofs.Common.{Bool, true, false, cond, List, [], ◌∷◌, ◌++◌, reverse, Option, Some, None, sym, subst}
use Rattle.std.specs.List.{AllByRecursion as Each, filter_map, cons_option}
use Rattle.std.proofs.lemmas.List.{reverse-append}
use Rattle.lr_conf.specs.Meaning.{before}
use Rattle.lr_conf.specs.Fields.{last_or}

pub append : {A : Type 0} (P : A → Type 0) (xs ys : List A) → Each P xs → Each P ys → Each P (xs ++ ys)
append P [] ys a b = b
append P (x ∷ xs) ys a b = (a.0, append P xs ys a.1 b)

pub backwards : {A : Type 0} (P : A → Type 0) (xs : List A) → Each P xs → Each P (reverse xs)
backwards P [] a = tt
backwards P (x ∷ xs) a = subst (Each P) (sym (reverse-append (x ∷ []) xs)) (append P (reverse xs) (x ∷ []) (backwards P xs a.1) (a.0, tt))

pub front : {A : Type 0} (P : A → Type 0) (p : A → Bool) (xs : List A) → Each P xs → Each P (before p xs)
front P p [] a = tt
front P p (x ∷ xs) a = by (p x) (front P p xs a.1)
  where
    by : (b : Bool) → Each P (before p xs) → Each P (cond b [] (x ∷ before p xs))
    by true h = tt
    by false h = (a.0, h)

-- where there is a value it holds of it
abbrev pub Given : {A : Type 0} → (A → Type 0) → Option A → Type 0
Given P None = Unit {0}
Given P (Some x) = P x

pub one_more : {A : Type 0} (P : A → Type 0) (o : Option A) (xs : List A) → Given P o → Each P xs → Each P (cons_option o xs)
one_more P None xs g a = a
one_more P (Some x) xs g a = (g, a)

pub mapped : {A B : Type 0} (P : A → Type 0) (Q : B → Type 0) (f : A → Option B) → ((x : A) → P x → Given Q (f x)) → (xs : List A) → Each P xs → Each Q (filter_map f xs)
mapped P Q f h [] a = tt
mapped P Q f h (x ∷ xs) a = one_more Q (f x) (filter_map f xs) (h x a.0) (mapped P Q f h xs a.1)

pub last : {A : Type 0} (P : A → Type 0) (d : A) (xs : List A) → P d → Each P xs → P (last_or d xs)
last P d [] h a = h
last P d (x ∷ xs) h a = last P x xs a.0 a.1
