-- How puts are joined.
use native.Mathlib.Omega.{arith}
use Rattle.std.proofs.Common.{◌≡◌, ◌<◌, map, get_or, Result, Ok, Err, OnOk, drop, ◌-◌, subst, refl, sym, ap, ◌∙◌, ℕ, ◌+◌, ◌≤◌, min, List, [], ◌∷◌, ◌++◌, take, length, Option, Some, None}
use Rattle.std.specs.Option.{option_map}
use Rattle.std.specs.List.{concat}
use Rattle.std.proofs.Math.Seq.{take-append-add, take-add, take-length}
use Rattle.std.proofs.lemmas.List.{append_assoc, append-nil, take-append-le, take_min, take_rest, take_all, take-append-drop, take_more, map-append}
use Rattle.std.proofs.lemmas.List.Folds.{concat-append}
use Rattle.lr_report.specs.Puts.{Took, TookPart}

pub took_none : (o : Option (List ℕ)) → Took [] o o
took_none None = refl
took_none (Some bytes) = ap Some (sym (append-nil bytes))

-- this came, and then that
pub took_on : (x y : List ℕ) (o m n : Option (List ℕ)) → Took x o m → Took y m n → Took (x ++ y) o n
took_on x y None m n a b = b ∙ ap (option_map (λ bytes. bytes ++ y)) a
took_on x y (Some bytes) m n a b = b ∙ ap (option_map (λ bytes. bytes ++ y)) a ∙ ap Some (append_assoc bytes x y)

-- all is a part
pub part_whole : (x : List ℕ) (o n : Option (List ℕ)) → Took x o n → TookPart x o n
part_whole x o n a = (length x, subst (λ t. Took t o n) (sym (take-length x)) a)

-- this came, and then a part of that
pub part_on : (x y : List ℕ) (o m n : Option (List ℕ)) → Took x o m → TookPart y m n → TookPart (x ++ y) o n
part_on x y o m n a b = (length x + b.0, subst (λ t. Took t o n) (sym (take-append-add x y b.0)) (took_on x (take b.0 y) o m n a b.1))

-- a part of this came, so one of both
pub part_first : (x y : List ℕ) (o n : Option (List ℕ)) → TookPart x o n → TookPart (x ++ y) o n
part_first x y o n a =
    (min a.0 (length x), subst (λ t. Took t o n) (sym (take-append-le (min a.0 (length x)) x y (omega arith) ∙ take_min a.0 x)) a.1)

-- more of the text came
pub took_next : (text : List ℕ) (at n : ℕ) (o m k : Option (List ℕ)) → Took (take at text) o m → Took (take n (take (length text - at) (drop at text))) m k → Took (take (at + n) text) o k
took_next text at n o m k a b =
    subst (λ t. Took t o k) (sym (take-add at n text))
    (took_on (take at text) (take n (drop at text)) o m k a (subst (λ t. Took (take n t) m k) (take_rest text at) b))

-- nothing more came
pub took_nil : (x : List ℕ) (o n : Option (List ℕ)) → Took x o n → Took (x ++ []) o n
took_nil x o n a = subst (λ t. Took t o n) (sym (append-nil x)) a

pub when_ok : {T E : Type 0} (r : Result T E) (X Y : Type 0) → OnOk r X → (X → Y) → OnOk r Y
when_ok (Ok x) X Y h f = f h
when_ok (Err e) X Y h f = h

-- This came, then that, and then the end.
pub three_parts : (a b c : List ℕ) (o l m n : Option (List ℕ)) → Took a o l → Took b l m → TookPart c m n → TookPart (a ++ (b ++ (c ++ []))) o n
three_parts a b c o l m n p q r = part_on a (b ++ (c ++ [])) o l n p (part_on b (c ++ []) l m n q (part_first c [] m n r))

pub three_whole : (a b c : List ℕ) (o l m n : Option (List ℕ)) → Took a o l → Took b l m → Took c m n → Took (a ++ (b ++ (c ++ []))) o n
three_whole a b c o l m n p q r = took_on a (b ++ (c ++ [])) o l n p (took_on b (c ++ []) l m n q (took_nil c m n r))

-- A first part of the middle came.
pub two_parts : (a b c : List ℕ) (o l n : Option (List ℕ)) → Took a o l → TookPart b l n → TookPart (a ++ (b ++ c)) o n
two_parts a b c o l n p q = part_on a (b ++ c) o l n p (part_first b c l n q)

text_on : {X : Type 0} (f : X → List ℕ) (xs ys : List X) → concat (map f (xs ++ ys)) ≡ concat (map f xs) ++ concat (map f ys)
text_on f xs ys = ap concat (map-append f xs ys) ∙ concat-append (map f xs) (map f ys)

text_next : {X : Type 0} (f : X → List ℕ) (xs : List X) (i : ℕ) (d : X) → i < length xs → concat (map f (take (i + 1) xs)) ≡ concat (map f (take i xs)) ++ f (get_or xs i d)
text_next f xs i d h = ap (λ ys. concat (map f ys)) (take_more xs i d h) ∙ text_on f (take i xs) (get_or xs i d ∷ []) ∙ ap (λ t. concat (map f (take i xs)) ++ t) (append-nil (f (get_or xs i d)))

-- the text of the next value came
pub took_value : {X : Type 0} (f : X → List ℕ) (xs : List X) (i : ℕ) (d : X) (o m n : Option (List ℕ)) → d ≡ get_or xs i d → i < length xs → Took (concat (map f (take i xs))) o m → Took (f d) m n → Took (concat (map f (take (i + 1) xs))) o n
took_value f xs i d o m n e h a c =
    subst (λ t. Took t o n) (sym (text_next f xs i d h)) (took_on (concat (map f (take i xs))) (f (get_or xs i d)) o m n a (subst (λ x. Took (f x) m n) e c))

-- a first part of it came
pub part_value : {X : Type 0} (f : X → List ℕ) (xs : List X) (i : ℕ) (d : X) (o m n : Option (List ℕ)) → d ≡ get_or xs i d → i < length xs → Took (concat (map f (take i xs))) o m → TookPart (f d) m n → TookPart (concat (map f xs)) o n
part_value f xs i d o m n e h a c =
    subst (λ t. TookPart t o n) (sym (text_on f (take (i + 1) xs) (drop (i + 1) xs)) ∙ ap (λ ys. concat (map f ys)) (take-append-drop (i + 1) xs))
    (part_first (concat (map f (take (i + 1) xs))) (concat (map f (drop (i + 1) xs))) o n
    (subst (λ t. TookPart t o n) (sym (text_next f xs i d h)) (part_on (concat (map f (take i xs))) (f (get_or xs i d)) o m n a (subst (λ x. TookPart (f x) m n) e c))))

-- all values came
pub all_values : {X : Type 0} (f : X → List ℕ) (xs : List X) (i : ℕ) (o n : Option (List ℕ)) → length xs ≤ i → Took (concat (map f (take i xs))) o n → Took (concat (map f xs)) o n
all_values f xs i o n h a = subst (λ ys. Took (concat (map f ys)) o n) (take_all i xs h) a

-- the same text in other words
pub whole_as : {T E : Type 0} (r : Result T E) (x y : List ℕ) (o n : Option (List ℕ)) → x ≡ y → OnOk r (Took x o n) → OnOk r (Took y o n)
whole_as r x y o n e h = subst (λ t. OnOk r (Took t o n)) e h

pub part_as : (x y : List ℕ) (o n : Option (List ℕ)) → x ≡ y → TookPart x o n → TookPart y o n
part_as x y o n e h = subst (λ t. TookPart t o n) e h
