-- Steps that were added behind others, in one list.
use Rattle.std.proofs.Common.{◌≡◌, List, [], ◌∷◌, ◌++◌, Result, Ok, Err, OnOk, ap, ◌∙◌, append_assoc}

-- these behind those, where the call that added them ended well
pub added : {A E : Type 0} (r : Result (Unit {0}) E) (before first both then after : List A) → both ≡ before ++ first
    → OnOk r (after ≡ both ++ then) → OnOk r (after ≡ before ++ (first ++ then))
added (Ok done) before first both then after e f = f ∙ (ap (λ l. l ++ then) e ∙ append_assoc before first then)
added (Err why) before first both then after e f = tt

-- behind three parts, so behind the last of them
pub added_to_three : {A E : Type 0} (r : Result (Unit {0}) E) (before first second third both then after : List A)
    → both ≡ before ++ (first ++ (second ++ third)) → OnOk r (after ≡ both ++ then)
    → OnOk r (after ≡ before ++ (first ++ (second ++ (third ++ then))))
added_to_three (Ok done) before first second third both then after e f =
    (f ∙ (ap (λ l. l ++ then) e ∙ append_assoc before (first ++ (second ++ third)) then))
    ∙ ap (λ l. before ++ l) (append_assoc first (second ++ third) then ∙ ap (λ l. first ++ l) (append_assoc second third then))
added_to_three (Err why) before first second third both then after e f = tt

-- behind three steps that were added one by one
pub added_one_by_one : {A E : Type 0} (r : Result (Unit {0}) E) (before : List A) (first second third : A)
    (one two three then after : List A)
    → one ≡ before ++ first ∷ [] → two ≡ one ++ second ∷ [] → three ≡ two ++ third ∷ [] → OnOk r (after ≡ three ++ then)
    → OnOk r (after ≡ before ++ (first ∷ second ∷ third ∷ then))
added_one_by_one r before first second third one two three then after e f g h =
    added r before (first ∷ second ∷ third ∷ []) three then after
    (g ∙ (ap (λ l. l ++ third ∷ []) (f ∙ (ap (λ l. l ++ second ∷ []) e ∙ append_assoc before (first ∷ []) (second ∷ [])))
    ∙ append_assoc before (first ∷ second ∷ []) (third ∷ []))) h
