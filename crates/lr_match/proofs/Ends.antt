-- Names that end with these bytes, and lists of which one does.
use Rattle.std.proofs.Common.{◌≡◌, ℕ, ◌-◌, ◌<◌, ◌≤◌, true, nat_le, List, [], ◌++◌, length, take, drop, get_or, sym, ap, ◌∙◌, subst, arith}
use Rattle.std.specs.Prelude.{Any}
use Rattle.std.specs.Bool.{Decides}
use Rattle.std.proofs.lemmas.Bool.Decides.{nat_tests}
use Rattle.lr_rules.specs.Names.{ends_with}
use Rattle.std.specs.Str.{bytes_eq}
use Rattle.std.proofs.Math.Seq.{drop-append_seam}
use Rattle.std.proofs.lemmas.List.{take-append-drop, length-append, get_or_default}
use Rattle.std.proofs.lemmas.Slice.Eq.{bytes_eq-Decides}
use Rattle.std.proofs.lemmas.Bool.{and_parts}
use Rattle.lr_rules.specs.Match.{EndsWith}

begins_at : (name front end : List ℕ) → name ≡ front ++ end → length name - length end ≡ length front
begins_at name front end e = let l = ap length e in let m = length-append front end in omega arith

-- the test tells it
pub ends_tell : (name end : List ℕ) → Decides (ends_with end name) (EndsWith name end)
ends_tell name end = (λ t. from (and_parts (nat_le (length end) (length name)) (bytes_eq (drop (length name - length end) name) end) t).1, to)
  where
    from : bytes_eq (drop (length name - length end) name) end ≡ true → EndsWith name end
    from same =
        let e : drop (length name - length end) name ≡ end = (bytes_eq-Decides (drop (length name - length end) name) end).0 same in
        (take (length name - length end) name, sym (take-append-drop (length name - length end) name) ∙ ap (λ b. take (length name - length end) name ++ b) e)

    to : EndsWith name end → ends_with end name ≡ true
    to h =
        let l = ap length h.1 in
        let m = length-append h.0 end in
        let fits : length end ≤ length name = omega arith in
        let same = (bytes_eq-Decides (drop (length name - length end) name) end).1 (ap (λ k. drop k name) (begins_at name h.0 end h.1) ∙ ap (drop (length h.0)) h.1 ∙ drop-append_seam h.0 end) in
        grind (arith, nat_tests)

-- none of the list is so
pub none_any : (P : List ℕ → Type 0) (xs : List (List ℕ)) (n : ℕ) → length xs ≤ n → ((k : ℕ) → k < n → P (get_or xs k []) → ⊥) → Any P xs → ⊥
none_any P xs n all none (k, x, in_range, is, p) = none k (omega arith) (subst P (sym is ∙ get_or_default xs k x [] in_range) p)
