-- The path of a word, by its steps and as it is made.
use Rattle.std.proofs.Common.{◌≡◌, ℕ, ◌==◌, Bool, true, false, not, cond, ◌&&◌, List, [], ◌∷◌, ◌++◌, filter, flat_map, refl, sym, ap, ◌∙◌}
use Rattle.std.proofs.lemmas.List.Concat.{flat_map-append}
use Rattle.std.specs.List.{slice_split}
use Rattle.lr_rules.specs.Names.{is_step, word_parts, path_by, path_from}
use Rattle.lr_rules.specs.Path.{is_absolute, is_slash, is_kept, behind_slashes, kept_parts, or_root, cleaned}

-- a part behind one slash
abbrev pub slashed : List (List ℕ) → List ℕ
slashed parts = flat_map (λ name. 47 ∷ name) parts

step_is : (part : List ℕ) → is_step part ≡ is_kept part
step_is [] = refl
step_is (b ∷ []) = one (b == 46)
  where
    one : (is_dot : Bool) → not (is_dot && true) ≡ not is_dot
    one true = refl
    one false = refl
step_is (b ∷ c ∷ bs) = more (b == 46)
  where
    more : (is_dot : Bool) → not (is_dot && false) ≡ true
    more true = refl
    more false = refl

steps_are : (parts : List (List ℕ)) → behind_slashes parts ≡ slashed (filter is_step parts)
steps_are [] = refl
steps_are (p ∷ ps) = go (is_kept p) (is_step p) (step_is p) (steps_are ps)
  where
    go : (k s : Bool) → s ≡ k → behind_slashes ps ≡ slashed (filter is_step ps) → cond k (47 ∷ p) [] ++ behind_slashes ps ≡ slashed (cond s (p ∷ filter is_step ps) (filter is_step ps))
    go true true e h = ap (λ xs. 47 ∷ p ++ xs) h
    go false false e h = h
    go true false e h = absurd (cc)
    go false true e h = absurd (cc)

by_root : (parts : List (List ℕ)) → path_by parts ≡ or_root (slashed parts)
by_root [] = refl
by_root (p ∷ ps) = refl

pub from_is : (here word : List ℕ) → path_from here word ≡ cleaned here word
from_is here word = go (is_absolute word)
  where
    go : (b : Bool) → cond b (path_by (word_parts word)) (path_by (word_parts here ++ word_parts word)) ≡ or_root (cond b [] (kept_parts here) ++ kept_parts word)
    go true = by_root (word_parts word) ∙ ap or_root (sym (steps_are (slice_split is_slash word)))
    go false = by_root (word_parts here ++ word_parts word) ∙ ap or_root (flat_map-append (λ name. 47 ∷ name) (word_parts here) (word_parts word)
        ∙ sym (ap (λ xs. xs ++ kept_parts word) (steps_are (slice_split is_slash here)) ∙ ap (λ xs. slashed (word_parts here) ++ xs) (steps_are (slice_split is_slash word))))
