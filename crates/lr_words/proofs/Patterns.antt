-- A pattern is one as a rule has it.
use Rattle.std.proofs.Common.{◌≡◌, ℕ, ◌==◌, Bool, true, false, cond, not, ◌&&◌, ◌||◌, List, [], ◌∷◌, ◌++◌, nat_le, length, refl, ap, sym, ◌∙◌, arith}
use Rattle.std.specs.List.{slice_split, list_any}
use Rattle.std.proofs.lemmas.Bool.{and_parts}
use Rattle.std.proofs.lemmas.Bool.Decides.{nat_tests}
use Rattle.lr_rules.specs.Limits.{is_pattern_word, is_literal_word, is_log_word}
use Rattle.lr_rules.specs.Match.{is_wild_sign, has_sign, is_wildcard}
use Rattle.lr_rules.specs.Path.{is_slash, is_kept, behind_slashes, kept_parts, or_root, cleaned, root}
use Rattle.lr_words.specs.Names.{names_path, names_pattern}
use Rattle.lr_words.proofs.KeptNames.{Tail, ends, goes_on, signs_append, signs_in_parts}
use Rattle.lr_words.proofs.Paths.{absolute, cleaned_parts, is_path, path_text}

tail_of : (ps : List (List ℕ)) → Tail (behind_slashes ps)
tail_of [] = ends
tail_of (p ∷ ps) = by (is_kept p) (tail_of ps)
  where
    by : (s : Bool) → Tail (behind_slashes ps) → Tail (cond s (47 ∷ p) [] ++ behind_slashes ps)
    by true t = goes_on (p ++ behind_slashes ps)
    by false t = t

dot_no_sign : (b : ℕ) → not (b == 46) ≡ false → (is_wild_sign b || false) ≡ false
dot_no_sign b h = grind (arith, nat_tests)

no_more : (e : Bool) → has_sign e [] ≡ false
no_more true = refl
no_more false = refl

-- a part that a path drops has no sign
dropped : (p : List ℕ) → is_kept p ≡ false → has_sign false p ≡ false
dropped [] h = refl
dropped (b ∷ []) h = ap (λ x. is_wild_sign b || x) (no_more (b == 92)) ∙ dot_no_sign b h
dropped (b ∷ c ∷ bs) h = absurd (cc)

-- the signs of the parts stay
signs_stay : (ps : List (List ℕ)) → has_sign false (behind_slashes ps) ≡ list_any (has_sign false) ps
signs_stay [] = refl
signs_stay (p ∷ ps) = by (is_kept p) refl (signs_stay ps)
  where
    by : (s : Bool) → is_kept p ≡ s → has_sign false (behind_slashes ps) ≡ list_any (has_sign false) ps
        → has_sign false (cond s (47 ∷ p) [] ++ behind_slashes ps) ≡ (has_sign false p || list_any (has_sign false) ps)
    by true is more = signs_append false p (behind_slashes ps) (tail_of ps) ∙ ap (λ b. has_sign false p || b) more
    by false is more = more ∙ ap (λ b. b || list_any (has_sign false) ps) (sym (dropped p is))

rooted : (bs : List ℕ) → has_sign false bs ≡ true → has_sign false (or_root bs) ≡ true
rooted [] h = absurd (cc)
rooted (b ∷ bs) h = h

stays_wild : (word : List ℕ) → names_path word ≡ true → is_wildcard word ≡ true → is_wildcard (cleaned root word) ≡ true
stays_wild word path wild =
    ap (has_sign false) (cleaned_parts word (absolute word path))
    ∙ rooted (kept_parts word) (signs_stay (slice_split is_slash word) ∙ (sym (signs_in_parts word) ∙ wild))

-- a pattern as a rule has it meets the limits of one
pub pattern_meets : (word : List ℕ) → is_wildcard word ≡ true → names_pattern word ≡ true → is_log_word (cleaned root word) ≡ true
pattern_meets word wild named =
    let a = and_parts (names_path word) (nat_le (length (cleaned root word)) 2048) named in
    ap (λ b. cond b (is_pattern_word (cleaned root word)) (is_literal_word (cleaned root word))) (stays_wild word a.0 wild)
    ∙ ap (λ b. b && nat_le (length (cleaned root word)) 2048) (path_text (cleaned root word) (is_path word a.0))
    ∙ a.1
