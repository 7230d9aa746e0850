-- Which words name a directory from another on.
use Rattle.std.proofs.Common.{◌≡◌, ℕ, ◌==◌, Bool, true, false, cond, not, ◌&&◌, ◌||◌, List, [], ◌∷◌, ◌++◌, filter, refl, ap, sym, ◌∙◌, arith}
use Rattle.std.specs.List.{slice_split, onto_first, list_any}
use Rattle.std.proofs.lemmas.Bool.{or_from, and_right}
use Rattle.std.proofs.lemmas.Bool.Decides.{nat_tests}
use Rattle.std.proofs.lemmas.List.{append-nil}
use Rattle.std.proofs.lemmas.List.Folds.{list_any-append}
use Rattle.std.proofs.lemmas.List.Splits.{slice_split_none, slice_split_at}
use Rattle.lr_rules.specs.Limits.{is_path_text}
use Rattle.lr_rules.specs.Names.{is_step, word_parts, path_by, path_from}
use Rattle.lr_rules.specs.Path.{is_bad_byte, is_slash, is_empty, is_dots, is_absolute, has_bad_byte, has_empty_part, has_dot_part}
use Rattle.lr_rules.proofs.Cleaned.{all_plain, ArePlain, split_plain}
use Rattle.lr_rules.proofs.FromWord.{slashed}
use Rattle.lr_rules.proofs.Splits.{Parts, some_parts, split_parts}
use Rattle.lr_words.specs.Words.{is_climb, has_climb}
use Rattle.lr_words.proofs.KeptNames.{or_assoc}

from_root : (word : List ℕ) → path_from (47 ∷ []) word ≡ path_by (word_parts word)
from_root word = by (is_absolute word)
  where
    by : (a : Bool) → cond a (path_by (word_parts word)) (path_by (word_parts (47 ∷ []) ++ word_parts word)) ≡ path_by (word_parts word)
    by true = refl
    by false = refl

-- ---- bytes that no path has

slash_good : (b : ℕ) → is_slash b ≡ true → is_bad_byte b ≡ false
slash_good b h = grind (arith, nat_tests)

bad_joined : (ps : List (List ℕ)) → has_bad_byte (slashed ps) ≡ list_any has_bad_byte ps
bad_joined [] = refl
bad_joined (p ∷ ps) = list_any-append is_bad_byte p (slashed ps) ∙ ap (λ b. has_bad_byte p || b) (bad_joined ps)

bad_split : (word : List ℕ) → list_any has_bad_byte (slice_split is_slash word) ≡ has_bad_byte word
bad_split [] = refl
bad_split (b ∷ bs) = by (is_slash b) refl (slice_split is_slash bs) (split_parts bs) (bad_split bs)
  where
    by : (s : Bool) → is_slash b ≡ s → (ps : List (List ℕ)) → Parts ps → list_any has_bad_byte ps ≡ has_bad_byte bs
        → list_any has_bad_byte (cond s ([] ∷ ps) (onto_first b ps)) ≡ (is_bad_byte b || has_bad_byte bs)
    by true is _ (some_parts q qs) h = h ∙ ap (λ x. x || has_bad_byte bs) (sym (slash_good b is))
    by false is _ (some_parts q qs) h = sym (or_assoc (is_bad_byte b) (has_bad_byte q) (list_any has_bad_byte qs)) ∙ ap (λ x. is_bad_byte b || x) h

-- ---- parts that a path drops

dot_of : (b : ℕ) → not (false || (b == 46 && true)) ≡ false → (is_bad_byte b || false) ≡ false
dot_of b h = grind (arith, nat_tests)

dropped_good : (p : List ℕ) → is_step p ≡ false → has_bad_byte p ≡ false
dropped_good [] h = refl
dropped_good (b ∷ []) h = dot_of b h
dropped_good (b ∷ c ∷ bs) h = absurd (long b h)
  where
    long : (b : ℕ) → not (false || (b == 46 && false)) ≡ false → ⊥
    long b h = let e : not (false || false) ≡ false = sym (ap (λ x. not (false || x)) (and_right (b == 46) false refl)) ∙ h in cc

bad_steps : (ps : List (List ℕ)) → list_any has_bad_byte (filter is_step ps) ≡ list_any has_bad_byte ps
bad_steps [] = refl
bad_steps (p ∷ ps) = by (is_step p) refl (bad_steps ps)
  where
    by : (s : Bool) → is_step p ≡ s → list_any has_bad_byte (filter is_step ps) ≡ list_any has_bad_byte ps
        → list_any has_bad_byte (cond s (p ∷ filter is_step ps) (filter is_step ps)) ≡ (has_bad_byte p || list_any has_bad_byte ps)
    by true is h = ap (λ b. has_bad_byte p || b) h
    by false is h = h ∙ ap (λ b. b || list_any has_bad_byte ps) (sym (dropped_good p is))

-- of the parts that stay, `..` alone is one of dots
dots_step : (p : List ℕ) → is_step p ≡ true → is_dots p ≡ is_climb p
dots_step [] h = refl
dots_step (b ∷ []) h = one b h
  where
    one : (b : ℕ) → not (false || (b == 46 && true)) ≡ true → (b == 46) ≡ false
    one b h = grind (arith, nat_tests)
dots_step (b ∷ c ∷ []) h = refl
dots_step (b ∷ c ∷ d ∷ bs) h = refl

dropped_no_climb : (p : List ℕ) → is_step p ≡ false → is_climb p ≡ false
dropped_no_climb [] h = refl
dropped_no_climb (b ∷ []) h = refl
dropped_no_climb (b ∷ c ∷ bs) h = absurd (long b h)
  where
    long : (b : ℕ) → not (false || (b == 46 && false)) ≡ false → ⊥
    long b h = let e : not (false || false) ≡ false = sym (ap (λ x. not (false || x)) (and_right (b == 46) false refl)) ∙ h in cc

dots_steps : (ps : List (List ℕ)) → list_any is_dots (filter is_step ps) ≡ list_any is_climb ps
dots_steps [] = refl
dots_steps (p ∷ ps) = by (is_step p) refl (dots_steps ps)
  where
    by : (s : Bool) → is_step p ≡ s → list_any is_dots (filter is_step ps) ≡ list_any is_climb ps
        → list_any is_dots (cond s (p ∷ filter is_step ps) (filter is_step ps)) ≡ (is_climb p || list_any is_climb ps)
    by true is h = ap (λ b. b || list_any is_dots (filter is_step ps)) (dots_step p is) ∙ ap (λ b. is_climb p || b) h
    by false is h = h ∙ ap (λ b. b || list_any is_climb ps) (sym (dropped_no_climb p is))

-- ---- the path of the parts

-- parts without slashes, none of which is empty
abbrev Good : List (List ℕ) → Type 0
Good [] = Unit {0}
Good (p ∷ ps) = (list_any is_slash p ≡ false) × (is_empty p ≡ false) × Good ps

step_full : (p : List ℕ) → is_step p ≡ true → is_empty p ≡ false
step_full [] h = absurd (cc)
step_full (b ∷ bs) h = refl

good_steps : (ps : List (List ℕ)) → ArePlain ps → Good (filter is_step ps)
good_steps [] plain = tt
good_steps (p ∷ ps) plain = by (is_step p) refl (good_steps ps plain.1)
  where
    by : (s : Bool) → is_step p ≡ s → Good (filter is_step ps) → Good (cond s (p ∷ filter is_step ps) (filter is_step ps))
    by true is good = (plain.0, step_full p is, good)
    by false is good = good

split_joined : (p : List ℕ) (ps : List (List ℕ)) → list_any is_slash p ≡ false → Good ps → slice_split is_slash (p ++ slashed ps) ≡ p ∷ ps
split_joined p [] plain good = ap (slice_split is_slash) (append-nil p) ∙ slice_split_none is_slash p (all_plain p plain)
split_joined p (q ∷ qs) plain good = slice_split_at is_slash p 47 (q ++ slashed qs) (all_plain p plain) refl ∙ ap (λ xs. p ∷ xs) (split_joined q qs good.0 good.2)

none_empty : (ps : List (List ℕ)) → Good ps → list_any is_empty ps ≡ false
none_empty [] good = refl
none_empty (p ∷ ps) good = or_from (is_empty p) (list_any is_empty ps) good.1 (none_empty ps good.2)

-- the text of the path of these parts is one, where no part has a byte that none may have or is `..`
path_is_text : (ps : List (List ℕ)) → Good ps → is_path_text (path_by ps) ≡ (not (list_any has_bad_byte ps) && not (list_any is_dots ps))
path_is_text [] good = refl
path_is_text ([] ∷ ps) good = absurd (cc)
path_is_text ((b ∷ bs) ∷ ps) good =
    let p : List ℕ = b ∷ bs in
    let split = split_joined (b ∷ bs) ps good.0 good.2 in
    let empty : has_empty_part (slashed ((b ∷ bs) ∷ ps)) ≡ false = ap (list_any is_empty) split ∙ none_empty ((b ∷ bs) ∷ ps) good in
    let dots : has_dot_part (slashed ((b ∷ bs) ∷ ps)) ≡ list_any is_dots ((b ∷ bs) ∷ ps) = ap (list_any is_dots) split in
    ap (λ x. not x && (true && (not (has_empty_part (slashed ((b ∷ bs) ∷ ps))) && not (has_dot_part (slashed ((b ∷ bs) ∷ ps)))))) (bad_joined ((b ∷ bs) ∷ ps))
    ∙ ap (λ x. not (list_any has_bad_byte ((b ∷ bs) ∷ ps)) && (not x && not (has_dot_part (slashed ((b ∷ bs) ∷ ps))))) empty
    ∙ ap (λ x. not (list_any has_bad_byte ((b ∷ bs) ∷ ps)) && not x) dots

pub from_word : (word : List ℕ) → is_path_text (path_from (47 ∷ []) word) ≡ (not (has_bad_byte word) && not (has_climb word))
from_word word =
    let ps : List (List ℕ) = slice_split is_slash word in
    ap is_path_text (from_root word)
    ∙ path_is_text (word_parts word) (good_steps (slice_split is_slash word) (split_plain word))
    ∙ ap (λ x. not x && not (list_any is_dots (word_parts word))) (bad_steps (slice_split is_slash word) ∙ bad_split word)
    ∙ ap (λ x. not (has_bad_byte word) && not x) (dots_steps (slice_split is_slash word))
