-- A name as a rule has it gives the path of the name, and is no pattern where the name is none.
use Rattle.std.proofs.Common.{◌≡◌, ℕ, ◌==◌, Bool, true, false, cond, not, ◌&&◌, ◌||◌, List, [], ◌∷◌, ◌++◌, map, refl, ap, sym, ◌∙◌, arith}
use Rattle.std.specs.List.{slice_split, onto_first, list_any}
use Rattle.std.proofs.lemmas.Bool.{and_right}
use Rattle.std.proofs.lemmas.Bool.Decides.{nat_tests}
use Rattle.lr_rules.specs.Path.{is_slash, is_kept, kept_parts, behind_slashes as path_parts}
use Rattle.lr_rules.specs.Match.{is_wild_sign, has_sign, literal_path}
use Rattle.lr_rules.proofs.Splits.{Parts, some_parts, split_parts}
use Rattle.lr_words.specs.Names.{is_path_part, behind_word_slashes, kept_name}

-- ---- backslashes and slashes

-- the first sign escapes the second
abbrev escapes : ℕ → ℕ → Bool
escapes c d = c == 92 && not (is_slash d)

slash_escapes_not : (c d : ℕ) → escapes c d ≡ true → is_slash c ≡ false
slash_escapes_not c d h = grind (arith, nat_tests)

escaped_no_slash : (c d : ℕ) → escapes c d ≡ true → is_slash d ≡ false
escaped_no_slash c d h = grind (arith, nat_tests)

-- what the first part begins with
begins_with : (d : ℕ) (cs q : List ℕ) (qs : List (List ℕ)) → slice_split is_slash (d ∷ cs) ≡ q ∷ qs → (e : ℕ) (r : List ℕ) → q ≡ e ∷ r → e ≡ d
begins_with d cs q qs at e r qe = by (is_slash d) (slice_split is_slash cs) at
  where
    by : (s : Bool) (ps : List (List ℕ)) → cond s ([] ∷ ps) (onto_first d ps) ≡ q ∷ qs → e ≡ d
    by true ps h = absurd (cc)
    by false [] h = cc
    by false (p ∷ ps) h = cc

-- a sign that escapes none behind it stays
stays_first : (c : ℕ) (q : List ℕ) → ((d : ℕ) (r : List ℕ) → q ≡ d ∷ r → escapes c d ≡ false) → literal_path (c ∷ q) ≡ c ∷ literal_path q
stays_first c [] h = refl
stays_first c (d ∷ r) h = ap (λ e. cond e (d ∷ literal_path r) (c ∷ literal_path (d ∷ r))) (h d r refl)

two_signs : (sc sd : Bool) (c d : ℕ) (ps : List (List ℕ)) → Parts ps → sc ≡ false → sd ≡ false → escapes c d ≡ true
    → cond sd ([] ∷ map literal_path ps) (onto_first d (map literal_path ps))
    ≡ map literal_path (cond sc ([] ∷ cond sd ([] ∷ ps) (onto_first d ps)) (onto_first c (cond sd ([] ∷ ps) (onto_first d ps))))
two_signs true sd c d ps p hc hd e = absurd (cc)
two_signs false true c d ps p hc hd e = absurd (cc)
two_signs false false c d _ (some_parts q qs) hc hd e = ap (λ b. cond b (d ∷ literal_path q) (c ∷ literal_path (d ∷ q)) ∷ map literal_path qs) (sym e)

one_sign : (sc : Bool) (c : ℕ) (ps : List (List ℕ)) → Parts ps → ((q : List ℕ) (qs : List (List ℕ)) → ps ≡ q ∷ qs → literal_path (c ∷ q) ≡ c ∷ literal_path q)
    → cond sc ([] ∷ map literal_path ps) (onto_first c (map literal_path ps)) ≡ map literal_path (cond sc ([] ∷ ps) (onto_first c ps))
one_sign true c ps p h = refl
one_sign false c _ (some_parts q qs) h = ap (λ x. x ∷ map literal_path qs) (sym (h q qs refl))

-- a word without its backslashes has the parts of the word without theirs
split_literal : (w : List ℕ) → slice_split is_slash (literal_path w) ≡ map literal_path (slice_split is_slash w)
split_literal [] = refl
split_literal (c ∷ []) = one_sign (is_slash c) c ([] ∷ []) (some_parts [] []) (λ q qs h. stays_first c q (λ d r qe. absurd (cc)))
split_literal (c ∷ d ∷ cs) = by (escapes c d) refl (split_literal cs) (split_literal (d ∷ cs))
  where
    by : (e : Bool) → escapes c d ≡ e → slice_split is_slash (literal_path cs) ≡ map literal_path (slice_split is_slash cs)
        → slice_split is_slash (literal_path (d ∷ cs)) ≡ map literal_path (slice_split is_slash (d ∷ cs))
        → slice_split is_slash (cond e (d ∷ literal_path cs) (c ∷ literal_path (d ∷ cs))) ≡ map literal_path (slice_split is_slash (c ∷ d ∷ cs))
    by true is one two =
        ap (λ ps. cond (is_slash d) ([] ∷ ps) (onto_first d ps)) one
        ∙ two_signs (is_slash c) (is_slash d) c d (slice_split is_slash cs) (split_parts cs) (slash_escapes_not c d is) (escaped_no_slash c d is) is
    by false is one two =
        ap (λ ps. cond (is_slash c) ([] ∷ ps) (onto_first c ps)) two
        ∙ one_sign (is_slash c) c (slice_split is_slash (d ∷ cs)) (split_parts (d ∷ cs))
        (λ q qs at. stays_first c q (λ e r qe. ap (escapes c) (begins_with d cs q qs at e r qe) ∙ is))

-- ---- parts that are dropped

data Some_first : List ℕ → Type 0 where
  some_first : (y : ℕ) (ys : List ℕ) → Some_first (y ∷ ys)

literal_some : (d : ℕ) (bs : List ℕ) → Some_first (literal_path (d ∷ bs))
literal_some d [] = some_first d []
literal_some d (e ∷ bs) = by (escapes d e)
  where
    by : (b : Bool) → Some_first (cond b (e ∷ literal_path bs) (d ∷ literal_path (e ∷ bs)))
    by true = some_first e (literal_path bs)
    by false = some_first d (literal_path (e ∷ bs))

long_kept : (x : ℕ) (ys : List ℕ) → Some_first ys → is_kept (x ∷ ys) ≡ true
long_kept x _ (some_first y ys) = refl

dot_no_slash : (c : ℕ) → is_slash c ≡ true → (c == 46) ≡ false
dot_no_slash c h = grind (arith, nat_tests)

step_kept : (part : List ℕ) → is_path_part part ≡ is_kept (literal_path part)
step_kept [] = refl
step_kept (b ∷ []) = refl
step_kept (b ∷ c ∷ []) = by (b == 92) (is_slash c) refl
  where
    by : (e s : Bool) → is_slash c ≡ s → not (e && (c == 46)) ≡ is_kept (cond (e && not s) (c ∷ []) (b ∷ c ∷ []))
    by true true h = ap not (dot_no_slash c h)
    by true false h = refl
    by false s h = refl
step_kept (b ∷ c ∷ d ∷ bs) = by (escapes b c)
  where
    by : (e : Bool) → true ≡ is_kept (cond e (c ∷ literal_path (d ∷ bs)) (b ∷ literal_path (c ∷ d ∷ bs)))
    by true = sym (long_kept c (literal_path (d ∷ bs)) (literal_some d bs))
    by false = sym (long_kept b (literal_path (c ∷ d ∷ bs)) (literal_some c (d ∷ bs)))

-- ---- words made of parts

-- nothing, or a slash and more
pub data Tail : List ℕ → Type 0 where
  ends : Tail []
  goes_on : (rest : List ℕ) → Tail (47 ∷ rest)

tail_of : (ps : List (List ℕ)) → Tail (behind_word_slashes ps)
tail_of [] = ends
tail_of (p ∷ ps) = by (is_path_part p) (tail_of ps)
  where
    by : (s : Bool) → Tail (behind_word_slashes ps) → Tail (cond s (47 ∷ p) [] ++ behind_word_slashes ps)
    by true t = goes_on (p ++ behind_word_slashes ps)
    by false t = t

literal_append : (p rest : List ℕ) → Tail rest → literal_path (p ++ rest) ≡ literal_path p ++ literal_path rest
literal_append [] rest t = refl
literal_append (c ∷ []) _ ends = refl
literal_append (c ∷ []) _ (goes_on rest) = ap (λ e. cond e (47 ∷ literal_path rest) (c ∷ literal_path (47 ∷ rest))) (and_right (c == 92) false refl)
literal_append (c ∷ d ∷ cs) rest t = by (escapes c d) (literal_append cs rest t) (literal_append (d ∷ cs) rest t)
  where
    by : (e : Bool) → literal_path (cs ++ rest) ≡ literal_path cs ++ literal_path rest → literal_path (d ∷ cs ++ rest) ≡ literal_path (d ∷ cs) ++ literal_path rest
        → cond e (d ∷ literal_path (cs ++ rest)) (c ∷ literal_path (d ∷ cs ++ rest)) ≡ cond e (d ∷ literal_path cs) (c ∷ literal_path (d ∷ cs)) ++ literal_path rest
    by true one two = ap (λ x. d ∷ x) one
    by false one two = ap (λ x. c ∷ x) two

slash_stays : (bs : List ℕ) → literal_path (47 ∷ bs) ≡ 47 ∷ literal_path bs
slash_stays [] = refl
slash_stays (b ∷ bs) = refl

literal_parts : (ps : List (List ℕ)) → literal_path (behind_word_slashes ps) ≡ path_parts (map literal_path ps)
literal_parts [] = refl
literal_parts (p ∷ ps) = ap (λ s. literal_path (cond s (47 ∷ p) [] ++ behind_word_slashes ps)) (step_kept p) ∙ by (is_kept (literal_path p)) (literal_parts ps)
  where
    by : (s : Bool) → literal_path (behind_word_slashes ps) ≡ path_parts (map literal_path ps)
        → literal_path (cond s (47 ∷ p) [] ++ behind_word_slashes ps) ≡ cond s (47 ∷ literal_path p) [] ++ path_parts (map literal_path ps)
    by true h = slash_stays (p ++ behind_word_slashes ps) ∙ ap (λ x. 47 ∷ x) (literal_append p (behind_word_slashes ps) (tail_of ps) ∙ ap (λ x. literal_path p ++ x) h)
    by false h = h

-- the path of a name as a rule has it is the name's, without the parts that a path drops
pub path_of_kept : (w : List ℕ) → literal_path (kept_name w) ≡ kept_parts (literal_path w)
path_of_kept w = literal_parts (slice_split is_slash w) ∙ ap path_parts (sym (split_literal w))

-- ---- signs

pub or_assoc : (a b c : Bool) → (a || (b || c)) ≡ ((a || b) || c)
or_assoc true b c = refl
or_assoc false b c = refl

slash_no_sign : (c : ℕ) → is_slash c ≡ true → is_wild_sign c ≡ false
slash_no_sign c h = grind (arith, nat_tests)

slash_no_escape : (c : ℕ) → is_slash c ≡ true → (c == 92) ≡ false
slash_no_escape c h = grind (arith, nat_tests)

-- a sign in the first of the parts, where its first character is escaped or not, or in another part
abbrev in_parts : Bool → List (List ℕ) → Bool
in_parts e [] = false
in_parts e (q ∷ qs) = has_sign e q || list_any (has_sign false) qs

signs_split : (e : Bool) (w : List ℕ) → has_sign e w ≡ in_parts e (slice_split is_slash w)
signs_split e [] = by e
  where
    by : (e : Bool) → has_sign e [] ≡ (has_sign e [] || false)
    by true = refl
    by false = refl
signs_split true (c ∷ cs) = by (is_slash c) (slice_split is_slash cs) (split_parts cs) (signs_split false cs)
  where
    by : (s : Bool) (ps : List (List ℕ)) → Parts ps → has_sign false cs ≡ in_parts false ps → has_sign false cs ≡ in_parts true (cond s ([] ∷ ps) (onto_first c ps))
    by true _ (some_parts q qs) h = h
    by false _ (some_parts q qs) h = h
signs_split false (c ∷ cs) = by (is_slash c) refl (slice_split is_slash cs) (split_parts cs) (signs_split false cs) (signs_split (c == 92) cs)
  where
    by : (s : Bool) → is_slash c ≡ s → (ps : List (List ℕ)) → Parts ps → has_sign false cs ≡ in_parts false ps → has_sign (c == 92) cs ≡ in_parts (c == 92) ps
        → (is_wild_sign c || has_sign (c == 92) cs) ≡ in_parts false (cond s ([] ∷ ps) (onto_first c ps))
    by true is _ (some_parts q qs) plain own = ap (λ b. b || has_sign (c == 92) cs) (slash_no_sign c is) ∙ ap (λ e. has_sign e cs) (slash_no_escape c is) ∙ plain
    by false is _ (some_parts q qs) plain own = ap (λ b. is_wild_sign c || b) own ∙ or_assoc (is_wild_sign c) (has_sign (c == 92) q) (list_any (has_sign false) qs)

pub signs_append : (e : Bool) (p rest : List ℕ) → Tail rest → has_sign e (p ++ rest) ≡ (has_sign e p || has_sign false rest)
signs_append true [] _ ends = refl
signs_append false [] _ ends = refl
signs_append true [] _ (goes_on rest) = refl
signs_append false [] _ (goes_on rest) = refl
signs_append true (c ∷ cs) rest t = signs_append false cs rest t
signs_append false (c ∷ cs) rest t = ap (λ b. is_wild_sign c || b) (signs_append (c == 92) cs rest t) ∙ or_assoc (is_wild_sign c) (has_sign (c == 92) cs) (has_sign false rest)

-- a sign stands in one of the parts
pub signs_in_parts : (w : List ℕ) → has_sign false w ≡ list_any (has_sign false) (slice_split is_slash w)
signs_in_parts w = signs_split false w ∙ any (slice_split is_slash w)
  where
    any : (ps : List (List ℕ)) → in_parts false ps ≡ list_any (has_sign false) ps
    any [] = refl
    any (q ∷ qs) = refl

-- parts without a sign make a word without one
signs_parts : (ps : List (List ℕ)) → list_any (has_sign false) ps ≡ false → has_sign false (behind_word_slashes ps) ≡ false
signs_parts [] h = refl
signs_parts (p ∷ ps) h = by (is_path_part p) (has_sign false p) refl h (signs_parts ps)
  where
    by : (s b : Bool) → has_sign false p ≡ b → (b || list_any (has_sign false) ps) ≡ false → (list_any (has_sign false) ps ≡ false → has_sign false (behind_word_slashes ps) ≡ false)
        → has_sign false (cond s (47 ∷ p) [] ++ behind_word_slashes ps) ≡ false
    by s true is h more = absurd (cc)
    by true false is h more = signs_append false p (behind_word_slashes ps) (tail_of ps) ∙ ap (λ b. b || has_sign false (behind_word_slashes ps)) is ∙ more h
    by false false is h more = more h

-- a name that is no pattern is none as a rule has it
pub plain_kept : (w : List ℕ) → has_sign false w ≡ false → has_sign false (kept_name w) ≡ false
plain_kept w h = signs_parts (slice_split is_slash w) (sym (signs_in_parts w) ∙ h)
