-- A part without signs matches its one name.
use Rattle.std.proofs.Common.{◌≡◌, inl, inr, ℕ, suc, ◌<◌, ◌≤◌, Bool, true, false, cond, not, nat_lt, ◌==◌, ◌&&◌, ◌||◌, List, [], ◌∷◌, ◌++◌, length, get_or, refl, sym, ap, ◌∙◌, subst, arith}
use Rattle.std.specs.Prelude.{chars, IsUtf8}
use Rattle.std.specs.List.{list_any, slice_split, onto_first}
use Rattle.std.proofs.Math.Utf8.{encode, encodes, scalar, scalars}
use Rattle.std.proofs.lemmas.Bool.{or_parts, or_from, and_parts, and_from}
use Rattle.std.proofs.lemmas.Bool.Decides.{Decides-eqb, Decides-ltb, nat_tests}
use Rattle.std.proofs.lemmas.List.{append-nil}
use Rattle.std.proofs.lemmas.List.Folds.{list_any-append}
use Rattle.std.proofs.lemmas.Str.{encode_ascii, length-encode, len_utf8_bounds, inside_one, chars-encodes, chars_from_encodes}
use Rattle.lr_rules.specs.Path.{is_slash, is_absolute}
use Rattle.lr_host.specs.Lists.{IsIn}
use Rattle.lr_glob.specs.Parts.{parts_in}
use Rattle.lr_rules.specs.Match.{Matches, IsPlain, is_wild_sign, has_sign, is_wildcard, literal_path}
use Rattle.lr_rules.proofs.Splits.{Parts, some_parts, split_parts}

-- ---- the bytes of a character

abbrev Highs : List ℕ → Type 0
Highs [] = Unit {0}
Highs (b ∷ bs) = (128 ≤ b) × Highs bs

data Spelt : ℕ → List ℕ → Type 0 where
  low : (c : ℕ) → Spelt c (c ∷ [])
  high : (c b : ℕ) (bs : List ℕ) → 128 ≤ c → 128 ≤ b → Highs bs → Spelt c (b ∷ bs)

highs_of : (c : ℕ) → 128 ≤ c → (bs : List ℕ) → ((k : ℕ) → k < length bs → get_or bs k 0 < 128 → c ≡ get_or bs k 0) → Highs bs
highs_of c m [] f = tt
highs_of c m (b ∷ bs) f = (first (nat_lt b 128) refl, highs_of c m bs (λ k l h. f (suc k) (omega (arith, l)) h))
  where
    first : (t : Bool) → nat_lt b 128 ≡ t → 128 ≤ b
    first true e = let lt = (Decides-ltb b 128).0 e in let same = f 0 (omega arith) lt in absurd (omega (arith, same, m, lt))
    first false e = grind (arith, nat_tests, e)

spelt_high : (c : ℕ) → 128 ≤ c → (bs : List ℕ) → 1 ≤ length bs → Highs bs → Spelt c bs
spelt_high c m [] some h = absurd (omega (arith, some))
spelt_high c m (b ∷ bs) some h = high c b bs m h.0 h.1

spelt : (c : ℕ) → Spelt c (encode c)
spelt c = by (nat_lt c 128) refl
  where
    by : (t : Bool) → nat_lt c 128 ≡ t → Spelt c (encode c)
    by true e = subst (Spelt c) (sym (encode_ascii c ((Decides-ltb c 128).0 e))) (low c)
    by false e =
        let m : 128 ≤ c = grind (arith, nat_tests, e) in
        let size = length-encode c in
        let some = (len_utf8_bounds c).0 in
        spelt_high c m (encode c) (omega (arith, size, some)) (highs_of c m (encode c) (λ k l h. inside_one c [] (encode c) k (sym (append-nil (encode c))) l h))

no_escape : (b : ℕ) → 128 ≤ b → (b == 92) ≡ false
no_escape b m = grind (arith, nat_tests, m)

no_sign_byte : (b : ℕ) → 128 ≤ b → is_wild_sign b ≡ false
no_sign_byte b m = grind (arith, nat_tests, m)

no_slash_byte : (b : ℕ) → 128 ≤ b → is_slash b ≡ false
no_slash_byte b m = grind (arith, nat_tests, m)

-- ---- without the backslashes that escape

stay : (b : ℕ) (xs : List ℕ) → (b == 92) ≡ false → literal_path (b ∷ xs) ≡ b ∷ literal_path xs
stay b [] e = refl
stay b (d ∷ ds) e = ap (λ t. cond (t && not (is_slash d)) (d ∷ literal_path ds) (b ∷ literal_path (d ∷ ds))) e

literal_highs : (bs xs : List ℕ) → Highs bs → literal_path (bs ++ xs) ≡ bs ++ literal_path xs
literal_highs [] xs h = refl
literal_highs (b ∷ bs) xs h = stay b (bs ++ xs) (no_escape b h.0) ∙ ap (λ ys. b ∷ ys) (literal_highs bs xs h.1)

plain_step : (c : ℕ) (bs xs : List ℕ) → Spelt c bs → (c == 92) ≡ false → literal_path (bs ++ xs) ≡ bs ++ literal_path xs
plain_step _ _ xs (low c) e = stay c xs e
plain_step _ _ xs (high c b bs m n h) e = literal_highs (b ∷ bs) xs (n, h)

drops : (d : ℕ) (ds : List ℕ) → is_slash d ≡ false → literal_path (92 ∷ d ∷ ds) ≡ d ∷ literal_path ds
drops d ds e = ap (λ s. cond (not s) (d ∷ literal_path ds) (92 ∷ literal_path (d ∷ ds))) e

escaped_step : (d : ℕ) (bs xs : List ℕ) → Spelt d bs → is_slash d ≡ false → literal_path (92 ∷ (bs ++ xs)) ≡ bs ++ literal_path xs
escaped_step _ _ xs (low d) e = drops d xs e
escaped_step _ _ xs (high d b bs m n h) e = drops b (bs ++ xs) (no_slash_byte b n) ∙ ap (λ ys. b ∷ ys) (literal_highs bs xs h)

escape_low : 92 < 128
escape_low = omega arith

-- a backslash before a slash stays
keeps : (d : ℕ) (ds : List ℕ) → is_slash d ≡ true → literal_path (92 ∷ d ∷ ds) ≡ 92 ∷ literal_path (d ∷ ds)
keeps d ds e = ap (λ s. cond (not s) (d ∷ literal_path ds) (92 ∷ literal_path (d ∷ ds))) e

slash_step : (d : ℕ) (bs xs : List ℕ) → Spelt d bs → is_slash d ≡ true → literal_path (92 ∷ (bs ++ xs)) ≡ 92 ∷ literal_path (bs ++ xs)
slash_step _ _ xs (low d) e = keeps d xs e
slash_step _ _ xs (high d b bs m n h) e = let is : d ≡ 47 = (Decides-eqb d 47).0 e in absurd (omega (arith, is, m))

pub literal_spelt : (cs : List ℕ) → literal_path (encodes cs) ≡ encodes (literal_path cs)
literal_spelt [] = refl
literal_spelt (c ∷ []) = by (c == 92) refl
  where
    by : (t : Bool) → (c == 92) ≡ t → literal_path (encode c ++ []) ≡ encode c ++ []
    by true e = subst (λ bs. literal_path (bs ++ []) ≡ bs ++ []) (sym (encode_ascii c (subst (λ x. x < 128) (sym ((Decides-eqb c 92).0 e)) escape_low))) refl
    by false e = plain_step c (encode c) [] (spelt c) e
literal_spelt (c ∷ d ∷ cs) = by (c == 92) refl (is_slash d) refl (literal_spelt (d ∷ cs)) (literal_spelt cs)
  where
    by : (t : Bool) → (c == 92) ≡ t → (s : Bool) → is_slash d ≡ s → literal_path (encodes (d ∷ cs)) ≡ encodes (literal_path (d ∷ cs)) → literal_path (encodes cs) ≡ encodes (literal_path cs) → literal_path (encode c ++ encodes (d ∷ cs)) ≡ encodes (literal_path (c ∷ d ∷ cs))
    by true e false n one two =
        let is : c ≡ 92 = (Decides-eqb c 92).0 e in
        subst (λ x. literal_path (encode x ++ encodes (d ∷ cs)) ≡ encodes (literal_path (x ∷ d ∷ cs))) (sym is)
        (ap (λ bs. literal_path (bs ++ encodes (d ∷ cs))) (encode_ascii 92 escape_low)
        ∙ (escaped_step d (encode d) (encodes cs) (spelt d) n ∙ (ap (λ ys. encode d ++ ys) two ∙ ap encodes (sym (drops d cs n)))))
    by true e true n one two =
        let is : c ≡ 92 = (Decides-eqb c 92).0 e in
        subst (λ x. literal_path (encode x ++ encodes (d ∷ cs)) ≡ encodes (literal_path (x ∷ d ∷ cs))) (sym is)
        (ap (λ bs. literal_path (bs ++ encodes (d ∷ cs))) (encode_ascii 92 escape_low)
        ∙ (slash_step d (encode d) (encodes cs) (spelt d) n
        ∙ (ap (λ ys. 92 ∷ ys) one
        ∙ (sym (ap (λ bs. bs ++ encodes (literal_path (d ∷ cs))) (encode_ascii 92 escape_low)) ∙ ap encodes (sym (keeps d cs n))))))
    by false e s n one two = plain_step c (encode c) (encodes (d ∷ cs)) (spelt c) e ∙ (ap (λ ys. encode c ++ ys) one ∙ ap encodes (sym (stay c (d ∷ cs) e)))

-- ---- signs

sign_highs : (bs xs : List ℕ) → Highs bs → has_sign false (bs ++ xs) ≡ has_sign false xs
sign_highs [] xs h = refl
sign_highs (b ∷ bs) xs h = ap (λ t. t || has_sign (b == 92) (bs ++ xs)) (no_sign_byte b h.0) ∙ (ap (λ t. has_sign t (bs ++ xs)) (no_escape b h.0) ∙ sign_highs bs xs h.1)

pub no_sign : (e : Bool) (cs : List ℕ) → has_sign e (encodes cs) ≡ false → has_sign e cs ≡ false
no_sign e [] h = refl
no_sign true (c ∷ cs) h = no_sign false cs (by c (encode c) (spelt c) h)
  where
    by : (x : ℕ) (bs : List ℕ) → Spelt x bs → has_sign true (bs ++ encodes cs) ≡ false → has_sign false (encodes cs) ≡ false
    by _ _ (low x) g = g
    by _ _ (high x b bs m n s) g = sym (sign_highs bs (encodes cs) s) ∙ g
no_sign false (c ∷ cs) h = by c (encode c) (spelt c) (λ e. no_sign e cs) h
  where
    by : (x : ℕ) (bs : List ℕ) → Spelt x bs → ((e : Bool) → has_sign e (encodes cs) ≡ false → has_sign e cs ≡ false) → has_sign false (bs ++ encodes cs) ≡ false → has_sign false (x ∷ cs) ≡ false
    by _ _ (low x) f g = let p = or_parts (is_wild_sign x) (has_sign (x == 92) (encodes cs)) g in or_from (is_wild_sign x) (has_sign (x == 92) cs) p.0 (f (x == 92) p.1)
    by _ _ (high x b bs m n s) f g = or_from (is_wild_sign x) (has_sign (x == 92) cs) (no_sign_byte x m) (ap (λ t. has_sign t cs) (no_escape x m) ∙ f false (sym (sign_highs (b ∷ bs) (encodes cs) (n, s)) ∙ g))

no_slash : (cs : List ℕ) → list_any is_slash (encodes cs) ≡ false → list_any is_slash cs ≡ false
no_slash [] h = refl
no_slash (c ∷ cs) h = let p = or_parts (list_any is_slash (encode c)) (list_any is_slash (encodes cs)) (sym (list_any-append is_slash (encode c) (encodes cs)) ∙ h) in or_from (is_slash c) (list_any is_slash cs) (by c (encode c) (spelt c) p.0) (no_slash cs p.1)
  where
    by : (x : ℕ) (bs : List ℕ) → Spelt x bs → list_any is_slash bs ≡ false → is_slash x ≡ false
    by _ _ (low x) g = (or_parts (is_slash x) false g).0
    by _ _ (high x b bs m n s) g = no_slash_byte x m

-- ---- matching

is_plain : (c : ℕ) (behind : List ℕ) → is_wild_sign c ≡ false → (c ≡ 92 → behind ≡ []) → IsPlain c behind
is_plain c behind none last = record { no_one = λ e. other 63 e refl; no_run = λ e. other 42 e refl; no_class = λ e t signs rest k. other 91 e refl; no_escape = last }
  where
    other : (x : ℕ) → c ≡ x → is_wild_sign x ≡ true → ⊥
    other x e t = let g = sym (ap is_wild_sign e ∙ t) ∙ none in absurd (cc)

matches_itself : (f : Bool) (cs : List ℕ) → has_sign false cs ≡ false → list_any is_slash cs ≡ false → Matches f cs (literal_path cs)
matches_itself f [] h s = Matches.ends
matches_itself f (c ∷ []) h s = Matches.itself (is_plain c [] (or_parts (is_wild_sign c) (has_sign (c == 92) []) h).0 (λ e. refl)) Matches.ends
matches_itself f (c ∷ d ∷ cs) h s = by (c == 92) refl p.1 (λ g. matches_itself false (d ∷ cs) g rest.1) (λ g. matches_itself false cs g next.1)
  where
    p : (is_wild_sign c ≡ false) × (has_sign (c == 92) (d ∷ cs) ≡ false)
    p = or_parts (is_wild_sign c) (has_sign (c == 92) (d ∷ cs)) h

    rest : (is_slash c ≡ false) × (list_any is_slash (d ∷ cs) ≡ false)
    rest = or_parts (is_slash c) (list_any is_slash (d ∷ cs)) s

    next : (is_slash d ≡ false) × (list_any is_slash cs ≡ false)
    next = or_parts (is_slash d) (list_any is_slash cs) rest.1

    no_last : (c == 92) ≡ false → c ≡ 92 → (d ∷ cs) ≡ []
    no_last e is = let t = (Decides-eqb c 92).1 is in absurd (cc)

    by : (t : Bool) → (c == 92) ≡ t → has_sign (c == 92) (d ∷ cs) ≡ false → (has_sign false (d ∷ cs) ≡ false → Matches false (d ∷ cs) (literal_path (d ∷ cs))) → (has_sign false cs ≡ false → Matches false cs (literal_path cs)) → Matches f (c ∷ d ∷ cs) (literal_path (c ∷ d ∷ cs))
    by true e g one two =
        let is : c ≡ 92 = (Decides-eqb c 92).0 e in
        subst (λ x. Matches f (c ∷ d ∷ cs) (literal_path (x ∷ d ∷ cs))) (sym is) (subst (Matches f (c ∷ d ∷ cs)) (sym (drops d cs next.0)) (Matches.escaped is (two (sym (ap (λ t. has_sign t (d ∷ cs)) e) ∙ g))))
    by false e g one two = subst (Matches f (c ∷ d ∷ cs)) (sym (stay c (d ∷ cs) e)) (Matches.itself (is_plain c (d ∷ cs) p.0 (no_last e)) (one (sym (ap (λ t. has_sign t (d ∷ cs)) e) ∙ g)))

pub literal_scalars : (cs : List ℕ) → scalars cs ≡ true → scalars (literal_path cs) ≡ true
literal_scalars [] h = refl
literal_scalars (c ∷ []) h = h
literal_scalars (c ∷ d ∷ cs) h = by (c == 92 && not (is_slash d)) (literal_scalars (d ∷ cs) p.1) (literal_scalars cs q.1)
  where
    p : (scalar c ≡ true) × (scalars (d ∷ cs) ≡ true)
    p = and_parts (scalar c) (scalars (d ∷ cs)) h

    q : (scalar d ≡ true) × (scalars cs ≡ true)
    q = and_parts (scalar d) (scalars cs) p.1

    by : (b : Bool) → scalars (literal_path (d ∷ cs)) ≡ true → scalars (literal_path cs) ≡ true → scalars (cond b (d ∷ literal_path cs) (c ∷ literal_path (d ∷ cs))) ≡ true
    by true x y = and_from (scalar d) (scalars (literal_path cs)) q.0 y
    by false x y = and_from (scalar c) (scalars (literal_path (d ∷ cs))) p.0 x

pub literal_utf8 : (word : List ℕ) → IsUtf8 word → IsUtf8 (literal_path word)
literal_utf8 word u = (literal_path u.0, (literal_scalars u.0 u.1.0, sym (literal_spelt u.0) ∙ ap literal_path u.1.1))

-- a part of a text without signs matches the name without its backslashes
pub literal_matches : (part : List ℕ) → IsUtf8 part → is_wildcard part ≡ false → list_any is_slash part ≡ false → Matches true (chars part) (chars (literal_path part))
literal_matches part u plain s = subst (λ xs. Matches true xs (chars (literal_path part))) are (subst (Matches true cs) name (matches_itself true cs (no_sign false cs (ap (has_sign false) u.1.1 ∙ plain)) slashes))
  where
    cs : List ℕ
    cs = u.0

    slashes : list_any is_slash u.0 ≡ false
    slashes = no_slash u.0 (ap (list_any is_slash) u.1.1 ∙ s)

    are : u.0 ≡ chars part
    are = chars_from_encodes u.0 part u u.1.1

    name : literal_path u.0 ≡ chars (literal_path part)
    name = sym (chars-encodes (literal_path u.0) (literal_scalars u.0 u.1.0)) ∙ ap chars (sym (literal_spelt u.0) ∙ ap literal_path u.1.1)

-- ---- one name alone

sign_none : (c : ℕ) (cs : List ℕ) (s : ℕ) → has_sign false (c ∷ cs) ≡ false → c ≡ s → is_wild_sign s ≡ true → ⊥
sign_none c cs s none is t = let g = sym (ap is_wild_sign is ∙ t) ∙ (or_parts (is_wild_sign c) (has_sign (c == 92) cs) none).0 in absurd (cc)

itself_is : (c : ℕ) (part name : List ℕ) → IsPlain c part → name ≡ literal_path part → c ∷ name ≡ literal_path (c ∷ part)
itself_is c part name p e = by (c == 92) refl
  where
    last : part ≡ [] → c ∷ name ≡ literal_path (c ∷ part)
    last none = ap (λ xs. c ∷ xs) (e ∙ ap literal_path none) ∙ sym (ap (λ xs. literal_path (c ∷ xs)) none)

    by : (t : Bool) → (c == 92) ≡ t → c ∷ name ≡ literal_path (c ∷ part)
    by true h = last (p.no_escape ((Decides-eqb c 92).0 h))
    by false h = ap (λ xs. c ∷ xs) e ∙ sym (stay c part h)

behind_itself : (c : ℕ) (part : List ℕ) → IsPlain c part → has_sign (c == 92) part ≡ false → has_sign false part ≡ false
behind_itself c part p none = by (c == 92) refl none
  where
    by : (t : Bool) → (c == 92) ≡ t → has_sign t part ≡ false → has_sign false part ≡ false
    by true h g = ap (has_sign false) (p.no_escape ((Decides-eqb c 92).0 h))
    by false h g = g

matched_is : (f : Bool) (cs name : List ℕ) → has_sign false cs ≡ false → list_any is_slash cs ≡ false → Matches f cs name → name ≡ literal_path cs
matched_is f _ _ none plain Matches.ends = refl
matched_is f _ _ none plain (Matches.itself {c = c} {part = part} {name = name} p m) =
    itself_is c part name p (matched_is false part name (behind_itself c part p (or_parts (is_wild_sign c) (has_sign (c == 92) part) none).1) (or_parts (is_slash c) (list_any is_slash part) plain).1 m)
matched_is f _ _ none plain (Matches.escaped {sign = sign} {c = c} {part = part} {name = name} is m) =
    let slashes = or_parts (is_slash c) (list_any is_slash part) (or_parts (is_slash sign) (list_any is_slash (c ∷ part)) plain).1 in
    let signs = subst (λ t. has_sign t (c ∷ part) ≡ false) ((Decides-eqb sign 92).1 is) (or_parts (is_wild_sign sign) (has_sign (sign == 92) (c ∷ part)) none).1 in
    subst (λ x. c ∷ name ≡ literal_path (x ∷ c ∷ part)) (sym is) (ap (λ xs. c ∷ xs) (matched_is false part name signs slashes.1 m) ∙ sym (drops c part slashes.0))
matched_is f _ _ none plain (Matches.any_one {sign = sign} {part = part} is opens m) = absurd (sign_none sign part 63 none is refl)
matched_is f _ _ none plain (Matches.run_ends {sign = sign} {part = part} is m) = absurd (sign_none sign part 42 none is refl)
matched_is f _ _ none plain (Matches.run_goes_on {sign = sign} {part = part} is opens m) = absurd (sign_none sign part 42 none is refl)
matched_is f _ _ none plain (Matches.of_class {sign = sign} {part = part} is k opens h m) = absurd (sign_none sign part 91 none is refl)

-- a part of a text without signs matches no other name than that without its backslashes
pub one_name : (part name : List ℕ) → IsUtf8 part → IsUtf8 name → is_wildcard part ≡ false → list_any is_slash part ≡ false → Matches true (chars part) (chars name) → name ≡ literal_path part
one_name part name u v plain s m = sym v.1.1 ∙ (ap encodes (matched_is true u.0 v.0 signs slashes as_characters) ∙ (sym (literal_spelt u.0) ∙ ap literal_path u.1.1))
  where
    slashes : list_any is_slash u.0 ≡ false
    slashes = no_slash u.0 (ap (list_any is_slash) u.1.1 ∙ s)

    signs : has_sign false u.0 ≡ false
    signs = no_sign false u.0 (ap (has_sign false) u.1.1 ∙ plain)

    as_characters : Matches true u.0 v.0
    as_characters = subst (Matches true u.0) (sym (chars_from_encodes v.0 name v v.1.1)) (subst (λ cs. Matches true cs (chars name)) (sym (chars_from_encodes u.0 part u u.1.1)) m)

-- ---- the parts of a text

spelt_plain : (c : ℕ) (bs : List ℕ) → Spelt c bs → is_slash c ≡ false → list_any is_slash bs ≡ false
spelt_plain _ _ (low c) e = or_from (is_slash c) false e refl
spelt_plain _ _ (high c b bs m n h) e = or_from (is_slash b) (list_any is_slash bs) (no_slash_byte b n) (rest bs h)
  where
    rest : (ds : List ℕ) → Highs ds → list_any is_slash ds ≡ false
    rest [] g = refl
    rest (d ∷ ds) g = or_from (is_slash d) (list_any is_slash ds) (no_slash_byte d g.0) (rest ds g.1)

pub split_onto : (bs xs q : List ℕ) (qs : List (List ℕ)) → list_any is_slash bs ≡ false → slice_split is_slash xs ≡ q ∷ qs → slice_split is_slash (bs ++ xs) ≡ (bs ++ q) ∷ qs
split_onto [] xs q qs plain e = e
split_onto (b ∷ bs) xs q qs plain e =
    let p = or_parts (is_slash b) (list_any is_slash bs) plain in
    ap (λ t. cond t ([] ∷ slice_split is_slash (bs ++ xs)) (onto_first b (slice_split is_slash (bs ++ xs)))) p.0 ∙ ap (onto_first b) (split_onto bs xs q qs p.1 e)

split_utf8 : (cs : List ℕ) → scalars cs ≡ true → (part : List ℕ) → IsIn part (slice_split is_slash (encodes cs)) → IsUtf8 part
split_utf8 [] h part (inl e) = subst IsUtf8 e ([], (refl, refl))
split_utf8 [] h part (inr i) = absurd i
split_utf8 (c ∷ cs) h part i = by (is_slash c) refl (λ q j. split_utf8 cs p.1 q j)
  where
    p : (scalar c ≡ true) × (scalars cs ≡ true)
    p = and_parts (scalar c) (scalars cs) h

    slash_low : 47 < 128
    slash_low = omega arith

    at_slash : c ≡ 47 → slice_split is_slash (encode c ++ encodes cs) ≡ [] ∷ slice_split is_slash (encodes cs)
    at_slash is = ap (λ x. slice_split is_slash (encode x ++ encodes cs)) is ∙ ap (λ bs. slice_split is_slash (bs ++ encodes cs)) (encode_ascii 47 slash_low)

    first_or : ((q : List ℕ) → IsIn q (slice_split is_slash (encodes cs)) → IsUtf8 q) → IsIn part ([] ∷ slice_split is_slash (encodes cs)) → IsUtf8 part
    first_or f (inl e) = subst IsUtf8 e ([], (refl, refl))
    first_or f (inr j) = f part j

    longer : (ps : List (List ℕ)) → slice_split is_slash (encodes cs) ≡ ps → ((q : List ℕ) → IsIn q ps → IsUtf8 q) → Parts ps → is_slash c ≡ false → IsUtf8 part
    longer _ e f (some_parts q qs) plain = go (subst (IsIn part) (split_onto (encode c) (encodes cs) q qs (spelt_plain c (encode c) (spelt c) plain) e) i)
      where
        go : IsIn part ((encode c ++ q) ∷ qs) → IsUtf8 part
        go (inl is) = let u = f q (inl refl) in subst IsUtf8 is (c ∷ u.0, (and_from (scalar c) (scalars u.0) p.0 u.1.0, ap (λ ys. encode c ++ ys) u.1.1))
        go (inr j) = f part (inr j)

    by : (t : Bool) → is_slash c ≡ t → ((q : List ℕ) → IsIn q (slice_split is_slash (encodes cs)) → IsUtf8 q) → IsUtf8 part
    by true e f = first_or f (subst (IsIn part) (at_slash ((Decides-eqb c 47).0 e)) i)
    by false e f = longer (slice_split is_slash (encodes cs)) refl f (split_parts (encodes cs)) e

-- the parts of an absolute text are texts
pub parts_utf8 : (word : List ℕ) → IsUtf8 word → is_absolute word ≡ true → (part : List ℕ) → IsIn part (parts_in word) → IsUtf8 part
parts_utf8 [] u a part i = absurd (cc)
parts_utf8 (b ∷ bs) u a part i = split_utf8 u.0 u.1.0 part (subst (λ w. IsIn part (slice_split is_slash w)) (sym u.1.1) (subst (IsIn part) (sym (ap (λ t. cond t ([] ∷ slice_split is_slash bs) (onto_first b (slice_split is_slash bs))) a)) (inr i)))
