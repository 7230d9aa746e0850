-- Words stand one behind another.
use Rattle.std.proofs.Common.{◌≡◌, ℕ, zero, suc, ◌+◌, ◌<◌, ◌≤◌, Bool, true, false, cond, not, eqb, ◌&&◌, List, [], ◌∷◌, ◌++◌, length, take, drop, refl, sym, ap, subst, ◌∙◌, arith, append-nil, append_assoc, zero-add, length-append, length-take, length-drop}
use Rattle.std.specs.Prelude.{Option, Some, None, Ok, Err, position, nat_lt, find, ◌==◌}
use Rattle.std.specs.List.{list_all, list_any}
use Rattle.std.proofs.lemmas.List.Quantifiers.{position-Some}
use Rattle.lr_rules.specs.Bytes.{is_no_blank}
use Rattle.lr_lex.specs.declared.word.Word.{Word}
use Rattle.lr_lex.specs.declared.sign.Sign.{Sign}
use Rattle.lr_lex.specs.declared.sign.Sign.TheVariants.{Blank, Quoted}
use Rattle.lr_lex.specs.declared.item.Item.TheVariants as item
use Rattle.lr_lex.specs.declared.item.LexKind.TheVariants as kind
use Rattle.lr_lex.specs.declared.said.Said.{Said}
use Rattle.lr_lex.specs.declared.said.Said.TheVariants as says
use Rattle.lr_lex.specs.Signs.{signs, left_open, sign_of, quote_behind, escape, line_signs}
use Rattle.lr_lex.specs.Words.{Rises, words, onto, one, is_gap, goes_on, is_open, is_brace, is_equals, parted, line_words, closes, opens, before_open}
use Rattle.lr_lex.specs.Lines.{NumberedLine, line_at, lines, longer}
use Rattle.lr_lex.specs.Items.{Told, said, by_sign, by_signs, by_words, line_of_words, begins_script, is_name_sign, is_text, fault, told, taken, body, ended, script, script_text, items_of, items, words_told, all_words}

-- ---- runs of words

earlier : (a b to : ℕ) (ws : List Word) → a ≤ b → Rises b ws to → Rises a ws to
earlier a b to [] le h = omega (arith, h)
earlier a b to (w ∷ ws) le h = (omega (arith, h.0), h.1, h.2)

later : (a to more : ℕ) (ws : List Word) → to ≤ more → Rises a ws to → Rises a ws more
later a to more [] le h = omega (arith, h)
later a to more (w ∷ ws) le h = (h.0, h.1, later (w.at + w.len) to more ws le h.2)

bound : (a to : ℕ) (ws : List Word) → Rises a ws to → a ≤ to
bound a to [] h = h
bound a to (w ∷ ws) h = let k : w.at + w.len ≤ to = bound (w.at + w.len) to ws h.2 in omega (arith, h.0, k)

behind : (a b to : ℕ) (ws vs : List Word) → Rises a ws b → Rises b vs to → Rises a (ws ++ vs) to
behind a b to [] vs h k = earlier a b to vs h k
behind a b to (w ∷ ws) vs h k = (h.0, h.1, behind (w.at + w.len) b to ws vs h.2 k)

-- ---- the words of a line

onto-rises : (at to : ℕ) (s : Sign) (ws : List Word) → Rises (at + 1) ws to → Rises at (onto (one at s) ws) to
onto-rises at to s [] h = (omega arith, omega arith, h)
onto-rises at to s (v ∷ vs) h = (omega arith, omega arith, earlier (at + (1 + v.len)) (v.at + v.len) to vs (omega (arith, h.0)) h.2)

words-rise : (at : ℕ) (ss : List Sign) → Rises at (words at ss) (at + length ss)
words-rise at [] = omega arith
words-rise at (s ∷ ss) =
    let e : at + 1 + length ss ≡ at + length (s ∷ ss) = omega arith in
    by_tests (is_gap s) (goes_on ss) (subst (Rises (at + 1) (words (at + 1) ss)) e (words-rise (at + 1) ss))
  where
    by_tests : (g b : Bool) → Rises (at + 1) (words (at + 1) ss) (at + length (s ∷ ss))
        → Rises at (cond g (words (at + 1) ss) (cond b (onto (one at s) (words (at + 1) ss)) (one at s ∷ words (at + 1) ss))) (at + length (s ∷ ss))
    by_tests true b h = earlier at (at + 1) (at + length (s ∷ ss)) (words (at + 1) ss) (omega arith) h
    by_tests false true h = onto-rises at (at + length (s ∷ ss)) s (words (at + 1) ss) h
    by_tests false false h = (omega arith, omega arith, h)

parted-length : (ss : List Sign) (p : ℕ) → p < length ss → length (take p ss ++ Blank ∷ drop (p + 1) ss) ≡ length ss
parted-length ss p lt = omega (arith, length-append (take p ss) (Blank ∷ drop (p + 1) ss), length-take p ss, length-drop (p + 1) ss)

parted-rises : (at : ℕ) (ss : List Sign) (o : Option ℕ) → position is_equals ss ≡ o → Rises at (words at (parted at ss o)) (at + length ss)
parted-rises at ss None e = words-rise at ss
parted-rises at ss (Some p) e = by_test (eqb (length (words at (take p ss))) 1)
  where
    by_test : (b : Bool) → Rises at (words at (cond b (take p ss ++ Blank ∷ drop (p + 1) ss) ss)) (at + length ss)
    by_test true =
        subst (λ n. Rises at (words at (take p ss ++ Blank ∷ drop (p + 1) ss)) (at + n)) (parted-length ss p (position-Some is_equals ss p Blank e).0)
        (words-rise at (take p ss ++ Blank ∷ drop (p + 1) ss))
    by_test false = words-rise at ss

line-rises : (names : Bool) (at : ℕ) (ss : List Sign) → Rises at (line_words names at ss) (at + length ss)
line-rises true at ss = words-rise at ss
line-rises false at ss = parted-rises at ss (position is_equals ss) refl

before-length : (ss : List Sign) → length (before_open ss) ≤ length ss
before-length [] = omega arith
before-length (s ∷ ss) = by_test (is_open s && list_all is_gap ss) (before-length ss)
  where
    by_test : (b : Bool) → length (before_open ss) ≤ length ss → length (cond b [] (s ∷ before_open ss)) ≤ length (s ∷ ss)
    by_test true h = omega arith
    by_test false h = omega arith

signs-length : (names : Bool) (q : ℕ) (bs : List ℕ) → length (signs names q bs) ≡ length bs
signs-length names q [] = refl
signs-length names q (b ∷ []) = refl
signs-length names q (b ∷ c ∷ bs) = by_test (eqb b 92) (signs-length names q bs) (signs-length names (quote_behind q b) (c ∷ bs))
  where
    by_test : (t : Bool) → length (signs names q bs) ≡ length bs → length (signs names (quote_behind q b) (c ∷ bs)) ≡ length (c ∷ bs)
        → length (cond t (escape names ∷ (Quoted c ∷ signs names q bs)) (sign_of q b ∷ signs names (quote_behind q b) (c ∷ bs))) ≡ length (b ∷ c ∷ bs)
    by_test true two one = ap (λ n. suc (suc n)) two
    by_test false two one = ap suc one

-- ---- what a line says

abbrev SaidRises : ℕ → ℕ → Said → Type 0
SaidRises at to says.Nothing = at ≤ to
SaidRises at to (says.Item i) = Rises at (words_told (Ok i)) to
SaidRises at to (says.Fault f) = at ≤ to
SaidRises at to (says.Script w brace stray) = Rises at (w ∷ []) to

either : (at to : ℕ) (b : Bool) (x y : Said) → SaidRises at to x → SaidRises at to y → SaidRises at to (cond b x y)
either at to true x y h k = h
either at to false x y h k = k

first-rises : (at to n : ℕ) (names brace stray : Bool) (ws : List Word) → Rises at ws to → SaidRises at to (by_words n names brace stray ws)
first-rises at to n names brace stray [] h = h
first-rises at to n names brace stray (w ∷ ws) h =
    either at to (begins_script w.text && not names) (says.Script w brace (nat_lt 1 (length (w ∷ ws)))) (line_of_words n names brace stray (w ∷ ws))
    (h.0, h.1, bound (w.at + w.len) to ws h.2) h

signs-rise : (at to n : ℕ) (names : Bool) (ss : List Sign) → at + length ss ≤ to → SaidRises at to (by_signs n at names (Some ss))
signs-rise at to n names ss le =
    let front = before_open ss in
    either at to (closes ss) (says.Item (item.Close n)) (by_words n names (opens ss) (list_any is_brace front) (line_words names at front)) (omega arith)
    (first-rises at to n names (opens ss) (list_any is_brace front) (line_words names at front)
    (later at (at + length front) to (line_words names at front) (omega (arith, before-length ss)) (line-rises names at front)))

line-signs-rise : (l : NumberedLine) (b : ℕ) → SaidRises l.at (l.at + length l.bytes) (by_signs l.number l.at (is_name_sign b) (line_signs (is_name_sign b) l.bytes))
line-signs-rise l b = by_test (eqb (left_open 0 l.bytes) 0)
  where
    by_test : (t : Bool) → SaidRises l.at (l.at + length l.bytes) (by_signs l.number l.at (is_name_sign b) (cond t (Some (signs (is_name_sign b) 0 l.bytes)) None))
    by_test true = signs-rise l.at (l.at + length l.bytes) l.number (is_name_sign b) (signs (is_name_sign b) 0 l.bytes) (omega (arith, signs-length (is_name_sign b) 0 l.bytes))
    by_test false = omega arith

sign-rises : (l : NumberedLine) (o : Option ℕ) → SaidRises l.at (l.at + length l.bytes) (by_sign l o)
sign-rises l None = omega arith
sign-rises l (Some b) =
    either l.at (l.at + length l.bytes) (b == 35) says.Nothing (by_signs l.number l.at (is_name_sign b) (line_signs (is_name_sign b) l.bytes)) (omega arith) (line-signs-rise l b)

said-rises : (l : NumberedLine) → SaidRises l.at (l.at + length l.bytes) (said l)
unfolding said
said-rises l =
    let to = l.at + length l.bytes in
    either l.at to (nat_lt 8192 (length l.bytes)) (fault l.number kind.LineTooLong) (cond (not (is_text l.bytes)) (fault l.number kind.NotUtf8) (by_sign l (find is_no_blank l.bytes))) (omega arith)
    (either l.at to (not (is_text l.bytes)) (fault l.number kind.NotUtf8) (by_sign l (find is_no_blank l.bytes)) (omega arith) (sign-rises l (find is_no_blank l.bytes)))

-- ---- what a line tells

cond-rises : (at to : ℕ) (b : Bool) (x y : Told) → Rises at (words_told x) to → Rises at (words_told y) to → Rises at (words_told (cond b x y)) to
cond-rises at to true x y h k = h
cond-rises at to false x y h k = k

script-rises : (at to n : ℕ) (w : Word) (brace stray : Bool) (text : List ℕ) (end : Bool) → Rises at (w ∷ []) to → Rises at (words_told (script n w brace stray text end)) to
script-rises at to n w brace stray text end h =
    let none : at ≤ to = bound at to (w ∷ []) h in
    cond-rises at to (not (is_text text)) (Err (record { line = n; kind = kind.NotUtf8 })) (cond end (Ok (item.Script w text brace stray n)) (Err (record { line = n; kind = kind.NoEndscript }))) none
    (cond-rises at to end (Ok (item.Script w text brace stray n)) (Err (record { line = n; kind = kind.NoEndscript })) h none)

only : (at to : ℕ) (t : Told) → Rises at (words_told t) to → Rises at (all_words (t ∷ [])) to
only at to t h = subst (λ ws. Rises at ws to) (sym (append-nil (words_told t))) h

told-rises : (at to n : ℕ) (s : Said) (ls : List NumberedLine) → SaidRises at to s → Rises at (all_words (told n s ls)) to
told-rises at to n says.Nothing ls h = h
told-rises at to n (says.Item i) ls h = only at to (Ok i) h
told-rises at to n (says.Fault f) ls h = h
told-rises at to n (says.Script w brace stray) ls h =
    only at to (script n w brace stray (script_text (body ls)) (ended ls)) (script-rises at to n w brace stray (script_text (body ls)) (ended ls) h)

-- ---- lines

-- the lines stand one behind another
abbrev InPlace : ℕ → List NumberedLine → ℕ → Type 0
InPlace from [] to = from ≤ to
InPlace from (l ∷ ls) to = (from ≤ l.at) × InPlace (l.at + length l.bytes) ls to

sooner : (a b to : ℕ) (ls : List NumberedLine) → a ≤ b → InPlace b ls to → InPlace a ls to
sooner a b to [] le h = omega (arith, h)
sooner a b to (l ∷ ls) le h = (omega (arith, h.0), h.1)

longer-place : (n at b to : ℕ) (ls : List NumberedLine) → InPlace (at + 1) ls to → InPlace at (longer n at b ls) to
longer-place n at b to [] h = (omega arith, h)
longer-place n at b to (l ∷ ls) h = (omega arith, sooner (at + length (b ∷ l.bytes)) (l.at + length l.bytes) to ls (omega (arith, h.0)) h.1)

lines-place : (n at : ℕ) (bs : List ℕ) → InPlace at (lines n at bs) (at + length bs)
lines-place n at [] = omega arith
lines-place n at (b ∷ bs) =
    let e : at + 1 + length bs ≡ at + length (b ∷ bs) = omega arith in
    by_test (eqb b 10)
    (subst (InPlace (at + 1) (lines (n + 1) (at + 1) bs)) e (lines-place (n + 1) (at + 1) bs))
    (subst (InPlace (at + 1) (lines n (at + 1) bs)) e (lines-place n (at + 1) bs))
  where
    by_test : (t : Bool) → InPlace (at + 1) (lines (n + 1) (at + 1) bs) (at + length (b ∷ bs)) → InPlace (at + 1) (lines n (at + 1) bs) (at + length (b ∷ bs))
        → InPlace at (cond t (line_at n at [] ∷ lines (n + 1) (at + 1) bs) (longer n at b (lines n (at + 1) bs))) (at + length (b ∷ bs))
    by_test true h k = (omega arith, sooner (at + 0) (at + 1) (at + length (b ∷ bs)) (lines (n + 1) (at + 1) bs) (omega arith) h)
    by_test false h k = longer-place n at b (at + length (b ∷ bs)) (lines n (at + 1) bs) k

more-words : (ts us : List Told) → all_words (ts ++ us) ≡ all_words ts ++ all_words us
more-words [] us = refl
more-words (t ∷ ts) us = ap (λ ws. words_told t ++ ws) (more-words ts us) ∙ sym (append_assoc (words_told t) (all_words ts) (all_words us))

items-rise : (from to : ℕ) (ls : List NumberedLine) (skipped : ℕ) → InPlace from ls to → Rises from (all_words (items_of skipped ls)) to
items-rise from to [] skipped h = h
items-rise from to (l ∷ ls) (suc skipped) h =
    earlier from (l.at + length l.bytes) to (all_words (items_of skipped ls)) (omega (arith, h.0)) (items-rise (l.at + length l.bytes) to ls skipped h.1)
items-rise from to (l ∷ ls) zero h =
    let rest = items_of (taken (said l) ls) ls in
    let here = told l.number (said l) ls in
    subst (λ ws. Rises from ws to) (sym (more-words here rest))
    (behind from (l.at + length l.bytes) to (all_words here) (all_words rest)
    (earlier from l.at (l.at + length l.bytes) (all_words here) h.0 (told-rises l.at (l.at + length l.bytes) l.number (said l) ls (said-rises l)))
    (items-rise (l.at + length l.bytes) to ls (taken (said l) ls) h.1))

pub text-rises : (text : List ℕ) → Rises 0 (all_words (items text)) (length text)
text-rises text = subst (Rises 0 (all_words (items text))) (zero-add (length text)) (items-rise 0 (0 + length text) (lines 1 0 text) 0 (lines-place 1 0 text))
