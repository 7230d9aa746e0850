-- What whole lines tell.
use Rattle.std.proofs.Common.{◌≡◌, ◌+◌, ℕ, suc, true, false, Bool, cond, eqb, true≢false, List, [], ◌∷◌, ◌++◌, length, refl, sym, ap, ◌∙◌, append_assoc, length-append, arith}
use Rattle.std.specs.Prelude.{◌||◌}
use Rattle.std.specs.List.{list_any}
use Rattle.lr_lex.specs.declared.word.Word.{Word}
use Rattle.lr_lex.specs.declared.said.Said.{Said}
use Rattle.lr_lex.specs.declared.said.Said.TheVariants as says
use Rattle.lr_lex.specs.Lines.{NumberedLine, line_at, lines, line_of, after_line}
use Rattle.lr_lex.specs.Pieces.{has_line}
use Rattle.lr_lex.specs.Items.{said, items_of, items_from, body, ended, is_end, script_text, told, taken, script}
use Rattle.lr_lex.proofs.LawsOf.{lines-more}
use Rattle.lr_lex.specs.Whole.{AreLinesOf, IsPlainSaid, Tell, IsScriptBegun}

-- ---- a line and its newline

line_is : (x : List ℕ) → has_line x ≡ false → line_of (x ++ 10 ∷ []) ≡ x
unfolding line_of
line_is [] h = refl
line_is (b ∷ x) h = line_by b x (eqb b 10) h (λ k. line_is x k)
  where
    line_by : (b : ℕ) (x : List ℕ) (t : Bool) → (t || has_line x) ≡ false → (has_line x ≡ false → line_of (x ++ 10 ∷ []) ≡ x) → cond t [] (b ∷ line_of (x ++ 10 ∷ [])) ≡ b ∷ x
    line_by b x true h rest = absurd (true≢false h)
    line_by b x false h rest = ap (λ l. b ∷ l) (rest h)

behind_is : (x : List ℕ) → has_line x ≡ false → after_line (x ++ 10 ∷ []) ≡ []
unfolding after_line
behind_is [] h = refl
behind_is (b ∷ x) h = behind_by (eqb b 10) h (λ k. behind_is x k)
  where
    behind_by : (t : Bool) → (t || has_line x) ≡ false → (has_line x ≡ false → after_line (x ++ 10 ∷ []) ≡ []) → cond t (x ++ 10 ∷ []) (after_line (x ++ 10 ∷ [])) ≡ []
    behind_by true h rest = absurd (true≢false h)
    behind_by false h rest = rest h

there : (x : List ℕ) → has_line (x ++ 10 ∷ []) ≡ true
there [] = refl
there (b ∷ x) = by (eqb b 10) (there x)
  where
    by : (t : Bool) → has_line (x ++ 10 ∷ []) ≡ true → (t || has_line (x ++ 10 ∷ [])) ≡ true
    by true h = refl
    by false h = h

-- ---- whole lines

pub one_line : (n at : ℕ) (x : List ℕ) → has_line x ≡ false → (more : List ℕ) → lines n at ((x ++ 10 ∷ []) ++ more) ≡ line_at n at x ∷ lines (n + 1) (at + length x + 1) more
one_line n at x h more =
    lines-more n at (x ++ 10 ∷ []) more (there x)
    ∙ (ap (λ l. line_at n at l ∷ lines (n + 1) (at + length l + 1) (after_line (x ++ 10 ∷ []) ++ more)) (line_is x h)
    ∙ ap (λ r. line_at n at x ∷ lines (n + 1) (at + length x + 1) (r ++ more)) (behind_is x h))

pub line_added : (n at : ℕ) (p : List ℕ) (ls : List NumberedLine) (x : List ℕ) → AreLinesOf n at p ls → has_line x ≡ false → AreLinesOf n at (p ++ (x ++ 10 ∷ [])) (ls ++ line_at (n + length ls) (at + length p) x ∷ [])
line_added n at p ls x are h more =
    ap (λ t. lines n at t) (append_assoc p (x ++ 10 ∷ []) more)
    ∙ (are ((x ++ 10 ∷ []) ++ more)
    ∙ (ap (λ t. ls ++ t) (one_line (n + length ls) (at + length p) x h more)
    ∙ (sym (append_assoc ls (line_at (n + length ls) (at + length p) x ∷ []) (lines (n + length ls + 1) (at + length p + length x + 1) more))
    ∙ (ap (λ m. (ls ++ line_at (n + length ls) (at + length p) x ∷ []) ++ lines m (at + length p + length x + 1) more) count
    ∙ ap (λ a. (ls ++ line_at (n + length ls) (at + length p) x ∷ []) ++ lines (n + length (ls ++ line_at (n + length ls) (at + length p) x ∷ [])) a more) size))))
  where
    count : n + length ls + 1 ≡ n + length (ls ++ line_at (n + length ls) (at + length p) x ∷ [])
    count = let e = length-append ls (line_at (n + length ls) (at + length p) x ∷ []) in omega (arith, e)

    size : at + length p + length x + 1 ≡ at + length (p ++ (x ++ 10 ∷ []))
    size = let e = length-append p (x ++ 10 ∷ []) in let f = length-append x (10 ∷ []) in omega (arith, e, f)

-- a line alone
pub line_alone : (n at : ℕ) (x : List ℕ) → has_line x ≡ false → AreLinesOf n at (x ++ 10 ∷ []) (line_at n at x ∷ [])
line_alone n at x h more = one_line n at x h more ∙ ap (λ a. line_at n at x ∷ lines (n + 1) a more) (let f = length-append x (10 ∷ []) in omega (arith, f))

-- ---- what they tell

plain_told : (l : NumberedLine) (s : Said) → said l ≡ s → IsPlainSaid s → (ls : List NumberedLine) → items_of 0 (l ∷ ls) ≡ told l.number s [] ++ items_of 0 ls
plain_told l says.Nothing e p ls = ap (λ s. told l.number s ls ++ items_of (taken s ls) ls) e
plain_told l (says.Item i) e p ls = ap (λ s. told l.number s ls ++ items_of (taken s ls) ls) e
plain_told l (says.Fault f) e p ls = ap (λ s. told l.number s ls ++ items_of (taken s ls) ls) e
plain_told l (says.Script w brace stray) e p ls = absurd p

pub line_tells : (n at : ℕ) (x : List ℕ) (s : Said) → has_line x ≡ false → said (line_at n at x) ≡ s → IsPlainSaid s → Tell n at (x ++ 10 ∷ []) 1 (told n s [])
line_tells n at x s h e p more = ap (λ ls. items_of 0 ls) (line_alone n at x h more) ∙ plain_told (line_at n at x) s e p (lines (n + 1) (at + length (x ++ 10 ∷ [])) more)

-- the lines of a script up to the first that ends it
pub body_is : (ls : List NumberedLine) (e : NumberedLine) (more : List NumberedLine) → list_any is_end ls ≡ false → is_end e ≡ true → body ((ls ++ e ∷ []) ++ more) ≡ ls
body_is [] e more h is = ap (λ t. cond t [] (e ∷ body more)) is
body_is (l ∷ ls) e more h is = by (is_end l) h (λ k. body_is ls e more k is)
  where
    by : (t : Bool) → (t || list_any is_end ls) ≡ false → (list_any is_end ls ≡ false → body ((ls ++ e ∷ []) ++ more) ≡ ls) → cond t [] (l ∷ body ((ls ++ e ∷ []) ++ more)) ≡ l ∷ ls
    by true h rest = absurd (true≢false h)
    by false h rest = ap (λ xs. l ∷ xs) (rest h)

pub ended_is : (ls : List NumberedLine) (e : NumberedLine) (more : List NumberedLine) → is_end e ≡ true → ended ((ls ++ e ∷ []) ++ more) ≡ true
ended_is [] e more is = ap (λ t. t || ended more) is
ended_is (l ∷ ls) e more is = by (is_end l) (ended_is ls e more is)
  where
    by : (t : Bool) → ended ((ls ++ e ∷ []) ++ more) ≡ true → (t || ended ((ls ++ e ∷ []) ++ more)) ≡ true
    by true h = refl
    by false h = h

skipped_is : (ls : List NumberedLine) (more : List NumberedLine) → items_of (length ls) (ls ++ more) ≡ items_of 0 more
skipped_is [] more = refl
skipped_is (l ∷ ls) more = skipped_is ls more

script_told : (l : NumberedLine) (w : Word) (brace stray : Bool) (mid : List NumberedLine) (e : NumberedLine) (more : List NumberedLine) → said l ≡ says.Script w brace stray → list_any is_end mid ≡ false → is_end e ≡ true
    → items_of 0 (l ∷ ((mid ++ e ∷ []) ++ more)) ≡ script l.number w brace stray (script_text mid) true ∷ items_of 0 more
script_told l w brace stray mid e more begins unended is =
    ap (λ s. told l.number s ls ++ items_of (taken s ls) ls) begins
    ∙ (ap (λ t. script l.number w brace stray (script_text t) (ended ls) ∷ items_of (suc (length t)) ls) (body_is mid e more unended is)
    ∙ (ap (λ t. script l.number w brace stray (script_text mid) t ∷ items_of (suc (length mid)) ls) (ended_is mid e more is)
    ∙ ap (λ t. script l.number w brace stray (script_text mid) true ∷ t) (ap (λ k. items_of k ls) count ∙ skipped_is (mid ++ e ∷ []) more)))
  where
    ls : List NumberedLine
    ls = (mid ++ e ∷ []) ++ more

    count : suc (length mid) ≡ length (mid ++ e ∷ [])
    count = let f = length-append mid (e ∷ []) in omega (arith, f)

-- the lines of a script up to its end tell it alone
pub script_tells : (n at : ℕ) (p : List ℕ) (count : ℕ) (x : List ℕ) (b : IsScriptBegun n at p count) → has_line x ≡ false → ((m a : ℕ) → is_end (line_at m a x) ≡ true)
    → Tell n at (p ++ (x ++ 10 ∷ [])) (count + 1) (script b.first.number b.word b.brace b.stray (script_text b.others) true ∷ [])
script_tells n at p count x b h is more =
    ap (λ ls. items_of 0 ls) (line_added n at p (b.first ∷ b.others) x b.lines_are h more)
    ∙ (script_told b.first b.word b.brace b.stray b.others (line_at (n + length (b.first ∷ b.others)) (at + length p) x) (lines (n + length (b.first ∷ (b.others ++ line_at (n + length (b.first ∷ b.others)) (at + length p) x ∷ []))) (at + length (p ++ (x ++ 10 ∷ []))) more) b.begins b.unended (is (n + length (b.first ∷ b.others)) (at + length p))
    ∙ ap (λ m. script b.first.number b.word b.brace b.stray (script_text b.others) true ∷ items_from m (at + length (p ++ (x ++ 10 ∷ []))) more) many)
  where
    many : n + length (b.first ∷ (b.others ++ line_at (n + length (b.first ∷ b.others)) (at + length p) x ∷ [])) ≡ n + (count + 1)
    many = let f = length-append b.others (line_at (n + length (b.first ∷ b.others)) (at + length p) x ∷ []) in let g = b.many in omega (arith, f, g)

-- a line that begins a script has begun it
pub script_begun : (n at : ℕ) (x : List ℕ) (w : Word) (brace stray : Bool) → has_line x ≡ false → said (line_at n at x) ≡ says.Script w brace stray → IsScriptBegun n at (x ++ 10 ∷ []) 1
script_begun n at x w brace stray h e = record {
  first = line_at n at x;
  others = [];
  lines_are = line_alone n at x h;
  many = refl;
  word = w;
  brace = brace;
  stray = stray;
  begins = e;
  unended = refl;
}

-- one more line that doesn't end it
pub script_goes_on : (n at : ℕ) (p : List ℕ) (count : ℕ) (x : List ℕ) → IsScriptBegun n at p count → has_line x ≡ false → ((m a : ℕ) → is_end (line_at m a x) ≡ false) → IsScriptBegun n at (p ++ (x ++ 10 ∷ [])) (count + 1)
script_goes_on n at p count x b h goes = record {
  first = b.first;
  others = b.others ++ line_at (n + length (b.first ∷ b.others)) (at + length p) x ∷ [];
  lines_are = line_added n at p (b.first ∷ b.others) x b.lines_are h;
  many = let f = length-append b.others (line_at (n + length (b.first ∷ b.others)) (at + length p) x ∷ []) in let g = b.many in omega (arith, f, g);
  word = b.word;
  brace = b.brace;
  stray = b.stray;
  begins = b.begins;
  unended = none_more b.others (line_at (n + length (b.first ∷ b.others)) (at + length p) x) b.unended (goes (n + length (b.first ∷ b.others)) (at + length p));
}
  where
    none_more : (ls : List NumberedLine) (e : NumberedLine) → list_any is_end ls ≡ false → is_end e ≡ false → list_any is_end (ls ++ e ∷ []) ≡ false
    none_more [] e f g = ap (λ t. t || false) g
    none_more (l ∷ ls) e f g = by (is_end l) f (λ k. none_more ls e k g)
      where
        by : (t : Bool) → (t || list_any is_end ls) ≡ false → (list_any is_end ls ≡ false → list_any is_end (ls ++ e ∷ []) ≡ false) → (t || list_any is_end (ls ++ e ∷ [])) ≡ false
        by true k rest = absurd (true≢false k)
        by false k rest = rest k
