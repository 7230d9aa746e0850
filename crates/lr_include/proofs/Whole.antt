-- What whole lines tell, with a line behind them that isn't whole.
use Rattle.std.proofs.Common.{◌≡◌, ◌≤◌, ◌+◌, ℕ, zero, suc, Bool, true, false, cond, ◌||◌, ◌==◌, List, [], ◌∷◌, ◌++◌, length, refl, sym, ap, ◌∙◌, subst, append_assoc, append-nil, length-append, arith}
use Rattle.lr_rules.specs.Bytes.{is_newline}
use Rattle.lr_lex.specs.declared.said.Said.{Said}
use Rattle.lr_lex.specs.declared.said.Said.TheVariants as says
use Rattle.lr_lex.specs.Lines.{NumberedLine, line_at, longer, lines}
use Rattle.lr_lex.specs.Pieces.{has_line}
use Rattle.lr_lex.specs.Items.{Told, said, told, taken, ended, body, is_end, items_of, script, script_text}
use Rattle.lr_lex.proofs.Alone.{one_alone}
use Rattle.lr_include.specs.Whole.{whole_lines, told_whole, whole_of}

-- ---- scripts

body_long : (ls more : List NumberedLine) → ended ls ≡ false → length ls ≤ length (body (ls ++ more))
body_long [] more h = omega arith
body_long (l ∷ ls) more h = by (is_end l) h (λ k. body_long ls more k)
  where
    by : (t : Bool) → (t || ended ls) ≡ false → (ended ls ≡ false → length ls ≤ length (body (ls ++ more))) → length (l ∷ ls) ≤ length (cond t [] (l ∷ body (ls ++ more)))
    by true e f = absurd (cc e)
    by false e f = let le = f e in omega (arith, le)

body_same : (ls more : List NumberedLine) → ended ls ≡ true → (body (ls ++ more) ≡ body ls) × (ended (ls ++ more) ≡ true) × (length (body ls) + 1 ≤ length ls)
body_same [] more h = absurd (cc h)
body_same (l ∷ ls) more h = by (is_end l) h (λ k. body_same ls more k)
  where
    by : (t : Bool) → (t || ended ls) ≡ true → (ended ls ≡ true → (body (ls ++ more) ≡ body ls) × (ended (ls ++ more) ≡ true) × (length (body ls) + 1 ≤ length ls))
        → (cond t [] (l ∷ body (ls ++ more)) ≡ cond t [] (l ∷ body ls)) × ((t || ended (ls ++ more)) ≡ true) × (length (cond t [] (l ∷ body ls)) + 1 ≤ length (l ∷ ls))
    by true e f = (refl, refl, omega arith)
    by false e f = let k = f e in let le = k.2 in (ap (λ xs. l ∷ xs) k.0, k.1, omega (arith, le))

items_skipped : (k : ℕ) (ls : List NumberedLine) → length ls ≤ k → items_of k ls ≡ []
items_skipped k [] le = refl
items_skipped zero (l ∷ ls) le = absurd (omega (arith, le))
items_skipped (suc k) (l ∷ ls) le = items_skipped k ls (omega (arith, le))

whole_skipped : (k : ℕ) (ls : List NumberedLine) → length ls ≤ k → whole_of k ls ≡ []
whole_skipped k [] le = refl
whole_skipped zero (l ∷ ls) le = absurd (omega (arith, le))
whole_skipped (suc k) (l ∷ ls) le = whole_skipped k ls (omega (arith, le))

-- ---- one line more

-- all but one that comes last
abbrev OneMore : List Told → List Told → Type 0
OneMore all ts = (t : Told) × (all ≡ ts ++ t ∷ [])

more_before : (us all ts : List Told) → OneMore all ts → OneMore (us ++ all) (us ++ ts)
more_before us all ts m = (m.0, ap (λ xs. us ++ xs) m.1 ∙ sym (append_assoc us ts (m.0 ∷ [])))

module _ (x : NumberedLine) (t : Told) (x_tells : told x.number (said x) [] ≡ t ∷ []) where
  one_tells : OneMore (told x.number (said x) [] ++ []) []
  one_tells = (t, append-nil (told x.number (said x) []) ∙ x_tells)

  -- a line that begins a script
  script_more : (n : ℕ) (s : Said) (ls : List NumberedLine) → ((k : ℕ) → k ≤ length ls → OneMore (items_of k (ls ++ x ∷ [])) (whole_of k ls)) → OneMore (told n s (ls ++ x ∷ []) ++ items_of (taken s (ls ++ x ∷ [])) (ls ++ x ∷ [])) (told_whole n s ls ++ whole_of (taken s ls) ls)
  script_more n (says.Script w brace stray) ls f = by (ended ls) refl
    where
      here : List Told
      here = told n (says.Script w brace stray) (ls ++ x ∷ []) ++ items_of (suc (length (body (ls ++ x ∷ [])))) (ls ++ x ∷ [])

      start : List NumberedLine → Bool → List Told
      start bd en = script n w brace stray (script_text bd) en ∷ items_of (suc (length bd)) (ls ++ x ∷ [])

      by : (e : Bool) → ended ls ≡ e → OneMore here (cond e (told n (says.Script w brace stray) ls) [] ++ whole_of (suc (length (body ls))) ls)
      by true e =
          let b = body_same ls (x ∷ []) e in
          let le = b.2 in
          let m = more_before (told n (says.Script w brace stray) ls) _ _ (f (suc (length (body ls))) (omega (arith, le))) in
          (m.0, same b.0 (b.1 ∙ sym e) ∙ m.1)
        where
          same : body (ls ++ x ∷ []) ≡ body ls → ended (ls ++ x ∷ []) ≡ ended ls → here ≡ told n (says.Script w brace stray) ls ++ items_of (suc (length (body ls))) (ls ++ x ∷ [])
          same p q = ap (λ bd. start bd (ended (ls ++ x ∷ []))) p ∙ ap (start (body ls)) q
      by false e =
          let long = body_long ls (x ∷ []) e in
          let all : length (ls ++ x ∷ []) ≡ length ls + 1 = length-append ls (x ∷ []) in
          let short = subst (λ (ys : List NumberedLine). length ls ≤ length (body ys)) (append-nil ls) (body_long ls [] e) in (
            script n w brace stray (script_text (body (ls ++ x ∷ []))) (ended (ls ++ x ∷ [])),
            ap (λ r. told n (says.Script w brace stray) (ls ++ x ∷ []) ++ r) (items_skipped (suc (length (body (ls ++ x ∷ [])))) (ls ++ x ∷ []) (omega (arith, long, all)))
                ∙ ap (λ (ws : List Told). ws ++ told n (says.Script w brace stray) (ls ++ x ∷ [])) (sym (whole_skipped (suc (length (body ls))) ls (omega (arith, short)))),
          )
  script_more n (says.Nothing) ls f = f 0 (omega arith)
  script_more n (says.Item i) ls f = more_before (told n (says.Item i) ls) (items_of 0 (ls ++ x ∷ [])) (whole_of 0 ls) (f 0 (omega arith))
  script_more n (says.Fault i) ls f = more_before (told n (says.Fault i) ls) (items_of 0 (ls ++ x ∷ [])) (whole_of 0 ls) (f 0 (omega arith))

  pub line_more : (k : ℕ) (ls : List NumberedLine) → k ≤ length ls → OneMore (items_of k (ls ++ x ∷ [])) (whole_of k ls)
  line_more zero [] le = one_tells
  line_more (suc k) [] le = absurd (omega (arith, le))
  line_more (suc k) (l ∷ ls) le = line_more k ls (omega (arith, le))
  line_more zero (l ∷ ls) le = script_more l.number (said l) ls (λ k e. line_more k ls e)

-- ---- the lines of bytes

some_lines : (n at b : ℕ) (bs : List ℕ) → (l : NumberedLine) × (ls : List NumberedLine) × (lines n at (b ∷ bs) ≡ l ∷ ls)
some_lines n at b bs = by (b == 10) (lines n (at + 1) bs)
  where
    by : (t : Bool) (more : List NumberedLine) → (l : NumberedLine) × (ls : List NumberedLine) × (cond t (line_at n at [] ∷ lines (n + 1) (at + 1) bs) (longer n at b more) ≡ l ∷ ls)
    by true more = (_, _, refl)
    by false [] = (_, _, refl)
    by false (l ∷ ls) = (_, _, refl)

longer_more : (n at b : ℕ) (l : NumberedLine) (ls all more : List NumberedLine) → all ≡ l ∷ ls → longer n at b (all ++ more) ≡ longer n at b all ++ more
longer_more n at b l ls all more e = subst (λ (ys : List NumberedLine). longer n at b (ys ++ more) ≡ longer n at b ys ++ more) (sym e) refl

none_whole : (bytes : List ℕ) → has_line bytes ≡ false → whole_lines bytes ≡ []
none_whole [] e = refl
none_whole (b ∷ bs) e = ap (λ t. cond t (b ∷ whole_lines bs) []) e

some_whole : (bytes : List ℕ) → has_line bytes ≡ true → (b : ℕ) × (bs : List ℕ) × (whole_lines bytes ≡ b ∷ bs)
some_whole [] e = absurd (cc e)
some_whole (b ∷ bs) e = (b, whole_lines bs, ap (λ t. cond t (b ∷ whole_lines bs) []) e)

pub line_last : (line : List ℕ) → has_line line ≡ false → has_line (line ++ 0 ∷ []) ≡ false
line_last line h = same line ∙ h
  where
    same : (xs : List ℕ) → has_line (xs ++ 0 ∷ []) ≡ has_line xs
    same [] = refl
    same (x ∷ xs) = ap (λ t. is_newline x || t) (same xs)

-- The lines of these bytes: the whole ones, and one that has no newline, with a zero byte at its end.
pub record Split (n at : ℕ) (bytes : List ℕ) : Type 0 where
  pub number : ℕ
  pub place : ℕ
  pub line : List ℕ
  pub lines_are : lines n at (bytes ++ 0 ∷ []) ≡ lines n at (whole_lines bytes) ++ line_at number place (line ++ 0 ∷ []) ∷ []

split_more : (n at b : ℕ) (bs : List ℕ) → has_line (b ∷ bs) ≡ true → Split (n + 1) (at + 1) bs → Split n (at + 1) bs → Split n at (b ∷ bs)
split_more n at b bs h next here = by (b == 10) refl
  where
    whole : whole_lines (b ∷ bs) ≡ b ∷ whole_lines bs
    whole = ap (λ t. cond t (b ∷ whole_lines bs) []) h

    begun : List ℕ → Bool → List NumberedLine
    begun xs t = cond t (line_at n at [] ∷ lines (n + 1) (at + 1) xs) (longer n at b (lines n (at + 1) xs))

    by : (t : Bool) → (b == 10) ≡ t → Split n at (b ∷ bs)
    by true e = record {
      number = next.number;
      place = next.place;
      line = next.line;
      lines_are = ap (begun (bs ++ 0 ∷ [])) e ∙ (ap (λ ls. line_at n at [] ∷ ls) next.lines_are
          ∙ ap (λ (ls : List NumberedLine). ls ++ line_at next.number next.place (next.line ++ 0 ∷ []) ∷ []) (sym (ap (lines n at) whole ∙ ap (begun (whole_lines bs)) e)));
    }
    by false e =
        let w = some_whole bs (sym (ap (λ t. t || has_line bs) e) ∙ h) in
        let l = some_lines n (at + 1) w.0 w.1 in
        let last = line_at here.number here.place (here.line ++ 0 ∷ []) ∷ [] in
        record {
          number = here.number;
          place = here.place;
          line = here.line;
          lines_are = ap (begun (bs ++ 0 ∷ [])) e ∙ (ap (longer n at b) here.lines_are
              ∙ (longer_more n at b l.0 l.1 (lines n (at + 1) (whole_lines bs)) last (ap (lines n (at + 1)) w.2 ∙ l.2)
              ∙ ap (λ (ls : List NumberedLine). ls ++ last) (sym (ap (lines n at) whole ∙ ap (begun (whole_lines bs)) e))));
        }

pub split : (n at : ℕ) (bytes : List ℕ) → Split n at bytes
split n at [] = record { number = n; place = at; line = []; lines_are = refl }
split n at (b ∷ bs) = by (has_line (b ∷ bs)) refl (split (n + 1) (at + 1) bs) (split n (at + 1) bs)
  where
    by : (t : Bool) → has_line (b ∷ bs) ≡ t → Split (n + 1) (at + 1) bs → Split n (at + 1) bs → Split n at (b ∷ bs)
    by true h next here = split_more n at b bs h next here
    by false h next here = record {
      number = n;
      place = at;
      line = b ∷ bs;
      lines_are = one_alone n at b (bs ++ 0 ∷ []) (line_last (b ∷ bs) h) ∙ ap (λ (xs : List ℕ). lines n at xs ++ line_at n at (b ∷ (bs ++ 0 ∷ [])) ∷ []) (sym (none_whole (b ∷ bs) h));
    }
