-- Items of a text that stands further on.
use Rattle.std.proofs.Common.{◌≡◌, ◌+◌, ℕ, zero, suc, true, false, Bool, not, cond, eqb, List, [], ◌∷◌, ◌++◌, length, map, take, drop, refl, ap, ◌∙◌, arith}
use Rattle.std.specs.Prelude.{Option, Some, None, Ok, Err, nat_lt, ◌==◌, ◌&&◌, ◌||◌, position}
use Rattle.std.specs.List.{find, list_any}
use Rattle.lr_rules.specs.Bytes.{is_no_blank}
use Rattle.lr_lex.specs.declared.word.Word.{Word}
use Rattle.lr_lex.specs.declared.sign.Sign.{Sign}
use Rattle.lr_lex.specs.declared.item.Item.TheVariants as item
use Rattle.lr_lex.specs.declared.item.LexKind.TheVariants as kind
use Rattle.lr_lex.specs.declared.said.Said.{Said}
use Rattle.lr_lex.specs.declared.said.Said.TheVariants as says
use Rattle.lr_lex.specs.declared.sign.Sign.TheVariants.{Blank}
use Rattle.lr_lex.specs.Signs.{line_signs}
use Rattle.lr_lex.specs.Words.{is_gap, goes_on, one, onto, words, parted, line_words, is_equals, closes, opens, before_open, is_brace}
use Rattle.lr_lex.specs.Lines.{NumberedLine, line_at, longer, lines}
use Rattle.lr_lex.specs.Items.{Told, said, items_of, items_from, body, ended, is_end, script_text, by_first, by_words, by_signs, by_sign, begins_script, is_name_sign, line_of_words, fault, is_text, told, taken, script}
use Rattle.lr_lex.specs.Moved.{moved_word, moved}

module _ (down by : ℕ) where
  -- ---- lines

  abbrev pub moved_line : NumberedLine → NumberedLine
  moved_line l = record { number = l.number + down; at = l.at + by; bytes = l.bytes }

  longer_moved : (n at b : ℕ) (ls : List NumberedLine) → longer (n + down) (at + by) b (map moved_line ls) ≡ map moved_line (longer n at b ls)
  longer_moved n at b [] = refl
  longer_moved n at b (l ∷ ls) = refl

  swap : (n d : ℕ) → n + d + 1 ≡ n + 1 + d
  swap n d = omega arith

  pub lines_moved : (n at : ℕ) (text : List ℕ) → lines (n + down) (at + by) text ≡ map moved_line (lines n at text)
  lines_moved n at [] = refl
  lines_moved n at (b ∷ bs) = by_test (eqb b 10) (lines_moved (n + 1) (at + 1) bs) (lines_moved n (at + 1) bs)
    where
      by_test : (t : Bool) → lines (n + 1 + down) (at + 1 + by) bs ≡ map moved_line (lines (n + 1) (at + 1) bs) → lines (n + down) (at + 1 + by) bs ≡ map moved_line (lines n (at + 1) bs)
          → cond t (line_at (n + down) (at + by) [] ∷ lines (n + down + 1) (at + by + 1) bs) (longer (n + down) (at + by) b (lines (n + down) (at + by + 1) bs))
          ≡ map moved_line (cond t (line_at n at [] ∷ lines (n + 1) (at + 1) bs) (longer n at b (lines n (at + 1) bs)))
      by_test true one other = ap (λ ls. line_at (n + down) (at + by) [] ∷ ls) (ap (λ m. lines m (at + by + 1) bs) (swap n down) ∙ (ap (λ a. lines (n + 1 + down) a bs) (swap at by) ∙ one))
      by_test false one other = ap (longer (n + down) (at + by) b) (ap (λ a. lines (n + down) a bs) (swap at by) ∙ other) ∙ longer_moved n at b (lines n (at + 1) bs)

  -- ---- words

  onto_moved : (w : Word) (vs : List Word) → onto (moved_word by w) (map (moved_word by) vs) ≡ map (moved_word by) (onto w vs)
  onto_moved w [] = refl
  onto_moved w (v ∷ vs) = refl

  words_moved : (at : ℕ) (ss : List Sign) → words (at + by) ss ≡ map (moved_word by) (words at ss)
  words_moved at [] = refl
  words_moved at (s ∷ ss) = by_gap (is_gap s) (ap (λ a. words a ss) (swap at by) ∙ words_moved (at + 1) ss)
    where
      by_word : (t : Bool) → words (at + by + 1) ss ≡ map (moved_word by) (words (at + 1) ss) → cond t (onto (one (at + by) s) (words (at + by + 1) ss)) (one (at + by) s ∷ words (at + by + 1) ss) ≡ map (moved_word by) (cond t (onto (one at s) (words (at + 1) ss)) (one at s ∷ words (at + 1) ss))
      by_word true rest = ap (onto (one (at + by) s)) rest ∙ onto_moved (one at s) (words (at + 1) ss)
      by_word false rest = ap (λ ws. one (at + by) s ∷ ws) rest

      by_gap : (t : Bool) → words (at + by + 1) ss ≡ map (moved_word by) (words (at + 1) ss)
          → cond t (words (at + by + 1) ss) (cond (goes_on ss) (onto (one (at + by) s) (words (at + by + 1) ss)) (one (at + by) s ∷ words (at + by + 1) ss))
          ≡ map (moved_word by) (cond t (words (at + 1) ss) (cond (goes_on ss) (onto (one at s) (words (at + 1) ss)) (one at s ∷ words (at + 1) ss)))
      by_gap true rest = rest
      by_gap false rest = by_word (goes_on ss) rest

  as_many : (ws : List Word) → length (map (moved_word by) ws) ≡ length ws
  as_many [] = refl
  as_many (w ∷ ws) = ap suc (as_many ws)

  parted_moved : (at : ℕ) (ss : List Sign) (p : Option ℕ) → parted (at + by) ss p ≡ parted at ss p
  parted_moved at ss None = refl
  parted_moved at ss (Some p) = ap (λ (n : ℕ). cond (eqb n 1) (take p ss ++ Blank ∷ drop (p + 1) ss) ss) (ap (λ (ws : List Word). length ws) (words_moved at (take p ss)) ∙ as_many (words at (take p ss)))

  line_words_moved : (names : Bool) (at : ℕ) (ss : List Sign) → line_words names (at + by) ss ≡ map (moved_word by) (line_words names at ss)
  line_words_moved true at ss = words_moved at ss
  line_words_moved false at ss = ap (λ xs. words (at + by) xs) (parted_moved at ss (position is_equals ss)) ∙ words_moved at (parted at ss (position is_equals ss))

  -- ---- what a line says

  abbrev pub moved_said : Said → Said
  moved_said says.Nothing = says.Nothing
  moved_said (says.Item (item.Line ws names brace stray line)) = says.Item (item.Line (map (moved_word by) ws) names brace stray (line + down))
  moved_said (says.Item (item.Close line)) = says.Item (item.Close (line + down))
  moved_said (says.Item (item.Script w text brace stray line)) = says.Item (item.Script (moved_word by w) text brace stray (line + down))
  moved_said (says.Fault f) = says.Fault (record { line = f.line + down; kind = f.kind })
  moved_said (says.Script w brace stray) = says.Script (moved_word by w) brace stray

  either : (t : Bool) (x y u v : Said) → x ≡ moved_said u → y ≡ moved_said v → cond t x y ≡ moved_said (cond t u v)
  either true x y u v p q = p
  either false x y u v p q = q

  first_moved : (n : ℕ) (names brace stray : Bool) (ws : List Word) (w : Word) (more : List Word) → ws ≡ w ∷ more → by_first (n + down) names brace stray (map (moved_word by) ws) (Some (moved_word by w)) ≡ moved_said (by_first n names brace stray ws (Some w))
  first_moved n names brace stray ws w more e =
      either (begins_script w.text && not names)
      (says.Script (moved_word by w) brace (nat_lt 1 (length (map (moved_word by) ws)))) (line_of_words (n + down) names brace stray (map (moved_word by) ws))
      (says.Script w brace (nat_lt 1 (length ws))) (line_of_words n names brace stray ws)
      (ap (λ m. says.Script (moved_word by w) brace (nat_lt 1 m)) (as_many ws)) refl

  by_words_moved : (n : ℕ) (names brace stray : Bool) (ws : List Word) → by_words (n + down) names brace stray (map (moved_word by) ws) ≡ moved_said (by_words n names brace stray ws)
  by_words_moved n names brace stray [] = refl
  by_words_moved n names brace stray (w ∷ ws) = first_moved n names brace stray (w ∷ ws) w ws refl

  signs_moved : (n at : ℕ) (names : Bool) (ss : Option (List Sign)) → by_signs (n + down) (at + by) names ss ≡ moved_said (by_signs n at names ss)
  signs_moved n at names None = refl
  signs_moved n at names (Some ss) =
      either (closes ss) (says.Item (item.Close (n + down))) (by_words (n + down) names (opens ss) (list_any is_brace (before_open ss)) (line_words names (at + by) (before_open ss)))
      (says.Item (item.Close n)) (by_words n names (opens ss) (list_any is_brace (before_open ss)) (line_words names at (before_open ss)))
      refl
      (ap (by_words (n + down) names (opens ss) (list_any is_brace (before_open ss))) (line_words_moved names at (before_open ss)) ∙ by_words_moved n names (opens ss) (list_any is_brace (before_open ss)) (line_words names at (before_open ss)))

  sign_moved : (l : NumberedLine) (b : Option ℕ) → by_sign (moved_line l) b ≡ moved_said (by_sign l b)
  sign_moved l None = refl
  sign_moved l (Some b) =
      either (b == 35) says.Nothing (by_signs (l.number + down) (l.at + by) (is_name_sign b) (line_signs (is_name_sign b) l.bytes))
      says.Nothing (by_signs l.number l.at (is_name_sign b) (line_signs (is_name_sign b) l.bytes))
      refl (signs_moved l.number l.at (is_name_sign b) (line_signs (is_name_sign b) l.bytes))

  pub said_moved : (l : NumberedLine) → said (moved_line l) ≡ moved_said (said l)
  unfolding said
  said_moved l =
      either (nat_lt 8192 (length l.bytes)) (fault (l.number + down) kind.LineTooLong) (cond (not (is_text l.bytes)) (fault (l.number + down) kind.NotUtf8) (by_sign (moved_line l) (find is_no_blank l.bytes)))
      (fault l.number kind.LineTooLong) (cond (not (is_text l.bytes)) (fault l.number kind.NotUtf8) (by_sign l (find is_no_blank l.bytes)))
      refl
      (either (not (is_text l.bytes)) (fault (l.number + down) kind.NotUtf8) (by_sign (moved_line l) (find is_no_blank l.bytes))
      (fault l.number kind.NotUtf8) (by_sign l (find is_no_blank l.bytes)) refl (sign_moved l (find is_no_blank l.bytes)))

  -- ---- scripts

  end_moved : (l : NumberedLine) → is_end (moved_line l) ≡ is_end l
  unfolding is_end
  end_moved l = refl

  body_moved : (ls : List NumberedLine) → body (map moved_line ls) ≡ map moved_line (body ls)
  body_moved [] = refl
  body_moved (l ∷ ls) = ap (λ t. cond t [] (moved_line l ∷ body (map moved_line ls))) (end_moved l) ∙ by_end (is_end l) (body_moved ls)
    where
      by_end : (t : Bool) → body (map moved_line ls) ≡ map moved_line (body ls) → cond t [] (moved_line l ∷ body (map moved_line ls)) ≡ map moved_line (cond t [] (l ∷ body ls))
      by_end true e = refl
      by_end false e = ap (λ xs. moved_line l ∷ xs) e

  ended_moved : (ls : List NumberedLine) → ended (map moved_line ls) ≡ ended ls
  ended_moved [] = refl
  ended_moved (l ∷ ls) = ap (λ t. t || ended (map moved_line ls)) (end_moved l) ∙ ap (λ t. is_end l || t) (ended_moved ls)

  text_moved : (ls : List NumberedLine) → script_text (map moved_line ls) ≡ script_text ls
  text_moved [] = refl
  text_moved (l ∷ ls) = ap (λ t. (l.bytes ++ 10 ∷ []) ++ t) (text_moved ls)

  lines_as_many : (ls : List NumberedLine) → length (map moved_line ls) ≡ length ls
  lines_as_many [] = refl
  lines_as_many (l ∷ ls) = ap suc (lines_as_many ls)

  told_either : (t : Bool) (x y u v : Told) → x ≡ moved down by u → y ≡ moved down by v → cond t x y ≡ moved down by (cond t u v)
  told_either true x y u v p q = p
  told_either false x y u v p q = q

  script_moved : (n : ℕ) (w : Word) (brace stray : Bool) (text : List ℕ) (end : Bool) → script (n + down) (moved_word by w) brace stray text end ≡ moved down by (script n w brace stray text end)
  script_moved n w brace stray text end =
      told_either (not (is_text text)) (Err (record { line = n + down; kind = kind.NotUtf8 })) (cond end (Ok (item.Script (moved_word by w) text brace stray (n + down))) (Err (record { line = n + down; kind = kind.NoEndscript })))
      (Err (record { line = n; kind = kind.NotUtf8 })) (cond end (Ok (item.Script w text brace stray n)) (Err (record { line = n; kind = kind.NoEndscript })))
      refl
      (told_either end (Ok (item.Script (moved_word by w) text brace stray (n + down))) (Err (record { line = n + down; kind = kind.NoEndscript })) (Ok (item.Script w text brace stray n)) (Err (record { line = n; kind = kind.NoEndscript })) refl refl)

  told_moved : (n : ℕ) (s : Said) (ls : List NumberedLine) → told (n + down) (moved_said s) (map moved_line ls) ≡ map (moved down by) (told n s ls)
  told_moved n says.Nothing ls = refl
  told_moved n (says.Item (item.Line ws names brace stray line)) ls = refl
  told_moved n (says.Item (item.Close line)) ls = refl
  told_moved n (says.Item (item.Script w text brace stray line)) ls = refl
  told_moved n (says.Fault f) ls = refl
  told_moved n (says.Script w brace stray) ls =
      ap (λ t. script (n + down) (moved_word by w) brace stray t (ended (map moved_line ls)) ∷ []) (ap (λ (xs : List NumberedLine). script_text xs) (body_moved ls) ∙ text_moved (body ls))
      ∙ (ap (λ t. script (n + down) (moved_word by w) brace stray (script_text (body ls)) t ∷ []) (ended_moved ls)
      ∙ ap (λ t. t ∷ []) (script_moved n w brace stray (script_text (body ls)) (ended ls)))

  taken_moved : (s : Said) (ls : List NumberedLine) → taken (moved_said s) (map moved_line ls) ≡ taken s ls
  taken_moved says.Nothing ls = refl
  taken_moved (says.Item (item.Line ws names brace stray line)) ls = refl
  taken_moved (says.Item (item.Close line)) ls = refl
  taken_moved (says.Item (item.Script w text brace stray line)) ls = refl
  taken_moved (says.Fault f) ls = refl
  taken_moved (says.Script w brace stray) ls = ap suc (ap (λ (xs : List NumberedLine). length xs) (body_moved ls) ∙ lines_as_many (body ls))

  -- ---- items

  map_both : (xs ys : List Told) → map (moved down by) xs ++ map (moved down by) ys ≡ map (moved down by) (xs ++ ys)
  map_both [] ys = refl
  map_both (x ∷ xs) ys = ap (λ zs. moved down by x ∷ zs) (map_both xs ys)

  items_of_moved : (skipped : ℕ) (ls : List NumberedLine) → items_of skipped (map moved_line ls) ≡ map (moved down by) (items_of skipped ls)
  items_of_moved skipped [] = refl
  items_of_moved (suc skipped) (l ∷ ls) = items_of_moved skipped ls
  items_of_moved zero (l ∷ ls) =
      ap (λ s. told (l.number + down) s (map moved_line ls) ++ items_of (taken s (map moved_line ls)) (map moved_line ls)) (said_moved l)
      ∙ (ap (λ ts. ts ++ items_of (taken (moved_said (said l)) (map moved_line ls)) (map moved_line ls)) (told_moved l.number (said l) ls)
      ∙ (ap (λ k. map (moved down by) (told l.number (said l) ls) ++ items_of k (map moved_line ls)) (taken_moved (said l) ls)
      ∙ (ap (λ ts. map (moved down by) (told l.number (said l) ls) ++ ts) (items_of_moved (taken (said l) ls) ls)
      ∙ map_both (told l.number (said l) ls) (items_of (taken (said l) ls) ls))))

  pub items_moved : (n at : ℕ) (text : List ℕ) → items_from (n + down) (at + by) text ≡ map (moved down by) (items_from n at text)
  items_moved n at text = ap (items_of 0) (lines_moved n at text) ∙ items_of_moved 0 (lines n at text)
