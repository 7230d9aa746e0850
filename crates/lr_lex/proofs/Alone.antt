-- What bytes tell whose last line lacks its newline.
use Rattle.std.proofs.Common.{◌≡◌, ◌+◌, ◌≤◌, ℕ, suc, true, false, Bool, not, cond, eqb, true≢false, List, [], ◌∷◌, ◌++◌, length, refl, sym, ap, ◌∙◌, arith}
use Rattle.std.specs.Prelude.{Option, Some, None, Ok, Err, ◌||◌, ◌&&◌, ◌==◌, nat_lt, slice_get, find}
use Rattle.std.specs.List.{list_any}
use Rattle.std.proofs.lemmas.List.{append-nil}
use Rattle.std.proofs.lemmas.Str.{IsUtf8-nil, is_utf8-from_IsUtf8}
use Rattle.lr_rules.specs.Bytes.{is_no_blank}
use Rattle.lr_lex.specs.declared.word.Word.{Word}
use Rattle.lr_lex.specs.declared.sign.Sign.{Sign}
use Rattle.lr_lex.specs.declared.item.Item.TheVariants as item
use Rattle.lr_lex.specs.declared.item.LexFault.{LexFault}
use Rattle.lr_lex.specs.declared.item.LexKind.TheVariants as kind
use Rattle.lr_lex.specs.declared.said.Said.{Said}
use Rattle.lr_lex.specs.declared.said.Said.TheVariants as says
use Rattle.lr_lex.specs.Signs.{line_signs}
use Rattle.lr_lex.specs.Words.{closes, opens, before_open, is_brace, line_words}
use Rattle.lr_lex.specs.Lines.{NumberedLine, line_at, lines, line_of, after_line}
use Rattle.lr_lex.specs.Pieces.{has_line}
use Rattle.lr_lex.specs.Items.{Told, said, items_of, items_from, body, ended, is_end, script_text, told, taken, script, is_text, by_first, by_words, by_signs, by_sign, begins_script, is_name_sign, line_of_words, fault}
use Rattle.lr_lex.proofs.First.{lines-are}
use Rattle.lr_lex.specs.Whole.{IsPlainSaid, IsScriptBegun}

line_whole : (x : List ℕ) → has_line x ≡ false → line_of x ≡ x
unfolding line_of
line_whole [] h = refl
line_whole (b ∷ x) h = by b x (eqb b 10) h (λ k. line_whole x k)
  where
    by : (b : ℕ) (x : List ℕ) (t : Bool) → (t || has_line x) ≡ false → (has_line x ≡ false → line_of x ≡ x) → cond t [] (b ∷ line_of x) ≡ b ∷ x
    by b x true h rest = absurd (true≢false h)
    by b x false h rest = ap (λ l. b ∷ l) (rest h)

none_behind : (x : List ℕ) → has_line x ≡ false → after_line x ≡ []
unfolding after_line
none_behind [] h = refl
none_behind (b ∷ x) h = by (eqb b 10) h (λ k. none_behind x k)
  where
    by : (t : Bool) → (t || has_line x) ≡ false → (has_line x ≡ false → after_line x ≡ []) → cond t x (after_line x) ≡ []
    by true h rest = absurd (true≢false h)
    by false h rest = rest h

-- bytes without a newline are one line
pub one_alone : (n at b : ℕ) (x : List ℕ) → has_line (b ∷ x) ≡ false → lines n at (b ∷ x) ≡ line_at n at (b ∷ x) ∷ []
one_alone n at b x h =
    lines-are n at (b ∷ x) (omega arith)
    ∙ (ap (λ l. line_at n at l ∷ lines (n + 1) (at + length l + 1) (after_line (b ∷ x))) (line_whole (b ∷ x) h)
    ∙ ap (λ r. line_at n at (b ∷ x) ∷ lines (n + 1) (at + length (b ∷ x) + 1) r) (none_behind (b ∷ x) h))

-- an empty line says nothing
empty_text : is_text [] ≡ true
unfolding is_text
empty_text = ap (λ b. b && true) (is_utf8-from_IsUtf8 [] IsUtf8-nil)

empty_says : (n at : ℕ) → said (line_at n at []) ≡ says.Nothing
unfolding said
empty_says n at = ap (λ b. cond (not b) (fault n kind.NotUtf8) says.Nothing) empty_text

-- a line alone tells what it says
pub alone_tells : (n at : ℕ) (x : List ℕ) → has_line x ≡ false → items_from n at x ≡ told n (said (line_at n at x)) []
alone_tells n at [] h = sym (ap (λ s. told n s []) (empty_says n at))
alone_tells n at (b ∷ x) h = ap (λ ls. items_of 0 ls) (one_alone n at b x h) ∙ nothing (said (line_at n at (b ∷ x)))
  where
    nothing : (s : Said) → told n s [] ++ items_of (taken s []) [] ≡ told n s []
    nothing s = append-nil (told n s [])

-- ---- no line says that a script doesn't end

abbrev SaysNoEnd : Said → Type 0
SaysNoEnd (says.Fault f) = f.kind ≡ kind.NoEndscript → ⊥
SaysNoEnd other = Unit {0}

either : (P : Said → Type 0) (b : Bool) (x y : Said) → P x → P y → P (cond b x y)
either P true x y h k = h
either P false x y h k = k

-- what holds of each kind of answer holds of what a line says
module _ (P : ℕ → Said → Type 0) (nothing : (n : ℕ) → P n says.Nothing) (long : (n : ℕ) → P n (fault n kind.LineTooLong)) (no_text : (n : ℕ) → P n (fault n kind.NotUtf8)) (quote : (n : ℕ) → P n (fault n kind.OpenQuote))
    (close : (n : ℕ) → P n (says.Item (item.Close n))) (line : (n : ℕ) (ws : List Word) (names brace stray : Bool) → P n (line_of_words n names brace stray ws)) (script_word : (n : ℕ) (w : Word) (brace stray : Bool) → P n (says.Script w brace stray))
  where
    words_so : (n : ℕ) (names brace stray : Bool) (ws : List Word) (w : Option Word) → P n (by_first n names brace stray ws w)
    words_so n names brace stray ws None = line n ws names brace stray
    words_so n names brace stray ws (Some w) = either (P n) (begins_script w.text && not names) (says.Script w brace (nat_lt 1 (length ws))) (line_of_words n names brace stray ws) (script_word n w brace (nat_lt 1 (length ws))) (line n ws names brace stray)

    signs_so : (n at : ℕ) (names : Bool) (ss : Option (List Sign)) → P n (by_signs n at names ss)
    signs_so n at names None = quote n
    signs_so n at names (Some ss) =
        let ws = line_words names at (before_open ss) in
        either (P n) (closes ss) (says.Item (item.Close n)) (by_words n names (opens ss) (list_any is_brace (before_open ss)) ws)
        (close n) (words_so n names (opens ss) (list_any is_brace (before_open ss)) ws (slice_get ws 0))

    sign_so : (l : NumberedLine) (b : Option ℕ) → P l.number (by_sign l b)
    sign_so l None = nothing l.number
    sign_so l (Some b) = either (P l.number) (b == 35) says.Nothing (by_signs l.number l.at (is_name_sign b) (line_signs (is_name_sign b) l.bytes)) (nothing l.number) (signs_so l.number l.at (is_name_sign b) (line_signs (is_name_sign b) l.bytes))

    said_so : (l : NumberedLine) → P l.number (said l)
    unfolding said
    said_so l =
        either (P l.number) (nat_lt 8192 (length l.bytes)) (fault l.number kind.LineTooLong) (cond (not (is_text l.bytes)) (fault l.number kind.NotUtf8) (by_sign l (find is_no_blank l.bytes))) (long l.number)
        (either (P l.number) (not (is_text l.bytes)) (fault l.number kind.NotUtf8) (by_sign l (find is_no_blank l.bytes)) (no_text l.number) (sign_so l (find is_no_blank l.bytes)))

ends_said : (l : NumberedLine) → SaysNoEnd (said l)
ends_said l = said_so (λ n s. SaysNoEnd s) (λ n. tt) (λ n e. cc) (λ n e. cc) (λ n e. cc) (λ n. tt) (λ n ws names brace stray. tt) (λ n w brace stray. tt) l

-- the line of what is told
abbrev pub line_told : Told → ℕ
line_told (Ok (item.Line ws names brace stray number)) = number
line_told (Ok (item.Close number)) = number
line_told (Ok (item.Script w text brace stray number)) = number
line_told (Err f) = f.line

abbrev pub SaysAt : ℕ → Said → Type 0
SaysAt n (says.Item i) = line_told (Ok i) ≡ n
SaysAt n (says.Fault f) = f.line ≡ n
SaysAt n other = Unit {0}

pub at_said : (l : NumberedLine) → SaysAt l.number (said l)
at_said l = said_so SaysAt (λ n. tt) (λ n. refl) (λ n. refl) (λ n. refl) (λ n. refl) (λ n ws names brace stray. refl) (λ n w brace stray. tt) l

-- ---- one line

-- What the first that a line tells shows: it is all that the line tells; or a script begins behind it.
pub data Shows (n : ℕ) (s : Said) (t : Told) : Type 0 where
  plain : IsPlainSaid s → told n s [] ≡ t ∷ [] → Shows n s t
  begins : (w : Word) (brace stray : Bool) → s ≡ says.Script w brace stray → t ≡ Err (record { line = n; kind = kind.NoEndscript }) → Shows n s t

no_script : (n : ℕ) (w : Word) (brace stray : Bool) → script n w brace stray [] false ≡ Err (record { line = n; kind = kind.NoEndscript })
no_script n w brace stray = ap (λ b. cond (not b) (Err (record { line = n; kind = kind.NotUtf8 })) (Err (record { line = n; kind = kind.NoEndscript }))) empty_text

pub shows : (n : ℕ) (s : Said) (t : Told) (us : List Told) → told n s [] ≡ t ∷ us → Shows n s t
shows n says.Nothing t us e = absurd (cc e)
shows n (says.Item i) t us e = let h : Ok i ≡ t = cc e in plain tt (ap (λ x. x ∷ []) h)
shows n (says.Fault f) t us e = let h : Err f ≡ t = cc e in plain tt (ap (λ x. x ∷ []) h)
shows n (says.Script w brace stray) t us e = let h : script n w brace stray [] false ≡ t = cc e in begins w brace stray refl (sym h ∙ no_script n w brace stray)

-- a line that tells nothing begins no script
pub silent : (n : ℕ) (s : Said) → told n s [] ≡ [] → IsPlainSaid s
silent n says.Nothing e = tt
silent n (says.Item i) e = tt
silent n (says.Fault f) e = tt
silent n (says.Script w brace stray) e = absurd (cc e)

-- one that tells that a script doesn't end begins one
pub begun_by : (l : NumberedLine) (t : Told) (f : LexFault) (us : List Told) → told l.number (said l) [] ≡ t ∷ us → t ≡ Err f → f.kind ≡ kind.NoEndscript → (w : Word) × (brace : Bool) × (stray : Bool) × (said l ≡ says.Script w brace stray)
begun_by l t f us e is k = by (said l) refl (ends_said l) e
  where
    by : (s : Said) → said l ≡ s → SaysNoEnd s → told l.number s [] ≡ t ∷ us → (w : Word) × (brace : Bool) × (stray : Bool) × (said l ≡ says.Script w brace stray)
    by says.Nothing q n e = absurd (cc e)
    by (says.Item i) q n e = absurd (let h : Ok i ≡ Err f = (let g : Ok i ≡ t = cc e in g ∙ is) in cc)
    by (says.Fault g) q n e = absurd (n (let h : Err g ≡ Err f = (let r : Err g ≡ t = cc e in r ∙ is) in let r : g ≡ f = cc h in ap (λ (x : LexFault). x.kind) r ∙ k))
    by (says.Script w brace stray) q n e = (w, brace, stray, q)

-- ---- a script

-- of a script's lines, of which at most the last ends it, none is left behind it
none_left : (others tail : List NumberedLine) → list_any is_end others ≡ false → length tail ≤ 1 → items_of (suc (length (body (others ++ tail)))) (others ++ tail) ≡ []
none_left [] [] h le = refl
none_left [] (e ∷ []) h le = by (is_end e)
  where
    by : (t : Bool) → items_of (length (cond t [] (e ∷ []))) [] ≡ []
    by true = refl
    by false = refl
none_left [] (e ∷ f ∷ tail) h le = absurd (omega arith)
none_left (l ∷ others) tail h le = by (is_end l) h (λ k. none_left others tail k le)
  where
    by : (t : Bool) → (t || list_any is_end others) ≡ false → (list_any is_end others ≡ false → items_of (suc (length (body (others ++ tail)))) (others ++ tail) ≡ []) → items_of (length (cond t [] (l ∷ body (others ++ tail)))) (others ++ tail) ≡ []
    by true h rest = absurd (true≢false h)
    by false h rest = rest h

few_alone : (n at : ℕ) (x : List ℕ) → has_line x ≡ false → length (lines n at x) ≤ 1
few_alone n at [] h = omega arith
few_alone n at (b ∷ x) h = let e = ap (λ (ls : List NumberedLine). length ls) (one_alone n at b x h) in omega (arith, e)

-- what a script that has begun tells with a line behind it, whether that ends it or not
abbrev pub script_alone : (n at : ℕ) (p : List ℕ) (count : ℕ) (x : List ℕ) → IsScriptBegun n at p count → Told
script_alone n at p count x b =
    let ls = b.others ++ lines (n + length (b.first ∷ b.others)) (at + length p) x in
    script b.first.number b.word b.brace b.stray (script_text (body ls)) (ended ls)

pub script_once : (n at : ℕ) (p : List ℕ) (count : ℕ) (x : List ℕ) (b : IsScriptBegun n at p count) → has_line x ≡ false → items_from n at (p ++ x) ≡ script_alone n at p count x b ∷ []
script_once n at p count x b h =
    ap (λ ls. items_of 0 ls) (b.lines_are x)
    ∙ (ap (λ s. told b.first.number s rest ++ items_of (taken s rest) rest) b.begins
    ∙ ap (λ ts. script_alone n at p count x b ∷ ts) (none_left b.others (lines (n + length (b.first ∷ b.others)) (at + length p) x) b.unended (few_alone (n + length (b.first ∷ b.others)) (at + length p) x h)))
  where
    rest : List NumberedLine
    rest = b.others ++ lines (n + length (b.first ∷ b.others)) (at + length p) x

-- the line of a script's fault or item is that of its word
pub script_line : (n : ℕ) (w : Word) (brace stray : Bool) (text : List ℕ) (end : Bool) → line_told (script n w brace stray text end) ≡ n
script_line n w brace stray text end = by (is_text text) end
  where
    by : (t e : Bool) → line_told (cond (not t) (Err (record { line = n; kind = kind.NotUtf8 })) (cond e (Ok (item.Script w text brace stray n)) (Err (record { line = n; kind = kind.NoEndscript })))) ≡ n
    by true true = refl
    by true false = refl
    by false e = refl
