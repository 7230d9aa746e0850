-- The first line of a text, and the others.
use Rattle.std.proofs.Common.{◌≡◌, ◌+◌, ◌<◌, ◌≤◌, ℕ, zero, suc, true, false, Bool, not, cond, eqb, List, [], ◌∷◌, ◌++◌, length, refl, sym, ap, subst, ◌∙◌, arith}
use Rattle.std.specs.Prelude.{Option, Result, ◌||◌, Some, None, slice_get, nat_lt, ◌==◌, ◌&&◌, Ok, Err, IfOk}
use Rattle.std.specs.List.{find, list_any}
use Rattle.std.proofs.lemmas.List.{nil_from_length}
use Rattle.lr_rules.specs.Bytes.{is_no_blank}
use Rattle.lr_lex.specs.declared.word.Word.{Word}
use Rattle.lr_lex.specs.declared.sign.Sign.{Sign}
use Rattle.lr_lex.specs.declared.item.Item.TheVariants as item
use Rattle.lr_lex.specs.declared.item.LexFault.{LexFault}
use Rattle.lr_lex.specs.declared.item.LexKind.{LexKind}
use Rattle.lr_lex.specs.declared.item.LexKind.TheVariants as kind
use Rattle.lr_lex.specs.declared.said.Said.{Said}
use Rattle.lr_lex.specs.declared.said.Said.TheVariants as says
use Rattle.lr_lex.specs.declared.place.Place.{Place}
use Rattle.lr_lex.specs.Signs.{line_signs, signs, left_open}
use Rattle.lr_lex.specs.Words.{closes, opens, before_open, is_brace, line_words}
use Rattle.lr_lex.specs.Lines.{NumberedLine, line_at, lines, longer, line_of, after_line}
use Rattle.lr_lex.specs.Items.{Told, said, items_of, body, ended, behind_script, is_end, script_text, by_first, by_words, by_signs, by_sign, begins_script, is_name_sign, line_of_words, fault, is_text, told, taken, script, answer}
use Rattle.lr_lex.specs.declared.lexer.Lexer.{Lexer}
use Rattle.lr_lex.specs.Lexing.{coming, coming_from, ByKind, LexerGives}
use Rattle.lr_lex.specs.Scanning.{LinePasses, lines_from, IsScript}

-- ---- sizes

sum-size : (bs : List ℕ) → length (line_of bs) + length (after_line bs) ≤ length bs
unfolding line_of after_line
sum-size [] = omega arith
sum-size (b ∷ bs) = by_test (eqb b 10) (sum-size bs)
  where
    by_test : (t : Bool) → length (line_of bs) + length (after_line bs) ≤ length bs
        → length (cond t [] (b ∷ line_of bs)) + length (cond t bs (after_line bs)) ≤ length (b ∷ bs)
    by_test true h = omega arith
    by_test false h = omega arith

rest-size : (bs : List ℕ) → 0 < length bs → length (after_line bs) < length bs
unfolding after_line
rest-size [] h = absurd (omega arith)
rest-size (b ∷ bs) h = by_test (eqb b 10) (sum-size bs)
  where
    by_test : (t : Bool) → length (line_of bs) + length (after_line bs) ≤ length bs → length (cond t bs (after_line bs)) < length (b ∷ bs)
    by_test true h = omega arith
    by_test false h = omega arith

pub record Sizes (bs : List ℕ) (line : List ℕ) (rest : List ℕ) : Type 0 where
  pub sum : length line + length rest ≤ length bs
  pub less : length rest < length bs

pub sizes : (bs line rest : List ℕ) → 0 < length bs → line ≡ line_of bs → rest ≡ after_line bs → Sizes bs line rest
sizes bs line rest h le re = rw (le, re) record { sum = sum-size bs; less = rest-size bs h }

-- ---- lines

-- the lines of a text: the first, and those behind it
pub lines-are : (n at : ℕ) (bs : List ℕ) → 0 < length bs → lines n at bs ≡ line_at n at (line_of bs) ∷ lines (n + 1) (at + length (line_of bs) + 1) (after_line bs)
unfolding line_of after_line
lines-are n at [] h = absurd (omega arith)
lines-are n at (b ∷ []) h = by_test (eqb b 10)
  where
    by_test : (t : Bool) → cond t (line_at n at [] ∷ []) (line_at n at (b ∷ []) ∷ [])
        ≡ line_at n at (cond t [] (b ∷ [])) ∷ lines (n + 1) (at + length (cond t [] (b ∷ [])) + 1) (cond t [] [])
    by_test true = refl
    by_test false = refl
lines-are n at (b ∷ c ∷ bs) h = by_test (eqb b 10) (lines-are n (at + 1) (c ∷ bs) (omega arith))
  where
    by_test : (t : Bool) → lines n (at + 1) (c ∷ bs) ≡ line_at n (at + 1) (line_of (c ∷ bs)) ∷ lines (n + 1) (at + 1 + length (line_of (c ∷ bs)) + 1) (after_line (c ∷ bs))
        → cond t (line_at n at [] ∷ lines (n + 1) (at + 1) (c ∷ bs)) (longer n at b (lines n (at + 1) (c ∷ bs)))
        ≡ line_at n at (cond t [] (b ∷ line_of (c ∷ bs))) ∷ lines (n + 1) (at + length (cond t [] (b ∷ line_of (c ∷ bs))) + 1) (cond t (c ∷ bs) (after_line (c ∷ bs)))
    by_test true e = let f : at + 1 ≡ at + 0 + 1 = omega arith in ap (λ p. line_at n at [] ∷ lines (n + 1) p (c ∷ bs)) f
    by_test false e =
        let f : at + 1 + length (line_of (c ∷ bs)) + 1 ≡ at + length (b ∷ line_of (c ∷ bs)) + 1 = omega arith in
        ap (longer n at b) e ∙ ap (λ p. line_at n at (b ∷ line_of (c ∷ bs)) ∷ lines (n + 1) p (after_line (c ∷ bs))) f

pub nonempty : (n : ℕ) → false ≡ eqb n 0 → 0 < n
nonempty zero e = absurd (cc)
nonempty (suc n) e = omega arith

-- ---- a lexer

pub passes : (old new : Place) (bytes : List ℕ) → 0 < length old.rest.now → LinePasses old new → bytes ≡ line_of old.rest.now → lines_from old ≡ line_at old.line old.at bytes ∷ lines_from new
passes old new bytes h p be =
    lines-are old.line old.at old.rest.now h
    ∙ ap (λ x. line_at old.line old.at x ∷ lines (old.line + 1) (old.at + length (line_of old.rest.now) + 1) (after_line old.rest.now)) (sym be)
    ∙ ap (λ n. line_at old.line old.at bytes ∷ lines n (old.at + length (line_of old.rest.now) + 1) (after_line old.rest.now)) (sym p.line)
    ∙ ap (λ a. line_at old.line old.at bytes ∷ lines new.line a (after_line old.rest.now)) (sym p.at)
    ∙ ap (λ r. line_at old.line old.at bytes ∷ lines new.line new.at r) (sym p.rest)

pub empty-lines : (l : Place) → length l.rest.now ≡ 0 → lines_from l ≡ []
empty-lines l e = ap (λ r. lines l.line l.at r) (nil_from_length l.rest.now e)

-- a script's lines are passed over
pub skipped : (ls : List NumberedLine) → items_of (suc (length (body ls))) ls ≡ items_of 0 (behind_script ls)
skipped [] = refl
skipped (l ∷ ls) = by_test (is_end l) (skipped ls)
  where
    by_test : (t : Bool) → items_of (suc (length (body ls))) ls ≡ items_of 0 (behind_script ls)
        → items_of (length (cond t [] (l ∷ body ls))) ls ≡ items_of 0 (cond t ls (behind_script ls))
    by_test true h = refl
    by_test false h = h

-- no line says want of memory
abbrev NoMemory : Said → Type 0
NoMemory (says.Fault f) = f.kind ≡ kind.Memory → ⊥
NoMemory other = Unit {0}

either : (b : Bool) (x y : Said) → NoMemory x → NoMemory y → NoMemory (cond b x y)
either true x y h k = h
either false x y h k = k

words-fine : (n : ℕ) (names brace stray : Bool) (ws : List Word) (w : Option Word) → NoMemory (by_first n names brace stray ws w)
words-fine n names brace stray ws None = tt
words-fine n names brace stray ws (Some w) =
    either (begins_script w.text && not names) (says.Script w brace (nat_lt 1 (length ws))) (line_of_words n names brace stray ws) tt tt

signs-fine : (n at : ℕ) (names : Bool) (ss : Option (List Sign)) → NoMemory (by_signs n at names ss)
signs-fine n at names None = λ e. cc
signs-fine n at names (Some ss) =
    let ws = line_words names at (before_open ss) in
    either (closes ss) (says.Item (item.Close n)) (by_words n names (opens ss) (list_any is_brace (before_open ss)) ws)
    tt (words-fine n names (opens ss) (list_any is_brace (before_open ss)) ws (slice_get ws 0))

sign-fine : (l : NumberedLine) (b : Option ℕ) → NoMemory (by_sign l b)
sign-fine l None = tt
sign-fine l (Some b) =
    either (b == 35) says.Nothing (by_signs l.number l.at (is_name_sign b) (line_signs (is_name_sign b) l.bytes))
    tt (signs-fine l.number l.at (is_name_sign b) (line_signs (is_name_sign b) l.bytes))

pub said-fine : (l : NumberedLine) → NoMemory (said l)
unfolding said
said-fine l =
    either (nat_lt 8192 (length l.bytes)) (fault l.number kind.LineTooLong) _ (λ e. cc)
    (either (not (is_text l.bytes)) (fault l.number kind.NotUtf8) (by_sign l (find is_no_blank l.bytes)) (λ e. cc) (sign-fine l (find is_no_blank l.bytes)))

-- ---- a script's lines

pub script-ends : (here new : Place) (l : NumberedLine) → lines_from here ≡ l ∷ lines_from new → is_end l ≡ true
    → (script_text (body (lines_from here)) ≡ []) × (ended (lines_from here) ≡ true) × (behind_script (lines_from here) ≡ lines_from new)
script-ends here new l e end = (
  ap (λ ls. script_text (body ls)) e ∙ ap (λ t. script_text (cond t [] (l ∷ body (lines_from new)))) end,
  ap (λ ls. ended ls) e ∙ ap (λ t. t || ended (lines_from new)) end,
  ap (λ ls. behind_script ls) e ∙ ap (λ t. cond t (lines_from new) (behind_script (lines_from new))) end,
)

pub script-goes : (here new : Place) (l : NumberedLine) → lines_from here ≡ l ∷ lines_from new → is_end l ≡ false
    → (script_text (body (lines_from here)) ≡ (l.bytes ++ 10 ∷ []) ++ script_text (body (lines_from new))) × (ended (lines_from here) ≡ ended (lines_from new)) × (behind_script (lines_from here) ≡ behind_script (lines_from new))
script-goes here new l e end = (
  ap (λ ls. script_text (body ls)) e ∙ ap (λ t. script_text (cond t [] (l ∷ body (lines_from new)))) end,
  ap (λ ls. ended ls) e ∙ ap (λ t. t || ended (lines_from new)) end,
  ap (λ ls. behind_script ls) e ∙ ap (λ t. cond t (lines_from new) (behind_script (lines_from new))) end,
)

-- ---- what comes

pub step : (old new : Place) (l : NumberedLine) (s : Said) → lines_from old ≡ l ∷ lines_from new → s ≡ said l
    → coming_from old ≡ told l.number s (lines_from new) ++ items_of (taken s (lines_from new)) (lines_from new)
step old new l s e f =
    ap (items_of 0) e ∙ ap (λ x. told l.number x (lines_from new) ++ items_of (taken x (lines_from new)) (lines_from new)) (sym f)

-- where it doesn't end, a script's text counts by its test alone
same-script : (n : ℕ) (w : Word) (brace stray : Bool) (bytes text : List ℕ) (end : Bool) → (end ≡ true → bytes ≡ text) → is_text bytes ≡ is_text text → script n w brace stray bytes end ≡ script n w brace stray text end
same-script n w brace stray bytes text true reads test = ap (λ l. script n w brace stray l true) (reads refl)
same-script n w brace stray bytes text false reads test =
    ap (λ b. cond (not b) (Err (record { line = n; kind = kind.NotUtf8 })) (Err (record { line = n; kind = kind.NoEndscript }))) test

pub at_script : (old new behind : Place) (l : NumberedLine) (w : Word) (brace stray end : Bool) (bytes : List ℕ) → lines_from old ≡ l ∷ lines_from new → says.Script w brace stray ≡ said l → IsScript new bytes end behind
    → coming_from old ≡ script l.number w brace stray bytes end ∷ coming_from behind
at_script old new behind l w brace stray end bytes e f s =
    let text = script_text (body (lines_from new)) in
    step old new l (says.Script w brace stray) e f
    ∙ ap (λ x. script l.number w brace stray text (ended (lines_from new)) ∷ x) (skipped (lines_from new) ∙ ap (items_of 0) (sym s.behind))
    ∙ ap (λ x. script l.number w brace stray text x ∷ coming_from behind) (sym s.closes)
    ∙ ap (λ x. x ∷ coming_from behind) (sym (same-script l.number w brace stray bytes text end s.reads s.same_test))

fine-by : (k : LexKind) (P Q : Type 0) → (k ≡ kind.Memory → ⊥) → Q → ByKind k P Q
fine-by kind.Memory P Q other q = absurd (other refl)
fine-by kind.LineTooLong P Q other q = q
fine-by kind.NotUtf8 P Q other q = q
fine-by kind.OpenQuote P Q other q = q
fine-by kind.NoEndscript P Q other q = q

pub at_fault : (old new : Place) (l : NumberedLine) (f : LexFault) (P : Type 0) → lines_from old ≡ l ∷ lines_from new → says.Fault f ≡ said l → ByKind f.kind P (coming_from old ≡ Err f ∷ coming_from new)
at_fault old new l f P e is =
    let fine : NoMemory (says.Fault f) = subst NoMemory (sym is) (said-fine l) in
    fine-by f.kind P (coming_from old ≡ Err f ∷ coming_from new) fine (step old new l (says.Fault f) e is)

-- a script's fault isn't want of memory
abbrev pub ToldFine : Told → Type 0
ToldFine (Ok i) = Unit {0}
ToldFine (Err f) = f.kind ≡ kind.Memory → ⊥

told-either : (b : Bool) (x y : Told) → ToldFine x → ToldFine y → ToldFine (cond b x y)
told-either true x y h k = h
told-either false x y h k = k

pub script-fine : (n : ℕ) (w : Word) (brace stray : Bool) (text : List ℕ) (end : Bool) → ToldFine (script n w brace stray text end)
script-fine n w brace stray text end =
    told-either (not (is_text text)) (Err (record { line = n; kind = kind.NotUtf8 })) (cond end (Ok (item.Script w text brace stray n)) (Err (record { line = n; kind = kind.NoEndscript }))) (λ e. cc)
    (told-either end (Ok (item.Script w text brace stray n)) (Err (record { line = n; kind = kind.NoEndscript })) tt (λ e. cc))

-- an answer that is the next told
pub gives : (old new : Lexer) (t : Told) → ToldFine t → coming old ≡ t ∷ coming new → LexerGives old new (answer t)
gives old new (Ok i) fine e = e
gives old new (Err f) fine e = fine-by f.kind (coming new ≡ coming old) (coming old ≡ Err f ∷ coming new) fine e

-- ---- what a line says

some_of : {A : Type 0} (b : Bool) (x y : A) → cond b (Some x) None ≡ Some y → x ≡ y
some_of true x y e = cc
some_of false x y e = absurd (cc)

pub signs-are : (names : Bool) (bytes : List ℕ) (ss : List Sign) → line_signs names bytes ≡ Some ss → signs names 0 bytes ≡ ss
signs-are names bytes ss e = some_of (eqb (left_open 0 bytes) 0) (signs names 0 bytes) ss e

pub said-signs : (l : NumberedLine) (b : ℕ) (ss : List Sign) → nat_lt 8192 (length l.bytes) ≡ false → is_text l.bytes ≡ true → find is_no_blank l.bytes ≡ Some b → eqb b 35 ≡ false
    → line_signs (is_name_sign b) l.bytes ≡ Some ss → by_signs l.number l.at (is_name_sign b) (Some ss) ≡ said l
unfolding said
said-signs l b ss few text first other signs =
    ap (by_signs l.number l.at (is_name_sign b)) (sym signs)
    ∙ sym (ap (λ x. cond x says.Nothing (by_signs l.number l.at (is_name_sign b) (line_signs (is_name_sign b) l.bytes))) other)
    ∙ sym (ap (by_sign l) first)
    ∙ sym (ap (λ x. cond (not x) (fault l.number kind.NotUtf8) (by_sign l (find is_no_blank l.bytes))) text)
    ∙ sym (ap (λ x. cond x (fault l.number kind.LineTooLong) (cond (not (is_text l.bytes)) (fault l.number kind.NotUtf8) (by_sign l (find is_no_blank l.bytes)))) few)

pub on_ok : {T E : Type 0} (r : Result T E) (a b : T) → IfOk r (λ v. v ≡ a) → a ≡ b → IfOk r (λ v. v ≡ b)
on_ok (Ok v) a b h e = h ∙ e
on_ok (Err x) a b h e = tt
