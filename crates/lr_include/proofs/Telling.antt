-- What bytes tell whatever comes behind them.
use Rattle.std.proofs.Common.{◌≡◌, ◌≤◌, ◌+◌, ◌-◌, ◌⊎◌, inl, inr, ℕ, zero, suc, Bool, true, false, not, cond, ◌&&◌, ◌||◌, List, [], ◌∷◌, ◌++◌, length, take, refl, sym, ap, ◌∙◌, subst, append_assoc, append-nil, length-append, arith}
use Rattle.std.specs.Prelude.{Err, nat_lt}
use Rattle.std.specs.List.{list_any}
use Rattle.std.specs.Str.{is_utf8}
use Rattle.lr_lex.specs.declared.item.LexKind.{LexKind}
use Rattle.lr_lex.specs.declared.item.LexKind.TheVariants as kind
use Rattle.lr_lex.specs.declared.said.Said.{Said}
use Rattle.lr_lex.specs.Lines.{line_at, lines}
use Rattle.lr_lex.specs.Pieces.{has_line}
use Rattle.lr_lex.specs.Items.{Told, items, items_of, items_from, said, told, fault, is_text, is_zero}
use Rattle.lr_lex.specs.declared.held.Held.{Held}
use Rattle.lr_lex.specs.declared.stream.Stream.{Stream}
use Rattle.lr_lex.specs.Holding.{IsHeld, coming, rest_of}
use Rattle.lr_lex.specs.Whole.{IsScriptBegun}
use Rattle.lr_lex.specs.Streams.{StreamStands, still, HoldsNone}
use Rattle.lr_lex.proofs.Alone.{alone_tells, script_once}
use Rattle.lr_include.specs.Whole.{whole_lines, whole_items}
use Rattle.lr_include.proofs.Whole.{line_last, line_more, split}

zero_last : (line : List ℕ) → list_any is_zero (line ++ 0 ∷ []) ≡ true
zero_last [] = refl
zero_last (b ∷ line) = by (is_zero b) (zero_last line)
  where
    by : (t : Bool) {u : Bool} → u ≡ true → (t || u) ≡ true
    by true e = refl
    by false e = e

not_text : (line : List ℕ) → is_text (line ++ 0 ∷ []) ≡ false
unfolding is_text
not_text line = by (is_utf8 (line ++ 0 ∷ [])) (zero_last line)
  where
    by : (t : Bool) {u : Bool} → u ≡ true → (t && not u) ≡ false
    by true e = ap not e
    by false e = refl

-- a zero byte spoils its line
said_zero : (n at : ℕ) (line : List ℕ) → (k : LexKind) × (said (line_at n at (line ++ 0 ∷ [])) ≡ fault n k)
unfolding said
said_zero n at line = by (nat_lt 8192 (length (line ++ 0 ∷ []))) (is_text (line ++ 0 ∷ [])) _ (not_text line)
  where
    by : (t u : Bool) (r : Said) → u ≡ false → (k : LexKind) × (cond t (fault n kind.LineTooLong) (cond (not u) (fault n kind.NotUtf8) r) ≡ fault n k)
    by true u r e = (kind.LineTooLong, refl)
    by false true r e = absurd (cc e)
    by false false r e = (kind.NotUtf8, refl)

line_once : (n at : ℕ) (line : List ℕ) → has_line line ≡ false → (t : Told) × (items_from n at (line ++ 0 ∷ []) ≡ t ∷ [])
line_once n at line h =
    let s = said_zero n at line in
    (Err (record { line = n; kind = s.0 }), alone_tells n at (line ++ 0 ∷ []) (line_last line h) ∙ ap (λ x. told n x []) s.1)

held_once : (h : Held) → IsHeld h → rest_of h ≡ [] → (t : Told) × (coming h (0 ∷ []) ≡ t ∷ [])
held_once h is none = subst (λ (bytes : List ℕ). (t : Told) × (items_from (1 + h.down) h.at bytes ≡ t ∷ [])) (sym are) (by is.stage)
  where
    are : (h.bytes.items ++ rest_of h) ++ 0 ∷ [] ≡ is.script ++ (is.line ++ 0 ∷ [])
    are = ap (λ r. (h.bytes.items ++ r) ++ 0 ∷ []) none ∙ (ap (λ b. b ++ 0 ∷ []) (append-nil h.bytes.items ∙ is.bytes_are) ∙ append_assoc is.script is.line (0 ∷ []))

    by : (((is.script ≡ []) × (h.lines ≡ 0)) ⊎ IsScriptBegun (1 + h.down) h.at is.script h.lines) → (t : Told) × (items_from (1 + h.down) h.at (is.script ++ (is.line ++ 0 ∷ [])) ≡ t ∷ [])
    by (inl e) = subst (λ (s : List ℕ). (t : Told) × (items_from (1 + h.down) h.at (s ++ (is.line ++ 0 ∷ [])) ≡ t ∷ [])) (sym e.0) (line_once (1 + h.down) h.at is.line is.no_newline)
    by (inr b) = (_, script_once (1 + h.down) h.at is.script h.lines (is.line ++ 0 ∷ []) b (line_last is.line is.no_newline))

front : {A : Type 0} (xs ys : List A) → take (length xs) (xs ++ ys) ≡ xs
front [] ys = refl
front (x ∷ xs) ys = ap (λ l. x ∷ l) (front xs ys)

but_last : {A : Type 0} (xs : List A) (x : A) → take (length (xs ++ x ∷ []) - 1) (xs ++ x ∷ []) ≡ xs
but_last xs x = ap (λ (k : ℕ). take k (xs ++ x ∷ [])) (omega (arith, length-append xs (x ∷ []))) ∙ front xs (x ∷ [])

-- a text with a zero byte behind it tells what its whole lines tell, and one fault more
whole_once : (bytes : List ℕ) → (t : Told) × (items (bytes ++ 0 ∷ []) ≡ whole_items bytes ++ t ∷ [])
whole_once bytes =
    let s = split 1 0 bytes in
    let f = said_zero s.number s.place s.line in
    let m = line_more (line_at s.number s.place (s.line ++ 0 ∷ [])) (Err (record { line = s.number; kind = f.0 })) (ap (λ (x : Said). told s.number x []) f.1) 0 (lines 1 0 (whole_lines bytes)) (omega arith) in
    (m.0, ap (items_of 0) s.lines_are ∙ m.1)

-- what was taken of a stream that isn't closed, and has no more that is whole
pub told_whole : (bytes : List ℕ) (ts : List Told) (s : Stream) → StreamStands s → HoldsNone s false → ((more : List ℕ) → items (bytes ++ more) ≡ ts ++ still s more) → ts ≡ whole_items bytes
told_whole bytes ts s stands none all =
    let one = held_once s.held stands none in
    let w = whole_once bytes in
    let e : ts ++ one.0 ∷ [] ≡ whole_items bytes ++ w.0 ∷ [] = sym (all (0 ∷ []) ∙ ap (λ us. ts ++ us) one.1) ∙ w.1 in
    sym (but_last ts one.0) ∙ (ap (λ (us : List Told). take (length us - 1) us) e ∙ but_last (whole_items bytes) w.0)

-- the first bytes, so many, of two pieces
pub take_both : (room : ℕ) (bytes piece : List ℕ) → length bytes ≤ room → take room (bytes ++ piece) ≡ bytes ++ take (room - length bytes) piece
take_both room [] piece le = ap (λ (k : ℕ). take k piece) (omega arith)
take_both zero (b ∷ bytes) piece le = absurd (omega (arith, le))
take_both (suc room) (b ∷ bytes) piece le = ap (λ l. b ∷ l) (take_both room bytes piece (omega (arith, le)) ∙ ap (λ (k : ℕ). bytes ++ take k piece) (omega arith))
