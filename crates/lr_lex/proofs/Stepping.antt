-- What a whole line brings.
use Rattle.std.proofs.Common.{◌≡◌, ◌∙◌, sym, ap, subst, refl, inl, inr, ◌⊎◌, ◌+◌, ◌-◌, ◌<◌, ◌≤◌, ◌^◌, ℕ, true, false, true≢false, take, List, [], ◌∷◌, ◌++◌, length, map, drop, append_assoc, length-drop, arith}
use Rattle.std.specs.Prelude.{All, Ok, Err}
use Rattle.std.proofs.lemmas.List.{append-nil, nil_from_length}
use Rattle.std.proofs.lemmas.List.Elements.{All-nil, All-cons}
use Rattle.lr_lex.specs.declared.word.Word.{Word}
use Rattle.lr_lex.specs.declared.item.Item.{Item}
use Rattle.lr_lex.specs.declared.item.Item.TheVariants as item
use Rattle.lr_lex.specs.declared.item.LexFault.{LexFault}
use Rattle.lr_lex.specs.declared.item.LexKind.{LexKind}
use Rattle.lr_lex.specs.declared.item.LexKind.TheVariants as kind
use Rattle.lr_lex.specs.declared.said.Said.{Said}
use Rattle.lr_lex.specs.declared.said.Said.TheVariants as says
use Rattle.lr_lex.specs.Words.{Rises}
use Rattle.lr_lex.specs.Lexing.{ByKind}
use Rattle.lr_lex.specs.Lines.{NumberedLine, line_at, lines, line_of, after_line}
use Rattle.lr_lex.specs.Pieces.{has_line}
use Rattle.lr_lex.specs.Items.{Told, said, items, items_from, told, script, script_text, body, ended, is_end, all_words}
use Rattle.lr_lex.proofs.First.{lines-are}
use Rattle.lr_lex.proofs.Spans.{text-rises}
use Rattle.lr_lex.specs.declared.held.Held.{Held}
use Rattle.lr_lex.specs.Moved.{moved, moved_item, moved_fault, IsNear, IsNearItem}
use Rattle.lr_lex.specs.Whole.{IsPlainSaid, IsScriptBegun, Tell}
use Rattle.lr_lex.specs.Holding.{IsHeld, BeginsLine, TellsNext, EndsScript, rest_of}
use Rattle.lr_lex.proofs.Finding.{rest_whole}
use Rattle.lr_lex.proofs.Further.{items_moved}
use Rattle.lr_lex.proofs.Telling.{body_is, ended_is, line_tells, script_tells, script_begun, script_goes_on}
use Rattle.lr_lex.proofs.Alone.{one_alone, script_alone, script_once, alone_tells, silent, shows, Shows, plain, begins, begun_by, at_said, SaysAt, line_told, script_line}

-- ---- it can be moved

rises_on : (from to : ℕ) (ws : List Word) → Rises from ws to → from ≤ to
rises_on from to [] h = h
rises_on from to (w ∷ ws) h = let r = rises_on (w.at + w.len) to ws h.2 in omega (arith, h.0, h.1, r)

all_near : (by from to : ℕ) (ws vs : List Word) → Rises from (ws ++ vs) to → to + by < 2 ^ 64 → All (IsNear by) ws
all_near by from to [] vs h lt = All-nil (IsNear by)
all_near by from to (w ∷ ws) vs h lt = All-cons (IsNear by) w ws (let r = rises_on (w.at + w.len) to (ws ++ vs) h.2 in omega (arith, r, lt)) (all_near by (w.at + w.len) to ws vs h.2 lt)

near_by : (down by : ℕ) (q : List ℕ) (i : Item) (us : List Told) → Rises 0 (all_words (Ok i ∷ us)) (length q) → length q + by < 2 ^ 64 → line_told (moved down by (Ok i)) ≡ 1 + down → 1 + down < 2 ^ 32 → IsNearItem down by i
near_by down by q (item.Line ws names brace stray line) us h lt e few = (all_near by 0 (length q) ws (all_words us) h lt, omega (arith, e, few))
near_by down by q (item.Close line) us h lt e few = omega (arith, e, few)
near_by down by q (item.Script w text brace stray line) us h lt e few = (let r = rises_on (w.at + w.len) (length q) (all_words us) h.2 in omega (arith, r, lt), omega (arith, e, few))

pub near_item : (down by : ℕ) (q : List ℕ) (i : Item) (us : List Told) → items q ≡ Ok i ∷ us → length q + by < 2 ^ 64 → line_told (moved down by (Ok i)) ≡ 1 + down → 1 + down < 2 ^ 32 → IsNearItem down by i
near_item down by q i us e lt l few = near_by down by q i us (subst (λ (ts : List Told). Rises 0 (all_words ts) (length q)) e (text-rises q)) lt l few

pub moved_all : (down by : ℕ) (q : List ℕ) → map (moved down by) (items q) ≡ items_from (1 + down) by q
moved_all down by q = sym (items_moved down by 1 0 q) ∙ ap (λ a. items_from (1 + down) a q) (omega arith)

-- ---- no script has begun

pub told_line : (n : ℕ) (s : Said) → SaysAt n s → (t : Told) (us : List Told) → told n s [] ≡ t ∷ us → line_told t ≡ n
told_line n says.Nothing a t us e = absurd (cc e)
told_line n (says.Item i) a t us e = let h : Ok i ≡ t = cc e in sym (ap line_told h) ∙ a
told_line n (says.Fault f) a t us e = let h : Err f ≡ t = cc e in sym (ap line_told h) ∙ a
told_line n (says.Script w brace stray) a t us e = let h : script n w brace stray (script_text []) false ≡ t = cc e in sym (ap line_told h) ∙ script_line n w brace stray (script_text []) false

module _ (h : Held) (is : IsHeld h) (zero : h.begun ≡ 0) (next : BeginsLine true (rest_of h)) where
  abbrev here : Said
  here = said (line_at (1 + h.down) h.at h.bytes.items)

  script_none : is.script ≡ []
  script_none = nil_from_length is.script (sym is.begun_is ∙ zero)

  no_line : has_line h.bytes.items ≡ false
  no_line = ap has_line (is.bytes_are ∙ ap (λ l. l ++ is.line) script_none) ∙ is.no_newline

  lines_none : h.lines ≡ 0
  lines_none = let a = is.lines_few in let b = ap (λ (l : List ℕ). length l) script_none in omega (arith, a, b)

  first : (t : Told) (us : List Told) → items h.bytes.items ≡ t ∷ us → told (1 + h.down) here [] ≡ moved h.down h.at t ∷ map (moved h.down h.at) us
  first t us e = sym (alone_tells (1 + h.down) h.at h.bytes.items no_line) ∙ (sym (moved_all h.down h.at h.bytes.items) ∙ ap (λ (ts : List Told). map (moved h.down h.at) ts) e)

  tells : (ts : List Told) → IsPlainSaid here → told (1 + h.down) here [] ≡ ts → TellsNext h 1 ts
  tells ts p e = record { next = next; lines_few = omega arith; tells = subst (λ (us : List Told). Tell (1 + h.down) h.at (h.bytes.items ++ 10 ∷ []) 1 us) e (line_tells (1 + h.down) h.at h.bytes.items here no_line refl p) }

  pub line_nothing : items h.bytes.items ≡ [] → TellsNext h 1 []
  line_nothing e =
      let none : told (1 + h.down) here [] ≡ [] = sym (alone_tells (1 + h.down) h.at h.bytes.items no_line) ∙ (sym (moved_all h.down h.at h.bytes.items) ∙ ap (λ (ts : List Told). map (moved h.down h.at) ts) e) in
      tells [] (silent (1 + h.down) here none) none

  by_shown : (t : Told) → (((f : LexFault) → t ≡ Err f → f.kind ≡ kind.NoEndscript → ⊥)) → Shows (1 + h.down) here t → TellsNext h 1 (t ∷ [])
  by_shown t not (plain p e) = tells (t ∷ []) p e
  by_shown t not (begins w brace stray s e) = absurd (not (record { line = 1 + h.down; kind = kind.NoEndscript }) e refl)

  pub line_item : (i : Item) (us : List Told) → items h.bytes.items ≡ Ok i ∷ us → TellsNext h 1 (Ok (moved_item h.down h.at i) ∷ [])
  line_item i us e = by_shown (Ok (moved_item h.down h.at i)) (λ f q k. cc q) (shows (1 + h.down) here (Ok (moved_item h.down h.at i)) (map (moved h.down h.at) us) (first (Ok i) us e))

  pub line_faults : (f : LexFault) (us : List Told) → items h.bytes.items ≡ Err f ∷ us → (f.kind ≡ kind.NoEndscript → ⊥) → TellsNext h 1 (Err (moved_fault h.down f) ∷ [])
  line_faults f us e not = by_shown (Err (moved_fault h.down f)) (λ g q k. not (let r : moved_fault h.down f ≡ g = cc q in ap (λ (x : LexFault). x.kind) r ∙ k)) (shows (1 + h.down) here (Err (moved_fault h.down f)) (map (moved h.down h.at) us) (first (Err f) us e))

  pub line_begins : (f : LexFault) (us : List Told) → items h.bytes.items ≡ Err f ∷ us → f.kind ≡ kind.NoEndscript → IsScriptBegun (1 + h.down) h.at (h.bytes.items ++ 10 ∷ []) (h.lines + 1)
  line_begins f us e k =
      let b = begun_by (line_at (1 + h.down) h.at h.bytes.items) (Err (moved_fault h.down f)) (moved_fault h.down f) (map (moved h.down h.at) us) (first (Err f) us e) refl k in
      let one : 1 ≡ h.lines + 1 = let z = lines_none in omega (arith, z) in
      subst (λ m. IsScriptBegun (1 + h.down) h.at (h.bytes.items ++ 10 ∷ []) m) one (script_begun (1 + h.down) h.at h.bytes.items b.0 b.1 b.2 no_line b.3)

  pub line_of_first : (t : Told) (us : List Told) → items h.bytes.items ≡ t ∷ us → line_told (moved h.down h.at t) ≡ 1 + h.down
  line_of_first t us e = told_line (1 + h.down) here (at_said (line_at (1 + h.down) h.at h.bytes.items)) (moved h.down h.at t) (map (moved h.down h.at) us) (first t us e)

-- the numbers are small
pub small : (h : Held) → IsHeld h → BeginsLine true (rest_of h) → (1 + h.down < 2 ^ 32) × (length h.bytes.items + h.at < 2 ^ 64)
small h is next = (let a = is.down_few in let b = is.few in let c = ahead in omega (arith, a, b, c), let b = is.few in omega (arith, b))
  where
    ahead : 1 ≤ length h.rest.items - h.from
    ahead = let e = length-drop h.from h.rest.items in let f = ap (λ (l : List ℕ). length l) next.1 in omega (arith, e, f)

-- what isn't want of memory
pub other_kind : (k : LexKind) (P Q : Type 0) → ByKind k P Q → (k ≡ kind.Memory → ⊥) → Q
other_kind kind.Memory P Q h not = absurd (not refl)
other_kind kind.LineTooLong P Q h not = h
other_kind kind.NotUtf8 P Q h not = h
other_kind kind.OpenQuote P Q h not = h
other_kind kind.NoEndscript P Q h not = h

pub by_other : (k : LexKind) (P Q : Type 0) → (k ≡ kind.Memory → ⊥) → Q → ByKind k P Q
by_other kind.Memory P Q not q = absurd (not refl)
by_other kind.LineTooLong P Q not q = q
by_other kind.NotUtf8 P Q not q = q
by_other kind.OpenQuote P Q not q = q
by_other kind.NoEndscript P Q not q = q

-- ---- a script has begun

pub number_first : (n at : ℕ) (xs : List ℕ) (l : NumberedLine) (ls : List NumberedLine) → lines n at xs ≡ l ∷ ls → l.number ≡ n
number_first n at [] l ls e = absurd (cc e)
number_first n at (b ∷ bs) l ls e =
    let h : line_at n at (line_of (b ∷ bs)) ∷ lines (n + 1) (at + length (line_of (b ∷ bs)) + 1) (after_line (b ∷ bs)) ≡ l ∷ ls = sym (lines-are n at (b ∷ bs) (omega arith)) ∙ e in
    let one : line_at n at (line_of (b ∷ bs)) ≡ l = cc h in
    sym (ap (λ (x : NumberedLine). x.number) one)

no_end : is_end (line_at 0 0 []) ≡ false
unfolding is_end
no_end = refl

end_alone : (n at : ℕ) (x : List ℕ) → has_line x ≡ false → ((m a : ℕ) → is_end (line_at m a x) ≡ true) → lines n at x ≡ line_at n at x ∷ []
end_alone n at [] h ends = absurd (true≢false (sym (ends 0 0) ∙ no_end))
end_alone n at (b ∷ x) h ends = one_alone n at b x h

module _ (h : Held) (e : EndsScript h) (next : BeginsLine true (rest_of h)) where
  abbrev whole : Told
  whole = script e.begun.first.number e.begun.word e.begun.brace e.begun.stray (script_text e.begun.others) true

  abbrev last_line : NumberedLine
  last_line = line_at (1 + h.down + length (e.begun.first ∷ e.begun.others)) (h.at + length e.script) e.line

  alone_whole : script_alone (1 + h.down) h.at e.script h.lines e.line e.begun ≡ whole
  alone_whole =
      ap (λ ls. script e.begun.first.number e.begun.word e.begun.brace e.begun.stray (script_text (body (e.begun.others ++ ls))) (ended (e.begun.others ++ ls)))
      (end_alone (1 + h.down + length (e.begun.first ∷ e.begun.others)) (h.at + length e.script) e.line e.no_newline e.ends)
      ∙ (ap (λ ls. script e.begun.first.number e.begun.word e.begun.brace e.begun.stray (script_text (body ls)) (ended ls)) (sym (append-nil (e.begun.others ++ last_line ∷ [])))
      ∙ (ap (λ ls. script e.begun.first.number e.begun.word e.begun.brace e.begun.stray (script_text ls) (ended ((e.begun.others ++ last_line ∷ []) ++ []))) (body_is e.begun.others last_line [] e.begun.unended (e.ends (1 + h.down + length (e.begun.first ∷ e.begun.others)) (h.at + length e.script)))
      ∙ ap (λ t. script e.begun.first.number e.begun.word e.begun.brace e.begun.stray (script_text e.begun.others) t) (ended_is e.begun.others last_line [] (e.ends (1 + h.down + length (e.begun.first ∷ e.begun.others)) (h.at + length e.script)))))

  all_told : map (moved h.down h.at) (items h.bytes.items) ≡ whole ∷ []
  all_told =
      moved_all h.down h.at h.bytes.items
      ∙ (ap (λ q. items_from (1 + h.down) h.at q) e.bytes_are
      ∙ (script_once (1 + h.down) h.at e.script h.lines e.line e.begun e.no_newline ∙ ap (λ t. t ∷ []) alone_whole))

  pub script_there : items h.bytes.items ≡ [] → ⊥
  script_there none = let q : [] ≡ whole ∷ [] = ap (λ (ts : List Told). map (moved h.down h.at) ts) (sym none) ∙ all_told in cc q

  same_told : (t : Told) (us : List Told) → items h.bytes.items ≡ t ∷ us → whole ≡ moved h.down h.at t
  same_told t us is = let q : moved h.down h.at t ∷ map (moved h.down h.at) us ≡ whole ∷ [] = ap (λ (ts : List Told). map (moved h.down h.at) ts) (sym is) ∙ all_told in sym (cc q)

  pub script_next : (t : Told) (us : List Told) → items h.bytes.items ≡ t ∷ us → TellsNext h (h.lines + 1) (moved h.down h.at t ∷ [])
  script_next t us is = record {
    next = next;
    lines_few = omega arith;
    tells = subst (λ (x : Told). Tell (1 + h.down) h.at (h.bytes.items ++ 10 ∷ []) (h.lines + 1) (x ∷ [])) (same_told t us is)
        (subst (λ q. Tell (1 + h.down) h.at q (h.lines + 1) (whole ∷ [])) (sym (ap (λ q. q ++ 10 ∷ []) e.bytes_are ∙ append_assoc e.script e.line (10 ∷ [])))
        (script_tells (1 + h.down) h.at e.script h.lines e.line e.begun e.no_newline e.ends));
  }

  pub script_at : (t : Told) (us : List Told) → items h.bytes.items ≡ t ∷ us → line_told (moved h.down h.at t) ≡ 1 + h.down
  script_at t us is =
      sym (ap line_told (same_told t us is))
      ∙ (script_line e.begun.first.number e.begun.word e.begun.brace e.begun.stray (script_text e.begun.others) true
      ∙ number_first (1 + h.down) h.at (e.script ++ []) e.begun.first (e.begun.others ++ lines (1 + h.down + length (e.begun.first ∷ e.begun.others)) (h.at + length e.script) []) (e.begun.lines_are []))

-- the script that has begun, where some bytes are of it
pub begun_there : (h : Held) (is : IsHeld h) → 0 < h.begun → IsScriptBegun (1 + h.down) h.at is.script h.lines
begun_there h is lt = by is.stage
  where
    by : ((is.script ≡ []) × (h.lines ≡ 0)) ⊎ IsScriptBegun (1 + h.down) h.at is.script h.lines → IsScriptBegun (1 + h.down) h.at is.script h.lines
    by (inl e) = absurd (let a = is.begun_is in let b = ap (λ (l : List ℕ). length l) e.0 in omega (arith, a, b, lt))
    by (inr b) = b

pub script_more : (h : Held) (is : IsHeld h) → 0 < h.begun → ((m a : ℕ) → is_end (line_at m a is.line) ≡ false) → IsScriptBegun (1 + h.down) h.at (h.bytes.items ++ 10 ∷ []) (h.lines + 1)
script_more h is lt goes = subst (λ q. IsScriptBegun (1 + h.down) h.at q (h.lines + 1)) (sym (ap (λ q. q ++ 10 ∷ []) is.bytes_are ∙ append_assoc is.script is.line (10 ∷ [])))
    (script_goes_on (1 + h.down) h.at is.script h.lines is.line (begun_there h is lt) is.no_newline goes)

pub script_ends : (h : Held) (is : IsHeld h) → 0 < h.begun → ((m a : ℕ) → is_end (line_at m a is.line) ≡ true) → EndsScript h
script_ends h is lt ends = record { script = is.script; line = is.line; bytes_are = is.bytes_are; no_newline = is.no_newline; begun = begun_there h is lt; ends = ends }

-- the line behind the script
pub line_part : (h : Held) (is : IsHeld h) (all : List ℕ) → all ≡ h.bytes.items → take (length all - h.begun) (drop h.begun all) ≡ is.line
line_part h is all e =
    ap (λ (l : List ℕ). take (length l - h.begun) (drop h.begun l)) e
    ∙ (rest_whole h.bytes.items h.begun
    ∙ (ap (λ l. drop h.begun l) is.bytes_are ∙ (ap (λ n. drop n (is.script ++ is.line)) is.begun_is ∙ drop_front is.script is.line)))
  where
    drop_front : (p x : List ℕ) → drop (length p) (p ++ x) ≡ x
    drop_front [] x = refl
    drop_front (b ∷ p) x = drop_front p x

pub not_memory : (k : LexKind) → (k ≡ kind.NoEndscript) ⊎ ((k ≡ kind.LineTooLong) ⊎ ((k ≡ kind.NotUtf8) ⊎ (k ≡ kind.OpenQuote))) → k ≡ kind.Memory → ⊥
not_memory k (inl a) e = cc (a, e)
not_memory k (inr (inl a)) e = cc (a, e)
not_memory k (inr (inr (inl a))) e = cc (a, e)
not_memory k (inr (inr (inr a))) e = cc (a, e)
