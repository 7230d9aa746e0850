-- What the bytes tell that are left at the end.
use Rattle.std.proofs.Common.{◌≡◌, ◌∙◌, sym, ap, inl, inr, ◌⊎◌, ◌+◌, ◌<◌, ◌≤◌, ◌^◌, ℕ, List, [], ◌∷◌, ◌++◌, length, map, drop, arith}
use Rattle.std.proofs.lemmas.List.{append-nil}
use Rattle.lr_lex.specs.declared.said.Said.{Said}
use Rattle.lr_lex.specs.declared.said.Said.TheVariants as says
use Rattle.lr_lex.specs.Lines.{line_at, lines}
use Rattle.lr_lex.specs.Pieces.{has_line}
use Rattle.lr_lex.specs.Items.{Told, said, items, items_from, told, script_text, body, ended}
use Rattle.lr_lex.specs.declared.held.Held.{Held}
use Rattle.lr_lex.specs.Moved.{moved}
use Rattle.lr_lex.specs.Whole.{IsScriptBegun}
use Rattle.lr_lex.specs.Holding.{IsHeld, Drops, rest_of, held_text, coming}
use Rattle.lr_lex.proofs.Alone.{alone_tells, script_alone, script_once, at_said, line_told, script_line}
use Rattle.lr_lex.proofs.Stepping.{moved_all, told_line, number_first}

one_told : (n : ℕ) (s : Said) (t : Told) (us : List Told) → told n s [] ≡ t ∷ us → us ≡ []
one_told n says.Nothing t us e = absurd (cc e)
one_told n (says.Item i) t us e = let h : [] ≡ us = cc e in sym h
one_told n (says.Fault f) t us e = let h : [] ≡ us = cc e in sym h
one_told n (says.Script w brace stray) t us e = let h : [] ≡ us = cc e in sym h

-- The first that comes is all, and it is of the line that begins here.
pub record OneLeft (n : ℕ) (t : Told) (us : List Told) : Type 0 where
  pub none : us ≡ []
  pub line : line_told t ≡ n

some_left : (q : List ℕ) (t : Told) (us : List Told) → items q ≡ t ∷ us → 1 ≤ length q
some_left [] t us e = absurd (cc e)
some_left (b ∷ q) t us e = omega arith

module _ (h : Held) (is : IsHeld h) where
  left_by : ((is.script ≡ []) × (h.lines ≡ 0)) ⊎ IsScriptBegun (1 + h.down) h.at is.script h.lines → (t : Told) (us : List Told) → items_from (1 + h.down) h.at h.bytes.items ≡ t ∷ us → OneLeft (1 + h.down) t us
  left_by (inl z) t us e =
      let line : h.bytes.items ≡ is.line = is.bytes_are ∙ ap (λ l. l ++ is.line) z.0 in
      let no_line = ap has_line line ∙ is.no_newline in
      let e' = sym (alone_tells (1 + h.down) h.at h.bytes.items no_line) ∙ e in
      record {
        none = one_told (1 + h.down) (said (line_at (1 + h.down) h.at h.bytes.items)) t us e';
        line = told_line (1 + h.down) (said (line_at (1 + h.down) h.at h.bytes.items)) (at_said (line_at (1 + h.down) h.at h.bytes.items)) t us e';
      }
  left_by (inr b) t us e =
      let one : script_alone (1 + h.down) h.at is.script h.lines is.line b ∷ [] ≡ t ∷ us = sym (script_once (1 + h.down) h.at is.script h.lines is.line b is.no_newline) ∙ (ap (λ q. items_from (1 + h.down) h.at q) (sym is.bytes_are) ∙ e) in
      let first : script_alone (1 + h.down) h.at is.script h.lines is.line b ≡ t = cc one in
      let rest : [] ≡ us = cc one in
      record {
        none = sym rest;
        line =
            sym (ap line_told first)
            ∙ (script_line b.first.number b.word b.brace b.stray (script_text (body (b.others ++ lines (1 + h.down + length (b.first ∷ b.others)) (h.at + length is.script) is.line))) (ended (b.others ++ lines (1 + h.down + length (b.first ∷ b.others)) (h.at + length is.script) is.line))
            ∙ number_first (1 + h.down) h.at (is.script ++ []) b.first (b.others ++ lines (1 + h.down + length (b.first ∷ b.others)) (h.at + length is.script) []) (b.lines_are []));
      }

  module _ (over : rest_of h ≡ []) where
    pub left_all : coming h [] ≡ map (moved h.down h.at) (items h.bytes.items)
    left_all =
        ap (λ l. items_from (1 + h.down) h.at l) (append-nil (held_text h) ∙ (ap (λ l. h.bytes.items ++ l) over ∙ append-nil h.bytes.items))
        ∙ sym (moved_all h.down h.at h.bytes.items)

    pub left_one : (t : Told) (us : List Told) → items h.bytes.items ≡ t ∷ us → OneLeft (1 + h.down) (moved h.down h.at t) (map (moved h.down h.at) us)
    left_one t us e = left_by is.stage (moved h.down h.at t) (map (moved h.down h.at) us) (sym (moved_all h.down h.at h.bytes.items) ∙ ap (λ (ts : List Told). map (moved h.down h.at) ts) e)

    pub left_small : (t : Told) (us : List Told) → items h.bytes.items ≡ t ∷ us → (1 + h.down < 2 ^ 32) × (length h.bytes.items + h.at < 2 ^ 64)
    left_small t us e = let s = some_left h.bytes.items t us e in let a = is.down_few in let b = is.few in (omega (arith, s, a, b), omega (arith, b))

    pub left_none : (n : Held) → Drops h n → coming n [] ≡ []
    left_none n d = ap (λ l. items_from (1 + n.down) n.at l) (append-nil (held_text n) ∙ (ap (λ (l : List ℕ). l ++ rest_of n) d.bytes ∙ rest_none))
      where
        rest_none : rest_of n ≡ []
        rest_none = ap (λ (l : List ℕ). drop n.from l) d.rest ∙ (ap (λ f. drop f h.rest.items) d.from ∙ over)

    pub left_nothing : items h.bytes.items ≡ [] → coming h [] ≡ []
    left_nothing e = left_all ∙ ap (λ (ts : List Told). map (moved h.down h.at) ts) e

    pub left_told : (t : Told) (us : List Told) (n : Held) → items h.bytes.items ≡ t ∷ us → Drops h n → coming h [] ≡ moved h.down h.at t ∷ coming n []
    left_told t us n e d =
        left_all
        ∙ (ap (λ (ts : List Told). map (moved h.down h.at) ts) e
        ∙ ap (λ ts. moved h.down h.at t ∷ ts) ((left_one t us e).none ∙ sym (left_none n d)))
