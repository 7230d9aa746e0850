-- What is held once more bytes are taken in.
use Rattle.std.proofs.Common.{◌≡◌, ◌∙◌, sym, ap, refl, ◌+◌, ◌-◌, ◌≤◌, ℕ, suc, false, List, ◌∷◌, ◌++◌, length, take, drop, Vec, Global, append_assoc, length-append, length-drop, take-append-drop, arith}
use Rattle.std.specs.Prelude.{◌||◌}
use Rattle.std.proofs.lemmas.List.{drop-drop}
use Rattle.std.proofs.lemmas.List.Folds.{list_any-append}
use Rattle.lr_rules.specs.Bytes.{is_newline}
use Rattle.lr_lex.specs.Pieces.{has_line}
use Rattle.lr_lex.specs.declared.held.Held.{Held}
use Rattle.lr_lex.specs.Newlines.{IsNewline}
use Rattle.lr_lex.specs.Holding.{IsHeld, Filled, rest_of, size_of}

module _ (h : Held) (is : IsHeld h) (b r : Vec ℕ Global) (f : ℕ) (x : List ℕ) (grown : b.items ≡ h.bytes.items ++ x) (none : has_line x ≡ false) (in_r : f ≤ length r.items) (parts : rest_of h ≡ x ++ drop f r.items) where
  size : length x + (length r.items - f) ≡ length h.rest.items - h.from
  size =
      let p = ap (λ (l : List ℕ). length l) parts in
      let q = length-drop h.from h.rest.items in
      let s = length-append x (drop f r.items) in
      let t = length-drop f r.items in
      omega (arith, p, q, s, t)

  pub grown_held : IsHeld (record h { bytes = b; rest = r; from = f })
  grown_held = record {
    script = is.script;
    line = is.line ++ x;
    bytes_are = grown ∙ (ap (λ l. l ++ x) is.bytes_are ∙ append_assoc is.script is.line x);
    begun_is = is.begun_is;
    no_newline = list_any-append is_newline is.line x ∙ (ap (λ t. t || has_line x) is.no_newline ∙ none);
    stage = is.stage;
    from_in = in_r;
    lines_few = is.lines_few;
    down_few = is.down_few;
    few = let p = ap (λ (l : List ℕ). length l) grown in let q = length-append h.bytes.items x in let s = is.few in omega (arith, p, q, s, size);
  }

  pub grown_few : size_of (record h { bytes = b; rest = r; from = f }) ≤ size_of h
  grown_few = let p = ap (λ (l : List ℕ). length l) grown in let q = length-append h.bytes.items x in omega (arith, p, q, size)

  pub grown_filled : Filled h (record h { bytes = b; rest = r; from = f })
  grown_filled = record {
    text = ap (λ l. l ++ drop f r.items) grown ∙ (append_assoc h.bytes.items x (drop f r.items) ∙ ap (λ l. h.bytes.items ++ l) (sym parts));
    down = refl;
    at = refl;
    ahead = let p = length-drop f r.items in let q = length-drop h.from h.rest.items in omega (arith, p, q, size);
  }

-- up to the next newline
module _ (h : Held) (k : ℕ) where
  pub some_parts : rest_of h ≡ take k (rest_of h) ++ drop (h.from + k) h.rest.items
  some_parts = sym (take-append-drop k (rest_of h)) ∙ ap (λ l. take k (rest_of h) ++ l) (drop-drop k h.from h.rest.items)

  pub some_in : IsHeld h → IsNewline (rest_of h) k → h.from + k ≤ length h.rest.items
  some_in held is = let e = length-drop h.from h.rest.items in let l = is.within in let f = held.from_in in omega (arith, e, l, f)

  pub some_found : IsNewline (rest_of h) k → (rest : List ℕ) × (drop (h.from + k) h.rest.items ≡ 10 ∷ rest)
  some_found is = (drop (suc k) (rest_of h), sym (drop-drop k h.from h.rest.items) ∙ is.behind)
