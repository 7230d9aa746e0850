-- What is still to come once lines are passed.
use Rattle.std.proofs.Common.{◌≡◌, ◌∙◌, sym, ap, subst, refl, inl, inr, ◌+◌, ◌<◌, ◌≤◌, ℕ, true, List, [], ◌∷◌, ◌++◌, length, drop, append_assoc, length-append, length-drop, arith}
use Rattle.std.proofs.lemmas.List.{drop-drop, append-nil}
use Rattle.lr_lex.specs.Items.{Told, items_from}
use Rattle.lr_lex.specs.declared.held.Held.{Held}
use Rattle.lr_lex.specs.Holding.{IsHeld, BeginsLine, Filled, StreamPasses, HasPushed, Drops, IsSameToCome, rest_of, held_text, coming, size_of}
use Rattle.lr_lex.specs.Whole.{IsScriptBegun, Tell}

-- behind the newline
behind_next : (h : Held) → (next : BeginsLine true (rest_of h)) → drop (h.from + 1) h.rest.items ≡ next.0
behind_next h next = sym (drop-drop 1 h.from h.rest.items) ∙ ap (λ l. drop 1 l) next.1

ahead_one : (h : Held) → (next : BeginsLine true (rest_of h)) → h.from + 1 ≤ length h.rest.items
ahead_one h next = let e = length-drop h.from h.rest.items in let f = ap (λ (l : List ℕ). length l) next.1 in omega (arith, e, f)

module _ (h n : Held) (is : IsHeld h) (lines : ℕ) (p : StreamPasses h n lines) (next : BeginsLine true (rest_of h)) (few : lines ≤ h.lines + 1) where
  begun_in : length is.script ≤ length h.bytes.items
  begun_in = let e = ap (λ (l : List ℕ). length l) is.bytes_are in let f = length-append is.script is.line in omega (arith, e, f)

  pub passed_held : IsHeld n
  passed_held = record {
    script = [];
    line = [];
    bytes_are = p.bytes;
    begun_is = p.begun;
    no_newline = refl;
    stage = inl (refl, p.none);
    from_in = let a = ahead_one h next in let e = ap (λ (l : List ℕ). length l) p.rest in let f = p.from in omega (arith, a, e, f);
    lines_few = let e = p.none in omega (arith, e);
    down_few = let a = p.down in let b = p.at in let c = is.down_few in let d = is.lines_few in omega (arith, a, b, c, d, few, begun_in);
    few = let a = p.at in let b = ap (λ (l : List ℕ). length l) p.bytes in let c = ap (λ (l : List ℕ). length l) p.rest in let d = p.from in let e = is.few in let f = ahead_one h next in omega (arith, a, b, c, d, e, f);
  }

  pub passed_few : size_of n ≤ size_of h
  passed_few = let a = p.at in let b = ap (λ (l : List ℕ). length l) p.bytes in let c = ap (λ (l : List ℕ). length l) p.rest in let d = p.from in let f = ahead_one h next in omega (arith, a, b, c, d, f)

  rest_is : rest_of n ≡ next.0
  rest_is = ap (λ (l : List ℕ). drop n.from l) p.rest ∙ (ap (λ f. drop f h.rest.items) p.from ∙ behind_next h next)

  pub passed_less : length (rest_of n) < length (rest_of h)
  passed_less = let a = ap (λ (l : List ℕ). length l) rest_is in let b = ap (λ (l : List ℕ). length l) next.1 in omega (arith, a, b)

  text_is : (more : List ℕ) → held_text h ++ more ≡ (h.bytes.items ++ 10 ∷ []) ++ (rest_of n ++ more)
  text_is more =
      ap (λ l. (h.bytes.items ++ l) ++ more) (next.1 ∙ ap (λ l. 10 ∷ l) (sym rest_is))
      ∙ (append_assoc h.bytes.items (10 ∷ rest_of n) more
      ∙ sym (append_assoc h.bytes.items (10 ∷ []) (rest_of n ++ more)))

  pub passed_told : (ts : List Told) → Tell (1 + h.down) h.at (h.bytes.items ++ 10 ∷ []) lines ts → (more : List ℕ) → coming h more ≡ ts ++ coming n more
  passed_told ts tell more =
      ap (λ l. items_from (1 + h.down) h.at l) (text_is more)
      ∙ (tell (rest_of n ++ more)
      ∙ (ap (λ m. ts ++ items_from m (h.at + length (h.bytes.items ++ 10 ∷ [])) (rest_of n ++ more)) (let a = p.down in omega (arith, a))
      ∙ (ap (λ a. ts ++ items_from (1 + n.down) a (rest_of n ++ more)) (let a = p.at in let b = length-append h.bytes.items (10 ∷ []) in omega (arith, a, b))
      ∙ ap (λ l. ts ++ items_from (1 + n.down) n.at ((l ++ rest_of n) ++ more)) (sym p.bytes))))

-- one more line of the script
module _ (h n : Held) (is : IsHeld h) (p : HasPushed h n) (next : BeginsLine true (rest_of h)) where
  pushed_rest : rest_of n ≡ next.0
  pushed_rest = ap (λ (l : List ℕ). drop n.from l) p.rest ∙ (ap (λ f. drop f h.rest.items) p.from ∙ behind_next h next)

  pub pushed_held : IsScriptBegun (1 + h.down) h.at (h.bytes.items ++ 10 ∷ []) (h.lines + 1) → IsHeld n
  pushed_held begun = record {
    script = h.bytes.items ++ 10 ∷ [];
    line = [];
    bytes_are = p.bytes ∙ sym (append-nil (h.bytes.items ++ 10 ∷ []));
    begun_is = p.begun ∙ ap (λ (l : List ℕ). length l) p.bytes;
    no_newline = refl;
    stage = inr (subst (λ d. IsScriptBegun (1 + d) n.at (h.bytes.items ++ 10 ∷ []) n.lines) (sym p.down) (subst (λ a. IsScriptBegun (1 + h.down) a (h.bytes.items ++ 10 ∷ []) n.lines) (sym p.at)
        (subst (λ k. IsScriptBegun (1 + h.down) h.at (h.bytes.items ++ 10 ∷ []) k) (sym p.lines) begun)));
    from_in = let a = ahead_one h next in let e = ap (λ (l : List ℕ). length l) p.rest in let f = p.from in omega (arith, a, e, f);
    lines_few = let a = p.lines in let b = is.lines_few in let e = ap (λ (l : List ℕ). length l) is.bytes_are in let f = length-append is.script is.line in let g = length-append h.bytes.items (10 ∷ []) in omega (arith, a, b, e, f, g);
    down_few = let a = p.down in let b = p.at in let c = is.down_few in omega (arith, a, b, c);
    few = let a = p.at in let b = ap (λ (l : List ℕ). length l) p.bytes in let g = length-append h.bytes.items (10 ∷ []) in let c = ap (λ (l : List ℕ). length l) p.rest in let d = p.from in let e = is.few in let f = ahead_one h next in omega (arith, a, b, c, d, e, f, g);
  }

  pub pushed_few : size_of n ≤ size_of h
  pushed_few = let a = p.at in let b = ap (λ (l : List ℕ). length l) p.bytes in let g = length-append h.bytes.items (10 ∷ []) in let c = ap (λ (l : List ℕ). length l) p.rest in let d = p.from in let f = ahead_one h next in omega (arith, a, b, c, d, f, g)

  pub pushed_less : length (rest_of n) < length (rest_of h)
  pushed_less = let a = ap (λ (l : List ℕ). length l) pushed_rest in let b = ap (λ (l : List ℕ). length l) next.1 in omega (arith, a, b)

  pub pushed_same : IsSameToCome h n
  pushed_same more =
      ap (λ l. items_from (1 + h.down) h.at (l ++ more))
      (ap (λ l. h.bytes.items ++ l) (next.1 ∙ ap (λ l. 10 ∷ l) (sym pushed_rest)) ∙ (sym (append_assoc h.bytes.items (10 ∷ []) (rest_of n)) ∙ ap (λ (l : List ℕ). l ++ rest_of n) (sym p.bytes)))
      ∙ (ap (λ d. items_from (1 + d) h.at (held_text n ++ more)) (sym p.down) ∙ ap (λ a. items_from (1 + n.down) a (held_text n ++ more)) (sym p.at))

-- bytes that were taken in change nothing
pub filled_same : (h n : Held) → Filled h n → IsSameToCome h n
filled_same h n f more =
    ap (λ l. items_from (1 + h.down) h.at (l ++ more)) (sym f.text)
    ∙ (ap (λ d. items_from (1 + d) h.at (held_text n ++ more)) (sym f.down) ∙ ap (λ a. items_from (1 + n.down) a (held_text n ++ more)) (sym f.at))

pub dropped_few : (h n : Held) → Drops h n → size_of n ≤ size_of h
dropped_few h n d = let a = d.at in let b = ap (λ (l : List ℕ). length l) d.bytes in let c = ap (λ (l : List ℕ). length l) d.rest in let f = d.from in omega (arith, a, b, c, f)

pub dropped_held : (h n : Held) → IsHeld h → Drops h n → IsHeld n
dropped_held h n is d = record {
  script = [];
  line = [];
  bytes_are = d.bytes;
  begun_is = d.begun;
  no_newline = refl;
  stage = inl (refl, d.lines);
  from_in = let a = is.from_in in let e = ap (λ (l : List ℕ). length l) d.rest in let f = d.from in omega (arith, a, e, f);
  lines_few = let e = d.lines in omega (arith, e);
  down_few = let a = is.down_few in let b = d.down in let c = d.at in omega (arith, a, b, c);
  few = let a = d.at in let b = ap (λ (l : List ℕ). length l) d.bytes in let c = ap (λ (l : List ℕ). length l) d.rest in let f = d.from in let e = is.few in omega (arith, a, b, c, f, e);
}
