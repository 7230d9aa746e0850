use Rattle.std.proofs.Common.{◌≡◌, ◌∙◌, ap, sym, subst, refl, ℕ, ◌+◌, ◌-◌, ◌<◌, ◌≤◌, Bool, true, false, List, [], ◌∷◌, ◌++◌, length, drop, take, get_or, Option, Some, None, arith, add-one, drop-cons}
use Rattle.std.proofs.lemmas.Bool.{cond-false, ne_eqb}
use Rattle.std.proofs.lemmas.List.{drop_all, append-nil, take_rest}
use Rattle.lr_state.specs.Reading.{NameAndRest, with_front, quoted}
use Rattle.lr_state.proofs.Names.{front-byte}
use Rattle.lr_state.proofs.name.between_quotes.Goals as goal
use Rattle.lr_state.proofs.name.between_quotes.Goals.{then-escape+in_ok-push, else-escape+else-byte-eq34+then-byte-eq92, else-escape+else-byte-eq34+else-byte-eq92+in_ok-push-2}

here : (text : List ℕ) (at : ℕ) → at < length text → drop at text ≡ get_or text at 0 ∷ drop (at + 1) text
here text at lt = rw (add-one, drop-cons text at 0) refl

-- one step of the reader
step-escape : (text : List ℕ) (at : ℕ) (name : List ℕ) → at < length text
    → with_front (name ++ get_or text at 0 ∷ []) (quoted false (drop (at + 1) text)) ≡ with_front name (quoted true (drop at text))
unfolding quoted
step-escape text at name lt =
    front-byte name (get_or text at 0) (quoted false (drop (at + 1) text)) ∙ ap (λ (xs : List ℕ). with_front name (quoted true xs)) (sym (here text at lt))

step-backslash : (text : List ℕ) (at : ℕ) (name : List ℕ) → at < length text → get_or text at 0 ≡ 92
    → with_front name (quoted true (drop (at + 1) text)) ≡ with_front name (quoted false (drop at text))
unfolding quoted
step-backslash text at name lt is =
    ap (λ (b : ℕ). with_front name (quoted false (b ∷ drop (at + 1) text))) (sym is)
    ∙ ap (λ (xs : List ℕ). with_front name (quoted false xs)) (sym (here text at lt))

step-byte : (text : List ℕ) (at : ℕ) (name : List ℕ) → at < length text → (get_or text at 0 ≡ 34 → ⊥) → (get_or text at 0 ≡ 92 → ⊥)
    → with_front (name ++ get_or text at 0 ∷ []) (quoted false (drop (at + 1) text)) ≡ with_front name (quoted false (drop at text))
unfolding quoted
step-byte text at name lt quote backslash =
    front-byte name (get_or text at 0) (quoted false (drop (at + 1) text))
    ∙ ap (λ (o : Option NameAndRest). with_front name o) (sym (cond-false _ _ _ (ne_eqb _ 34 quote) ∙ cond-false _ _ _ (ne_eqb _ 92 backslash)))
    ∙ ap (λ (xs : List ℕ). with_front name (quoted false xs)) (sym (here text at lt))

step-quote : (text : List ℕ) (at : ℕ) (name : List ℕ) → at < length text → get_or text at 0 ≡ 34
    → Some (name, drop (at + 1) text) ≡ with_front name (quoted false (drop at text))
unfolding quoted
step-quote text at name lt is =
    ap (λ (n : List ℕ). Some (n, drop (at + 1) text)) (sym (append-nil name))
    ∙ ap (λ (b : ℕ). with_front name (quoted false (b ∷ drop (at + 1) text))) (sym is)
    ∙ ap (λ (xs : List ℕ). with_front name (quoted false xs)) (sym (here text at lt))

step-end : (text : List ℕ) (at : ℕ) (escape : Bool) (name : List ℕ) → length text ≤ at → None ≡ with_front name (quoted escape (drop at text))
unfolding quoted
step-end text at escape name le = ap (λ (xs : List ℕ). with_front name (quoted escape xs)) (sym (drop_all at text le))

pub loop-at-preserved : goal.loop-at-preserved
loop-at-preserved c =
    let text = c.args.text.now in
    let at = c.loop-at.at in
    let name = c.loop-at.name.items in
    let lt : at < length c.args.text.now = omega arith in
    let Read : List ℕ → Bool → ℕ → Type 0 = λ (n : List ℕ) (f : Bool) (k : ℕ). with_front n (quoted f (drop k c.args.text.now)) ≡ quoted false c.args.text.now in
    let before : Read name c.loop-at.escape at = c.loop-at.invariant in
    elim c.if-escape.branch [
      | then-escape+in_ok-push w ↦
          rw (w.name-is, w.escape-is, w.in_ok-push.ensures.items)
          (step-escape text at name lt ∙ subst (λ (f : Bool). Read name f at) w.if-escape.true before)
      | else-escape+else-byte-eq34+then-byte-eq92 w ↦
          rw (w.name-is, w.escape-is)
          (step-backslash text at name lt w.if-byte-eq92.true ∙ subst (λ (f : Bool). Read name f at) w.if-escape.false before)
      | else-escape+else-byte-eq34+else-byte-eq92+in_ok-push-2 w ↦
          rw (w.name-is, w.escape-is, w.if-escape.false, w.in_ok-push-2.ensures.items)
          (step-byte text at name lt w.if-byte-eq34.false w.if-byte-eq92.false ∙ subst (λ (f : Bool). Read name f at) w.if-escape.false before)
    ]

pub returns-then-byte-eq34 : goal.returns-then-byte-eq34
returns-then-byte-eq34 c =
    let at = c.loop-at.at in
    let rest : take (length c.args.text.now - (at + 1)) (drop (at + 1) c.args.text.now) ≡ drop (at + 1) c.args.text.now = take_rest c.args.text.now (at + 1) in
    ap (λ (xs : List ℕ). Some (c.loop-at.name.items, xs)) rest
    ∙ step-quote c.args.text.now at c.loop-at.name.items (omega arith) c.if-byte-eq34.true
    ∙ subst (λ (e : Bool). with_front c.loop-at.name.items (quoted e (drop at c.args.text.now)) ≡ quoted false c.args.text.now) c.if-escape.false c.loop-at.invariant

pub returns : goal.returns
returns c = step-end c.args.text.now c.loop-at.at c.loop-at.escape c.loop-at.name.items (omega arith) ∙ c.loop-at.invariant
