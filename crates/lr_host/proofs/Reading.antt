-- What reads of one path show.
use Rattle.std.proofs.Common.{◌≡◌, ◌<◌, ◌+◌, ◌⊎◌, inl, inr, ℕ, Bool, true, false, ◌||◌, List, [], ◌∷◌, ◌++◌, length, refl, sym, ap, ◌∙◌, subst, append_assoc, append-nil, arith, length-append}
use Rattle.std.specs.List.{list_any}
use Rattle.lr_rules.specs.declared.path.Path.{Path}
use Rattle.lr_rules.specs.Path.{is_empty}
use Rattle.lr_rules.proofs.Heads.{heads, tails}
use Rattle.lr_host.specs.declared.entry.Entry.{Entry}
use Rattle.lr_host.specs.declared.entry.Entry.TheVariants.{Reads}
use Rattle.lr_host.specs.Told.{Each}
use Rattle.lr_host.specs.Reading.{IsReadOf, text, is_last_read, ReadsAll, to_limit, to_end}
use Rattle.lr_host.proofs.Each.{each_append}

-- all of them are reads of the path
pub reads_only : (path : Path) (limit : ℕ) (bytes : List ℕ) (ts : List Entry) → ReadsAll path limit bytes ts → Each (IsReadOf path) ts
reads_only path limit bytes ts (to_limit e r) = r.only
reads_only path limit bytes ts (to_end lt t) =
    subst (Each (IsReadOf path)) (sym (t.joined ∙ ap (λ us. t.front ++ us) t.second)) (each_append (IsReadOf path) t.front (Reads path (length bytes) [] ∷ []) t.first.only (refl, tt))

-- one read more that gave some
pub some_more : (ts : List Entry) (e : Entry) → list_any is_last_read ts ≡ false → is_last_read e ≡ false → list_any is_last_read (ts ++ e ∷ []) ≡ false
some_more [] e p q = ap (λ t. t || false) q
some_more (t ∷ ts) e p q = by (is_last_read t) (λ r. some_more ts e r q) p
  where
    by : (t : Bool) {u v : Bool} → (u ≡ false → v ≡ false) → (t || u) ≡ false → (t || v) ≡ false
    by true k p = absurd (cc p)
    by false k p = k p

pub text_both : (xs ys : List Entry) → text (xs ++ ys) ≡ text xs ++ text ys
text_both [] ys = refl
text_both (Reads x from piece ∷ xs) ys = ap (λ zs. piece ++ zs) (text_both xs ys) ∙ sym (append_assoc piece (text xs) (text ys))
text_both (_ ∷ xs) ys = text_both xs ys

-- these were read
pub reads_text : (path : Path) (limit : ℕ) (bytes : List ℕ) (ts : List Entry) → ReadsAll path limit bytes ts → text ts ≡ bytes
reads_text path limit bytes ts (to_limit e r) = r.bytes_are
reads_text path limit bytes ts (to_end lt t) =
    ap text (t.joined ∙ ap (λ us. t.front ++ us) t.second) ∙ (text_both t.front (Reads path (length bytes) [] ∷ []) ∙ (append-nil (text t.front) ∙ t.first.bytes_are))

-- ---- where a reading ends

-- behind so many bytes: these reads give some each, up to the limit or to one that gives none
abbrev Ends : ℕ → ℕ → List Entry → Type 0
Ends limit size [] = size ≡ limit
Ends limit size (Reads x from piece ∷ ts) = (size < limit) × (((is_empty piece ≡ true) × (ts ≡ [])) ⊎ ((is_empty piece ≡ false) × Ends limit (size + length piece) ts))
Ends limit size (_ ∷ ts) = ⊥

pub some_long : (piece : List ℕ) → is_empty piece ≡ false → 0 < length piece
some_long [] e = absurd (cc e)
some_long (b ∷ piece) e = omega arith

or_false : (t : Bool) {u : Bool} → (t || u) ≡ false → (t ≡ false) × (u ≡ false)
or_false true e = absurd (cc e)
or_false false e = (refl, e)

limit_ends : (path : Path) (limit size : ℕ) (ts : List Entry) → Each (IsReadOf path) ts → list_any is_last_read ts ≡ false → size + length (text ts) ≡ limit → Ends limit size ts
limit_ends path limit size [] only some e = omega (arith, e)
limit_ends path limit size (Reads x from piece ∷ ts) only some e =
    let s = or_false (is_empty piece) some in
    let l = some_long piece s.0 in
    let a = length-append piece (text ts) in
    (omega (arith, e, a, l), inr (s.0, limit_ends path limit (size + length piece) ts only.1 s.1 (omega (arith, e, a))))
limit_ends path limit size (_ ∷ ts) only some e = absurd only.0

end_ends : (path : Path) (limit size at : ℕ) (ts : List Entry) → Each (IsReadOf path) ts → list_any is_last_read ts ≡ false → size + length (text ts) < limit → Ends limit size (ts ++ Reads path at [] ∷ [])
end_ends path limit size at [] only some lt = (omega (arith, lt), inl (refl, refl))
end_ends path limit size at (Reads x from piece ∷ ts) only some lt =
    let s = or_false (is_empty piece) some in
    let a = length-append piece (text ts) in
    (omega (arith, lt, a), inr (s.0, end_ends path limit (size + length piece) at ts only.1 s.1 (omega (arith, lt, a))))
end_ends path limit size at (_ ∷ ts) only some lt = absurd only.0

all_end : (path : Path) (limit : ℕ) (bytes : List ℕ) (ts : List Entry) → ReadsAll path limit bytes ts → Ends limit 0 ts
all_end path limit bytes ts (to_limit e r) = limit_ends path limit 0 ts r.only r.some (omega (arith, ap length r.bytes_are, e))
all_end path limit bytes ts (to_end lt t) =
    subst (Ends limit 0) (sym (t.joined ∙ ap (λ us. t.front ++ us) t.second)) (end_ends path limit 0 (length bytes) t.front t.first.only t.first.some (omega (arith, ap length t.first.bytes_are, lt)))

-- the one that has entries left read below the limit, where the other had read to it
not_before : (limit size : ℕ) (t : Entry) (ts : List Entry) → size ≡ limit → Ends limit size (t ∷ ts) → ⊥
not_before limit size (Reads x from piece) ts e h = let lt = h.0 in omega (arith, e, lt)
not_before limit size _ ts e h = h

not_either : {A : Type 0} (t : Bool) → t ≡ true → t ≡ false → A
not_either t e f = absurd (cc (e, f))

-- behind one read that both have
both_end : (limit size : ℕ) (t : Entry) (ts us vs ws : List Entry) → Ends limit size (t ∷ ts) → Ends limit size (t ∷ us) → ts ++ vs ≡ us ++ ws → ((size : ℕ) → Ends limit size ts → Ends limit size us → (ts ≡ us) × (vs ≡ ws)) → (ts ≡ us) × (vs ≡ ws)
both_end limit size (Reads x from piece) ts us vs ws h k rest go = both h.1 k.1
  where
    both : ((is_empty piece ≡ true) × (ts ≡ [])) ⊎ ((is_empty piece ≡ false) × Ends limit (size + length piece) ts) → ((is_empty piece ≡ true) × (us ≡ [])) ⊎ ((is_empty piece ≡ false) × Ends limit (size + length piece) us) → (ts ≡ us) × (vs ≡ ws)
    both (inl a) (inl b) = (a.1 ∙ sym b.1, sym (ap (λ (xs : List Entry). xs ++ vs) a.1) ∙ (rest ∙ ap (λ (xs : List Entry). xs ++ ws) b.1))
    both (inl a) (inr b) = not_either (is_empty piece) a.0 b.0
    both (inr a) (inl b) = not_either (is_empty piece) b.0 a.0
    both (inr a) (inr b) = go (size + length piece) a.1 b.1
both_end limit size _ ts us vs ws h k rest go = absurd h

ends_one : (limit size : ℕ) (ts us vs ws : List Entry) → Ends limit size ts → Ends limit size us → ts ++ vs ≡ us ++ ws → (ts ≡ us) × (vs ≡ ws)
ends_one limit size [] [] vs ws h k e = (refl, e)
ends_one limit size [] (u ∷ us) vs ws h k e = absurd (not_before limit size u us h k)
ends_one limit size (t ∷ ts) [] vs ws h k e = absurd (not_before limit size t ts k h)
ends_one limit size (t ∷ ts) (u ∷ us) vs ws h k e =
    let one = heads t u (ts ++ vs) (us ++ ws) e in
    let rest = tails t u (ts ++ vs) (us ++ ws) e in
    let more = both_end limit size t ts us vs ws h (subst (λ (v : Entry). Ends limit size (v ∷ us)) (sym one) k) rest (λ size a b. ends_one limit size ts us vs ws a b rest) in
    (ap (λ y. y ∷ ts) one ∙ ap (λ ys. u ∷ ys) more.0, more.1)

-- Of entries that begin with all reads of a file: they fix which of them are those reads, and what comes behind.
pub reads_one : (path other : Path) (limit : ℕ) (a b : List ℕ) (ts us vs ws : List Entry) → ReadsAll path limit a ts → ReadsAll other limit b us → ts ++ vs ≡ us ++ ws → (ts ≡ us) × (vs ≡ ws)
reads_one path other limit a b ts us vs ws r s e = ends_one limit 0 ts us vs ws (all_end path limit a ts r) (all_end other limit b us s) e
