-- What begins with some bytes, in order of bytes.
use Rattle.std.proofs.Common.{◌≡◌, ◌∙◌, sym, ap, refl, ⊎_elim, ℕ, ◌<◌, List, [], ◌∷◌, ◌++◌, Bool, true, false, cond, Ordering, Less, Equal, Greater, nat_cmp, is_lt, eqb, true≢false}
use Rattle.std.specs.Ordering.{ordering_then}
use Rattle.std.specs.Cmp.{IsStrictWeakOrder}
use Rattle.std.specs.Cmp.Lexicographic.{slice_cmp}
use Rattle.std.proofs.lemmas.Bool.{lt-ltb, cases_order, cases_Bool}
use Rattle.std.proofs.lemmas.Cmp.{nat_cmp_total, nat_list_cmp_total, tied_itself}
use Rattle.std.proofs.lemmas.List.MinMax.{ranks_by}
use Rattle.lr_shapes.specs.Fronts.{Begins}

abbrev pub lt : List ℕ → List ℕ → Bool
lt x y = is_lt (slice_cmp nat_cmp x y)

pub lt_order : IsStrictWeakOrder lt
lt_order = ranks_by nat_list_cmp_total (λ (x : List ℕ). x)

-- what begins with some bytes doesn't stand before them
pub not_before : (b rest : List ℕ) → lt (b ++ rest) b ≡ false
not_before [] [] = refl
not_before [] (c ∷ rest) = refl
not_before (c ∷ bs) rest = ap (λ o. is_lt (ordering_then o (slice_cmp nat_cmp (bs ++ rest) bs))) (tied_itself nat_cmp_total c) ∙ not_before bs rest

less : (c d : ℕ) → c < d → nat_cmp c d ≡ Less
less c d h = ap (λ t. cond t Less (cond (eqb c d) Equal Greater)) (lt-ltb c d h)

-- two heads of which neither is less are the same, and their rests are ordered likewise
heads : (c d : ℕ) (o p : Ordering) → is_lt (ordering_then (nat_cmp c d) o) ≡ false → is_lt (ordering_then (nat_cmp d c) p) ≡ false → (c ≡ d) × (is_lt o ≡ false) × (is_lt p ≡ false)
heads c d o p h k = ⊎_elim
    (λ (e : c ≡ d). (
      e,
      ap (λ q. is_lt (ordering_then q o)) (sym (tied_itself nat_cmp_total c) ∙ ap (λ n. nat_cmp c n) e) ∙ h,
      ap (λ q. is_lt (ordering_then q p)) (sym (tied_itself nat_cmp_total d) ∙ ap (λ n. nat_cmp d n) (sym e)) ∙ k,
    ))
    (λ s. absurd (⊎_elim
    (λ (l : c < d). true≢false (ap (λ q. is_lt (ordering_then q o)) (sym (less c d l)) ∙ h))
    (λ (l : d < c). true≢false (ap (λ q. is_lt (ordering_then q p)) (sym (less d c l)) ∙ k)) s))
    (cases_order c d)

-- f ≤ g ≤ h, and h begins with f: so does g
pub between : (f g rest : List ℕ) → lt (f ++ rest) g ≡ false → lt g f ≡ false → Begins f g
between [] g rest h k = (g, refl)
between (c ∷ f) [] rest h k = absurd (true≢false k)
between (c ∷ f) (d ∷ g) rest h k =
    let parts = heads c d (slice_cmp nat_cmp (f ++ rest) g) (slice_cmp nat_cmp g f) h k in
    let more = between f g rest parts.1 parts.2 in
    (more.0, ap (λ n. n ∷ g) (sym parts.0) ∙ ap (λ xs. c ∷ xs) more.1)

-- what stands up to something before these bytes stands before them
pub lower : (g h b : List ℕ) → lt h g ≡ false → lt h b ≡ true → lt g b ≡ true
lower g h b up before = ⊎_elim (λ e. e) (λ (e : lt g b ≡ false). absurd (true≢false (sym before ∙ lt_order.chain h g b up e))) (cases_Bool (lt g b))
