-- Words that rise, and what a search takes.
use Rattle.std.proofs.Common.{◌≡◌, ℕ, zero, suc, ◌+◌, ◌*◌, ◌^◌, ◌<◌, ◌≤◌, List, [], ◌∷◌, length, Some, slice_get, IsTrue, Ordering, refl, sym, ap, ◌∙◌, arith, inl, inr, get_or, ◌⊎◌}
use Rattle.std.specs.declared.cmp.Ordering.TheVariants.{Less, Equal, Greater}
use Rattle.std.specs.Cmp.Lexicographic.{slice_cmp}
use Rattle.std.specs.Ordering.{nat_cmp, is_lt, is_eq, ordering_reverse}
use Rattle.std.proofs.lemmas.Cmp.{nat_list_cmp_total, tied_itself}
use Rattle.lr_tables.specs.Table.{IsRowOf, words, rising}
use Rattle.lr_tables.specs.declared.keyed.Row.{Row}
use Rattle.std.proofs.lemmas.Option.{slice_get-map, slice_get-get_or}
use Rattle.std.specs.Option.{option_map}
use Rattle.std.proofs.lemmas.Bool.{cases_lt, and_parts}
use Rattle.std.proofs.lemmas.Map.Text.{is_eq-slice_cmp}
use Rattle.std.proofs.lemmas.Slice.Eq.{bytes_eq-Decides}

-- some bound 2 ^ e on the size is left, and e more steps keep within the limit
abbrev pub Within : ℕ → ℕ → ℕ → Type 0
Within size limit steps = (e : ℕ) × (e + steps ≡ limit) × (size < 2 ^ e)

pub half : (size more limit steps : ℕ) → 0 < size → 2 * more ≤ size → Within size limit steps → Within more limit (steps + 1)
half size more limit steps some halved (zero, is, fits) = absurd (omega (arith, fits))
half size more limit steps some halved (suc e, is, fits) = (e, omega (arith, is), omega (arith, fits))

less_of : (o : Ordering) → IsTrue (is_lt o) → o ≡ Less
less_of Less h = refl
less_of Equal h = absurd (cc)
less_of Greater h = absurd (cc)

first_below : (x y : List ℕ) (ws : List (List ℕ)) → IsTrue (rising (x ∷ y ∷ ws)) → slice_cmp nat_cmp x y ≡ Less
first_below x y ws r = less_of (slice_cmp nat_cmp x y) (and_parts _ _ r).0

-- each word behind the first is after it
head_below : (x : List ℕ) (ws : List (List ℕ)) → IsTrue (rising (x ∷ ws)) → (j : ℕ) (b : List ℕ) → slice_get ws j ≡ Some b → slice_cmp nat_cmp x b ≡ Less
head_below x [] r j b at = absurd (cc)
head_below x (y ∷ ws) r zero b at = let e : y ≡ b = cc in rw (← e) (first_below x y ws r)
head_below x (y ∷ ws) r (suc j) b at =
    nat_list_cmp_total.trans x y b (first_below x y ws r) (head_below y ws (and_parts (is_lt (slice_cmp nat_cmp x y)) _ r).1 j b at)

tail_rising : (x : List ℕ) (ws : List (List ℕ)) → IsTrue (rising (x ∷ ws)) → IsTrue (rising ws)
tail_rising x [] r = refl
tail_rising x (y ∷ ws) r = (and_parts (is_lt (slice_cmp nat_cmp x y)) _ r).1

-- an earlier word is before a later one
pub below : (ws : List (List ℕ)) → IsTrue (rising ws) → (i j : ℕ) → i < j → (a b : List ℕ) → slice_get ws i ≡ Some a → slice_get ws j ≡ Some b → slice_cmp nat_cmp a b ≡ Less
below [] r i j lt a b at bt = absurd (cc)
below (x ∷ ws) r i zero lt a b at bt = absurd (omega arith)
below (x ∷ ws) r zero (suc j) lt a b at bt = let e : x ≡ a = cc in rw (← e) (head_below x ws r j b bt)
below (x ∷ ws) r (suc i) (suc j) lt a b at bt = below ws (tail_rising x ws r) i j (omega arith) a b at bt

reversed : (a b : List ℕ) → slice_cmp nat_cmp a b ≡ Less → slice_cmp nat_cmp b a ≡ Greater
reversed a b e = nat_list_cmp_total.antisymm b a ∙ ap ordering_reverse e

module _ (rows : List Row) (word : List ℕ) (mid : ℕ) (m : List ℕ) (rises : IsTrue (rising (words rows))) (at : slice_get (words rows) mid ≡ Some m) where
  pub none_left : Less ≡ slice_cmp nat_cmp m word → (i : ℕ) → i < mid + 1 → IsRowOf rows word i → ⊥
  none_left less i lt is = by_place (cases_lt i mid)
    where
      by_place : (i < mid) ⊎ (mid ≤ i) → ⊥
      by_place (inl before) = let e : slice_cmp nat_cmp m word ≡ Greater = reversed word m (below (words rows) rises i mid before word m is at) in cc
      by_place (inr later) = let same : i ≡ mid = omega arith in let e : m ≡ word = cc in let t : slice_cmp nat_cmp word word ≡ Equal = tied_itself nat_list_cmp_total word in cc

  pub none_right : Greater ≡ slice_cmp nat_cmp m word → (i : ℕ) → mid ≤ i → IsRowOf rows word i → ⊥
  none_right greater i le is = by_place (cases_lt mid i)
    where
      by_place : (mid < i) ⊎ (i ≤ mid) → ⊥
      by_place (inl later) = let e : slice_cmp nat_cmp m word ≡ Less = below (words rows) rises mid i later m word at is in cc
      by_place (inr before) = let same : i ≡ mid = omega arith in let e : m ≡ word = cc in let t : slice_cmp nat_cmp word word ≡ Equal = tied_itself nat_list_cmp_total word in cc

pub equal_lists : (a b : List ℕ) → Equal ≡ slice_cmp nat_cmp a b → a ≡ b
equal_lists a b e = (bytes_eq-Decides a b).0 (sym (is_eq-slice_cmp a b) ∙ ap is_eq (sym e))

pub word_at : (rows : List Row) (mid : ℕ) (d : Row) → mid < length rows → slice_get (words rows) mid ≡ Some (get_or rows mid d).word.now
word_at rows mid d lt = slice_get-map (λ row. row.word.now) rows mid ∙ ap (option_map (λ row. row.word.now)) (slice_get-get_or rows mid d lt)
