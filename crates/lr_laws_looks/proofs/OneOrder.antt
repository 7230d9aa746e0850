-- Paths in order of bytes are fixed by which they are.
use Rattle.std.proofs.Common.{◌≡◌, ℕ, suc, ◌+◌, ◌<◌, ◌≤◌, Bool, true, false, cond, List, [], ◌∷◌, length, get_or, refl, sym, ap, ◌∙◌, subst, Ordering, Less, Equal, Greater, nat_cmp, arith}
use Rattle.std.specs.Prelude.{Contains}
use Rattle.std.specs.Cmp.Lexicographic.{slice_cmp}
use Rattle.std.specs.List.{sum_by}
use Rattle.std.specs.Ordering.{is_eq, is_lt, ordering_reverse}
use Rattle.std.specs.Str.{bytes_eq}
use Rattle.std.proofs.lemmas.Cmp.{nat_list_cmp_total}
use Rattle.std.proofs.lemmas.Map.Text.{is_eq-slice_cmp}
use Rattle.std.proofs.lemmas.Slice.Eq.{bytes_eq-Decides}
use Rattle.std.proofs.lemmas.List.MinMax.{ranks_by}
use Rattle.std.proofs.lemmas.List.Sorted.{sorted_far, sum_by-IsPermutation}
use Rattle.std.proofs.lemmas.List.Sums.{sum_by-cons}
use Rattle.lr_rules.specs.declared.path.Path.{Path}
use Rattle.lr_host.specs.Listing.{NamesRise}
use Rattle.lr_glob.specs.Sights.{InOrder}

-- how often a path stands among these
abbrev pub one_at : Path → Path → ℕ
one_at y x = cond (bytes_eq x y) 1 0

abbrev pub count : Path → List Path → ℕ
count y xs = sum_by (one_at y) xs

pub count_cons : (y x : Path) (xs : List Path) → count y (x ∷ xs) ≡ one_at y x + count y xs
count_cons y x xs = sum_by-cons (one_at y) x xs

pub itself : (x : Path) → one_at x x ≡ 1
itself x = ap (λ b. cond b 1 0) ((bytes_eq-Decides x x).1 refl)

there_by : (y x : Path) (xs : List Path) → 1 ≤ count y (x ∷ xs) → (1 ≤ count y xs → Contains xs y) → (b : Bool) → bytes_eq x y ≡ b → Contains (x ∷ xs) y
there_by y x xs h rest true e = (0, omega arith, (bytes_eq-Decides x y).0 e)
there_by y x xs h rest false e =
    let a = count_cons y x xs in
    let none : one_at y x ≡ 0 = ap (λ b. cond b 1 0) e in
    let r = rest (omega (arith, a, none, h)) in
    (suc r.0, (let l : r.0 < length xs = r.1 in omega arith), r.2)

-- one that is counted stands there
pub there : (y : Path) (xs : List Path) → 1 ≤ count y xs → Contains xs y
there y [] h = absurd (let le : 1 ≤ 0 = h in omega arith)
there y (x ∷ xs) h = there_by y x xs h (λ more. there y xs more) (bytes_eq x y) refl

-- neither is before the other
tied : (r s : Ordering) → r ≡ ordering_reverse s → is_lt r ≡ false → is_lt s ≡ false → r ≡ Equal
tied Less s e f g = absurd (cc)
tied Equal s e f g = refl
tied Greater Less e f g = absurd (cc)
tied Greater Equal e f g = absurd (cc)
tied Greater Greater e f g = absurd (cc)

-- none is before the first
pub first_before : (x : Path) (xs : List Path) (y : Path) → NamesRise (x ∷ xs) → Contains (x ∷ xs) y → is_lt (slice_cmp nat_cmp y x) ≡ false
first_before x xs y up c = subst (λ (z : Path). is_lt (slice_cmp nat_cmp z x) ≡ false) c.2 (sorted_far (λ v w. is_lt (slice_cmp nat_cmp v w)) (ranks_by nat_list_cmp_total (λ path. path)) (x ∷ xs) up 0 c.0 y (omega arith) c.1)

pub behind_first : (x : Path) (xs : List Path) → NamesRise (x ∷ xs) → NamesRise xs
behind_first x xs up k d le lt =
    let more : suc k + 1 ≡ suc (k + 1) = omega arith in
    subst (λ j. is_lt (slice_cmp nat_cmp (get_or (x ∷ xs) j d) (get_or xs k d)) ≡ false) more (up (suc k) d (omega arith) (let l : k + 1 < length xs = lt in omega arith))

-- what stands first in the one stands in the other
first_there : (x : Path) (xs : List Path) (ys : List Path) → count x (x ∷ xs) ≡ count x ys → Contains ys x
first_there x xs ys same = there x ys (let a = count_cons x x xs in let b = itself x in omega (arith, a, b, same))

as_often : (xs ys : List Path) → NamesRise xs → NamesRise ys → ((y : Path) → count y xs ≡ count y ys) → xs ≡ ys
as_often [] [] up vp same = refl
as_often [] (y ∷ ys) up vp same = absurd (let c = first_there y ys [] (sym (same y)) in let l : c.0 < 0 = c.1 in omega arith)
as_often (x ∷ xs) [] up vp same = absurd (let c = first_there x xs [] (same x) in let l : c.0 < 0 = c.1 in omega arith)
as_often (x ∷ xs) (y ∷ ys) up vp same = ap (λ z. z ∷ xs) e ∙ ap (λ zs. y ∷ zs) (as_often xs ys (behind_first x xs up) (behind_first y ys vp) rest)
  where
    level : slice_cmp nat_cmp x y ≡ Equal
    level = tied (slice_cmp nat_cmp x y) (slice_cmp nat_cmp y x) (nat_list_cmp_total.antisymm x y) (first_before y ys x vp (first_there x xs (y ∷ ys) (same x))) (first_before x xs y up (first_there y ys (x ∷ xs) (sym (same y))))

    e : x ≡ y
    e = (bytes_eq-Decides x y).0 (sym (is_eq-slice_cmp x y) ∙ ap is_eq level)

    rest : (z : Path) → count z xs ≡ count z ys
    rest z =
        let a = count_cons z x xs in
        let b = count_cons z y ys in
        let c : one_at z x ≡ one_at z y = ap (one_at z) e in
        let d = same z in
        omega (arith, a, b, c, d)

-- the same paths, in order of bytes both times
pub one_order : (paths ordered others : List Path) → InOrder paths ordered → InOrder paths others → ordered ≡ others
one_order paths ordered others h g = as_often ordered others h.rising g.rising (λ y. sum_by-IsPermutation (one_at y) paths ordered h.same ∙ sym (sum_by-IsPermutation (one_at y) paths others g.same))
