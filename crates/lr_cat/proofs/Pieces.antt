-- Bytes that were read piece by piece of a file that only grew.
use Rattle.std.proofs.Common.{◌≡◌, ◌≤◌, inl, inr, ℕ, zero, suc, ◌+◌, List, [], ◌∷◌, ◌++◌, length, take, drop, refl, sym, ap, ◌∙◌, subst, arith, append_assoc, append-nil}
use Rattle.std.proofs.lemmas.List.{take-append-drop, length-append}
use Rattle.lr_rules.specs.declared.path.Path.{Path}
use Rattle.lr_rules.proofs.Heads.{heads, tails}
use Rattle.lr_host.specs.declared.entry.Entry.{Entry}
use Rattle.lr_host.specs.declared.entry.Entry.TheVariants.{Reads}
use Rattle.lr_host.specs.Lists.{IsIn}
use Rattle.lr_host.specs.Reading.{IsReadOf, AreJoined, text}
use Rattle.lr_host.specs.Told.{Each}

-- ---- a piece of some bytes is one of those and more

first_part : (piece early later : List ℕ) → piece ≡ take (length piece) early → piece ≡ take (length piece) (early ++ later)
first_part [] early later is = refl
first_part (b ∷ bs) [] later is = absurd (cc)
first_part (b ∷ bs) (e ∷ es) later is = ap (λ (h : ℕ). h ∷ bs) (heads b e bs (take (length bs) es) is) ∙ ap (λ (t : List ℕ). e ∷ t) (first_part bs es later (tails b e bs (take (length bs) es) is))

none_of_none : (piece : List ℕ) → piece ≡ take (length piece) [] → piece ≡ []
none_of_none [] is = refl
none_of_none (b ∷ bs) is = absurd (cc)

pub piece_of_more : (k : ℕ) (piece early later : List ℕ) → piece ≡ take (length piece) (drop k early) → piece ≡ take (length piece) (drop k (early ++ later))
piece_of_more zero piece early later is = first_part piece early later is
piece_of_more (suc k) piece [] later is = let none = none_of_none piece is in subst (λ (p : List ℕ). p ≡ take (length p) (drop (suc k) later)) (sym none) refl
piece_of_more (suc k) piece (e ∷ es) later is = piece_of_more k piece es later is

-- ---- pieces one behind another

none_dropped : (n : ℕ) → drop {A = ℕ} n [] ≡ []
none_dropped zero = refl
none_dropped (suc n) = refl

drop_on : (k n : ℕ) (xs : List ℕ) → drop n (drop k xs) ≡ drop (k + n) xs
drop_on zero n xs = let e : n ≡ 0 + n = omega arith in ap (λ (m : ℕ). drop m xs) e
drop_on (suc k) n [] = none_dropped n ∙ sym (none_dropped (suc k + n))
drop_on (suc k) n (x ∷ xs) = let e : suc (k + n) ≡ suc k + n = omega arith in drop_on k n xs ∙ ap (λ (m : ℕ). drop m (x ∷ xs)) e

-- each read gave what stands at its place among these bytes
abbrev pub GivesOf : Path → List ℕ → List Entry → Type 0
GivesOf x all ts = (from : ℕ) (piece : List ℕ) → IsIn (Reads x from piece) ts → piece ≡ take (length piece) (drop from all)

pub pieces_are : (x : Path) (all : List ℕ) (k : ℕ) (ts : List Entry) → Each (IsReadOf x) ts → AreJoined k ts → GivesOf x all ts → (rest : List ℕ) × (drop k all ≡ text ts ++ rest)
pieces_are x all k [] only joined gives = (drop k all, refl)
pieces_are x all k (Reads y from piece ∷ ts) only joined gives = go (pieces_are x all (k + length piece) ts only.1 joined.1 (λ f p i. gives f p (inr i)))
  where
    here : piece ≡ take (length piece) (drop k all)
    here = subst (λ (f : ℕ). piece ≡ take (length piece) (drop f all)) joined.0 (gives from piece (inl (ap (λ (z : Path). Reads z from piece) only.0)))

    is : drop k all ≡ piece ++ drop (length piece) (drop k all)
    is = sym (take-append-drop (length piece) (drop k all)) ∙ ap (λ (bs : List ℕ). bs ++ drop (length piece) (drop k all)) (sym here)

    go : (rest : List ℕ) × (drop (k + length piece) all ≡ text ts ++ rest) → (rest : List ℕ) × (drop k all ≡ (piece ++ text ts) ++ rest)
    go r = (r.0, is ∙ (ap (λ (bs : List ℕ). piece ++ bs) (drop_on k (length piece) all ∙ r.1) ∙ sym (append_assoc piece (text ts) r.0)))
pieces_are x all k (_ ∷ ts) only joined gives = absurd only.0

-- ---- two first parts of the same bytes

-- the longer one has the other first
pub longer_has : (a m b n : List ℕ) → a ++ m ≡ b ++ n → length a ≤ length b → (more : List ℕ) × (b ≡ a ++ more)
longer_has [] m b n is le = (b, refl)
longer_has (x ∷ a) m [] n is le = absurd (omega (arith, le))
longer_has (x ∷ a) m (y ∷ b) n is le =
    let r = longer_has a m b n (tails x y (a ++ m) (b ++ n) is) (omega (arith, le)) in
    (r.0, ap (λ (z : ℕ). z ∷ b) (sym (heads x y (a ++ m) (b ++ n) is)) ∙ ap (λ (bs : List ℕ). x ∷ bs) r.1)

-- what lies between two equal ones is nothing
pub nothing_more : (a more later : List ℕ) → (a ++ more) ++ later ≡ a → a ++ more ≡ a
nothing_more a more later is = ap (λ (bs : List ℕ). a ++ bs) (empty more (let s = ap length is in let l = length-append (a ++ more) later in let m = length-append a more in omega (arith, s, l, m))) ∙ append-nil a
  where
    empty : (xs : List ℕ) → length xs ≤ 0 → xs ≡ []
    empty [] le = refl
    empty (y ∷ ys) le = absurd (omega (arith, le))
