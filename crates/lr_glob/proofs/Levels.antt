-- How deep a directory stands, and that names lead from different directories to different paths, all as deep as one another.
use Rattle.std.proofs.Common.{◌≡◌, ℕ, zero, suc, ◌+◌, ◌≤◌, Bool, true, false, cond, nat_eq, List, [], ◌∷◌, ◌++◌, length, length-append, refl, sym, ap, ◌∙◌, subst, arith}
use Rattle.std.specs.List.{list_any}
use Rattle.std.proofs.lemmas.Bool.{false_from_ne_true, or_parts}
use Rattle.std.proofs.lemmas.Bool.Decides.{Decides-eqb}
use Rattle.std.proofs.lemmas.List.{append_cancel_right}
use Rattle.lr_rules.specs.declared.path.Path.{Path}
use Rattle.lr_rules.specs.Path.{joined, is_slash, last_of, root}
use Rattle.lr_rules.proofs.PathLemmas.{last_joined}
use Rattle.lr_rules.proofs.Joined.{joined_long}
use Rattle.lr_host.specs.Fits.{IsPart}

abbrev pub slashes : List ℕ → ℕ
slashes [] = 0
slashes (b ∷ bs) = cond (is_slash b) (suc (slashes bs)) (slashes bs)

slashes_both : (xs ys : List ℕ) → slashes (xs ++ ys) ≡ slashes xs + slashes ys
slashes_both [] ys = omega arith
slashes_both (x ∷ xs) ys = go (is_slash x) (slashes_both xs ys)
  where
    go : (b : Bool) → slashes (xs ++ ys) ≡ slashes xs + slashes ys → cond b (suc (slashes (xs ++ ys))) (slashes (xs ++ ys)) ≡ cond b (suc (slashes xs)) (slashes xs) + slashes ys
    go true e = omega (arith, e)
    go false e = e

no_slashes : (name : List ℕ) → list_any is_slash name ≡ false → slashes name ≡ 0
no_slashes [] plain = refl
no_slashes (b ∷ bs) plain = let p = or_parts (is_slash b) (list_any is_slash bs) plain in ap (λ s. cond s (suc (slashes bs)) (slashes bs)) p.0 ∙ no_slashes bs p.1

-- the directory stands so many levels below `/`
abbrev pub IsAt : ℕ → Path → Type 0
IsAt zero d = d ≡ root
IsAt (suc k) d = (nat_eq (length d) 1 ≡ false) × (slashes d ≡ suc k)

root_or_long : (d : Path) → d ≡ root → nat_eq (length d) 1 ≡ false → ⊥
root_or_long d e long = let t = ap (λ (x : Path). nat_eq (length x) 1) e in cc

-- at one level alone
pub at_one : (k j : ℕ) (d : Path) → IsAt k d → IsAt j d → k ≡ j
at_one zero zero d a b = refl
at_one zero (suc j) d a b = absurd (root_or_long d a b.0)
at_one (suc k) zero d a b = absurd (root_or_long d b a.0)
at_one (suc k) (suc j) d a b = sym a.1 ∙ b.1

-- the level to which a name leads from this one; no byte leads from `/` to `/`
abbrev pub level_of : ℕ → List ℕ → ℕ
level_of zero [] = 0
level_of zero (b ∷ bs) = suc (slashes (b ∷ bs))
level_of (suc k) name = suc (suc k + slashes name)

pub level_on : (k : ℕ) (name : List ℕ) → k ≤ level_of k name
level_on zero [] = omega arith
level_on zero (b ∷ bs) = omega arith
level_on (suc k) name = omega arith

pub level_next : (k : ℕ) (name : List ℕ) → IsPart name → level_of k name ≡ suc k
level_next zero [] part = let t = part.0 in absurd (cc)
level_next zero (b ∷ bs) part = ap suc (no_slashes (b ∷ bs) part.1)
level_next (suc k) name part = let s = no_slashes name part.1 in omega (arith, s)

not_one : (n : ℕ) → 1 ≤ n → (n ≡ 1 → ⊥) → nat_eq n 1 ≡ false
not_one n more other = false_from_ne_true (nat_eq n 1) (λ t. other ((Decides-eqb n 1).0 t))

some_byte : (d : Path) (k : ℕ) → slashes d ≡ suc k → 1 ≤ length d
some_byte [] k e = absurd (omega (arith, e))
some_byte (b ∷ bs) k e = omega arith

pub joined_at : (k : ℕ) (d : Path) (name : List ℕ) → IsAt k d → IsAt (level_of k name) (joined d name)
joined_at zero d [] a = ap (λ (x : Path). joined x []) a
joined_at zero d (b ∷ bs) a = subst (λ (x : Path). IsAt (suc (slashes (b ∷ bs))) (joined x (b ∷ bs))) (sym a) (not_one (length (47 ∷ b ∷ bs)) (omega arith) (λ e. omega (arith, e)), refl)
joined_at (suc k) d name a = subst (λ (x : Path). IsAt (suc (suc k + slashes name)) x) (sym (joined_long d name a.0)) (long, deep)
  where
    long : nat_eq (length (d ++ 47 ∷ name)) 1 ≡ false
    long =
        let size = length-append d (47 ∷ name) in
        let some = some_byte d k a.1 in
        not_one (length (d ++ 47 ∷ name)) (omega (arith, size)) (λ e. omega (arith, size, some, e))

    deep : slashes (d ++ 47 ∷ name) ≡ suc (suc k + slashes name)
    deep = let both = slashes_both d (47 ∷ name) in let here = a.1 in omega (arith, both, here)

pub part_at : (k : ℕ) (d : Path) (name : List ℕ) → IsPart name → IsAt k d → IsAt (suc k) (joined d name)
part_at k d name part a = subst (λ j. IsAt j (joined d name)) (level_next k name part) (joined_at k d name a)

-- the same name leads to one path from one directory of a level alone
pub dirs_same : (k : ℕ) (d e : Path) (name : List ℕ) → IsAt k d → IsAt k e → joined d name ≡ joined e name → d ≡ e
dirs_same zero d e name a b h = a ∙ sym b
dirs_same (suc k) d e name a b h = append_cancel_right d e (47 ∷ name) (sym (joined_long d name a.0) ∙ (h ∙ joined_long e name b.0))

-- different names lead to different paths
pub names_same : (d e : Path) (n m : List ℕ) → IsPart n → IsPart m → joined d n ≡ joined e m → n ≡ m
names_same d e n m p q h = sym (last_joined d n p.1) ∙ (ap (λ x. last_of x) h ∙ last_joined e m q.1)

pub both_same : (k : ℕ) (d e : Path) (n m : List ℕ) → IsAt k d → IsAt k e → IsPart n → IsPart m → joined d n ≡ joined e m → d ≡ e
both_same k d e n m a b p q h = dirs_same k d e n a b (h ∙ ap (joined e) (sym (names_same d e n m p q h)))
