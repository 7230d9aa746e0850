-- Different later members are no more than the names that have a later stamp.
use Rattle.std.proofs.Common.{◌≡◌, ◌⊎◌, inl, inr, ℕ, suc, ◌≤◌, Bool, true, false, cond, refl, sym, ap, subst, arith, Option, Some, bytes_eq, ℤ, ◌<ℤ◌, T, int_lt, ◌∙◌, List, [], ◌∷◌, length}
use Rattle.std.proofs.lemmas.Slice.Eq.{bytes_eq-Decides}
use Rattle.lr_rules.specs.declared.path.Path.{Path}
use Rattle.lr_host.specs.World.{named_at_first}
use Rattle.lr_host.specs.Lists.{IsNotIn, AreDistinct}
use Rattle.lr_host.specs.Later.{count_later, is_later}
use Rattle.lr_host.specs.declared.thing.Thing.TheVariants as thing

abbrev pub EachIn : (Path → Type 0) → List Path → Type 0
EachIn P [] = Unit {0}
EachIn P (y ∷ ys) = P y × EachIn P ys

-- the list without this element of it
pub record Taken (P : Path → Type 0) (x : Path) (ys : List Path) : Type 0 where
  pub rest : List Path
  pub size : length ys ≡ suc (length rest)
  pub distinct : AreDistinct rest
  pub apart : IsNotIn x rest
  pub each : EachIn P rest
  pub here : P x
  pub fewer : (z : Path) → IsNotIn z ys → IsNotIn z rest

pub taken : (P : Path → Type 0) (x : Path) (ys : List Path) → AreDistinct ys → EachIn P ys → IsNotIn x ys ⊎ Taken P x ys
taken P x [] d a = inl tt
taken P x (y ∷ ys) d a = go (taken P x ys d.1 a.1) (bytes_eq x y) refl
  where
    go : IsNotIn x ys ⊎ Taken P x ys → (b : Bool) → bytes_eq x y ≡ b → IsNotIn x (y ∷ ys) ⊎ Taken P x (y ∷ ys)
    go r true q =
        let same : y ≡ x = sym ((bytes_eq-Decides x y).0 q) in
        inr (record { rest = ys; size = refl; distinct = d.1; apart = subst (λ (z : Path). IsNotIn z ys) same d.0; each = a.1; here = subst P same a.0; fewer = λ z n. n.1 })
    go (inl n) false q = inl ((λ same. let t : bytes_eq x y ≡ true = (bytes_eq-Decides x y).1 same in cc), n)
    go (inr t) false q = inr (record {
      rest = y ∷ t.rest;
      size = ap suc t.size;
      distinct = (t.fewer y d.0, t.distinct);
      apart = ((λ same. let h : bytes_eq x y ≡ true = (bytes_eq-Decides x y).1 same in cc), t.apart);
      each = (a.0, t.each);
      here = t.here;
      fewer = λ z n. (n.0, t.fewer z n.1);
    })

-- later, and one of these names
abbrev pub IsListed : (Path → Option ℤ) → ℤ → List (Path × ℕ) → Path → Type 0
IsListed key t ns y = ((u : ℤ) × (key y ≡ Some u) × (t <ℤ u)) × ((f : ℕ) × (named_at_first ns y ≡ thing.File f))

pub is_so : (b : Bool) → T b → b ≡ true
is_so true t = refl
is_so false t = absurd t

counts_one : (t u : ℤ) (v : Option ℤ) → v ≡ Some u → t <ℤ u → cond {A = ℕ} (is_later t v) 1 0 ≡ 1
counts_one t u v q lt = ap (λ (b : Bool). cond {A = ℕ} b 1 0) (ap (is_later t) q ∙ is_so (int_lt t u) lt.lt)

behind : (key : Path → Option ℤ) (t : ℤ) (n : Path × ℕ) (ns : List (Path × ℕ)) (ys : List Path) → IsNotIn n.0 ys → EachIn (IsListed key t (n ∷ ns)) ys → EachIn (IsListed key t ns) ys
behind key t n ns [] d a = tt
behind key t n ns (y ∷ ys) d a = ((a.0.0, (a.0.1.0, go (bytes_eq n.0 y) refl a.0.1.1)), behind key t n ns ys d.1 a.1)
  where
    go : (b : Bool) → bytes_eq n.0 y ≡ b → cond b (thing.File n.1) (named_at_first ns y) ≡ thing.File a.0.1.0 → named_at_first ns y ≡ thing.File a.0.1.0
    go true q i = absurd (d.0 ((bytes_eq-Decides n.0 y).0 q))
    go false q i = i

pub pigeons : (key : Path → Option ℤ) (t : ℤ) (ns : List (Path × ℕ)) (ys : List Path) → AreDistinct ys → EachIn (IsListed key t ns) ys → length ys ≤ count_later key t ns
pigeons key t [] [] d a = omega arith
pigeons key t [] (y ∷ ys) d a = absurd (cc a.0.1.1)
pigeons key t (n ∷ ns) ys d a = go (λ zs d a. pigeons key t ns zs d a) (taken (IsListed key t (n ∷ ns)) n.0 ys d a)
  where
    go : ((zs : List Path) → AreDistinct zs → EachIn (IsListed key t ns) zs → length zs ≤ count_later key t ns) → IsNotIn n.0 ys ⊎ Taken (IsListed key t (n ∷ ns)) n.0 ys → length ys ≤ count_later key t (n ∷ ns)
    go rest (inl apart) = let i : length ys ≤ count_later key t ns = rest ys d (behind key t n ns ys apart a) in omega arith
    go rest (inr k) =
        let i : length k.rest ≤ count_later key t ns = rest k.rest k.distinct (behind key t n ns k.rest k.apart k.each) in
        let one : cond {A = ℕ} (is_later t (key n.0)) 1 0 ≡ 1 = counts_one t k.here.0.0 (key n.0) k.here.0.1 k.here.0.2 in
        let s : length ys ≡ suc (length k.rest) = k.size in
        omega arith
