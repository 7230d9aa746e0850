-- The paths of the files that stand.
use Rattle.std.proofs.Common.{◌≡◌, ◌⊎◌, inl, inr, ℕ, ◌+◌, Bool, true, false, cond, List, [], ◌∷◌, length, refl, sym, ◌∙◌, ap, arith}
use Rattle.std.specs.Prelude.{sum_by}
use Rattle.std.proofs.lemmas.List.Sums.{sum_by-cons}
use Rattle.std.proofs.lemmas.Bool.{and_parts, and_from}
use Rattle.lr_rules.specs.declared.path.Path.{Path}
use Rattle.lr_host.specs.declared.thing.Thing.{Thing}
use Rattle.lr_host.specs.declared.thing.Thing.TheVariants as thing
use Rattle.lr_host.specs.Lists.{IsIn, AreDistinct, IsNotIn}
use Rattle.lr_host.specs.World.{World, Past, world, names}
use Rattle.lr_host.specs.Sets.{LogSet}
use Rattle.lr_disk.specs.Pairs.{keys}
use Rattle.lr_nights.specs.declared.standing.Standing.{Standing}
use Rattle.lr_nights.specs.Summary.{in_one, size_named}
use Rattle.lr_nights.specs.Walk.{IsStanding, is_regular, stands, count_one, bytes_one}
use Rattle.lr_nights.proofs.Generations.{AreNames, in_pairs, from_pair}

-- the paths of the files that stand
abbrev pub paths_in : List LogSet → List (Path × Thing) → List Path
paths_in sets [] = []
paths_in sets (n ∷ ns) = cond (stands sets n) (n.0 ∷ paths_in sets ns) (paths_in sets ns)

counted : (sets : List LogSet) (ns : List (Path × Thing)) → sum_by (count_one sets) ns ≡ length (paths_in sets ns)
counted sets [] = refl
counted sets (n ∷ ns) = sum_by-cons (count_one sets) n ns ∙ go (stands sets n) (counted sets ns)
  where
    go : (b : Bool) → sum_by (count_one sets) ns ≡ length (paths_in sets ns) → cond b 1 0 + sum_by (count_one sets) ns ≡ length (cond b (n.0 ∷ paths_in sets ns) (paths_in sets ns))
    go true e = omega arith
    go false e = omega arith

summed : (sets : List LogSet) (w : World) (ns : List (Path × Thing)) → ((n : Path × Thing) → IsIn n ns → names w n.0 ≡ n.1) → sum_by (bytes_one w sets) ns ≡ sum_by (λ (x : Path). size_named w (names w x)) (paths_in sets ns)
summed sets w [] each = refl
summed sets w (n ∷ ns) each = sum_by-cons (bytes_one w sets) n ns ∙ go (stands sets n) (summed sets w ns (λ m h. each m (inr h)))
  where
    size : Path → ℕ
    size x = size_named w (names w x)

    go : (b : Bool) → sum_by (bytes_one w sets) ns ≡ sum_by size (paths_in sets ns) → cond b (size_named w n.1) 0 + sum_by (bytes_one w sets) ns ≡ sum_by size (cond b (n.0 ∷ paths_in sets ns) (paths_in sets ns))
    go true e = ap (λ (t : Thing). size_named w t + sum_by (bytes_one w sets) ns) (sym (each n (inl refl))) ∙ ap (λ (k : ℕ). size n.0 + k) e ∙ sym (sum_by-cons size n.0 (paths_in sets ns))
    go false e = omega arith

kept_in : (sets : List LogSet) (ns : List (Path × Thing)) (x : Path) → IsIn x (paths_in sets ns) → (n : Path × Thing) × IsIn n ns × (n.0 ≡ x) × (stands sets n ≡ true)
kept_in sets [] x h = absurd h
kept_in sets (n ∷ ns) x h = go (stands sets n) refl h (λ k. let r = kept_in sets ns x k in (r.0, inr r.1, r.2, r.3))
  where
    go : (b : Bool) → stands sets n ≡ b → IsIn x (cond b (n.0 ∷ paths_in sets ns) (paths_in sets ns)) → (IsIn x (paths_in sets ns) → (m : Path × Thing) × IsIn m (n ∷ ns) × (m.0 ≡ x) × (stands sets m ≡ true))
        → (m : Path × Thing) × IsIn m (n ∷ ns) × (m.0 ≡ x) × (stands sets m ≡ true)
    go true e (inl f) later = (n, inl refl, f, e)
    go true e (inr h) later = later h
    go false e h later = later h

keeps : (sets : List LogSet) (ns : List (Path × Thing)) (n : Path × Thing) → IsIn n ns → stands sets n ≡ true → IsIn n.0 (paths_in sets ns)
keeps sets [] n h s = absurd h
keeps sets (m ∷ ms) n h s = go (stands sets m) refl h (λ k. keeps sets ms n k s)
  where
    go : (b : Bool) → stands sets m ≡ b → (m ≡ n) ⊎ IsIn n ms → (IsIn n ms → IsIn n.0 (paths_in sets ms)) → IsIn n.0 (cond b (m.0 ∷ paths_in sets ms) (paths_in sets ms))
    go true e (inl f) later = inl (ap (λ (q : Path × Thing). q.0) f)
    go true e (inr h) later = inr (later h)
    go false e (inl f) later = let t : false ≡ true = sym e ∙ ap (stands sets) f ∙ s in absurd (cc)
    go false e (inr h) later = later h

not_kept : (sets : List LogSet) (ns : List (Path × Thing)) (x : Path) → IsNotIn x (keys ns) → IsNotIn x (paths_in sets ns)
not_kept sets [] x out = tt
not_kept sets (n ∷ ns) x out = go (stands sets n) (not_kept sets ns x out.1)
  where
    go : (b : Bool) → IsNotIn x (paths_in sets ns) → IsNotIn x (cond b (n.0 ∷ paths_in sets ns) (paths_in sets ns))
    go true later = (out.0, later)
    go false later = later

once : (sets : List LogSet) (ns : List (Path × Thing)) → AreDistinct (keys ns) → AreDistinct (paths_in sets ns)
once sets [] all = tt
once sets (n ∷ ns) all = go (stands sets n) (once sets ns all.1)
  where
    go : (b : Bool) → AreDistinct (paths_in sets ns) → AreDistinct (cond b (n.0 ∷ paths_in sets ns) (paths_in sets ns))
    go true later = (not_kept sets ns n.0 all.0, later)
    go false later = later

regular_file : (t : Thing) → is_regular t ≡ true → (g : ℕ) × (t ≡ thing.File g)
regular_file (thing.File g) h = (g, refl)
regular_file thing.Nothing h = absurd (cc)
regular_file thing.Directory h = absurd (cc)
regular_file thing.Other h = absurd (cc)

pub stand_all : (sets : List LogSet) (p : Past) (ns : List (Path × Thing)) (t : Standing) → AreNames ns (names (world p)) → t.files ≡ sum_by (count_one sets) ns → t.bytes ≡ sum_by (bytes_one (world p) sets) ns → IsStanding sets p t
stand_all sets p ns t are files bytes = record {
  paths = paths_in sets ns;
  are = record {
    once = once sets ns are.once;
    all = λ x. (
      (λ h. let r = kept_in sets ns x h in let b = and_parts (in_one sets r.0.0) (is_regular r.0.1) r.3 in let f = regular_file r.0.1 b.1 in ((f.0, ap (names (world p)) (sym r.2) ∙ from_pair ns (names (world p)) are r.0 r.1 ∙ f.1), ap (in_one sets) (sym r.2) ∙ b.0)),
      (λ h. keeps sets ns (x, thing.File h.0.0) (in_pairs ns (names (world p)) are x h.0.0 h.0.1) (and_from (in_one sets x) true h.1 refl)),
    );
  };
  files = files ∙ counted sets ns;
  bytes = bytes ∙ summed sets (world p) ns (λ n h. from_pair ns (names (world p)) are n h);
}
