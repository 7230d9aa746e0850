-- Marks, and the files that they mark.
use Rattle.std.proofs.Common.{◌≡◌, inl, inr, ℕ, zero, suc, ◌<◌, ◌+◌, Bool, true, false, not, ◌&&◌, List, [], ◌∷◌, length, refl, sym, ◌∙◌, ap, subst, arith}
use Rattle.std.specs.Prelude.{◌↔◌, count_by, filter}
use Rattle.std.proofs.lemmas.List.Sums.{length-filter}
use Rattle.std.proofs.lemmas.Bool.{and_parts, and_from, not-true}
use Rattle.lr_rules.specs.declared.path.Path.{Path}
use Rattle.lr_host.specs.declared.thing.Thing.{Thing}
use Rattle.lr_host.specs.World.{Past, world, names}
use Rattle.lr_host.specs.Sets.{LogSet}
use Rattle.lr_host.specs.Lists.{IsIn, AreDistinct, IsNotIn}
use Rattle.lr_nights.specs.Summary.{IsGenerationOfOne, IsGone}
use Rattle.lr_nights.specs.Marks.{is_marked, has_name}
use Rattle.lr_nights.specs.Walk.{AreGone}
use Rattle.lr_nights.proofs.Generations.{AreNames, unnamed_is}

-- the places of the marks, the first of which has this number
abbrev pub marked_from : ℕ → List Bool → List ℕ
marked_from n [] = []
marked_from n (true ∷ ms) = n ∷ marked_from (suc n) ms
marked_from n (false ∷ ms) = marked_from (suc n) ms

pub marked_in : (n : ℕ) (ms : List Bool) (g : ℕ) → IsIn g (marked_from n ms) → (k : ℕ) × (g ≡ n + k) × (is_marked ms k ≡ true)
marked_in n [] g h = absurd h
marked_in n (true ∷ ms) g (inl e) = (0, (let f : n ≡ n + 0 = omega arith in sym e ∙ f), refl)
marked_in n (true ∷ ms) g (inr h) = let r = marked_in (suc n) ms g h in (suc r.0, (let e : g ≡ suc n + r.0 = r.1 in let f : g ≡ n + suc r.0 = omega arith in f), r.2)
marked_in n (false ∷ ms) g h = let r = marked_in (suc n) ms g h in (suc r.0, (let e : g ≡ suc n + r.0 = r.1 in let f : g ≡ n + suc r.0 = omega arith in f), r.2)

pub marked_there : (n : ℕ) (ms : List Bool) (k g : ℕ) → g ≡ n + k → is_marked ms k ≡ true → IsIn g (marked_from n ms)
marked_there n [] zero g e h = absurd (cc)
marked_there n [] (suc k) g e h = absurd (cc)
marked_there n (true ∷ ms) zero g e h = inl (let f : n ≡ g = omega arith in f)
marked_there n (true ∷ ms) (suc k) g e h = inr (marked_there (suc n) ms k g (omega arith) h)
marked_there n (false ∷ ms) zero g e h = absurd (cc)
marked_there n (false ∷ ms) (suc k) g e h = marked_there (suc n) ms k g (omega arith) h

not_before : (n : ℕ) (ms : List Bool) (g : ℕ) → g < n → IsNotIn g (marked_from n ms)
not_before n [] g lt = tt
not_before n (true ∷ ms) g lt = ((λ e. let f : g ≡ n = e in absurd (omega arith)), not_before (suc n) ms g (omega arith))
not_before n (false ∷ ms) g lt = not_before (suc n) ms g (omega arith)

pub marked_once : (n : ℕ) (ms : List Bool) → AreDistinct (marked_from n ms)
marked_once n [] = tt
marked_once n (true ∷ ms) = (not_before (suc n) ms n (omega arith), marked_once (suc n) ms)
marked_once n (false ∷ ms) = marked_once (suc n) ms

filtered : (n : ℕ) (ms : List Bool) → length (filter (λ (m : Bool). m) ms) ≡ length (marked_from n ms)
filtered n [] = refl
filtered n (true ∷ ms) = let e = filtered (suc n) ms in omega arith
filtered n (false ∷ ms) = filtered (suc n) ms

marks_counted : (n : ℕ) (ms : List Bool) → count_by (λ (m : Bool). m) ms ≡ length (marked_from n ms)
marks_counted n ms = sym (length-filter (λ (m : Bool). m) ms) ∙ filtered n ms

-- the generations whose marks are left are gone
pub gone_all : (sets : List LogSet) (p : Past) (ns : List (Path × Thing)) (old ms : List Bool) (count : ℕ) → AreNames ns (names (world p)) → ((g : ℕ) → (is_marked old g ≡ true) ↔ IsGenerationOfOne sets p g)
    → ((g : ℕ) → is_marked ms g ≡ (is_marked old g && not (has_name ns g))) → count ≡ count_by (λ (m : Bool). m) ms → AreGone sets p count
gone_all sets p ns old ms count are marked left counted = record {
  gone = marked_from 0 ms;
  are = record { once = marked_once 0 ms; all = λ g. ((λ h. forth g (marked_in 0 ms g h)), (λ h. marked_there 0 ms g g (omega arith) (back g h))) };
  count_is = counted ∙ marks_counted 0 ms;
}
  where
    forth : (g : ℕ) → (k : ℕ) × (g ≡ 0 + k) × (is_marked ms k ≡ true) → IsGone sets p g
    forth g (k, e, h) =
        let same : k ≡ g = omega arith in
        let b = and_parts (is_marked old g) (not (has_name ns g)) (sym (left g) ∙ subst (λ (i : ℕ). is_marked ms i ≡ true) same h) in
        ((marked g).0 b.0, (unnamed_is ns (names (world p)) are g).0 (not-true (has_name ns g) b.1))

    back : (g : ℕ) → IsGone sets p g → is_marked ms g ≡ true
    back g h = left g ∙ and_from (is_marked old g) (not (has_name ns g)) ((marked g).1 h.0) (ap not ((unnamed_is ns (names (world p)) are g).1 h.1))
