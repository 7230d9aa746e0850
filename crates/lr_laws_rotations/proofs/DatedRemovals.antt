-- Each removal of a dated rotation is a step of it.
use Rattle.std.proofs.Common.{◌≡◌, inl, inr, ⊎_elim, ℕ, suc, ◌≤◌, Bool, true, false, cond, ◌||◌, refl, sym, ◌∙◌, subst, arith, Option, Some, List, [], ◌∷◌, ◌++◌, length, map, ℤ, ◌<ℤ◌}
use Rattle.std.proofs.lemmas.Bool.{leb-true, or_cases}
use Rattle.lr_rules.specs.declared.path.Path.{Path}
use Rattle.lr_rules.specs.declared.rule.Count.{Count}
use Rattle.lr_rules.specs.declared.rule.Count.TheVariants as count
use Rattle.lr_host.specs.declared.entry.Entry.{Entry}
use Rattle.lr_host.specs.declared.entry.Entry.TheVariants.{Unlinks}
use Rattle.lr_host.specs.Lists.{IsNotIn, AreDistinct}
use Rattle.lr_host.specs.World.{Names, names_after, Past, world, names}
use Rattle.lr_host.specs.Fits.{IsFileAt}
use Rattle.lr_host.specs.Steps.{changes_of}
use Rattle.lr_host.specs.Sets.{LogSet, AreLaterMembers}
use Rattle.lr_host.specs.Runs.{rules_of, SomeRule}
use Rattle.lr_laws.specs.Rotation.{IsPastAge}
use Rattle.lr_laws.specs.DatedRotation.{IsPastLater, turned_behind, IsDatedStep, IsDatedRotationBy}
use Rattle.lr_chain.specs.DatedRotation.{Ranked, key_of, gone, unlink, AreBelow, AreFalling}
use Rattle.lr_chain.specs.Rotation.{is_left}
use Rattle.lr_chain.specs.DatedTurning.{AreFiles}
use Rattle.lr_chain.proofs.DatedFalling.{trans, IsOne, AreKeyed, AreOthers, key_apart, below_more, others_by, others_gone, unlinked_same}

-- those that were seen too old are, under these names, by a look of this run
abbrev pub AreOld : LogSet → Past → Names → List Ranked → Type 0
AreOld s p n [] = Unit {0}
AreOld s p n (m ∷ ms) = (m.old ≡ true → IsPastAge s p n m.path) × AreOld s p n ms

turned_unlinks : (s : LogSet) (turned : Bool) (base : List Entry) (xs : List Ranked) → turned_behind s turned (map unlink xs ++ base) ≡ turned_behind s turned base
turned_unlinks s turned base [] = refl
turned_unlinks s turned base (x ∷ xs) = turned_unlinks s turned base xs

-- ---- each removal is a step

-- the key of a set
abbrev pub HasKey : LogSet → Path → ℤ → Type 0
HasKey s x k = s.key x ≡ Some k

pub one_key : (s : LogSet) → IsOne (HasKey s)
one_key s x t u p q = go (s.key x) p q
  where
    go : (o : Option ℤ) → o ≡ Some t → o ≡ Some u → t ≡ u
    go o p q = cc

-- these are later than the first of those
abbrev pub AreLaterThan : LogSet → Names → List Path → List Ranked → Type 0
AreLaterThan s n ys [] = Unit {0}
AreLaterThan s n ys (m ∷ ms) = AreLaterMembers s.key n (key_of m) ys

later_down : (s : LogSet) (n : Names) (t u : ℤ) (ys : List Path) → t <ℤ u → AreLaterMembers s.key n u ys → AreLaterMembers s.key n t ys
later_down s n t u [] lt a = tt
later_down s n t u (y ∷ ys) lt a = ((a.0.0, (a.0.1.0, a.0.1.1, trans t u a.0.1.0 lt a.0.1.2)), later_down s n t u ys lt a.1)

not_in : (s : LogSet) (n : Names) (x : Path) (t : ℤ) (ys : List Path) → s.key x ≡ Some t → AreLaterMembers s.key n t ys → IsNotIn x ys
not_in s n x t [] k a = tt
not_in s n x t (y ∷ ys) k a = ((λ e. key_apart (HasKey s) x y t a.0.1.0 (one_key s) k a.0.1.1 a.0.1.2 e), not_in s n x t ys k a.1)

next_later : (s : LogSet) (n : Names) (m : Ranked) (ys : List Path) (ms : List Ranked) → s.key m.path ≡ Some (key_of m) → IsFileAt n m.path → AreBelow (key_of m) ms → AreLaterMembers s.key n (key_of m) ys → AreLaterThan s n (m.path ∷ ys) ms
next_later s n m ys [] k f b a = tt
next_later s n m ys (x ∷ ms) k f b a = ((f, (key_of m, k, b.0)), later_down s n (key_of x) (key_of m) ys b.0 a)

-- later members are among none of the removed
later_kept : (s : LogSet) (n m : Names) (t : ℤ) (ms : List Ranked) (ys : List Path) → AreBelow t ms → AreKeyed (HasKey s) ms → ((y : Path) → AreOthers y ms → m y ≡ n y) → AreLaterMembers s.key n t ys → AreLaterMembers s.key m t ys
later_kept s n m t ms [] b h same a = tt
later_kept s n m t ms (y ∷ ys) b h same a = (((a.0.0.0, same y (others_by (HasKey s) y a.0.1.0 ms (one_key s) a.0.1.1 (below_more t a.0.1.0 ms a.0.1.2 b) h) ∙ a.0.0.1), a.0.1), later_kept s n m t ms ys b h same a.1)

left_count : (c : Count) (i : ℕ) → is_left c i ≡ true → (n : ℕ) × (c ≡ count.Keep n) × (n ≤ i)
left_count (count.Keep n) i e = (n, refl, leb-true n i e)
left_count count.Always i e = absurd (cc)

-- Down the members, those that were passed are the later ones of each that goes.
pub removals_rotate : (s : LogSet) (p : Past) (newest : ℤ) (turned : Bool) (c : Count) (base : List Entry) → turned_behind s turned base ≡ true → IsDatedRotationBy s p newest turned base → SomeRule (rules_of p) s.log (λ r. r.count ≡ c)
    → (ms : List Ranked) (i : ℕ) (ys : List Path) → length ys ≡ i → AreDistinct ys → AreLaterThan s (names_after (names (world p)) (changes_of base)) ys ms → AreFalling ms → AreKeyed (HasKey s) ms
    → AreFiles (names_after (names (world p)) (changes_of base)) ms → AreOld s p (names_after (names (world p)) (changes_of base)) ms → IsDatedRotationBy s p newest turned (map unlink (gone c i ms) ++ base)
removals_rotate s p newest turned c base tb rot rule [] i ys size d later fall keyed files old = rot
removals_rotate s p newest turned c base tb rot rule (m ∷ ms) i ys size d later fall keyed files old =
    go (is_left c i || m.old) refl (removals_rotate s p newest turned c base tb rot rule ms (suc i) (m.path ∷ ys) (omega arith) (not_in s n m.path (key_of m) ys keyed.0 later, d) (next_later s n m ys ms keyed.0 files.0 fall.0 later) fall.1 keyed.1 files.1 old.1)
  where
    n : Names
    n = names_after (names (world p)) (changes_of base)

    es : List Entry
    es = map unlink (gone c (suc i) ms) ++ base

    same : (y : Path) → AreOthers y ms → names_after (names (world p)) (changes_of (map unlink (gone c (suc i) ms) ++ base)) y ≡ names_after (names (world p)) (changes_of base) y
    same y h = unlinked_same (names (world p)) base y (gone c (suc i) ms) (others_gone c (suc i) y ms h)

    mine : AreOthers m.path ms
    mine = others_by (HasKey s) m.path (key_of m) ms (one_key s) keyed.0 fall.0 keyed.1

    many : is_left c i ≡ true → IsPastLater s p (names_after (names (world p)) (changes_of (map unlink (gone c (suc i) ms) ++ base))) (key_of m)
    many l = let q = left_count c i l in record {
      count = q.0;
      rule = subst (λ (k : Count). SomeRule (rules_of p) s.log (λ r. r.count ≡ k)) q.1 rule;
      later = ys;
      distinct = d;
      each = later_kept s (names_after (names (world p)) (changes_of base)) (names_after (names (world p)) (changes_of (map unlink (gone c (suc i) ms) ++ base))) (key_of m) ms ys fall.0 keyed.1 same later;
      enough = let j : q.0 ≤ i = q.2 in omega (arith, size);
    }

    aged : m.old ≡ true → IsPastAge s p (names_after (names (world p)) (changes_of (map unlink (gone c (suc i) ms) ++ base))) m.path
    aged o g is = old.0 o g (sym (same m.path mine) ∙ is)

    step : (is_left c i || m.old) ≡ true → IsDatedStep s p newest (names_after (names (world p)) (changes_of (map unlink (gone c (suc i) ms) ++ base))) (turned_behind s turned (map unlink (gone c (suc i) ms) ++ base)) (Unlinks m.path)
    step e = inr (turned_unlinks s turned base (gone c (suc i) ms) ∙ tb, key_of m, keyed.0, ⊎_elim (λ l. inl (many l)) (λ o. inr (aged o)) (or_cases (is_left c i) m.old e))

    go : (b : Bool) → (is_left c i || m.old) ≡ b → IsDatedRotationBy s p newest turned (map unlink (gone c (suc i) ms) ++ base) → IsDatedRotationBy s p newest turned (map unlink (cond b (m ∷ gone c (suc i) ms) (gone c (suc i) ms)) ++ base)
    go true e rest = (rest, inr (step e))
    go false e rest = rest
