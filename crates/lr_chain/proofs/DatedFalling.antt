-- The removals of a dated rotation, one behind the other: they fit, and what they make of the names.
use Rattle.std.proofs.Common.{◌≡◌, ℕ, suc, Bool, true, false, cond, ◌||◌, refl, sym, ◌∙◌, ap, subst, arith, List, [], ◌∷◌, ◌++◌, map, ℤ, ◌<ℤ◌}
use Rattle.std.proofs.lemmas.Int.{ints}
use Rattle.std.proofs.lemmas.Slice.Eq.{bytes_eq-Decides}
use Rattle.lr_rules.specs.declared.path.Path.{Path}
use Rattle.lr_rules.specs.declared.rule.Count.{Count}
use Rattle.lr_host.specs.declared.thing.Thing.TheVariants as thing
use Rattle.lr_host.specs.declared.entry.Entry.{Entry}
use Rattle.lr_host.specs.World.{Names, Drops, changed, names_after}
use Rattle.lr_host.specs.Steps.{changes_of, FitAll}
use Rattle.lr_host.proofs.Names.{put_other}
use Rattle.lr_chain.specs.DatedRotation.{Ranked, key_of, gone, unlink, AreBelow, AreFalling}
use Rattle.lr_chain.specs.Rotation.{is_left}
use Rattle.lr_chain.specs.DatedTurning.{AreFiles, AreTurned}

pub trans : (a b c : ℤ) → a <ℤ b → b <ℤ c → a <ℤ c
trans a b c p q = omega (arith, ints)

pub irrefl : (a b : ℤ) → a ≡ b → a <ℤ b → ⊥
irrefl a b e p = omega (arith, ints)

pub below_more : (t u : ℤ) (ms : List Ranked) → t <ℤ u → AreBelow t ms → AreBelow u ms
below_more t u [] p b = tt
below_more t u (m ∷ ms) p b = (trans (key_of m) t u b.0 p, below_more t u ms p b.1)

-- ---- which key a path has: a path has one at most

abbrev pub IsOne : (Path → ℤ → Type 0) → Type 0
IsOne Has = (x : Path) (t u : ℤ) → Has x t → Has x u → t ≡ u

-- each has the key of its stamp and serial number
abbrev pub AreKeyed : (Path → ℤ → Type 0) → List Ranked → Type 0
AreKeyed Has [] = Unit {0}
AreKeyed Has (m ∷ ms) = Has m.path (key_of m) × AreKeyed Has ms

-- a path with a later key is another
pub key_apart : (Has : Path → ℤ → Type 0) (x y : Path) (t u : ℤ) → IsOne Has → Has x t → Has y u → t <ℤ u → x ≡ y → ⊥
key_apart Has x y t u one p q lt e = irrefl t u (one x t u p (subst (λ (z : Path). Has z u) (sym e) q)) lt

-- ---- a path that isn't removed

-- none of these has this path
abbrev pub AreOthers : Path → List Ranked → Type 0
AreOthers y [] = Unit {0}
AreOthers y (m ∷ ms) = (y ≡ m.path → ⊥) × AreOthers y ms

pub others_by : (Has : Path → ℤ → Type 0) (y : Path) (u : ℤ) (ms : List Ranked) → IsOne Has → Has y u → AreBelow u ms → AreKeyed Has ms → AreOthers y ms
others_by Has y u [] one k b h = tt
others_by Has y u (m ∷ ms) one k b h = ((λ e. key_apart Has m.path y (key_of m) u one h.0 k b.0 (sym e)), others_by Has y u ms one k b.1 h.1)

pub others_gone : (c : Count) (i : ℕ) (y : Path) (ms : List Ranked) → AreOthers y ms → AreOthers y (gone c i ms)
others_gone c i y [] h = tt
others_gone c i y (m ∷ ms) h = go (is_left c i || m.old) (others_gone c (suc i) y ms h.1)
  where
    go : (b : Bool) → AreOthers y (gone c (suc i) ms) → AreOthers y (cond b (m ∷ gone c (suc i) ms) (gone c (suc i) ms))
    go true r = (h.0, r)
    go false r = r

pub unlinked_same : (n : Names) (base : List Entry) (y : Path) (xs : List Ranked) → AreOthers y xs → names_after n (changes_of (map unlink xs ++ base)) y ≡ names_after n (changes_of base) y
unlinked_same n base y [] h = refl
unlinked_same n base y (x ∷ xs) h = put_other (names_after n (changes_of (map unlink xs ++ base))) x.path y thing.Nothing h.0 ∙ unlinked_same n base y xs h.1

-- ---- they fit

pub removals_fit : (Has : Path → ℤ → Type 0) (n : Names) (c : Count) (base : List Entry) → IsOne Has → FitAll n base → (ms : List Ranked) (i : ℕ) → AreFalling ms → AreKeyed Has ms → AreFiles (names_after n (changes_of base)) ms → FitAll n (map unlink (gone c i ms) ++ base)
removals_fit Has n c base one fit [] i fall keyed files = fit
removals_fit Has n c base one fit (m ∷ ms) i fall keyed files = go (is_left c i || m.old) (removals_fit Has n c base one fit ms (suc i) fall.1 keyed.1 files.1)
  where
    here : names_after n (changes_of (map unlink (gone c (suc i) ms) ++ base)) m.path ≡ names_after n (changes_of base) m.path
    here = unlinked_same n base m.path (gone c (suc i) ms) (others_gone c (suc i) m.path ms (others_by Has m.path (key_of m) ms one keyed.0 fall.0 keyed.1))

    go : (b : Bool) → FitAll n (map unlink (gone c (suc i) ms) ++ base) → FitAll n (map unlink (cond b (m ∷ gone c (suc i) ms) (gone c (suc i) ms)) ++ base)
    go true rest = (rest, (files.0.0, here ∙ files.0.1))
    go false rest = rest

-- ---- what they make of the names

drop_turned : (c : Count) (i : ℕ) (x : Path) (ms : List Ranked) (before after : Names) → AreOthers x ms → AreTurned c i ms before after → AreTurned c i ms before (changed (Drops x) after)
drop_turned c i x [] before after h t = tt
drop_turned c i x (m ∷ ms) before after h t = (put_other after x m.path thing.Nothing (λ e. h.0 (sym e)) ∙ t.0, drop_turned c (suc i) x ms before after h.1 t.1)

dropped : (n : Names) (x : Path) → changed (Drops x) n x ≡ thing.Nothing
dropped n x = ap (λ b. cond b thing.Nothing (n x)) ((bytes_eq-Decides x x).1 refl)

pub removals_turn : (Has : Path → ℤ → Type 0) (n : Names) (c : Count) (base : List Entry) → IsOne Has → (ms : List Ranked) (i : ℕ) → AreFalling ms → AreKeyed Has ms
    → AreTurned c i ms (names_after n (changes_of base)) (names_after n (changes_of (map unlink (gone c i ms) ++ base)))
removals_turn Has n c base one [] i fall keyed = tt
removals_turn Has n c base one (m ∷ ms) i fall keyed = go (is_left c i || m.old) (removals_turn Has n c base one ms (suc i) fall.1 keyed.1)
  where
    mine : AreOthers m.path ms
    mine = others_by Has m.path (key_of m) ms one keyed.0 fall.0 keyed.1

    here : names_after n (changes_of (map unlink (gone c (suc i) ms) ++ base)) m.path ≡ names_after n (changes_of base) m.path
    here = unlinked_same n base m.path (gone c (suc i) ms) (others_gone c (suc i) m.path ms mine)

    go : (b : Bool) → AreTurned c (suc i) ms (names_after n (changes_of base)) (names_after n (changes_of (map unlink (gone c (suc i) ms) ++ base)))
        → (names_after n (changes_of (map unlink (cond b (m ∷ gone c (suc i) ms) (gone c (suc i) ms)) ++ base)) m.path ≡ cond b thing.Nothing (names_after n (changes_of base) m.path))
        × AreTurned c (suc i) ms (names_after n (changes_of base)) (names_after n (changes_of (map unlink (cond b (m ∷ gone c (suc i) ms) (gone c (suc i) ms)) ++ base)))
    go true rest = (dropped (names_after n (changes_of (map unlink (gone c (suc i) ms) ++ base))) m.path, drop_turned c (suc i) m.path ms (names_after n (changes_of base)) (names_after n (changes_of (map unlink (gone c (suc i) ms) ++ base))) mine rest)
    go false rest = (here, rest)
