-- Pairs of which each path names what it names by other names.
use Rattle.std.proofs.Common.{◌≡◌, ℕ, zero, suc, ◌+◌, ◌<◌, ◌≤◌, Bool, true, false, cond, ◌||◌, List, [], ◌∷◌, ◌++◌, length, take, drop, get_or, map, refl, sym, ◌∙◌, ap, arith, bytes_eq}
use Rattle.std.specs.Prelude.{slice_set}
use Rattle.std.proofs.lemmas.List.{take_all, drop_all, append-nil}
use Rattle.lr_rules.specs.declared.path.Path.{Path}
use Rattle.lr_rules.proofs.Bools.{not_both}
use Rattle.lr_host.specs.declared.thing.Thing.{Thing}
use Rattle.lr_host.specs.declared.thing.Thing.TheVariants as thing
use Rattle.lr_host.specs.World.{Names}
use Rattle.lr_disk.specs.Pairs.{keys}
use Rattle.lr_disk.specs.Names.{named_in, has_path}
use Rattle.lr_disk.proofs.PairLemmas.{bytes_tell, value_lacks}

-- one pair more
pub taken_step : (n : Names) (ns xs : List (Path × Thing)) (i : ℕ) (d : Path × Thing) (t : Thing) → i < length ns → t ≡ n (get_or xs i d).0 → xs ≡ map (λ p. (p.0, n p.0)) (take i ns) ++ drop i ns
    → slice_set xs i ((get_or xs i d).0, t) ≡ map (λ p. (p.0, n p.0)) (take (i + 1) ns) ++ drop (i + 1) ns
taken_step n ns xs i d t lt is so_far =
    ap (λ v. slice_set xs i ((get_or xs i d).0, v)) is ∙ (ap (λ l. slice_set l i ((get_or l i d).0, n (get_or l i d).0)) so_far ∙ (go ns i lt ∙ ap (λ j. map (λ p. (p.0, n p.0)) (take j ns) ++ drop j ns) (one i)))
  where
    one : (k : ℕ) → suc k ≡ k + 1
    one k = omega arith

    go : (ms : List (Path × Thing)) (k : ℕ) → k < length ms
        → slice_set (map (λ p. (p.0, n p.0)) (take k ms) ++ drop k ms) k ((get_or (map (λ p. (p.0, n p.0)) (take k ms) ++ drop k ms) k d).0, n (get_or (map (λ p. (p.0, n p.0)) (take k ms) ++ drop k ms) k d).0) ≡ map (λ p. (p.0, n p.0)) (take (suc k) ms) ++ drop (suc k) ms
    go [] k lt = absurd (omega arith)
    go (m ∷ ms) zero lt = refl
    go (m ∷ ms) (suc k) lt = ap (λ l. (m.0, n m.0) ∷ l) (go ms k (omega arith))

pub taken_all : (n : Names) (ns xs : List (Path × Thing)) (i : ℕ) → length ns ≤ i → xs ≡ map (λ p. (p.0, n p.0)) (take i ns) ++ drop i ns → xs ≡ map (λ p. (p.0, n p.0)) ns
taken_all n ns xs i le so_far =
    so_far ∙ (ap (λ l. map (λ p. (p.0, n p.0)) l ++ drop i ns) (take_all i ns le) ∙ (ap (λ l. map (λ p. (p.0, n p.0)) ns ++ l) (drop_all i ns le) ∙ append-nil (map (λ p. (p.0, n p.0)) ns)))

pub keys_taken : (n : Names) (ns : List (Path × Thing)) → keys (map (λ p. (p.0, n p.0)) ns) ≡ keys ns
keys_taken n [] = refl
keys_taken n (m ∷ ns) = ap (λ l. m.0 ∷ l) (keys_taken n ns)

has_taken : (n : Names) (ns : List (Path × Thing)) (x : Path) → has_path (map (λ p. (p.0, n p.0)) ns) x ≡ has_path ns x
has_taken n [] x = refl
has_taken n (m ∷ ns) x = ap (λ b. bytes_eq m.0 x || b) (has_taken n ns x)

there : (n : Names) (ns : List (Path × Thing)) (x : Path) → has_path ns x ≡ true → named_in (map (λ p. (p.0, n p.0)) ns) x ≡ n x
there n [] x h = absurd (cc)
there n (m ∷ ns) x h = go (bytes_eq m.0 x) refl h (there n ns x)
  where
    go : (b : Bool) → bytes_eq m.0 x ≡ b → (b || has_path ns x) ≡ true → (has_path ns x ≡ true → named_in (map (λ p. (p.0, n p.0)) ns) x ≡ n x) → cond b (n m.0) (named_in (map (λ p. (p.0, n p.0)) ns) x) ≡ n x
    go true e h f = ap n ((bytes_tell m.0 x).0 e)
    go false e h f = f h

-- A path that the others have is here too, so each path names what it names by them.
pub named_taken : (ds ns : List (Path × Thing)) (x : Path) → (has_path ds x ≡ true → has_path ns x ≡ true) → named_in (map (λ p. (p.0, named_in ds p.0)) ns) x ≡ named_in ds x
named_taken ds ns x within = go (has_path ns x) refl (has_path ds x) refl
  where
    go : (b : Bool) → has_path ns x ≡ b → (a : Bool) → has_path ds x ≡ a → named_in (map (λ p. (p.0, named_in ds p.0)) ns) x ≡ named_in ds x
    go true e a f = there (named_in ds) ns x e
    go false e true f = absurd (not_both (has_path ns x) (within f) e)
    go false e false f = value_lacks bytes_eq thing.Nothing (map (λ p. (p.0, named_in ds p.0)) ns) x (has_taken (named_in ds) ns x ∙ e) ∙ sym (value_lacks bytes_eq thing.Nothing ds x f)
