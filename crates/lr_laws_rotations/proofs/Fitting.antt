-- What stands while a numbered family is rotated.
use Rattle.std.proofs.Common.{◌≡◌, ◌≢◌, ℕ, zero, suc, ◌+◌, ◌<◌, ◌≤◌, ◌==◌, Bool, true, false, not, cond, List, [], ◌∷◌, refl, sym, ap, ◌∙◌, arith, eqb-true, eq-eqb}
use Rattle.std.specs.Prelude.{Contains, filter}
use Rattle.lr_rules.specs.declared.path.Path.{Path}
use Rattle.lr_rules.specs.declared.rule.Count.{Count}
use Rattle.lr_rules.specs.declared.rule.Naming.{Naming}
use Rattle.lr_host.specs.declared.thing.Thing.{Thing}
use Rattle.lr_host.specs.declared.thing.Thing.TheVariants as thing
use Rattle.lr_host.specs.World.{Names, put}
use Rattle.lr_host.specs.Fits.{IsFileAt}
use Rattle.lr_host.proofs.Names.{put_here, put_other}
use Rattle.lr_family.specs.Spots.{path_at}
use Rattle.lr_family.proofs.Numbers.{Every, every_as, every_from, every_filter, every_passes}
use Rattle.lr_family.proofs.Paths.{places_apart, log_apart}
use Rattle.lr_chain.specs.Standing.{StandSo}
use Rattle.lr_chain.specs.Rotation.{is_left, leftovers, kept}
use Rattle.lr_chain.proofs.Kept.{kept_stay}
use Rattle.lr_laws_rotations.proofs.Places.{IsFamily, AreThere}
use Rattle.lr_laws_family.specs.Numbered.{HasName}

-- What stands between two steps: these leftovers and these members are still to be taken, and up to the limit no other place names anything.
pub record Before (log : Path) (n : Naming) (m : Names) (limit : ℕ) (ls ks : List ℕ) : Type 0 where
  pub log_file : IsFileAt m log
  pub left_files : Every (λ k. IsFileAt m (path_at n k)) ls
  pub kept_files : Every (λ k. IsFileAt m (path_at n k)) ks
  pub gap : (j : ℕ) → HasName n j → j ≤ limit → Every (λ k. k ≢ j) ls → Every (λ k. k ≢ j) ks → m (path_at n j) ≡ thing.Nothing

module _ (log : Path) (n : Naming) (family : IsFamily log n) where
  other_place : (i j : ℕ) → HasName n i → HasName n j → (i ≡ j → ⊥) → path_at n i ≡ path_at n j → ⊥
  other_place i j p q ne e = ne (places_apart n i j p q e)

  file_put : (m : Names) (j k : ℕ) (t : Thing) → HasName n j → HasName n k → (k ≡ j → ⊥) → IsFileAt m (path_at n k) → IsFileAt (put m (path_at n j) t) (path_at n k)
  file_put m j k t p q ne f = (f.0, put_other m (path_at n j) (path_at n k) t (other_place k j q p ne) ∙ f.1)

  files_put : (m : Names) (j : ℕ) (t : Thing) (ks : List ℕ) → HasName n j → Every (HasName n) ks → Every (λ k. k ≢ j) ks → Every (λ k. IsFileAt m (path_at n k)) ks → Every (λ k. IsFileAt (put m (path_at n j) t) (path_at n k)) ks
  files_put m j t [] i js nes fs = tt
  files_put m j t (k ∷ ks) i js nes fs = (file_put m j k t i js.0 nes.0 fs.0, files_put m j t ks i js.1 nes.1 fs.1)

  log_put : (m : Names) (j : ℕ) (t : Thing) → HasName n j → IsFileAt m log → IsFileAt (put m (path_at n j) t) log
  log_put m j t i f = (f.0, put_other m (path_at n j) log t (log_apart log n j family.kin family.numbered i) ∙ f.1)

  -- a leftover goes
  pub unlinked : (m : Names) (limit l : ℕ) (ls ks : List ℕ) → HasName n l → Every (HasName n) ls → Every (HasName n) ks → Every (λ k. k ≢ l) ls → Every (λ k. k ≢ l) ks → Before log n m limit (l ∷ ls) ks
      → Before log n (put m (path_at n l) thing.Nothing) limit ls ks
  unlinked m limit l ls ks il ils iks nls nks b = record {
    log_file = log_put m l thing.Nothing il b.log_file;
    left_files = files_put m l thing.Nothing ls il ils nls b.left_files.1;
    kept_files = files_put m l thing.Nothing ks il iks nks b.kept_files;
    gap = λ j ij le ol ok. at j ij le ol ok (l == j) refl;
  }
    where
      at : (j : ℕ) → HasName n j → j ≤ limit → Every (λ k. k ≢ j) ls → Every (λ k. k ≢ j) ks → (b : Bool) → (l == j) ≡ b → put m (path_at n l) thing.Nothing (path_at n j) ≡ thing.Nothing
      at j ij le ol ok true e = put_here m (path_at n l) (path_at n j) thing.Nothing (ap (path_at n) (sym (eqb-true l j e)))
      at j ij le ol ok false e =
          let ne : l ≡ j → ⊥ = λ (s : l ≡ j). (let t : (l == j) ≡ true = eq-eqb l j s in cc) in
          put_other m (path_at n l) (path_at n j) thing.Nothing (other_place j l ij il (λ s. ne (sym s))) ∙ b.gap j ij le (ne, ol) ok

  -- a member is moved one place on
  pub moved : (m : Names) (limit k : ℕ) (ks : List ℕ) → HasName n k → HasName n (k + 1) → Every (HasName n) ks → Every (λ j. j < k) ks → k < limit → Before log n m limit [] (k ∷ ks)
      → Before log n (put (put m (path_at n k) thing.Nothing) (path_at n (k + 1)) (m (path_at n k))) k [] ks
  moved m limit k ks ik next iks falls lt b = record {
    log_file = log_put gone (k + 1) (m (path_at n k)) next (log_put m k thing.Nothing ik b.log_file);
    left_files = tt;
    kept_files = files_put gone (k + 1) (m (path_at n k)) ks next iks (every_as (λ j. j < k) (λ j. j ≢ k + 1) ks (λ j lt e. omega (arith, lt, e)) falls)
        (files_put m k thing.Nothing ks ik iks (every_as (λ j. j < k) (λ j. j ≢ k) ks (λ j lt e. omega (arith, lt, e)) falls) b.kept_files.1);
    gap = λ j ij le ol ok. at j ij le ok (k == j) refl;
  }
    where
      gone : Names
      gone = put m (path_at n k) thing.Nothing

      at : (j : ℕ) → HasName n j → j ≤ k → Every (λ i. i ≢ j) ks → (b : Bool) → (k == j) ≡ b → put gone (path_at n (k + 1)) (m (path_at n k)) (path_at n j) ≡ thing.Nothing
      at j ij le ok true e =
          put_other gone (path_at n (k + 1)) (path_at n j) (m (path_at n k)) (other_place j (k + 1) ij next (λ s. omega (arith, s, le)))
          ∙ put_here m (path_at n k) (path_at n j) thing.Nothing (ap (path_at n) (sym (eqb-true k j e)))
      at j ij le ok false e =
          let ne : k ≡ j → ⊥ = λ (s : k ≡ j). (let t : (k == j) ≡ true = eq-eqb k j s in cc) in
          put_other gone (path_at n (k + 1)) (path_at n j) (m (path_at n k)) (other_place j (k + 1) ij next (λ s. omega (arith, s, le)))
          ∙ (put_other m (path_at n k) (path_at n j) thing.Nothing (other_place j k ij ik (λ s. ne (sym s))) ∙ b.gap j ij (omega (arith, le, lt)) tt (ne, ok))

  -- the place to which a member is moved is free
  pub move_free : (m : Names) (limit k : ℕ) (ks : List ℕ) → HasName n (k + 1) → Every (λ j. j < k) ks → k < limit → Before log n m limit [] (k ∷ ks) → m (path_at n (k + 1)) ≡ thing.Nothing
  move_free m limit k ks next falls lt b = b.gap (k + 1) next (omega arith) tt ((λ e. omega (arith, e)), every_as (λ j. j < k) (λ j. j ≢ k + 1) ks (λ j lt e. omega (arith, lt, e)) falls)

  pub log_free : (m : Names) (limit : ℕ) → HasName n 0 → Before log n m limit [] [] → m (path_at n 0) ≡ thing.Nothing
  log_free m limit i b = b.gap 0 i (omega arith) tt tt

-- ---- the places of a rotation

is_left_apart : (c : Count) (k l : ℕ) → is_left c k ≡ false → is_left c l ≡ true → k ≢ l
is_left_apart c k l p q e = let same : is_left c k ≡ is_left c l = ap (is_left c) e in clash (is_left c k) (is_left c l) p q same
  where
    clash : (a b : Bool) → a ≡ false → b ≡ true → a ≡ b → ⊥
    clash a b p q e = cc

pub left_apart : (c : Count) (places : List ℕ) → Every (λ l. Every (λ k. k ≢ l) (kept c places)) (leftovers c places)
left_apart c places =
    every_as (λ l. is_left c l ≡ true) (λ l. Every (λ k. k ≢ l) (kept c places)) (leftovers c places)
    (λ l t. every_as (λ k. is_left c k ≡ false) (λ k. k ≢ l) (kept c places) (λ k h. is_left_apart c k l h t) (kept_stay c places))
    (every_passes (is_left c) places)

-- a limit above all places
abbrev pub above_all : ℕ
above_all = 4294967296

pub all_below : (n : Naming) (ks : List ℕ) → Every (HasName n) ks → Every (λ k. k < above_all) ks
all_below n ks h = every_as (HasName n) (λ k. k < above_all) ks below h
  where
    below : (k : ℕ) → HasName n k → k < above_all
    below k i = omega arith

-- what stands before the first step
pub at_start : (log : Path) (n : Naming) (m : Names) (c : Count) (places : List ℕ) → IsFileAt m log → AreThere n m places → Before log n m above_all (leftovers c places) (kept c places)
at_start log n m c places f t = record {
  log_file = f;
  left_files = every_filter (λ k. IsFileAt m (path_at n k)) (is_left c) places files;
  kept_files = every_filter (λ k. IsFileAt m (path_at n k)) (λ k. not (is_left c k)) places files;
  gap = λ j i le ol ok. t.others j i (λ in_places. none j ol ok in_places);
}
  where
    files : Every (λ k. IsFileAt m (path_at n k)) places
    files = every_from (λ k. IsFileAt m (path_at n k)) places t.files

    one : (j : ℕ) (ks : List ℕ) → Every (λ k. k ≢ j) (filter (is_left c) ks) → Every (λ k. k ≢ j) (filter (λ k. not (is_left c k)) ks) → Every (λ k. k ≢ j) ks
    one j [] ol ok = tt
    one j (k ∷ ks) ol ok = go (is_left c k) (λ ol ok. one j ks ol ok) ol ok
      where
        go : (b : Bool) → (Every (λ k. k ≢ j) (filter (is_left c) ks) → Every (λ k. k ≢ j) (filter (λ k. not (is_left c k)) ks) → Every (λ k. k ≢ j) ks)
            → Every (λ k. k ≢ j) (cond b (k ∷ filter (is_left c) ks) (filter (is_left c) ks)) → Every (λ k. k ≢ j) (cond (not b) (k ∷ filter (λ k. not (is_left c k)) ks) (filter (λ k. not (is_left c k)) ks)) → Every (λ k. k ≢ j) (k ∷ ks)
        go true further ol ok = (ol.0, further ol.1 ok)
        go false further ol ok = (ok.0, further ol ok.1)

    at : (j i : ℕ) (ks : List ℕ) → Every (λ k. k ≢ j) ks → i < Rattle.std.proofs.Common.length ks → Rattle.std.proofs.Common.get_or ks i j ≡ j → ⊥
    at j i [] a lt e = omega arith
    at j zero (k ∷ ks) a lt e = a.0 e
    at j (suc i) (k ∷ ks) a lt e = at j i ks a.1 (omega arith) e

    none : (j : ℕ) → Every (λ k. k ≢ j) (leftovers c places) → Every (λ k. k ≢ j) (kept c places) → Contains places j → ⊥
    none j ol ok r = at j r.0 places (one j places ol ok) r.1 r.2

pub so_standing : (m : Names) (log : Path) (n : Naming) (places : List ℕ) → IsFileAt m log → AreThere n m places → StandSo log n places m
so_standing m log n places f t = record { falling = t.falling; log_file = f; members = t.files; others = t.others }
