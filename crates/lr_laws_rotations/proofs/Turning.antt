-- The steps of a rotation are those of one rotation of the set, each while its limit allows it.
use Rattle.std.proofs.Common.{◌≡◌, ◌≢◌, ◌⊎◌, inl, inr, ⊎_elim, ℕ, suc, ◌+◌, ◌<◌, ◌≤◌, Bool, true, false, not, cond, List, [], ◌∷◌, ◌++◌, map, reverse, refl, sym, ap, ◌∙◌, subst, append_assoc, arith, nat_le, ℤ, pos, Option, Some}
use Rattle.std.specs.Prelude.{Contains}
use Rattle.std.proofs.lemmas.List.{reverse-append, append-nil}
use Rattle.std.proofs.lemmas.Bool.Decides.{nat_tests}
use Rattle.lr_rules.specs.declared.rule.Count.{Count}
use Rattle.lr_rules.specs.declared.rule.Count.TheVariants as count
use Rattle.lr_rules.specs.declared.path.Path.{Path}
use Rattle.lr_host.specs.declared.thing.Thing.TheVariants as thing
use Rattle.lr_host.specs.declared.entry.Entry.{Entry}
use Rattle.lr_host.specs.declared.entry.Entry.TheVariants as entry
use Rattle.lr_host.specs.World.{Names, put, Past, world, names, names_after}
use Rattle.lr_host.specs.Fits.{IsFileAt}
use Rattle.lr_host.specs.Steps.{changes_of}
use Rattle.lr_host.specs.Sets.{LogSet, Order, Numbered, order, order_of, IsUnplaced, is_unplaced, IsKeyBy}
use Rattle.lr_host.specs.Released.{ByAge}
use Rattle.lr_host.specs.Runs.{rules_of, SomeRule, has_begun}
use Rattle.lr_host.specs.Safe.{IsSafe}
use Rattle.lr_host.proofs.Names.{put_other}
use Rattle.lr_laws.specs.Rotation.{IsPastCount, IsTurn, straight, taken_up, IsStep, limit_by, limit_after, IsRotation}
use Rattle.lr_laws.specs.Stays.{Rotates}
use Rattle.lr_laws.proofs.Stated.{ready_first}
use Rattle.lr_family.specs.Spots.{path_at}
use Rattle.lr_family.proofs.Numbers.{Every, Falls, every_as, every_both, every_from, every_all, every_filter, every_passes, falls_filter}
use Rattle.lr_family.proofs.Paths.{places_apart}
use Rattle.lr_chain.specs.Rotation.{is_left, leftovers, kept, retired, unlink_at, move_at, leftover_steps, turn_steps, retire_steps, rotation}
use Rattle.lr_chain.specs.Standing.{AreGoing}
use Rattle.lr_chain.proofs.Falling.{falls_all}
use Rattle.lr_chain.proofs.Turned.{run, Renamed, renamed_so, stays_below}
use Rattle.lr_chain.proofs.Fitting.{after_one}
use Rattle.lr_laws_rotations.proofs.Places.{IsFamily, AreThere, MayGo}
use Rattle.lr_laws_family.specs.Numbered.{HasName, HaveNextNames}
use Rattle.lr_laws_rotations.proofs.Fitting.{Before, unlinked, moved, move_free, log_free, left_apart, so_standing, above_all, all_below, at_start}
use Rattle.lr_laws_family.proofs.Numbers.{kept_next, first_named, top_named, next_named, next_at}

pub numbered : (s : LogSet) {log : Path} → IsFamily log s.naming → order s ≡ Numbered
numbered s f = ap order_of f.numbered

-- a numbered member's key is its place
pub key_at : (s : LogSet) (place : ℕ) → order s ≡ Numbered → HasName s.naming place → s.key (path_at s.naming place) ≡ Some (pos place)
key_at s place is i = (keys (path_at s.naming place) (pos place)).1 (place, refl, record { bound = i; named = refl })
  where
    keys : IsKeyBy Numbered s.naming s.key
    keys = subst (λ (o : Order). IsKeyBy o s.naming s.key) is s.keys

-- the first of them first
abbrev TurnsOn : LogSet → Past → ℕ → Names → List Entry → Type 0
TurnsOn s p limit m [] = Unit {0}
TurnsOn s p limit m (e ∷ es) = IsStep s p limit m e × TurnsOn s p (limit_after s limit (e ∷ [])) (names_after m (changes_of (e ∷ []))) es

limit_one : (s : LogSet) (limit : ℕ) (done : List Entry) (e : Entry) → limit_after s (limit_after s limit done) (e ∷ []) ≡ limit_after s limit (e ∷ done)
limit_one s limit done (entry.Renames from to) = refl
limit_one s limit done _ = refl

turns_behind : (s : LogSet) (p : Past) (limit : ℕ) (done es : List Entry) → IsRotation s p limit done → TurnsOn s p (limit_after s limit done) (names_after (names (world p)) (changes_of done)) es → IsRotation s p limit (reverse es ++ done)
turns_behind s p limit done [] r on = r
turns_behind s p limit done (e ∷ es) r on =
    subst (λ (xs : List Entry). IsRotation s p limit xs) (sym (ap (λ xs. xs ++ done) (reverse-append (e ∷ []) es) ∙ append_assoc (reverse es) (e ∷ []) done))
    (turns_behind s p limit (e ∷ done) es (r, inr on.0)
    (subst (λ (v : Names). TurnsOn s p (limit_after s limit (e ∷ done)) v es) (after_one (names (world p)) done e)
    (subst (λ (l : ℕ). TurnsOn s p l (names_after (names_after (names (world p)) (changes_of done)) (changes_of (e ∷ []))) es) (limit_one s limit done e) on.1)))

-- the steps of the one list, and behind them those of the other
turns_both : (s : LogSet) (p : Past) (limit : ℕ) (m : Names) (xs ys : List Entry) → TurnsOn s p limit m xs → ((l : ℕ) → TurnsOn s p l (run m xs) ys) → TurnsOn s p limit m (xs ++ ys)
turns_both s p limit m [] ys a b = b limit
turns_both s p limit m (x ∷ xs) ys a b = (a.0, turns_both s p (limit_after s limit (x ∷ [])) (names_after m (changes_of (x ∷ []))) xs ys a.1 b)

module _ (s : LogSet) (p : Past) (log : Path) (on : IsUnplaced s log) (family : IsFamily log s.naming) (c : Count) (rule : SomeRule (rules_of p) s.log (λ r. r.count ≡ c)) where
  abbrev before : Names
  before = names (world p)

  -- ---- the leftovers, the moves and the log

  -- the count says that the member at this place may go
  left_may : (d : Count) → c ≡ d → (l : ℕ) → is_left d l ≡ true → IsPastCount s p l
  left_may count.Always e l t = absurd (cc)
  left_may (count.Keep k) e l t = (k, subst (λ (d : Count). SomeRule (rules_of p) s.log (λ r. r.count ≡ d)) e rule, le k l t)
    where
      le : (k l : ℕ) → nat_le k l ≡ true → k ≤ l
      le k l t = grind (arith, nat_tests)

  unlinks_turn : (m : Names) (limit : ℕ) (ls ks : List ℕ) (rest : List Entry) → Every (HasName s.naming) ls → Every (HasName s.naming) ks → Falls ls → Every (λ l. Every (λ k. k ≢ l) ks) ls → Every (λ l. is_left c l ≡ true) ls → Before log s.naming m limit ls ks
      → ((v : Names) → Before log s.naming v limit [] ks → TurnsOn s p limit v rest) → TurnsOn s p limit m (map (unlink_at s.naming) ls ++ rest)
  unlinks_turn m limit [] ks rest il ik falls apart may b then = then m b
  unlinks_turn m limit (l ∷ ls) ks rest il ik falls apart may b then = (
    inr (l, key_at s l (numbered s family) il.0, inl (left_may c refl l may.0)),
    unlinks_turn (put m (path_at s.naming l) thing.Nothing) limit ls ks rest il.1 ik falls.1 apart.1 may.1
        (unlinked log s.naming family m limit l ls ks il.0 il.1 ik (every_as (λ k. k < l) (λ k. k ≢ l) ls (λ k lt e. omega (arith, lt, e)) falls.0) apart.0 b) then,
  )

  moves_turn : (m : Names) (limit : ℕ) (ks : List ℕ) (rest : List Entry) → Every (HasName s.naming) ks → Every (λ k. HasName s.naming (k + 1)) ks → Falls ks → Every (λ k. k < limit) ks → Before log s.naming m limit [] ks
      → ((v : Names) (l : ℕ) → Before log s.naming v l [] [] → TurnsOn s p l v rest) → TurnsOn s p limit m (map (move_at s.naming) ks ++ rest)
  moves_turn m limit [] rest ik next falls small b then = then m limit b
  moves_turn m limit (k ∷ ks) rest ik next falls small b then = (
    (
      move_free log s.naming family m limit k ks next.0 falls.0 small.0 b,
      inl (k, small.0, key_at s k (numbered s family) ik.0, key_at s (k + 1) (numbered s family) next.0),
    ),
    subst (λ (l : ℕ). TurnsOn s p l after (map (move_at s.naming) ks ++ rest)) (sym at_limit)
        (moves_turn after k ks rest ik.1 next.1 falls.1 falls.0 (moved log s.naming family m limit k ks ik.0 next.0 ik.1 falls.0 small.0 b) then),
  )
    where
      after : Names
      after = put (put m (path_at s.naming k) thing.Nothing) (path_at s.naming (k + 1)) (m (path_at s.naming k))

      at_limit : limit_by (s.key (path_at s.naming k)) (is_unplaced s (path_at s.naming k)) limit ≡ k
      at_limit = ap (λ (o : Option ℤ). limit_by o (is_unplaced s (path_at s.naming k)) limit) (key_at s k (numbered s family) ik.0)

  -- from where it stands, or from where it waits
  turns_so : (m : Names) → IsFileAt m log → HasName s.naming 0 → IsUnplaced s log → IsTurn s m (pos 0) log (path_at s.naming 0)
  turns_so m file first (inl at_log) = straight at_log (key_at s 0 (numbered s family) first)
  turns_so m file first (inr waits) = taken_up waits file (key_at s 0 (numbered s family) first)

  log_turns : (m : Names) (limit : ℕ) → HasName s.naming 0 → Before log s.naming m limit [] [] → TurnsOn s p limit m (entry.Renames log (path_at s.naming 0) ∷ [])
  log_turns m limit first b = ((log_free log s.naming family m limit first b, inr (turns_so m b.log_file first on)), tt)

  -- ---- those that go behind them

  -- the member from this place, where the names were b, came to the next, by identity
  abbrev pub HasCome : Names → Names → ℕ → Type 0
  HasCome b m k = HasName s.naming (suc k) × (m (path_at s.naming (suc k)) ≡ b (path_at s.naming k))

  -- it may go
  abbrev pub MayLeave : Names → ℕ → Type 0
  MayLeave b k = (is_left c (suc k) ≡ true) ⊎ ((g : ℕ) → b (path_at s.naming k) ≡ thing.File g → SomeRule (rules_of p) s.log (ByAge p g))

  retires_turn : (b m : Names) (limit : ℕ) (ks : List ℕ) → HasName s.naming 0 → Falls ks → Every (HasCome b m) ks → Every (MayLeave b) ks → TurnsOn s p limit m (map (unlink_at s.naming) (retired c ks))
  retires_turn b m limit [] first falls come may = none (is_left c 0) refl
    where
      none : (b : Bool) → is_left c 0 ≡ b → TurnsOn s p limit m (map (unlink_at s.naming) (cond b (0 ∷ []) []))
      none true e = (inr (0, key_at s 0 (numbered s family) first, inl (left_may c refl 0 e)), tt)
      none false e = tt
  retires_turn b m limit (k ∷ ks) first falls come may = (
    inr (suc k, key_at s (suc k) (numbered s family) come.0.0, ⊎_elim (λ full. inl (left_may c refl (suc k) full)) (λ old. inr (λ g is. old g (sym come.0.1 ∙ is))) may.0),
    retires_turn b (put m (path_at s.naming (suc k)) thing.Nothing) limit ks first falls.1 (every_both (λ j. j < k) (HasCome b m) (HasCome b (put m (path_at s.naming (suc k)) thing.Nothing)) ks others falls.0 come.1) may.1,
  )
    where
      others : (j : ℕ) → j < k → HasCome b m j → HasCome b (put m (path_at s.naming (suc k)) thing.Nothing) j
      others j lt h = (h.0, put_other m (path_at s.naming (suc k)) (path_at s.naming (suc j)) thing.Nothing (λ e. let same : suc j ≡ suc k = places_apart s.naming (suc j) (suc k) h.0 come.0.0 e in omega (arith, same, lt)) ∙ h.1)

  -- behind steps that are done, those that go are steps by themselves, where the names were b before the moves
  pub retires_alone : (b : Names) (limit : ℕ) (done : List Entry) (ks : List ℕ) → IsRotation s p limit done → HasName s.naming 0 → Falls ks → Every (HasCome b (names_after before (changes_of done))) ks → Every (MayLeave b) ks → IsRotation s p limit (reverse (retire_steps s.naming c ks) ++ done)
  retires_alone b limit done ks rot first falls come may = turns_behind s p limit done (retire_steps s.naming c ks) rot (retires_turn b (names_after before (changes_of done)) (limit_after s limit done) ks first falls come may)

  -- ---- the whole

  module _ (places from : List ℕ) (f : IsFileAt (names (world p)) log) (t : AreThere s.naming (names (world p)) places) (next : HaveNextNames s.naming c places) (going : AreGoing c places from) (may : MayGo s p c from) where
    falls : Falls places
    falls = falls_all places t.falling

    named : Every (HasName s.naming) places
    named = every_all (HasName s.naming) places t.named

    kept_named : Every (HasName s.naming) (kept c places)
    kept_named = every_filter (HasName s.naming) (λ k. not (is_left c k)) places named

    first : HasName s.naming 0
    first = first_named s.naming c places next

    -- up to the log's rename
    turn : TurnsOn s p above_all before (leftover_steps s.naming c places ++ turn_steps s.naming c log places)
    turn = unlinks_turn before above_all (leftovers c places) (kept c places) (turn_steps s.naming c log places)
        (every_filter (HasName s.naming) (is_left c) places named) kept_named (falls_filter (is_left c) places falls) (left_apart c places) (every_passes (is_left c) places)
        (at_start log s.naming before c places f t)
        (λ v b. moves_turn v above_all (kept c places) (entry.Renames log (path_at s.naming 0) ∷ [])
        kept_named (kept_next s.naming c places next) (falls_filter (λ k. not (is_left c k)) places falls) (all_below s.naming (kept c places) kept_named) b (λ w l b'. log_turns w l first b'))

    -- the names behind it
    abbrev pub behind : Names
    behind = run before (leftover_steps s.naming c places ++ turn_steps s.naming c log places)

    pub came : (k : ℕ) → Contains from k → HasCome before behind k
    came k h = (i, so.up k i (stays_below log s.naming family.kin family.numbered c k (going.moved k h) n))
      where
        n : HasName s.naming (k + 1)
        n = next_at s.naming c places next k (going.there k h) (going.moved k h)

        i : HasName s.naming (suc k)
        i = omega (arith, n)

        so : Renamed log s.naming family.kin family.numbered c before behind
        so = renamed_so log s.naming family.kin family.numbered before c places (top_named s.naming c places next) falls named (next_named s.naming c places next) (so_standing before log s.naming places f t)

    whole : IsRotation s p above_all (reverse (rotation s.naming c log places from))
    whole =
        subst (λ (xs : List Entry). IsRotation s p above_all xs) (append-nil (reverse (rotation s.naming c log places from)))
        (turns_behind s p above_all [] (rotation s.naming c log places from) tt
        (subst (TurnsOn s p above_all before) (append_assoc (leftover_steps s.naming c places) (turn_steps s.naming c log places) (retire_steps s.naming c from))
        (turns_both s p above_all before (leftover_steps s.naming c places ++ turn_steps s.naming c log places) (retire_steps s.naming c from) turn
        (λ l. retires_turn before behind l from first (falls_all from going.falling) (every_from (HasCome before behind) from came) (every_from (MayLeave before) from may)))))

pub is_one : (s : LogSet) (p : Past) (log : Path) → IsUnplaced s log → (c : Count) (places from : List ℕ) → IsFamily log s.naming → IsFileAt (names (world p)) log → AreThere s.naming (names (world p)) places → HaveNextNames s.naming c places → AreGoing c places from → MayGo s p c from
    → has_begun s p ≡ false → IsSafe s p → SomeRule (rules_of p) s.log (λ r. r.count ≡ c) → Rotates (rotation s.naming c log places from) s p
is_one s p log on c places from family f t next going may not_begun safe rule = record {
  numbered = numbered s family;
  limit = above_all;
  ready = ready_first s p above_all safe (numbered s family) not_begun;
  rotation = whole s p log on family c rule places from f t next going may;
}
