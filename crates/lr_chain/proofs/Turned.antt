-- The changes of a rotation turn the family.
use Rattle.std.proofs.Common.{◌≡◌, ◌≢◌, ◌⊎◌, inl, inr, ⊎_elim, ℕ, zero, suc, ◌+◌, ◌<◌, ◌≤◌, ◌==◌, Bool, true, false, not, ◌&&◌, ◌||◌, cond, List, [], ◌∷◌, ◌++◌, map, reverse, None, refl, sym, ap, ◌∙◌, subst, append_assoc, arith, eqb-true}
use Rattle.std.specs.Prelude.{nat_le, Contains}
use Rattle.std.proofs.lemmas.List.{reverse-append, append-nil}
use Rattle.std.proofs.lemmas.Bool.Decides.{nat_tests}
use Rattle.lr_rules.specs.declared.path.Path.{Path}
use Rattle.lr_rules.specs.declared.rule.Count.{Count}
use Rattle.lr_rules.specs.declared.rule.Count.TheVariants as count
use Rattle.lr_rules.specs.declared.rule.Naming.{Naming}
use Rattle.lr_host.specs.declared.thing.Thing.{Thing}
use Rattle.lr_host.specs.declared.thing.Thing.TheVariants as thing
use Rattle.lr_host.specs.declared.entry.Entry.{Entry}
use Rattle.lr_host.specs.declared.entry.Entry.TheVariants as entry
use Rattle.lr_host.specs.World.{Names, put, names_after}
use Rattle.lr_host.specs.Steps.{changes_of}
use Rattle.lr_host.proofs.Names.{put_here, put_other}
use Rattle.lr_family.specs.Kin.{IsKin}
use Rattle.lr_family.specs.Spots.{path_at}
use Rattle.lr_family.proofs.Numbers.{Every, Falls, every_as, every_both, every_filter, every_from, falls_filter, among}
use Rattle.lr_family.proofs.Paths.{places_apart, log_apart}
use Rattle.lr_chain.specs.Rotation.{is_left, leftovers, kept, retired, unlink_at, move_at, leftover_steps, shift_steps, turn_steps, retire_steps, rotation}
use Rattle.lr_chain.specs.Standing.{StandSo, AreGoing}
use Rattle.lr_chain.specs.Turning.{turned, IsChainTurned}
use Rattle.lr_chain.proofs.Bounds.{top_of}
use Rattle.lr_chain.proofs.Has.{has, has_below, has_next, has_filter, has_it, has_none, order}
use Rattle.lr_chain.proofs.Kept.{kept_stay, kept_as}
use Rattle.lr_chain.proofs.Retired.{every_retired, has_first, has_new}

-- the names behind these entries, the first of them first
abbrev pub run : Names → List Entry → Names
run m [] = m
run m (e ∷ es) = run (names_after m (changes_of (e ∷ []))) es

pub after_one : (m : Names) (done : List Entry) (e : Entry) → names_after m (changes_of (e ∷ done)) ≡ names_after (names_after m (changes_of done)) (changes_of (e ∷ []))
after_one m done (entry.Renames from to) = refl
after_one m done (entry.Unlinks x) = refl
after_one m done (entry.MakesDir x mode) = refl
after_one m done _ = refl

pub run_behind : (m : Names) (done es : List Entry) → names_after m (changes_of (reverse es ++ done)) ≡ run (names_after m (changes_of done)) es
run_behind m done [] = refl
run_behind m done (e ∷ es) =
    ap (λ xs. names_after m (changes_of xs)) (ap (λ xs. xs ++ done) (reverse-append (e ∷ []) es) ∙ append_assoc (reverse es) (e ∷ []) done)
    ∙ (run_behind m (e ∷ done) es ∙ ap (λ (k : Names). run k es) (after_one m done e))

pub run_is : (m : Names) (es : List Entry) → names_after m (changes_of (reverse es)) ≡ run m es
run_is m es = ap (λ xs. names_after m (changes_of xs)) (sym (append-nil (reverse es))) ∙ run_behind m [] es

pub run_both : (m : Names) (es fs : List Entry) → run m (es ++ fs) ≡ run (run m es) fs
run_both m [] fs = refl
run_both m (e ∷ es) fs = run_both (names_after m (changes_of (e ∷ []))) es fs

module _ (log : Path) (n : Naming) (kin : IsKin log n) (numbered : n.dated ≡ None) where
  abbrev IsNumber : ℕ → Type 0
  IsNumber k = n.start + k ≤ 4294967295

  -- no member has the path
  abbrev IsOther : Path → Type 0
  IsOther x = (k : ℕ) → IsNumber k → x ≡ path_at n k → ⊥

  here : (m : Names) (k : ℕ) (t : Thing) → put m (path_at n k) t (path_at n k) ≡ t
  here m k t = put_here m (path_at n k) (path_at n k) t refl

  there : (m : Names) (p k : ℕ) (t : Thing) → IsNumber p → IsNumber k → (k ≡ p → ⊥) → put m (path_at n p) t (path_at n k) ≡ m (path_at n k)
  there m p k t i j ne = put_other m (path_at n p) (path_at n k) t (λ e. ne (places_apart n k p j i e))

  aside : (m : Names) (p : ℕ) (t : Thing) (x : Path) → IsNumber p → IsOther x → put m (path_at n p) t x ≡ m x
  aside m p t x i o = put_other m (path_at n p) x t (λ e. o p i e)

  log_other : IsOther log
  log_other k i e = log_apart log n k kin numbered i e

  -- the unlinks
  drops : (m : Names) (ls : List ℕ) (k : ℕ) → Every IsNumber ls → IsNumber k → run m (map (unlink_at n) ls) (path_at n k) ≡ cond (has k ls) thing.Nothing (m (path_at n k))
  drops m [] k a i = refl
  drops m (l ∷ ls) k a i = drops (put m (path_at n l) thing.Nothing) ls k a.1 i ∙ go (l == k) refl (has k ls)
    where
      none : (b : Bool) → cond b thing.Nothing thing.Nothing ≡ thing.Nothing
      none true = refl
      none false = refl

      go : (b : Bool) → (l == k) ≡ b → (c : Bool) → cond c thing.Nothing (put m (path_at n l) thing.Nothing (path_at n k)) ≡ cond (b || c) thing.Nothing (m (path_at n k))
      go true e c = ap (λ t. cond c thing.Nothing t) (subst (λ (j : ℕ). put m (path_at n l) thing.Nothing (path_at n j) ≡ thing.Nothing) (eqb-true l k e) (here m l thing.Nothing)) ∙ none c
      go false e c = ap (λ t. cond c thing.Nothing t) (there m l k thing.Nothing a.0 i (λ s. differ s))
        where
          differ : k ≡ l → ⊥
          differ s = let t : (l == k) ≡ true = grind (arith, nat_tests) in cc

  drops_aside : (m : Names) (ls : List ℕ) (x : Path) → Every IsNumber ls → IsOther x → run m (map (unlink_at n) ls) x ≡ m x
  drops_aside m [] x a o = refl
  drops_aside m (l ∷ ls) x a o = drops_aside (put m (path_at n l) thing.Nothing) ls x a.1 o ∙ aside m l thing.Nothing x a.0 o

  -- Up to the top each member names what the one before it named, the first nothing; those above it name what they named.
  record Shifted (top : ℕ) (m m' : Names) : Type 0 where
    first : m' (path_at n 0) ≡ thing.Nothing
    up : (k : ℕ) → IsNumber (k + 1) → k < top → m' (path_at n (k + 1)) ≡ m (path_at n k)
    above : (k : ℕ) → IsNumber k → top < k → m' (path_at n k) ≡ m (path_at n k)

  -- members up to the top that aren't among these name nothing
  abbrev AreGaps : ℕ → List ℕ → Names → Type 0
  AreGaps top ks m = (k : ℕ) → IsNumber k → k ≤ top → has k ks ≡ false → m (path_at n k) ≡ thing.Nothing

  abbrev moved : Names → ℕ → Names
  moved m p = put (put m (path_at n p) thing.Nothing) (path_at n (p + 1)) (m (path_at n p))

  moved_other : (m : Names) (p k : ℕ) → IsNumber p → IsNumber (p + 1) → IsNumber k → (k ≡ p → ⊥) → (k ≡ p + 1 → ⊥) → moved m p (path_at n k) ≡ m (path_at n k)
  moved_other m p k i j l a b = there (put m (path_at n p) thing.Nothing) (p + 1) k (m (path_at n p)) j l b ∙ there m p k thing.Nothing i l a

  moved_away : (m : Names) (p : ℕ) → IsNumber p → IsNumber (p + 1) → moved m p (path_at n p) ≡ thing.Nothing
  moved_away m p i j = there (put m (path_at n p) thing.Nothing) (p + 1) p (m (path_at n p)) j i (λ e. omega (arith, e)) ∙ here m p thing.Nothing

  shifts : (m : Names) (top : ℕ) (ks : List ℕ) → IsNumber top → Every (λ k. k < top) ks → Falls ks → AreGaps top ks m → Shifted top m (run m (map (move_at n) ks))
  shifts m top [] number low falls gaps = record {
    first = gaps 0 (omega arith) (omega arith) refl;
    up = λ k i lt. gaps (k + 1) i (omega arith) refl ∙ sym (gaps k (omega arith) (omega arith) refl);
    above = λ k i lt. refl;
  }
  shifts m top (p ∷ ks) number low falls gaps = on (shifts (moved m p) p ks i falls.0 falls.1 gaps_on)
    where
      lt : p < top
      lt = low.0

      i : IsNumber p
      i = omega (arith, lt)

      j : IsNumber (p + 1)
      j = omega (arith, lt)

      gaps_on : AreGaps p ks (moved m p)
      gaps_on k l le none = ⊎_elim (λ below. lower below) (λ rest. ⊎_elim (λ e. subst (λ (x : ℕ). moved m p (path_at n x) ≡ thing.Nothing) (sym e) (moved_away m p i j)) (λ over. absurd (omega (arith, le, over))) rest) (order k p)
        where
          lower : k < p → moved m p (path_at n k) ≡ thing.Nothing
          lower below = moved_other m p k i j l (λ e. omega (arith, e, below)) (λ e. omega (arith, e, below)) ∙ gaps k l (omega (arith, lt, below)) (has_next p k ks (λ e. omega (arith, e, below)) none)

      none_above : (k : ℕ) → p < k → has k (p ∷ ks) ≡ false
      none_above k over = has_next p k ks (λ e. omega (arith, e, over)) (has_below k ks (every_as (λ j. j < p) (λ j. j < k) ks (λ j b. omega (arith, b, over)) falls.0))

      on : {m' : Names} → Shifted p (moved m p) m' → Shifted top m m'
      on {m'} s = record {
        first = s.first;
        up = λ k l b. ⊎_elim (λ below. s.up k l below ∙ moved_other m p k i j (omega (arith, l)) (λ e. omega (arith, e, below)) (λ e. omega (arith, e, below))) (λ rest. ⊎_elim (λ e. at k e) (λ over. high k l b over) rest) (order k p);
        above = λ k l over. s.above k l (omega (arith, lt, over)) ∙ moved_other m p k i j l (λ e. omega (arith, e, lt, over)) (λ e. omega (arith, e, lt, over));
      }
        where
          at : (k : ℕ) → k ≡ p → m' (path_at n (k + 1)) ≡ m (path_at n k)
          at k e = subst (λ (x : ℕ). m' (path_at n (x + 1)) ≡ m (path_at n x)) (sym e) (s.above (p + 1) j (omega arith) ∙ here (put m (path_at n p) thing.Nothing) (p + 1) (m (path_at n p)))

          high : (k : ℕ) → IsNumber (k + 1) → k < top → p < k → m' (path_at n (k + 1)) ≡ m (path_at n k)
          high k l b over = s.above (k + 1) l (omega (arith, over)) ∙ (moved_other m p (k + 1) i j l (λ e. omega (arith, e, over)) (λ e. omega (arith, e, over))
              ∙ (gaps (k + 1) l (omega (arith, b)) (none_above (k + 1) (omega (arith, over))) ∙ sym (gaps k (omega (arith, l)) (omega (arith, b)) (none_above k over))))

  moves_aside : (m : Names) (ks : List ℕ) (x : Path) → Every IsNumber ks → Every (λ k. IsNumber (k + 1)) ks → IsOther x → run m (map (move_at n) ks) x ≡ m x
  moves_aside m [] x a b o = refl
  moves_aside m (p ∷ ks) x a b o = moves_aside (moved m p) ks x a.1 b.1 o ∙ (aside (put m (path_at n p) thing.Nothing) (p + 1) (m (path_at n p)) x b.0 o ∙ aside m p thing.Nothing x a.0 o)

  left_is : (t k : ℕ) → t ≤ k → nat_le t k ≡ true
  left_is t k le = grind (arith, nat_tests)

  kept_is : (t k : ℕ) → k < t → nat_le t k ≡ false
  kept_is t k lt = grind (arith, nat_tests)

  below_count : (t k : ℕ) → nat_le t k ≡ false → k < t
  below_count t k e = grind (arith, nat_tests)

  kept_below : (c : Count) (k : ℕ) → k < top_of n c → is_left c k ≡ false
  kept_below (count.Keep t) k lt = kept_is t k lt
  kept_below count.Always k lt = refl

  pub stays_below : (c : Count) (k : ℕ) → is_left c k ≡ false → IsNumber (k + 1) → k < top_of n c
  stays_below (count.Keep t) k e i = below_count t k e
  stays_below count.Always k e i = omega (arith, i)

  next_below : (c : Count) (k : ℕ) → is_left c (suc k) ≡ false → IsNumber (suc k) → k < top_of n c
  next_below (count.Keep t) k e i = let lt = below_count t (suc k) e in omega (arith, lt)
  next_below count.Always k e i = omega (arith, i)

  module _ (m : Names) (c : Count) (places : List ℕ) (small : IsNumber (top_of n c)) (falls : Falls places) (within : Every IsNumber places) (next : Every (λ k. is_left c k ≡ false → IsNumber (k + 1)) places) (s : StandSo log n places m) where
    abbrev dropped : Names
    dropped = run m (leftover_steps n c places)

    abbrev shifted : Names
    shifted = run dropped (shift_steps n c places)

    abbrev renamed : Names
    renamed = put (put shifted log thing.Nothing) (path_at n 0) (shifted log)

    is_dropped : (k : ℕ) → IsNumber k → dropped (path_at n k) ≡ cond (is_left c k && has k places) thing.Nothing (m (path_at n k))
    is_dropped k i = drops m (leftovers c places) k (every_filter IsNumber (is_left c) places within) i ∙ ap (λ b. cond b thing.Nothing (m (path_at n k))) (has_filter (is_left c) k places)

    -- a place that has no member
    gap : (k : ℕ) → IsNumber k → has k places ≡ false → m (path_at n k) ≡ thing.Nothing
    gap k i e = s.others k i (λ h. has_none k places e h)

    low : (k : ℕ) → IsNumber k → k < top_of n c → dropped (path_at n k) ≡ m (path_at n k)
    low k i lt = is_dropped k i ∙ go (is_left c k) (kept_below c k lt) (has k places)
      where
        go : (b : Bool) → b ≡ false → (h : Bool) → cond (b && h) thing.Nothing (m (path_at n k)) ≡ m (path_at n k)
        go true e h = absurd (cc)
        go false e h = refl

    -- from the top on a member is left out, or none is there
    out_or_none : (c : Count) → Every (λ k. is_left c k ≡ false → IsNumber (k + 1)) places → (k : ℕ) → top_of n c ≤ k → (is_left c k ≡ true) ⊎ (has k places ≡ false)
    out_or_none (count.Keep t) next k le = inl (left_is t k le)
    out_or_none count.Always next k le = inr (go (has k places) refl)
      where
        go : (b : Bool) → has k places ≡ b → has k places ≡ false
        go true e = let i : IsNumber (k + 1) = among k places (λ j. is_left count.Always j ≡ false → IsNumber (j + 1)) e next refl in absurd (omega (arith, i, le))
        go false e = e

    high : (k : ℕ) → IsNumber k → top_of n c ≤ k → dropped (path_at n k) ≡ thing.Nothing
    high k i le = is_dropped k i ∙ ⊎_elim (λ left. by_left (is_left c k) left (has k places) refl) (λ none. by_none (is_left c k) (has k places) none) (out_or_none c next k le)
      where
        by_left : (b : Bool) → b ≡ true → (h : Bool) → has k places ≡ h → cond (b && h) thing.Nothing (m (path_at n k)) ≡ thing.Nothing
        by_left true e true h = refl
        by_left true e false h = gap k i h
        by_left false e b h = absurd (cc)

        by_none : (b h : Bool) → has k places ≡ false → cond (b && h) thing.Nothing (m (path_at n k)) ≡ thing.Nothing
        by_none true true e = refl
        by_none true false e = gap k i e
        by_none false h e = gap k i e

    gaps : AreGaps (top_of n c) (kept c places) dropped
    gaps k i le none = ⊎_elim (λ lt. low k i lt ∙ gap k i (lower lt)) (λ rest. high k i (⊎_elim (λ e. omega (arith, e)) (λ over. omega (arith, over)) rest)) (order k (top_of n c))
      where
        unfiltered : (b h : Bool) → b ≡ false → (not b && h) ≡ false → h ≡ false
        unfiltered true h e f = absurd (cc)
        unfiltered false h e f = f

        lower : k < top_of n c → has k places ≡ false
        lower lt = unfiltered (is_left c k) (has k places) (kept_below c k lt) (sym (has_filter (λ j. not (is_left c j)) k places) ∙ none)

    kept_next : Every (λ k. IsNumber (k + 1)) (kept c places)
    kept_next = kept_as (λ k. IsNumber (k + 1)) c places next

    kept_low : Every (λ k. k < top_of n c) (kept c places)
    kept_low = every_both (λ k. is_left c k ≡ false) (λ k. IsNumber (k + 1)) (λ k. k < top_of n c) (kept c places) (λ k e i. stays_below c k e i) (kept_stay c places) kept_next

    is_shifted : Shifted (top_of n c) dropped shifted
    is_shifted = shifts dropped (top_of n c) (kept c places) small kept_low (falls_filter (λ k. not (is_left c k)) places falls) gaps

    aside_shifted : (x : Path) → IsOther x → shifted x ≡ m x
    aside_shifted x o = moves_aside dropped (kept c places) x (every_filter IsNumber (λ k. not (is_left c k)) places within) kept_next o ∙ drops_aside m (leftovers c places) x (every_filter IsNumber (is_left c) places within) o

    first : IsNumber 0
    first = omega (arith, small)

    renamed_first : renamed (path_at n 0) ≡ m log
    renamed_first = put_here (put shifted log thing.Nothing) (path_at n 0) (path_at n 0) (shifted log) refl ∙ aside_shifted log log_other

    renamed_member : (k : ℕ) → IsNumber (suc k) → renamed (path_at n (suc k)) ≡ shifted (path_at n (suc k))
    renamed_member k i = there (put shifted log thing.Nothing) 0 (suc k) (shifted log) first i (λ e. omega (arith, e)) ∙ put_other shifted log (path_at n (suc k)) thing.Nothing (λ e. log_apart log n (suc k) kin numbered i (sym e))

    renamed_log : renamed log ≡ thing.Nothing
    renamed_log = put_other (put shifted log thing.Nothing) (path_at n 0) log (shifted log) (λ e. log_apart log n 0 kin numbered first e) ∙ put_here shifted log log thing.Nothing refl

    renamed_other : (x : Path) → x ≢ log → IsOther x → renamed x ≡ m x
    renamed_other x ne o = put_other (put shifted log thing.Nothing) (path_at n 0) x (shifted log) (λ e. o 0 first e) ∙ (put_other shifted log x thing.Nothing ne ∙ aside_shifted x o)

    -- one place up, and nothing above the top
    renamed_up : (k : ℕ) → IsNumber (suc k) → k < top_of n c → renamed (path_at n (suc k)) ≡ m (path_at n k)
    renamed_up k i lt = renamed_member k i ∙ (subst (λ (j : ℕ). shifted (path_at n j) ≡ dropped (path_at n k)) one (is_shifted.up k (omega (arith, i)) lt) ∙ low k (omega (arith, i)) lt)
      where
        one : k + 1 ≡ suc k
        one = omega arith

    renamed_above : (k : ℕ) → IsNumber (suc k) → top_of n c < suc k → renamed (path_at n (suc k)) ≡ thing.Nothing
    renamed_above k i lt = renamed_member k i ∙ (is_shifted.above (suc k) i lt ∙ high (suc k) i (omega (arith, lt)))

  -- Behind the log's rename.
  pub record Renamed (c : Count) (m r : Names) : Type 0 where
    pub first : r (path_at n 0) ≡ m log
    pub up : (k : ℕ) → IsNumber (suc k) → k < top_of n c → r (path_at n (suc k)) ≡ m (path_at n k)
    pub above : (k : ℕ) → IsNumber (suc k) → top_of n c < suc k → r (path_at n (suc k)) ≡ thing.Nothing
    pub log_gone : r log ≡ thing.Nothing
    pub others : (x : Path) → x ≢ log → IsOther x → r x ≡ m x

  pub renamed_so : (m : Names) (c : Count) (places : List ℕ) → IsNumber (top_of n c) → Falls places → Every IsNumber places → Every (λ k. is_left c k ≡ false → IsNumber (k + 1)) places → StandSo log n places m
      → Renamed c m (run m (leftover_steps n c places ++ turn_steps n c log places))
  renamed_so m c places small falls within next s = subst (Renamed c m) (sym parts) (record {
    first = renamed_first m c places small falls within next s;
    up = renamed_up m c places small falls within next s;
    above = renamed_above m c places small falls within next s;
    log_gone = renamed_log m c places small falls within next s;
    others = renamed_other m c places small falls within next s;
  })
    where
      parts : run m (leftover_steps n c places ++ turn_steps n c log places) ≡ renamed m c places small falls within next s
      parts = run_both m (leftover_steps n c places) (turn_steps n c log places) ∙ run_both (run m (leftover_steps n c places)) (shift_steps n c places) (entry.Renames log (path_at n 0) ∷ [])

  -- the new places of those that go have names
  pub going_number : (c : Count) (places from : List ℕ) → Every (λ k. is_left c k ≡ false → IsNumber (k + 1)) places → AreGoing c places from → (k : ℕ) → Contains from k → IsNumber (k + 1)
  going_number c places from next going k h = among k places (λ j. is_left c j ≡ false → IsNumber (j + 1)) (has_it k places (going.there k h)) next (going.moved k h)

  pub retired_numbers : (c : Count) (places from : List ℕ) → IsNumber (top_of n c) → Every (λ k. is_left c k ≡ false → IsNumber (k + 1)) places → AreGoing c places from → Every IsNumber (retired c from)
  retired_numbers c places from small next going =
      every_retired IsNumber c from (every_from (λ k. IsNumber (suc k)) from (λ k h. (let i = going_number c places from next going k h in omega (arith, i)))) (λ e. omega (arith, small))

  -- those that go, and the log where none is kept, are gone behind that
  ended : (m r : Names) (c : Count) (places from : List ℕ) → IsNumber (top_of n c) → Every (λ k. is_left c k ≡ false → IsNumber (k + 1)) places → AreGoing c places from → StandSo log n places m → Renamed c m r
      → IsChainTurned log n c from m (run r (retire_steps n c from))
  ended m r c places from small next going s f = record {
    members = members;
    log_gone = drops_aside r (retired c from) log numbers log_other ∙ f.log_gone;
    others = λ x ne o. drops_aside r (retired c from) x numbers o ∙ f.others x ne o;
  }
    where
      numbers : Every IsNumber (retired c from)
      numbers = retired_numbers c places from small next going

      member : (k : ℕ) → IsNumber (suc k) → (goes left : Bool) → has k from ≡ goes → is_left c (suc k) ≡ left → cond goes thing.Nothing (r (path_at n (suc k))) ≡ cond (left || goes) thing.Nothing (m (path_at n k))
      member k i true true e d = refl
      member k i true false e d = refl
      member k i false true e d = ⊎_elim (λ lt. f.up k i lt ∙ none lt) (λ rest. f.above k i (⊎_elim (λ same. omega (arith, same)) (λ over. omega (arith, over)) rest)) (order k (top_of n c))
        where
          -- the count leaves no room behind this place, so a member at it would go
          none : k < top_of n c → m (path_at n k) ≡ thing.Nothing
          none lt = s.others k (omega (arith, i)) (λ h. has_none k from e (going.full k h (kept_below c k lt) d))
      member k i false false e d = f.up k i (next_below c k d i)

      members : (place : ℕ) → IsNumber place → run r (retire_steps n c from) (path_at n place) ≡ turned c from (m log) (λ p. m (path_at n p)) place
      members zero i = drops r (retired c from) 0 numbers i ∙ (ap (λ b. cond b thing.Nothing (r (path_at n 0))) (has_first c from) ∙ ap (λ t. cond (is_left c 0) thing.Nothing t) f.first)
      members (suc k) i = drops r (retired c from) (suc k) numbers i ∙ (ap (λ b. cond b thing.Nothing (r (path_at n (suc k)))) (has_new c k from) ∙ member k i (has k from) (is_left c (suc k)) refl refl)

  -- the whole
  pub family_turned : (m : Names) (c : Count) (places from : List ℕ) → IsNumber (top_of n c) → Falls places → Every IsNumber places → Every (λ k. is_left c k ≡ false → IsNumber (k + 1)) places → AreGoing c places from → StandSo log n places m
      → IsChainTurned log n c from m (names_after m (changes_of (reverse (rotation n c log places from))))
  family_turned m c places from small falls within next going s =
      subst (IsChainTurned log n c from m) (sym parts) (ended m (run m (leftover_steps n c places ++ turn_steps n c log places)) c places from small next going s (renamed_so m c places small falls within next s))
    where
      parts : names_after m (changes_of (reverse (rotation n c log places from))) ≡ run (run m (leftover_steps n c places ++ turn_steps n c log places)) (retire_steps n c from)
      parts = run_is m (rotation n c log places from) ∙ (ap (run m) (sym (append_assoc (leftover_steps n c places) (turn_steps n c log places) (retire_steps n c from))) ∙ run_both m (leftover_steps n c places ++ turn_steps n c log places) (retire_steps n c from))
