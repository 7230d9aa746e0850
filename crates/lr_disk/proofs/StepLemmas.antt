-- One pending change after another.
use Rattle.std.proofs.Common.{◌≡◌, ℕ, zero, suc, ◌+◌, ◌<◌, ◌≤◌, Bool, true, false, cond, ◌||◌, ◌&&◌, nat_eq, bytes_eq, ◌-◌, List, [], ◌∷◌, ◌++◌, length, take, drop, get_or, map, reverse, refl, sym, ◌∙◌, ap, subst, arith}
use Rattle.std.specs.List.{list_any}
use Rattle.std.proofs.Math.Seq.{take-length}
use Rattle.std.proofs.lemmas.Bool.{or_left, or_right, or_parts, or_from}
use Rattle.std.proofs.lemmas.List.{take_more, drop_more, map-append, reverse-append, length-reverse, length-map, length-take-le, append-nil}
use Rattle.lr_rules.specs.declared.path.Path.{Path}
use Rattle.lr_rules.proofs.Bools.{not_both}
use Rattle.lr_host.specs.declared.thing.Thing.{Thing}
use Rattle.lr_host.specs.World.{Names, names_after, changed, Change, Puts, Moves, Drops, shares, is_listed, kept_at, undone_at, IsClosed, settled, is_bound, has_parent, paths_in}
use Rattle.lr_host.proofs.Closed.{changed_alike, bound_of, unbound_of}
use Rattle.lr_host.specs.Fits.{AreRising}
use Rattle.lr_host.proofs.Places.{bound, rising_le}
use Rattle.lr_disk.specs.declared.pending.Pending.{Pending}
use Rattle.lr_disk.specs.declared.pending.Pending.TheVariants as held
use Rattle.lr_disk.specs.Pairs.{keys}
use Rattle.lr_disk.specs.Names.{has_path, named_in}
use Rattle.lr_disk.specs.Pending.{as_change, pending_of, HasPairs, AreKnown}

-- one more
pub step : (xs : List Pending) (i : ℕ) (d : Pending) → i < length xs → d ≡ get_or xs i d → pending_of (take (i + 1) xs) ≡ as_change d ∷ pending_of (take i xs)
step xs i d lt is =
    ap pending_of (take_more xs i d lt)
    ∙ (ap reverse (map-append as_change (take i xs) (get_or xs i d ∷ []))
    ∙ (reverse-append (map as_change (take i xs)) (as_change (get_or xs i d) ∷ [])
    ∙ ap (λ v. as_change v ∷ pending_of (take i xs)) (sym is)))

size : (xs : List Pending) (i : ℕ) → i ≤ length xs → length (pending_of (take i xs)) ≡ i
size xs i le = length-reverse (map as_change (take i xs)) ∙ (length-map (take i xs) as_change ∙ length-take-le i xs le)

-- some change stands there
abbrev pub at : List Pending → ℕ → Pending
at xs i = get_or xs i (held.Drops [])

at_is : (xs : List Pending) (i : ℕ) (d : Pending) → i < length xs → at xs i ≡ get_or xs i (at xs i)
at_is [] i d lt = absurd (omega arith)
at_is (x ∷ xs) zero d lt = refl
at_is (x ∷ xs) (suc i) d lt = at_is xs i d (omega arith)

step_at : (xs : List Pending) (i : ℕ) → i < length xs → pending_of (take (i + 1) xs) ≡ as_change (at xs i) ∷ pending_of (take i xs)
step_at xs i lt = step xs i (at xs i) lt (at_is xs i (at xs i) lt)

undone_step : (kept : List ℕ) (xs : List Pending) (i : ℕ) (d : Change) (b : Bool) → i ≤ length xs → is_listed kept i ≡ b → undone_at kept (d ∷ pending_of (take i xs)) ≡ cond b (undone_at kept (pending_of (take i xs))) (d ∷ undone_at kept (pending_of (take i xs)))
undone_step kept xs i d b le e = ap (λ l. cond l (undone_at kept (pending_of (take i xs))) (d ∷ undone_at kept (pending_of (take i xs)))) (ap (is_listed kept) (size xs i le) ∙ e)

kept_step : (kept : List ℕ) (xs : List Pending) (i : ℕ) (d : Change) (b : Bool) → i ≤ length xs → is_listed kept i ≡ b → kept_at kept (d ∷ pending_of (take i xs)) ≡ cond b (d ∷ kept_at kept (pending_of (take i xs))) (kept_at kept (pending_of (take i xs)))
kept_step kept xs i d b le e = ap (λ l. cond l (d ∷ kept_at kept (pending_of (take i xs))) (kept_at kept (pending_of (take i xs)))) (ap (is_listed kept) (size xs i le) ∙ e)

-- ---- apart

abbrev pub IsApartOf : Change → List ℕ → List Pending → ℕ → Type 0
IsApartOf c kept xs i = list_any (shares c) (undone_at kept (pending_of (take i xs))) ≡ false

pub apart_listed : (c : Change) (kept : List ℕ) (xs : List Pending) (i : ℕ) → i < length xs → is_listed kept i ≡ true → IsApartOf c kept xs i → IsApartOf c kept xs (i + 1)
apart_listed c kept xs i lt e a = ap (λ cs. list_any (shares c) (undone_at kept cs)) (step_at xs i lt) ∙ (ap (list_any (shares c)) (undone_step kept xs i (as_change (at xs i)) true (omega arith) e) ∙ a)

pub apart_other : (c : Change) (kept : List ℕ) (xs : List Pending) (i : ℕ) (d : Pending) → i < length xs → d ≡ get_or xs i d → is_listed kept i ≡ false → shares c (as_change d) ≡ false → IsApartOf c kept xs i → IsApartOf c kept xs (i + 1)
apart_other c kept xs i d lt is e n a =
    ap (λ cs. list_any (shares c) (undone_at kept cs)) (step xs i d lt is)
    ∙ (ap (list_any (shares c)) (undone_step kept xs i (as_change d) false (omega arith) e) ∙ or_from (shares c (as_change d)) (list_any (shares c) (undone_at kept (pending_of (take i xs)))) n a)

apart_back : (c : Change) (kept : List ℕ) (xs : List Pending) (i : ℕ) → i < length xs → IsApartOf c kept xs (i + 1) → IsApartOf c kept xs i
apart_back c kept xs i lt a = go (is_listed kept i) refl
  where
    go : (b : Bool) → is_listed kept i ≡ b → IsApartOf c kept xs i
    go true e = sym (ap (list_any (shares c)) (undone_step kept xs i (as_change (at xs i)) true (omega arith) e)) ∙ (sym (ap (λ cs. list_any (shares c) (undone_at kept cs)) (step_at xs i lt)) ∙ a)
    go false e = (
        or_parts (shares c (as_change (at xs i))) (list_any (shares c) (undone_at kept (pending_of (take i xs))))
        (sym (ap (list_any (shares c)) (undone_step kept xs i (as_change (at xs i)) false (omega arith) e)) ∙ (sym (ap (λ cs. list_any (shares c) (undone_at kept cs)) (step_at xs i lt)) ∙ a))
        ).1

apart_part : (c : Change) (kept : List ℕ) (xs : List Pending) (m i : ℕ) → i + m ≡ length xs → list_any (shares c) (undone_at kept (pending_of xs)) ≡ false → IsApartOf c kept xs i
apart_part c kept xs zero i e a = ap (λ l. list_any (shares c) (undone_at kept (pending_of l))) (ap (λ k. take k xs) (let q : i ≡ length xs = omega arith in q) ∙ take-length xs) ∙ a
apart_part c kept xs (suc m) i e a = apart_back c kept xs i (omega arith) (apart_part c kept xs m (i + 1) (omega arith) a)

pub shares_undone : (c : Change) (kept : List ℕ) (xs : List Pending) (i : ℕ) (d : Pending) → i < length xs → d ≡ get_or xs i d → is_listed kept i ≡ false → shares c (as_change d) ≡ true → list_any (shares c) (undone_at kept (pending_of xs)) ≡ false → ⊥
shares_undone c kept xs i d lt is e sh a = not_both (shares c (as_change d)) sh (or_parts (shares c (as_change d)) (list_any (shares c) (undone_at kept (pending_of (take i xs)))) first).0
  where
    rest : ℕ
    rest = length xs - (i + 1)

    first : (shares c (as_change d) || list_any (shares c) (undone_at kept (pending_of (take i xs)))) ≡ false
    first = sym (ap (list_any (shares c)) (undone_step kept xs i (as_change d) false (omega arith) e)) ∙ (sym (ap (λ cs. list_any (shares c) (undone_at kept cs)) (step xs i d lt is)) ∙ apart_part c kept xs (length xs - (i + 1)) (i + 1) (omega arith) a)

-- ---- closed

pub closed_other : (kept : List ℕ) (xs : List Pending) (j : ℕ) → j < length xs → is_listed kept j ≡ false → IsClosed kept (pending_of (take j xs)) → IsClosed kept (pending_of (take (j + 1) xs))
closed_other kept xs j lt e h = subst (IsClosed kept) (sym (step_at xs j lt)) (h, λ l. absurd (not_both (is_listed kept j) (sym (ap (is_listed kept) (size xs j (omega arith))) ∙ l) e))

pub closed_next : (kept : List ℕ) (xs : List Pending) (j : ℕ) (d : Pending) → j < length xs → d ≡ get_or xs j d → IsApartOf (as_change d) kept xs j → IsClosed kept (pending_of (take j xs)) → IsClosed kept (pending_of (take (j + 1) xs))
closed_next kept xs j d lt is a h = subst (IsClosed kept) (sym (step xs j d lt is)) (h, λ l. a)

closed_part : (kept : List ℕ) (xs : List Pending) (m j : ℕ) → j + m ≡ length xs → IsClosed kept (pending_of xs) → IsClosed kept (pending_of (take j xs))
closed_part kept xs zero j e h = subst (λ l. IsClosed kept (pending_of l)) (sym (ap (λ k. take k xs) (let q : j ≡ length xs = omega arith in q) ∙ take-length xs)) h
closed_part kept xs (suc m) j e h = (subst (IsClosed kept) (step_at xs j (omega arith)) (closed_part kept xs m (j + 1) (omega arith) h)).0

pub closed_apart : (kept : List ℕ) (xs : List Pending) (j : ℕ) (d : Pending) → j < length xs → d ≡ get_or xs j d → is_listed kept j ≡ true → IsClosed kept (pending_of xs) → IsApartOf (as_change d) kept xs j
closed_apart kept xs j d lt is e h = (subst (IsClosed kept) (step xs j d lt is) (closed_part kept xs (length xs - (j + 1)) (j + 1) (omega arith) h)).1 (ap (is_listed kept) (size xs j (omega arith)) ∙ e)

-- ---- kept

pub kept_same : (kept : List ℕ) (xs : List Pending) (i : ℕ) → i < length xs → is_listed kept i ≡ false → kept_at kept (pending_of (take (i + 1) xs)) ≡ kept_at kept (pending_of (take i xs))
kept_same kept xs i lt e = ap (kept_at kept) (step_at xs i lt) ∙ kept_step kept xs i (as_change (at xs i)) false (omega arith) e

pub kept_next : (kept : List ℕ) (xs : List Pending) (i : ℕ) (d : Pending) → i < length xs → d ≡ get_or xs i d → is_listed kept i ≡ true → kept_at kept (pending_of (take (i + 1) xs)) ≡ as_change d ∷ kept_at kept (pending_of (take i xs))
kept_next kept xs i d lt is e = ap (kept_at kept) (step xs i d lt is) ∙ kept_step kept xs i (as_change d) true (omega arith) e

known_part : (ns : List (Path × Thing)) (xs : List Pending) (m j : ℕ) → j + m ≡ length xs → AreKnown ns (pending_of xs) → AreKnown ns (pending_of (take j xs))
known_part ns xs zero j e h = subst (λ l. AreKnown ns (pending_of l)) (sym (ap (λ k. take k xs) (let q : j ≡ length xs = omega arith in q) ∙ take-length xs)) h
known_part ns xs (suc m) j e h = (subst (AreKnown ns) (step_at xs j (omega arith)) (known_part ns xs m (j + 1) (omega arith) h)).1

pub known_at : (ns : List (Path × Thing)) (xs : List Pending) (i : ℕ) (d : Pending) → i < length xs → d ≡ get_or xs i d → AreKnown ns (pending_of xs) → HasPairs ns (as_change d)
known_at ns xs i d lt is h = (subst (AreKnown ns) (step xs i d lt is) (known_part ns xs (length xs - (i + 1)) (i + 1) (omega arith) h)).0

pub known_same : (ns ms : List (Path × Thing)) (c : Change) → ((x : Path) → has_path ns x ≡ true → has_path ms x ≡ true) → HasPairs ns c → HasPairs ms c
known_same ns ms (Puts x t) f k = f x k
known_same ns ms (Moves from to) f k = (f from k.0, f to k.1)
known_same ns ms (Drops x) f k = f x k

pub has_same : (ns ms : List (Path × Thing)) (x : Path) → keys ms ≡ keys ns → has_path ns x ≡ true → has_path ms x ≡ true
has_same ns ms x same h = go (keys ms) (keys ns) same h
  where
    go : (ks ls : List Path) → ks ≡ ls → list_any (λ k. bytes_eq k x) ls ≡ true → list_any (λ k. bytes_eq k x) ks ≡ true
    go ks ls e h = ap (λ l. list_any (λ k. bytes_eq k x) l) e ∙ h

-- ---- inside a directory

pub behind : (b x : List ℕ) → length b < length x → bytes_eq (take (length b) x) b ≡ true → nat_eq (get_or x (length b) 0) 47 ≡ bytes_eq (take (length (b ++ 47 ∷ [])) x) (b ++ 47 ∷ [])
behind b [] lt e = absurd (omega arith)
behind [] (y ∷ ys) lt e = go (nat_eq y 47)
  where
    go : (v : Bool) → v ≡ (v && true)
    go true = refl
    go false = refl
behind (b ∷ bs) (y ∷ ys) lt e = go (nat_eq y b) e (behind bs ys (omega arith))
  where
    go : (v : Bool) → (v && bytes_eq (take (length bs) ys) bs) ≡ true → (bytes_eq (take (length bs) ys) bs ≡ true → nat_eq (get_or ys (length bs) 0) 47 ≡ bytes_eq (take (length (bs ++ 47 ∷ [])) ys) (bs ++ 47 ∷ []))
        → nat_eq (get_or ys (length bs) 0) 47 ≡ (v && bytes_eq (take (length (bs ++ 47 ∷ [])) ys) (bs ++ 47 ∷ []))
    go true e r = r e
    go false e r = absurd (cc)

pub not_behind : (b x : List ℕ) → bytes_eq (take (length b) x) b ≡ false → false ≡ bytes_eq (take (length (b ++ 47 ∷ [])) x) (b ++ 47 ∷ [])
not_behind [] x e = absurd (cc)
not_behind (b ∷ bs) [] e = refl
not_behind (b ∷ bs) (y ∷ ys) e = go (nat_eq y b) e (not_behind bs ys)
  where
    go : (v : Bool) → (v && bytes_eq (take (length bs) ys) bs) ≡ false → (bytes_eq (take (length bs) ys) bs ≡ false → false ≡ bytes_eq (take (length (bs ++ 47 ∷ [])) ys) (bs ++ 47 ∷ []))
        → false ≡ (v && bytes_eq (take (length (bs ++ 47 ∷ [])) ys) (bs ++ 47 ∷ []))
    go true e r = r e
    go false e r = refl

-- ---- the sync of a directory

any_up : (f : Change → Bool) (xs : List Pending) (m i : ℕ) → i + m ≡ length xs → list_any f (pending_of (take i xs)) ≡ true → list_any f (pending_of xs) ≡ true
any_up f xs zero i e h = ap (λ l. list_any f (pending_of l)) (sym (ap (λ k. take k xs) (let q : i ≡ length xs = omega arith in q) ∙ take-length xs)) ∙ h
any_up f xs (suc m) i e h = any_up f xs m (i + 1) (omega arith) (ap (list_any f) (step_at xs i (omega arith)) ∙ or_right (f (as_change (at xs i))) (list_any f (pending_of (take i xs))) h)

pub shared_by : (dir : Path) (xs : List Pending) (c : Change) (i : ℕ) (d : Pending) → i < length xs → d ≡ get_or xs i d → shares (as_change d) c ≡ true → is_bound dir (pending_of xs) c ≡ true
shared_by dir xs c i d lt is sh = or_right (list_any (has_parent dir) (paths_in c)) (list_any (λ v. shares v c) (pending_of xs))
    (any_up (λ v. shares v c) xs (length xs - (i + 1)) (i + 1) (omega arith) (ap (list_any (λ v. shares v c)) (step xs i d lt is) ∙ or_left (shares (as_change d) c) (list_any (λ v. shares v c) (pending_of (take i xs))) sh))

pub parted_bound : (dir : Path) (all bound changes : List Pending) → changes ≡ [] → map as_change bound ++ bound_of dir (pending_of bound) (pending_of changes) ≡ bound_of dir [] (pending_of all) → map as_change bound ≡ kept_at (settled dir [] (pending_of all)) (pending_of all)
parted_bound dir all taken changes none e = sym (append-nil (map as_change taken)) ∙ (ap (λ cs. map as_change taken ++ bound_of dir (pending_of taken) (pending_of cs)) (sym none) ∙ (e ∙ sym (bound dir [] (pending_of all)).holds))

pub parted_rest : (dir : Path) (all taken rest changes : List Pending) → changes ≡ [] → map as_change rest ++ unbound_of dir (pending_of taken) (pending_of changes) ≡ unbound_of dir [] (pending_of all) → map as_change rest ≡ undone_at (settled dir [] (pending_of all)) (pending_of all)
parted_rest dir all taken rest changes none e = sym (append-nil (map as_change rest)) ∙ (ap (λ cs. map as_change rest ++ unbound_of dir (pending_of taken) (pending_of cs)) (sym none) ∙ (e ∙ sym (bound dir [] (pending_of all)).leaves))

names_append : (n : Names) (xs ys : List Change) → names_after n (xs ++ ys) ≡ names_after (names_after n ys) xs
names_append n [] ys = refl
names_append n (c ∷ xs) ys = ap (changed c) (names_append n xs ys)

pub names_alike : (cs : List Change) (n m : Names) (x : Path) → ((y : Path) → n y ≡ m y) → names_after n cs x ≡ names_after m cs x
names_alike [] n m x f = f x
names_alike (c ∷ cs) n m x f = changed_alike c (names_after n cs) (names_after m cs) x (λ y t. names_alike cs n m y f) (names_alike cs n m x f)

pub replayed : (ns ms : List (Path × Thing)) (all xs : List Pending) (d : Pending) → all ≡ xs ++ d ∷ [] → ((x : Path) → named_in ms x ≡ changed (as_change d) (named_in ns) x) → (x : Path) → names_after (named_in ms) (map as_change xs) x ≡ names_after (named_in ns) (map as_change all) x
replayed ns ms all xs d is f x =
    names_alike (map as_change xs) (named_in ms) (changed (as_change d) (named_in ns)) x f
    ∙ sym (ap (λ l. names_after (named_in ns) (map as_change l) x) is ∙ (ap (λ l. names_after (named_in ns) l x) (map-append as_change xs (d ∷ [])) ∙ ap (λ m. m x) (names_append (named_in ns) (map as_change xs) (as_change d ∷ []))))

known_append : (ns : List (Path × Thing)) (xs : List Change) (c : Change) → AreKnown ns (xs ++ c ∷ []) → AreKnown ns xs × HasPairs ns c
known_append ns [] c k = (tt, k.0)
known_append ns (x ∷ xs) c k = let r = known_append ns xs c k.1 in ((k.0, r.0), r.1)

pub known_all : (ns ms : List (Path × Thing)) (cs : List Change) → keys ms ≡ keys ns → AreKnown ns cs → AreKnown ms cs
known_all ns ms [] same k = tt
known_all ns ms (c ∷ cs) same k = (known_same ns ms c (λ x h. has_same ns ms x same h) k.0, known_all ns ms cs same k.1)

known_split : (ns : List (Path × Thing)) (all xs : List Pending) (d : Pending) → all ≡ xs ++ d ∷ [] → AreKnown ns (map as_change all) → AreKnown ns (map as_change xs) × HasPairs ns (as_change d)
known_split ns all xs d is k = known_append ns (map as_change xs) (as_change d) (subst (AreKnown ns) (ap (map as_change) is ∙ map-append as_change xs (d ∷ [])) k)

pub known_first : (ns : List (Path × Thing)) (all xs : List Pending) (d : Pending) → all ≡ xs ++ d ∷ [] → AreKnown ns (map as_change all) → HasPairs ns (as_change d)
known_first ns all xs d is k = (known_split ns all xs d is k).1

pub known_rest : (ns ms : List (Path × Thing)) (all xs : List Pending) (d : Pending) → all ≡ xs ++ d ∷ [] → keys ms ≡ keys ns → AreKnown ns (map as_change all) → AreKnown ms (map as_change xs)
known_rest ns ms all xs d is same k = known_all ns ms (map as_change xs) same (known_split ns all xs d is k).0

pub known_more : (ns ms : List (Path × Thing)) (cs : List Change) → ((x : Path) → has_path ns x ≡ true → has_path ms x ≡ true) → AreKnown ns cs → AreKnown ms cs
known_more ns ms [] more k = tt
known_more ns ms (c ∷ cs) more k = (known_same ns ms c more k.0, known_more ns ms cs more k.1)

pub known_kept : (ns : List (Path × Thing)) (places : List ℕ) (cs : List Change) → AreKnown ns cs → AreKnown ns (kept_at places cs)
known_kept ns places [] k = tt
known_kept ns places (c ∷ cs) k = go (is_listed places (length cs)) (known_kept ns places cs k.1)
  where
    go : (b : Bool) → AreKnown ns (kept_at places cs) → AreKnown ns (cond b (c ∷ kept_at places cs) (kept_at places cs))
    go true r = (k.0, r)
    go false r = r

pub known_undone : (ns : List (Path × Thing)) (places : List ℕ) (cs : List Change) → AreKnown ns cs → AreKnown ns (undone_at places cs)
known_undone ns places [] k = tt
known_undone ns places (c ∷ cs) k = go (is_listed places (length cs)) (known_undone ns places cs k.1)
  where
    go : (b : Bool) → AreKnown ns (undone_at places cs) → AreKnown ns (cond b (undone_at places cs) (c ∷ undone_at places cs))
    go true r = r
    go false r = (k.0, r)

-- a place of a rising list
pub rising_here : (places : List ℕ) (i d from count : ℕ) → i < length places → AreRising from (drop i places) count → (from ≤ get_or places i d) × (suc (get_or places i d) ≤ count)
rising_here places i d from count lt h = go (subst (λ l. AreRising from l count) (drop_more places i d lt) h)
  where
    go : AreRising from (get_or places i d ∷ drop (i + 1) places) count → (from ≤ get_or places i d) × (suc (get_or places i d) ≤ count)
    go r = (r.0, rising_le (suc (get_or places i d)) (drop (i + 1) places) count r.1)
