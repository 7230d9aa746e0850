-- The numbers of members, and of what stands behind them, are low enough.
use Rattle.std.proofs.Common.{◌≡◌, ℕ, suc, ◌+◌, ◌-◌, ◌==◌, ◌<◌, ◌≤◌, Bool, true, false, not, ◌&&◌, ◌||◌, cond, Option, None, List, [], ◌∷◌, length, get_or, map, reverse, refl, sym, subst, arith}
use Rattle.std.specs.Prelude.{ℤ, All, filter, nat_le}
use Rattle.std.specs.List.{list_any}
use Rattle.std.proofs.lemmas.Bool.Decides.{nat_tests}
use Rattle.std.proofs.lemmas.List.{reverse-append}
use Rattle.std.proofs.lemmas.List.Elements.{All-nil, All-cons, All-head, All-tail, All-append, All-map, All-weaker}
use Rattle.std.proofs.lemmas.List.Folds.{list_any_at}
use Rattle.lr_rules.specs.declared.fault.Fault.TheVariants as fault
use Rattle.lr_rules.specs.declared.path.Path.{Path}
use Rattle.lr_rules.specs.declared.rule.Count.{Count}
use Rattle.lr_rules.specs.declared.rule.Count.TheVariants as count
use Rattle.lr_rules.specs.declared.rule.Naming.{Naming}
use Rattle.lr_rules.specs.Limits.{IsCount}
use Rattle.lr_family.specs.declared.place.Place.{Place}
use Rattle.lr_family.specs.declared.stand.Member.{Member}
use Rattle.lr_family.specs.Places.{IsPlaceOf, AreNamed}
use Rattle.lr_family.specs.Stands.{number_in}
use Rattle.lr_family.proofs.Placed.{numbered_at}
use Rattle.lr_chain.specs.Hindrances.{number_hindrances}
use Rattle.lr_chain.specs.Rotation.{places_of, is_left, is_expired, goes, going}
use Rattle.lr_chain.specs.Ready.{HaveNames, HaveNext, HaveNewNames, NoneTooHigh, is_highest, highest_path}

-- the highest place that the count allows
abbrev pub top_of : Naming → Count → ℕ
top_of n (count.Keep k) = k
top_of n count.Always = 4294967295 - n.start

-- it has a name where a rule may have the count
pub top_number : (n : Naming) (c : Count) → n.start ≤ 999999 → IsCount c → n.start + top_of n c ≤ 4294967295
top_number n (count.Keep k) start small = omega arith
top_number n count.Always start small = omega arith

pub all_reverse : (P : ℕ → Type 0) (xs : List ℕ) → All P xs → All P (reverse xs)
all_reverse P [] h = h
all_reverse P (x ∷ xs) h = subst (All P) (sym (reverse-append (x ∷ []) xs)) (All-append P (reverse xs) (x ∷ []) (all_reverse P xs (All-tail P x xs h)) (All-cons P x [] (All-head P x xs h) (All-nil P)))

bound_of : (n : Naming) (place : Place) (path : Path) → n.dated ≡ None → IsPlaceOf n place path → n.start + number_in place ≤ 4294967295
bound_of n place path numbered named = let m = numbered_at n place path numbered named in m.bound

pub have_names : (n : Naming) (members : List Member) → n.dated ≡ None → AreNamed n members → HaveNames n (places_of members)
have_names n members numbered named = all_reverse (λ place. n.start + place ≤ 4294967295) (map (λ m. number_in m.place) members)
    (All-map (λ place. n.start + place ≤ 4294967295) (λ m. number_in m.place) members
    (All-weaker (λ m. IsPlaceOf n m.place m.path) (λ m. n.start + number_in m.place ≤ 4294967295) (λ m. bound_of n m.place m.path numbered) members named))

none_at : {X : Type 0} (p : X → Bool) (xs : List X) (k : ℕ) (d : X) → k < length xs → list_any p xs ≡ false → p (get_or xs k d) ≡ false
none_at p xs k d lt e = go (p (get_or xs k d)) refl
  where
    go : (b : Bool) → p (get_or xs k d) ≡ b → p (get_or xs k d) ≡ false
    go true h = let t : list_any p xs ≡ true = list_any_at p xs k d lt h in absurd (cc)
    go false h = h

next_of : (n : Naming) (c : Count) (m : Member) → n.dated ≡ None → n.start ≤ 999999 → IsCount c → IsPlaceOf n m.place m.path → (c ≡ count.Always → is_highest n m ≡ false)
    → is_left c (number_in m.place) ≡ false → n.start + (number_in m.place + 1) ≤ 4294967295
next_of n (count.Keep k) m numbered start small named low h = by_count (number_in m.place) h
  where
    by_count : (place : ℕ) → nat_le k place ≡ false → n.start + (place + 1) ≤ 4294967295
    by_count place h = let lt : place < k = grind (arith, nat_tests) in omega arith
next_of n count.Always m numbered start small named low h = by_bound (number_in m.place) (bound_of n m.place m.path numbered named) (low refl)
  where
    by_bound : (place : ℕ) → n.start + place ≤ 4294967295 → (n.start + place == 4294967295) ≡ false → n.start + (place + 1) ≤ 4294967295
    by_bound place le ne = grind (arith, nat_tests)

pub have_next : (n : Naming) (c : Count) (members : List Member) → n.dated ≡ None → n.start ≤ 999999 → IsCount c → AreNamed n members → NoneTooHigh n c members → HaveNext n c (places_of members)
have_next n c members numbered start small named low = all_reverse (λ place. is_left c place ≡ false → n.start + (place + 1) ≤ 4294967295) (map (λ m. number_in m.place) members)
    (All-map (λ place. is_left c place ≡ false → n.start + (place + 1) ≤ 4294967295) (λ m. number_in m.place) members
    (λ k d lt. next_of n c (get_or members k d) numbered start small (named k d lt) (λ e. none_at (is_highest n) members k d lt (low e))))

-- so have the new places of those that go
pub have_new_names : (n : Naming) (c : Count) (maxage : Option ℕ) (now : ℤ) (members : List Member) → n.dated ≡ None → n.start ≤ 999999 → IsCount c → AreNamed n members → NoneTooHigh n c members → HaveNewNames n (going c maxage now members)
have_new_names n c maxage now members numbered start small named low = all_reverse (λ place. n.start + (place + 1) ≤ 4294967295) (map (λ m. number_in m.place) (filter (goes c maxage now) members))
    (All-map (λ place. n.start + (place + 1) ≤ 4294967295) (λ m. number_in m.place) (filter (goes c maxage now) members) (new_names members (λ k d lt. next_of n c (get_or members k d) numbered start small (named k d lt) (λ e. none_at (is_highest n) members k d lt (low e)))))
  where
    new_names : (ms : List Member) → All (λ m. is_left c (number_in m.place) ≡ false → n.start + (number_in m.place + 1) ≤ 4294967295) ms → All (λ m. n.start + (number_in m.place + 1) ≤ 4294967295) (filter (goes c maxage now) ms)
    new_names [] h = All-nil (λ m. n.start + (number_in m.place + 1) ≤ 4294967295)
    new_names (m ∷ ms) h = go (is_left c (number_in m.place)) refl (is_left c (suc (number_in m.place)) || is_expired maxage now m) (new_names ms (All-tail (λ m. is_left c (number_in m.place) ≡ false → n.start + (number_in m.place + 1) ≤ 4294967295) m ms h))
      where
        go : (b : Bool) → is_left c (number_in m.place) ≡ b → (t : Bool) → All (λ m. n.start + (number_in m.place + 1) ≤ 4294967295) (filter (goes c maxage now) ms)
            → All (λ m. n.start + (number_in m.place + 1) ≤ 4294967295) (cond (not b && t) (m ∷ filter (goes c maxage now) ms) (filter (goes c maxage now) ms))
        go true e t r = r
        go false e true r = All-cons (λ m. n.start + (number_in m.place + 1) ≤ 4294967295) m (filter (goes c maxage now) ms) (All-head (λ m. is_left c (number_in m.place) ≡ false → n.start + (number_in m.place + 1) ≤ 4294967295) m ms h e) r
        go false e false r = r

-- where nothing hinders, none has the highest number of members that are all kept
pub none_too_high : (n : Naming) (c : Count) (members : List Member) → number_hindrances n c members ≡ [] → NoneTooHigh n c members
none_too_high n (count.Keep k) members free e = absurd (cc)
none_too_high n count.Always members free e = go (list_any (is_highest n) members) free
  where
    go : (b : Bool) → cond b (fault.TooHigh (highest_path n) ∷ []) [] ≡ [] → b ≡ false
    go true e = absurd (cc)
    go false e = refl
