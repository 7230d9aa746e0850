-- The rotation of a numbered family is one.
use Rattle.std.proofs.Common.{◌≡◌, inl, inr, ℕ, suc, ◌+◌, ◌<◌, ◌==◌, Bool, true, false, not, ◌&&◌, ◌||◌, bytes_eq, cond, eqb-true, eq-eqb, refl, sym, ◌∙◌, ap, subst, append_assoc, arith, List, [], ◌∷◌, ◌++◌, map, reverse, None}
use Rattle.std.specs.Prelude.{All, Contains}
use Rattle.std.specs.List.Sorted.{IsStrictlyIncreasing}
use Rattle.std.proofs.lemmas.Bool.Decides.{nat_tests}
use Rattle.std.proofs.lemmas.List.{reverse-reverse}
use Rattle.std.proofs.lemmas.List.Elements.{All-head, All-tail, All-cons, All-nil}
use Rattle.std.proofs.lemmas.Slice.Eq.{bytes_eq-Decides}
use Rattle.lr_rules.specs.declared.path.Path.{Path}
use Rattle.lr_rules.specs.declared.rule.Count.{Count}
use Rattle.lr_rules.specs.declared.rule.Count.TheVariants as count
use Rattle.lr_rules.specs.declared.rule.Naming.{Naming}
use Rattle.lr_rules.proofs.Bools.{not_both}
use Rattle.lr_rules.proofs.Options.{none_some}
use Rattle.lr_host.specs.declared.thing.Thing.{Thing}
use Rattle.lr_host.specs.declared.thing.Thing.TheVariants as thing
use Rattle.lr_host.specs.declared.entry.Entry.{Entry}
use Rattle.lr_host.specs.declared.entry.Entry.TheVariants.{Renames}
use Rattle.lr_host.specs.Fits.{IsFileAt}
use Rattle.lr_host.specs.Lists.{IsIn}
use Rattle.lr_host.specs.Steps.{changes_of}
use Rattle.lr_host.specs.World.{Names, names_after, in_list}
use Rattle.lr_host.proofs.Lists.{in_from, in_to, in_map, in_unmap, in_reverse, from_reverse}
use Rattle.lr_family.specs.declared.place.Place.{Place}
use Rattle.lr_family.specs.declared.place.Place.TheVariants as at
use Rattle.lr_family.specs.declared.stand.Member.{Member}
use Rattle.lr_family.specs.Kin.{IsKin}
use Rattle.lr_family.specs.Parts.{IsMember}
use Rattle.lr_family.specs.Spots.{path_at}
use Rattle.lr_family.specs.Stands.{number_in, AreNewestFirst}
use Rattle.lr_family.specs.Places.{IsPlaceOf, AreNamed}
use Rattle.lr_family.proofs.Newness.{numbers_rise}
use Rattle.lr_family.proofs.Numbers.{Every, every_from, every_filter}
use Rattle.lr_family.proofs.Paths.{places_apart}
use Rattle.lr_chain.specs.declared.ready.Move.{Move}
use Rattle.lr_chain.specs.Ready.{move_step, move_from}
use Rattle.lr_chain.specs.Rotation.{places_of, is_left, leftovers, kept, retired, unlink_at, leftover_steps, shift_steps, retire_steps, rotation}
use Rattle.lr_chain.specs.Standing.{StandSo, AreGoing}
use Rattle.lr_chain.specs.Turning.{turned, IsChainTurned}
use Rattle.lr_chain.proofs.Bounds.{top_of}
use Rattle.lr_chain.proofs.Falling.{falls_all}
use Rattle.lr_chain.proofs.Has.{has, has_filter, has_it, has_none, it_has}
use Rattle.lr_chain.proofs.Kept.{kept_as}
use Rattle.lr_chain.proofs.Retired.{every_retired, has_first, has_new}
use Rattle.lr_chain.proofs.Turned.{family_turned}
use Rattle.lr_chain.proofs.Whole.{moves}
use Rattle.lr_laws_family.specs.Members.{IsNoMember, IsFamily, NoMemberHas, AreThere}
use Rattle.lr_laws_family.specs.Numbered.{numbered, HasName, HaveNextNames}
use Rattle.lr_laws_family.specs.Rotation.{Rotation, By, unlinks, rotation_steps, IsOfMembers}
use Rattle.lr_laws_family.specs.Turned.{ComesFrom, unless, GoesTo, IsFamilyRotation}
use Rattle.lr_laws_family.proofs.Picking.{named_all}

-- ---- places with names

pub first_named : (n : Naming) (c : Count) (places : List ℕ) → HaveNextNames n c places → HasName n 0
first_named n (count.Keep c) places h = omega arith
first_named n count.Always places h = h.0

-- the place up to which members may come has a name
pub top_named : (n : Naming) (c : Count) (places : List ℕ) → HaveNextNames n c places → HasName n (top_of n c)
top_named n (count.Keep k) places h = h
top_named n count.Always places h = let first : HasName n 0 = h.0 in omega (arith, first)

kept_below : (c k : ℕ) → is_left (count.Keep c) k ≡ false → k < c
kept_below c k h = grind (arith, nat_tests)

-- so has the next place of each member that is moved
pub next_at : (n : Naming) (c : Count) (places : List ℕ) → HaveNextNames n c places → (k : ℕ) → Contains places k → is_left c k ≡ false → HasName n (k + 1)
next_at n (count.Keep m) places h k i stays = let lt : k < m = kept_below m k stays in omega (arith, lt, h)
next_at n count.Always places h k i stays = subst (λ (j : ℕ). HasName n (j + 1)) i.2 (h.1 i.0 k i.1)

pub next_named : (n : Naming) (c : Count) (places : List ℕ) → HaveNextNames n c places → Every (λ k. is_left c k ≡ false → HasName n (k + 1)) places
next_named n c places h = every_from (λ k. is_left c k ≡ false → HasName n (k + 1)) places (next_at n c places h)

pub kept_next : (n : Naming) (c : Count) (places : List ℕ) → HaveNextNames n c places → Every (λ k. HasName n (k + 1)) (kept c places)
kept_next n c places h = kept_as (λ k. HasName n (k + 1)) c places (next_named n c places h)

-- so has each place at which something goes behind the moves
pub retire_named : (n : Naming) (c : Count) (places from : List ℕ) → HaveNextNames n c places → AreGoing c places from → Every (HasName n) (retired c from)
retire_named n c places from h going = every_retired (HasName n) c from (every_from (λ k. HasName n (suc k)) from (λ k i. let next = next_at n c places h k (going.there k i) (going.moved k i) in omega (arith, next))) (λ e. first_named n c places h)

-- ---- steps

unlinks_are : (n : Naming) (ks : List ℕ) → unlinks (map (path_at n) ks) ≡ map (unlink_at n) ks
unlinks_are n [] = refl
unlinks_are n (k ∷ ks) = ap (λ es. unlink_at n k ∷ es) (unlinks_are n ks)

joined_so : (ls ss ts : List Entry) (e : Entry) → (ls ++ ss) ++ e ∷ ts ≡ ls ++ ((ss ++ e ∷ []) ++ ts)
joined_so ls ss ts e = append_assoc ls ss (e ∷ ts) ∙ ap (λ xs. ls ++ xs) (sym (append_assoc ss (e ∷ []) ts))

both_are : (a a' b b' d d' : List Entry) (e : Entry) → a ≡ a' → b ≡ b' → d ≡ d' → (a ++ b) ++ e ∷ d ≡ (a' ++ b') ++ e ∷ d'
both_are a a' b b' d d' e p q r = ap (λ xs. (xs ++ b) ++ e ∷ d) p ∙ (ap (λ xs. (a' ++ xs) ++ e ∷ d) q ∙ ap (λ xs. (a' ++ b') ++ e ∷ xs) r)

-- ---- members by their numbers

module _ (n : Naming) (none : n.dated ≡ None) where
  pub own_at : (k : ℕ) → HasName n k → IsMember n (path_at n k)
  own_at k i = inl (none, (k, record { bound = i; named = refl }))

  -- a member's number has a name, and its path is that of the number
  pub at_number : (place : Place) (x : Path) → IsPlaceOf n place x → HasName n (number_in place) × (x ≡ path_at n (number_in place)) × (place ≡ at.Number (number_in place))
  at_number (at.Number k) x h = (h.1.bound, h.1.named, refl)
  at_number (at.Stamp t k) x h = absurd (none_some n.dated h.format none h.dated)

  pub rising : (ms : List Member) → AreNamed n ms → AreNewestFirst ms → IsStrictlyIncreasing (reverse (places_of ms))
  rising ms d h = subst IsStrictlyIncreasing (sym (reverse-reverse (map (λ (m : Member). number_in m.place) ms))) (numbers_rise n ms none d h)

  -- the member at one of the places
  pub member_at : (ms : List Member) (place : ℕ) → Contains (places_of ms) place → (m : Member) × IsIn m ms × (number_in m.place ≡ place)
  member_at ms place c = in_unmap (λ (m : Member). number_in m.place) place ms (from_reverse place (map (λ (m : Member). number_in m.place) ms) (in_from place (places_of ms) c))

  pub place_of : (ms : List Member) (m : Member) → IsIn m ms → Contains (places_of ms) (number_in m.place)
  place_of ms m i = in_to (number_in m.place) (places_of ms) (in_reverse (number_in m.place) (map (λ (m : Member). number_in m.place) ms) (in_map (λ (m : Member). number_in m.place) m ms i))

  pub names_of : (ms : List Member) → AreNamed n ms → Every (HasName n) (places_of ms)
  names_of ms d = every_from (HasName n) (places_of ms) (λ place c. let h = member_at ms place c in subst (HasName n) h.2 (at_number h.0.place h.0.path (named_all n ms h.0 d h.1)).0)

  pub none_at : (x : Path) (ms : List Member) → ((m : Member) → IsIn m ms → x ≡ m.path → ⊥) → NoMemberHas ms x
  none_at x [] f = tt
  none_at x (m ∷ ms) f = (f m (inl refl), none_at x ms (λ y i. f y (inr i)))

  file_of : (m : Names) (ms : List Member) (y : Member) → All (λ member. IsFileAt m member.path) ms → IsIn y ms → IsFileAt m y.path
  file_of m [] y h i = absurd i
  file_of m (z ∷ zs) y h (inl same) = subst (λ (v : Member). IsFileAt m v.path) same (All-head (λ (member : Member). IsFileAt m member.path) z zs h)
  file_of m (z ∷ zs) y h (inr i) = file_of m zs y (All-tail (λ (member : Member). IsFileAt m member.path) z zs h) i

  pub stand_so : (source : Path) (m : Names) (ms : List Member) → IsFileAt m source → AreThere n m ms → StandSo source n (places_of ms) m
  stand_so source m ms file there = record {
    falling = rising ms there.named there.newest_first;
    log_file = file;
    members = λ place c. let h = member_at ms place c in let a = at_number h.0.place h.0.path (named_all n ms h.0 there.named h.1) in let f = file_of m ms h.0 there.files h.1 in
        (f.0, ap m (sym (a.1 ∙ ap (path_at n) h.2)) ∙ f.1);
    others = λ place i out. there.others (path_at n place) (own_at place i) (none_at (path_at n place) ms (λ y j same.
        let a = at_number y.place y.path (named_all n ms y there.named j) in
        out (subst (Contains (places_of ms)) (sym (places_apart n place (number_in y.place) i a.0 (same ∙ a.1))) (place_of ms y j))));
  }

  -- ---- lists of members' paths

  same_test : (l k : ℕ) → HasName n l → HasName n k → bytes_eq (path_at n l) (path_at n k) ≡ (l == k)
  same_test l k i j = go (l == k) refl
    where
      no : (b : Bool) → (b ≡ true → ⊥) → b ≡ false
      no true h = absurd (h refl)
      no false h = refl

      go : (b : Bool) → (l == k) ≡ b → bytes_eq (path_at n l) (path_at n k) ≡ b
      go true e = (bytes_eq-Decides (path_at n l) (path_at n k)).1 (ap (path_at n) (eqb-true l k e))
      go false e = no (bytes_eq (path_at n l) (path_at n k)) (λ h. let same : l ≡ k = places_apart n l k i j ((bytes_eq-Decides (path_at n l) (path_at n k)).0 h) in let t : (l == k) ≡ true = eq-eqb l k same in cc)

  listed : (ks : List ℕ) (k : ℕ) → Every (HasName n) ks → HasName n k → in_list (map (path_at n) ks) (path_at n k) ≡ has k ks
  listed [] k a i = refl
  listed (l ∷ ls) k a i = ap (λ b. b || in_list (map (path_at n) ls) (path_at n k)) (same_test l k a.0 i) ∙ ap (λ b. (l == k) || b) (listed ls k a.1 i)

  paths_own : (ks : List ℕ) → Every (HasName n) ks → All (IsMember n) (map (path_at n) ks)
  paths_own [] a = All-nil (IsMember n)
  paths_own (k ∷ ks) a = All-cons (IsMember n) (path_at n k) (map (path_at n) ks) (own_at k a.0) (paths_own ks a.1)

  moves_own : (ks : List ℕ) → Every (HasName n) ks → Every (λ k. HasName n (k + 1)) ks → All (λ (m : Move). IsMember n m.from × IsMember n m.to) (map (move_from n) ks)
  moves_own [] a b = All-nil (λ (m : Move). IsMember n m.from × IsMember n m.to)
  moves_own (k ∷ ks) a b = All-cons (λ (m : Move). IsMember n m.from × IsMember n m.to) (move_from n k) (map (move_from n) ks) (own_at k a.0, own_at (k + 1) b.0) (moves_own ks a.1 b.1)

-- ---- the rotation

left_on : (c : Count) (k : ℕ) → is_left c k ≡ true → is_left c (suc k) ≡ true
left_on (count.Keep t) k e = grind (arith, nat_tests)
left_on count.Always k e = absurd (cc)

module _ (n : Naming) (c : Count) (from : List ℕ) (members : List Member) (log source : Path) (by : By) (family : IsFamily log n) (none : n.dated ≡ None) (no_source : IsNoMember n source) (named : AreNamed n members) (next : HaveNextNames n c (places_of members)) (going : AreGoing c (places_of members) from) where
  abbrev places : List ℕ
  places = places_of members

  abbrev r : Rotation
  r = numbered n c from members log source by

  places_named : Every (HasName n) (places_of members)
  places_named = names_of n none members named

  gone_named : Every (HasName n) (retired c from)
  gone_named = retire_named n c places from next going

  pub first : HasName n 0
  first = first_named n c places next

  of_members : IsOfMembers n (numbered n c from members log source by)
  of_members = record {
    early = paths_own n none (leftovers c places) (every_filter (HasName n) (is_left c) places places_named);
    moves = moves_own n none (kept c places) (every_filter (HasName n) (λ k. not (is_left c k)) places places_named) (kept_next n c places next);
    target = inl (none, record { bound = first; named = refl });
    gone = paths_own n none (retired c from) gone_named;
  }

  pub steps_are : rotation_steps (numbered n c from members log source by) ≡ rotation n c source (places_of members) from
  steps_are = both_are (unlinks r.early) (leftover_steps n c places) (map move_step r.moves) (shift_steps n c places) (unlinks r.gone) (retire_steps n c from) (Renames source (path_at n 0))
      (unlinks_are n (leftovers c places)) (moves n (kept c places)) (unlinks_are n (retired c from))
      ∙ joined_so (leftover_steps n c places) (shift_steps n c places) (retire_steps n c from) (Renames source (path_at n 0))

  kin : IsKin source n
  kin = record {
    dir = family.kin.dir;
    size = family.kin.size;
    base = family.kin.base;
    ext = family.kin.ext;
    apart = λ d place is. no_source (inl (d, (place, is)));
  }

  -- where no member stands but at these places
  module _ (m : Names) (gap : (k : ℕ) → HasName n k → (Contains (places_of members) k → ⊥) → m (path_at n k) ≡ thing.Nothing) where
    -- what the count leaves no room for was removed, or was never there
    balance : (k : ℕ) → HasName n k → cond (is_left c (suc k) || has k from) thing.Nothing (m (path_at n k)) ≡ cond (has k from) thing.Nothing (cond (is_left c k && has k (places_of members)) thing.Nothing (m (path_at n k)))
    balance k i = go (has k from) refl (is_left c (suc k)) refl (is_left c k) refl (has k places) refl
      where
        empty : has k places ≡ false → thing.Nothing ≡ m (path_at n k)
        empty e = sym (gap k i (λ h. has_none k places e h))

        go : (h : Bool) → has k from ≡ h → (s : Bool) → is_left c (suc k) ≡ s → (l : Bool) → is_left c k ≡ l → (t : Bool) → has k places ≡ t → cond (s || h) thing.Nothing (m (path_at n k)) ≡ cond h thing.Nothing (cond (l && t) thing.Nothing (m (path_at n k)))
        go true a true b l d t e = refl
        go true a false b l d t e = refl
        go false a true b true d true e = refl
        go false a true b true d false e = empty e
        go false a true b false d true e = absurd (not_both (has k from) (has_it k from (going.full k (it_has k places e) d b)) a)
        go false a true b false d false e = empty e
        go false a false b true d t e = absurd (not_both (is_left c (suc k)) (left_on c k d) b)
        go false a false b false d t e = refl

    -- what a rotation by places makes of members, by their paths
    pub first_by_path : (t : Thing) → turned c from t (λ j. m (path_at n j)) 0 ≡ unless (map (path_at n) (retired c from)) (path_at n 0) t
    first_by_path t = ap (λ b. cond b thing.Nothing t) (sym (listed n none (retired c from) 0 gone_named first ∙ has_first c from))

    pub next_by_path : (t : Thing) (k : ℕ) → HasName n k → HasName n (suc k)
        → turned c from t (λ j. m (path_at n j)) (suc k) ≡ unless (map (path_at n) (retired c from)) (path_at n (suc k)) (unless (map (path_at n) (leftovers c (places_of members))) (path_at n k) (m (path_at n k)))
    next_by_path t k i j = balance k i ∙ sym (
        ap (λ b. cond b thing.Nothing (unless r.early (path_at n k) (m (path_at n k)))) (listed n none (retired c from) (suc k) gone_named j ∙ has_new c k from)
        ∙ ap (λ b. cond (has k from) thing.Nothing (cond b thing.Nothing (m (path_at n k)))) (listed n none (leftovers c places) k (every_filter (HasName n) (is_left c) places places_named) i ∙ has_filter (is_left c) k places))

  module _ (m : Names) (file : IsFileAt m source) (there : AreThere n m members) where
    abbrev after : Names
    after = names_after m (changes_of (reverse (rotation_steps r)))

    so : StandSo source n (places_of members) m
    so = stand_so n none source m members file there

    done : IsChainTurned source n c from m (names_after m (changes_of (reverse (rotation_steps (numbered n c from members log source by)))))
    done = subst (λ (es : List Entry). IsChainTurned source n c from m (names_after m (changes_of (reverse es)))) (sym steps_are)
        (family_turned source n kin none m c places from (top_named n c places next) (falls_all places so.falling) places_named (next_named n c places next) going so)

    at_next : (k : ℕ) → HasName n k → HasName n (suc k) → after (path_at n (suc k)) ≡ unless r.gone (path_at n (suc k)) (unless r.early (path_at n k) (m (path_at n k)))
    at_next k i j = done.members (suc k) j ∙ next_by_path m so.others (m source) k i j

    goes : GoesTo n (numbered n c from members log source by) (m source) m (names_after m (changes_of (reverse (rotation_steps (numbered n c from members log source by)))))
    goes = record {
      newest = done.members 0 first ∙ first_by_path m so.others (m source);
      older = λ x y other h. by_kind x y h;
    }
      where
        by_kind : (x y : Path) → ComesFrom n x y → after x ≡ unless r.gone x (unless r.early y (m y))
        by_kind x y (inl (d, k, my, mx)) = subst (λ (z : Path). after z ≡ unless r.gone z (unless r.early y (m y))) (sym mx.named)
            (subst (λ (z : Path). after (path_at n (suc k)) ≡ unless r.gone (path_at n (suc k)) (unless r.early z (m z))) (sym my.named) (at_next k my.bound mx.bound))
        by_kind x y (inr h) = absurd (none_some n.dated h.0.2.format none h.0.2.dated)

  pub numbered_is_one : IsFamilyRotation n (numbered n c from members log source by)
  numbered_is_one = record { members = of_members; turns = λ m file there. goes m file there }
