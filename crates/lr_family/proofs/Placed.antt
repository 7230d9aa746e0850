-- Each member that was seen has the path of its place.
use Rattle.std.proofs.Common.{◌≡◌, ℕ, ℤ, true, false, List, [], ◌∷◌, Option, Some, None, sym, ap, ◌∙◌, subst, map}
use Rattle.std.specs.Prelude.{All, IsSome, flat_map}
use Rattle.std.specs.List.Sorted.{IsPermutation}
use Rattle.std.specs.Option.{is_some}
use Rattle.std.proofs.lemmas.List.Elements.{All-append, All-nil, All-cons, All-head, All-tail}
use Rattle.std.proofs.lemmas.List.Sorted.{All-permutation}
use Rattle.lr_rules.specs.declared.path.Path.{Path}
use Rattle.lr_rules.specs.declared.rule.Naming.{Naming}
use Rattle.lr_rules.specs.Dated.{IsDatedAt}
use Rattle.lr_rules.specs.Limits.{is_format, or_none}
use Rattle.lr_rules.specs.Names.{IsMemberAt}
use Rattle.lr_stamps.proofs.Naming.{one_stamp_at}
use Rattle.lr_host.specs.declared.thing.Seen.{Seen}
use Rattle.lr_family.specs.declared.place.Place.{Place}
use Rattle.lr_family.specs.declared.place.Place.TheVariants as at
use Rattle.lr_family.specs.declared.spot.Spot.{Spot}
use Rattle.lr_family.specs.declared.stand.Member.{Member}
use Rattle.lr_family.specs.Looks.{MemberSight, seen_member, member_of, AreSeen}
use Rattle.lr_family.specs.Parts.{IsDated}
use Rattle.lr_family.specs.Places.{IsPlaceOf, AreNamed}
use Rattle.lr_family.specs.Spots.{HasPath}
use Rattle.lr_family.specs.Stands.{number_in}
use Rattle.lr_family.proofs.Names.{no_format}
use Rattle.lr_family.proofs.Unique.{place_same}

one_named : (n : Naming) (spot : Spot) (seen : Option Seen) → HasPath n spot → AreNamed n (seen_member spot seen)
one_named n spot None is = All-nil (λ (m : Member). IsPlaceOf n m.place m.path)
one_named n spot (Some seen) is = All-cons (λ (m : Member). IsPlaceOf n m.place m.path) _ [] is (All-nil (λ (m : Member). IsPlaceOf n m.place m.path))

pub sights_named : (n : Naming) (gs : List MemberSight) → All (HasPath n) (map (λ (g : MemberSight). g.spot) gs) → AreNamed n (flat_map member_of gs)
sights_named n [] h = All-nil (λ (m : Member). IsPlaceOf n m.place m.path)
sights_named n (g ∷ gs) h = All-append (λ (m : Member). IsPlaceOf n m.place m.path) (seen_member g.spot g.seen) (flat_map member_of gs)
    (one_named n g.spot g.seen (All-head (HasPath n) g.spot (map (λ (g : MemberSight). g.spot) gs) h)) (sights_named n gs (All-tail (HasPath n) g.spot (map (λ (g : MemberSight). g.spot) gs) h))

pub seen_named : (n : Naming) (spots : List Spot) (members : List Member) → All (HasPath n) spots → AreSeen spots members → AreNamed n members
seen_named n spots members h s = subst (AreNamed n) (sym s.members_are) (sights_named n s.sights (subst (All (HasPath n)) (sym s.each) h))

-- in a numbered family each place is a number
pub numbered_at : (n : Naming) (p : Place) (x : Path) → n.dated ≡ None → IsPlaceOf n p x → IsMemberAt n (number_in p) x
numbered_at n (at.Number place) x numbered m = m.1
numbered_at n (at.Stamp seconds serial) x numbered m = absurd (no_format n.dated numbered m.dated)

-- in a dated family each place is a stamp
pub some_dated : (n : Naming) (t : ℤ) (k : ℕ) (x : Path) → IsDatedAt n t k x → IsSome n.dated
some_dated n t k x m = ap is_some m.dated

pub no_number : (n : Naming) (place : ℕ) (x : Path) → IsSome n.dated → IsPlaceOf n (at.Number place) x → ⊥
no_number n place x some m = let none : is_some n.dated ≡ false = ap is_some m.0 in cc

pub dated_at : (n : Naming) (p : Place) (x : Path) → IsSome n.dated → IsPlaceOf n p x → IsDated n x
dated_at n (at.Number place) x some m = absurd (no_number n place x some m)
dated_at n (at.Stamp seconds serial) x some m = (seconds, serial, m)

-- a path tells its place
pub one_place : (n : Naming) (a b : Place) (x : Path) → or_none is_format n.dated ≡ true → IsPlaceOf n a x → IsPlaceOf n b x → a ≡ b
one_place n (at.Number p) (at.Number q) x good ha hb = ap at.Number (place_same n p q x ha.1 hb.1)
one_place n (at.Stamp t k) (at.Stamp u l) x good ha hb = let s = one_stamp_at n t u k l x good ha hb in ap (λ (v : ℤ). at.Stamp v k) s.0 ∙ ap (λ (j : ℕ). at.Stamp u j) s.1
one_place n (at.Number p) (at.Stamp u l) x good ha hb = absurd (no_format n.dated ha.0 hb.dated)
one_place n (at.Stamp t k) (at.Number q) x good ha hb = absurd (no_format n.dated hb.0 ha.dated)

-- the same members in another order
pub named_sorted : (n : Naming) (shown members : List Member) → IsPermutation shown members → AreNamed n shown → AreNamed n members
named_sorted n shown members p named = All-permutation (λ (m : Member). IsPlaceOf n m.place m.path) shown members p named
