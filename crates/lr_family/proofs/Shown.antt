-- What the looks at the members among the names of a listing show, wherever they stand among others.
use Rattle.std.proofs.Common.{◌≡◌, ◌⊎◌, inl, inr, ⊎_elim, ℕ, Bool, true, false, bytes_eq, refl, sym, ◌∙◌, ap, subst, List, [], ◌∷◌, ◌++◌, map, Option, Some, None}
use Rattle.std.specs.Prelude.{All, Contains, flat_map}
use Rattle.std.proofs.lemmas.List.Elements.{All-head, All-tail, All-cons, All-nil, All-append}
use Rattle.std.proofs.lemmas.List.Sorted.{All-permutation, Contains-permutation}
use Rattle.std.proofs.lemmas.Slice.Eq.{bytes_eq-Decides}
use Rattle.lr_rules.specs.declared.path.Path.{Path}
use Rattle.lr_rules.specs.declared.rule.Naming.{Naming}
use Rattle.lr_rules.specs.Path.{joined}
use Rattle.lr_rules.proofs.Bools.{not_both}
use Rattle.lr_rules.proofs.Options.{none_some}
use Rattle.lr_host.specs.declared.entry.Entry.{Entry}
use Rattle.lr_host.specs.declared.entry.Entry.TheVariants as entry
use Rattle.lr_host.specs.declared.thing.Seen.{Seen}
use Rattle.lr_host.specs.Lists.{IsIn, IsNotIn}
use Rattle.lr_host.specs.Looks.{IsFileOrGone}
use Rattle.lr_host.proofs.Lists.{in_from, in_to, in_map, in_unmap, in_back}
use Rattle.lr_family.specs.declared.spot.Spot.{Spot}
use Rattle.lr_family.specs.declared.stand.Member.{Member}
use Rattle.lr_family.specs.Among.{StandsAmong}
use Rattle.lr_family.specs.Looks.{MemberSight, spot_look, seen_member, member_of, AreFilesOrGone, WasSeen}
use Rattle.lr_family.specs.Parts.{IsMember}
use Rattle.lr_family.specs.Places.{AreNamed}
use Rattle.lr_family.specs.Spots.{IsAmong}
use Rattle.lr_family.proofs.Placed.{seen_named, named_sorted}

-- ---- looks, one by one

-- the members that were seen
seen_all : (ts : List Entry) (gs : List MemberSight) → AreFilesOrGone gs → ((g : MemberSight) → IsIn g gs → IsIn (spot_look g) ts) → All (WasSeen ts) (flat_map member_of gs)
seen_all ts [] files looked = All-nil (WasSeen ts)
seen_all ts (g ∷ gs) files looked = All-append (WasSeen ts) (seen_member g.spot g.seen) (flat_map member_of gs)
    (one g.seen refl (All-head (λ (g : MemberSight). IsFileOrGone g.seen) g gs files))
    (seen_all ts gs (All-tail (λ (g : MemberSight). IsFileOrGone g.seen) g gs files) (λ h i. looked h (inr i)))
  where
    one : (o : Option Seen) → g.seen ≡ o → IsFileOrGone o → All (WasSeen ts) (seen_member g.spot o)
    one None e file = All-nil (WasSeen ts)
    one (Some seen) e file = All-cons (WasSeen ts) _ [] (file, subst (λ (o : Option Seen). IsIn (entry.Look g.spot.path o) ts) e (looked g (inl refl))) (All-nil (WasSeen ts))

-- one of them was at the path, or none
at_or_none : (x : Path) (gs : List MemberSight) → ((g : MemberSight) × IsIn g gs × (g.spot.path ≡ x)) ⊎ ((g : MemberSight) → IsIn g gs → g.spot.path ≡ x → ⊥)
at_or_none x [] = inr (λ g i e. i)
at_or_none x (g ∷ gs) = go (bytes_eq g.spot.path x) refl (at_or_none x gs)
  where
    go : (b : Bool) → bytes_eq g.spot.path x ≡ b → ((h : MemberSight) × IsIn h gs × (h.spot.path ≡ x)) ⊎ ((h : MemberSight) → IsIn h gs → h.spot.path ≡ x → ⊥) → ((h : MemberSight) × IsIn h (g ∷ gs) × (h.spot.path ≡ x)) ⊎ ((h : MemberSight) → IsIn h (g ∷ gs) → h.spot.path ≡ x → ⊥)
    go true e r = inl (g, inl refl, (bytes_eq-Decides g.spot.path x).0 e)
    go false e (inl r) = inl (r.0, inr r.1, r.2)
    go false e (inr r) = inr (λ h i same. ⊎_elim (λ is. not_both (bytes_eq g.spot.path x) ((bytes_eq-Decides g.spot.path x).1 (ap (λ (k : MemberSight). k.spot.path) is ∙ same)) e) (λ j. r h j same) i)

-- a look that saw a file gives a member with its path
member_at : (g : MemberSight) (seen : Seen) (gs : List MemberSight) → IsIn g gs → g.seen ≡ Some seen → (m : Member) × IsIn m (flat_map member_of gs) × (m.path ≡ g.spot.path)
member_at g seen [] i e = absurd i
member_at g seen (h ∷ hs) (inl same) e = one h.seen refl
  where
    saw : h.seen ≡ Some seen
    saw = ap (λ (k : MemberSight). k.seen) same ∙ e

    one : (o : Option Seen) → h.seen ≡ o → (m : Member) × IsIn m (seen_member h.spot o ++ flat_map member_of hs) × (m.path ≡ g.spot.path)
    one None is = absurd (none_some h.seen seen is saw)
    one (Some other) is = (_, inl refl, ap (λ (k : MemberSight). k.spot.path) same)
member_at g seen (h ∷ hs) (inr i) e = let r = member_at g seen hs i e in (r.0, in_back r.0 (seen_member h.spot h.seen) (flat_map member_of hs) r.1, r.2)

-- the path of a member is one of theirs
pub not_none : (x : Path) (m : Member) (ms : List Member) → IsNotIn x (map (λ (m : Member). m.path) ms) → IsIn m ms → m.path ≡ x → ⊥
not_none x m [] none i e = i
not_none x m (y ∷ ys) none (inl same) e = none.0 (sym e ∙ ap (λ (k : Member). k.path) (sym same))
not_none x m (y ∷ ys) none (inr i) e = not_none x m ys none.1 i e

-- ---- all together

-- The looks stand anywhere among these entries.
module _ (n : Naming) (names : List (List ℕ)) (members : List Member) (ts all : List Entry) (more : (e : Entry) → IsIn e ts → IsIn e all) (s : StandsAmong n names members ts) where
  looked : (g : MemberSight) → IsIn g s.looks.sights → IsIn (spot_look g) all
  looked g i = more (spot_look g) (subst (IsIn (spot_look g)) (sym s.looks.looks) (in_map spot_look g s.looks.sights i))

  -- each member has the path of its place,
  pub members_named : AreNamed n members
  members_named = named_sorted n s.shown members s.each (seen_named n s.spots s.shown s.spots_are.has.places (record { sights = s.looks.sights; each = s.looks.each; members_are = s.looks.members_are }))

  -- was seen as a regular file,
  pub members_seen : All (WasSeen all) members
  members_seen = All-permutation (WasSeen all) s.shown members s.each (subst (All (WasSeen all)) (sym s.looks.members_are) (seen_all all s.looks.sights s.looks.files looked))

  -- and another member's path was looked at, and nothing seen, or isn't listed
  pub others_unseen : (x : Path) → IsMember n x → IsNotIn x (map (λ (m : Member). m.path) members) → IsIn (entry.Look x None) all ⊎ ((name : List ℕ) → Contains names name → x ≡ joined n.dir name → ⊥)
  others_unseen x is none = ⊎_elim (λ h. inl (saw_none h.0 h.1 h.2 h.0.seen refl)) (λ never. inr (never_listed never)) (at_or_none x s.looks.sights)
    where
      saw_none : (g : MemberSight) → IsIn g s.looks.sights → g.spot.path ≡ x → (o : Option Seen) → g.seen ≡ o → IsIn (entry.Look x None) all
      saw_none g i at None e = subst (λ (y : Path). IsIn (entry.Look y None) all) at (subst (λ (o : Option Seen). IsIn (entry.Look g.spot.path o) all) e (looked g i))
      saw_none g i at (Some seen) e =
          let m = member_at g seen s.looks.sights i e in
          absurd (not_none x m.0 members none (in_from m.0 members (Contains-permutation s.shown members m.0 s.each (in_to m.0 s.shown (subst (IsIn m.0) (sym s.looks.members_are) m.1)))) (m.2 ∙ at))

      never_listed : ((g : MemberSight) → IsIn g s.looks.sights → g.spot.path ≡ x → ⊥) → (name : List ℕ) → Contains names name → x ≡ joined n.dir name → ⊥
      never_listed never name c named =
          let a : IsAmong s.spots x = (s.spots_are.has.all x).1 (record { member = is; name = name; listed = c; named = named }) in
          let g = in_unmap (λ (h : MemberSight). h.spot) a.0 s.looks.sights (subst (IsIn a.0) (sym s.looks.each) (in_from a.0 s.spots a.1)) in
          never g.0 g.1 (ap (λ (p : Spot). p.path) g.2 ∙ a.2)
