-- What families are told of ends no run: a path that is no file is a name of their log.
use Rattle.std.proofs.Common.{◌≡◌, inl, inr, Bool, true, false, ℕ, List, [], ◌∷◌, map, refl, sym, subst}
use Rattle.std.proofs.lemmas.List.Elements.{All-contains}
use Rattle.lr_rules.specs.declared.fault.CallKind.{CallKind}
use Rattle.lr_rules.specs.declared.fault.CallKind.TheVariants as call
use Rattle.lr_rules.specs.declared.path.Path.{Path}
use Rattle.lr_rules.specs.declared.rule.Naming.{Naming}
use Rattle.lr_rules.specs.Names.{aside_path}
use Rattle.lr_host.specs.declared.entry.Entry.{Entry}
use Rattle.lr_host.specs.Lists.{IsIn}
use Rattle.lr_host.specs.Looks.{Sees, IsNoFile}
use Rattle.lr_host.proofs.Lists.{in_back, in_to}
use Rattle.lr_family.specs.declared.listing.Listing.{Listing}
use Rattle.lr_family.specs.declared.spot.Spot.{Spot}
use Rattle.lr_family.specs.declared.stand.StandStop.{StandStop}
use Rattle.lr_family.specs.declared.stand.StandStop.TheVariants as stop
use Rattle.lr_family.specs.Among.{StopsAmong, ShowsNoneIn}
use Rattle.lr_family.specs.Listed.{NotListedAt, NotListed}
use Rattle.lr_family.specs.Looks.{ShowsTo}
use Rattle.lr_family.specs.Parts.{IsMember, StopsBefore, ShowsNoParts}
use Rattle.lr_family.specs.Spots.{HasPath, AreSpots}
use Rattle.lr_family.proofs.Names.{placed_member, member_own}
use Rattle.lr_looks.specs.Families.{FamilySight, Stood, Stopped, ShowsNoAside, ShowsMembersIn, ShowsFamily, behind_listing, with_listing, not_listed, ShowFamilies, stop_fault, family_fault, family_faults}
use Rattle.lr_looks.specs.Found.{FoundLog, Hold}
use Rattle.lr_looks.specs.Reserved.{reserved_by}
use Rattle.lr_laws_looks.proofs.Free.{IsFreeLog}
use Rattle.lr_laws_plan.specs.Ending.{NoneEnds}
use Rattle.lr_laws_plan.proofs.Ends.{none_both, IsLooking, looking_ends}
use Rattle.lr_laws_plan.proofs.Kept.{free_ends}

-- ---- members

-- a member stopped the looks
to_member : (n : Naming) (names : List (List ℕ)) (spots : List Spot) (path : Path) (P : List Entry → Type 0) (ts : List Entry) → AreSpots n names spots → ShowsTo spots path P ts → IsMember n path
to_member n names spots path P ts a s = subst (IsMember n) s.is (placed_member n s.spot.place s.spot.path (All-contains (HasPath n) spots s.spot a.has.places
    (in_to s.spot spots (subst (IsIn s.spot) (sym s.each) (in_back s.spot (map (λ sight. sight.spot) s.before) (s.spot ∷ s.after) (inl refl))))))

-- ---- part files

-- a look at one of them that failed, or no memory
before_none : (state : Path) (after : List Path) (why : StandStop) → StopsBefore after why → NoneEnds state (stop_fault why)
before_none state [] (stop.Call k path) e = absurd (cc)
before_none state [] (stop.NotFile path) e = absurd (cc)
before_none state [] stop.Memory e = tt
before_none state (x ∷ xs) (stop.Call k path) (inl e) = (looking_ends state k path (let same : k ≡ call.Look = cc in subst IsLooking (sym same) tt), tt)
before_none state (x ∷ xs) (stop.Call k path) (inr e) = absurd (cc)
before_none state (x ∷ xs) (stop.NotFile path) (inl e) = absurd (cc)
before_none state (x ∷ xs) (stop.NotFile path) (inr e) = absurd (cc)
before_none state (x ∷ xs) stop.Memory e = tt

parts_none : (state : Path) (n : Naming) (names : List (List ℕ)) (why : StandStop) (ts : List Entry) → ShowsNoParts n names why ts → NoneEnds state (stop_fault why)
parts_none state n names why ts (inl h) = subst (λ (w : StandStop). NoneEnds state (stop_fault w)) (sym h.0) tt
parts_none state n names why ts (inr s) = before_none state s.after why s.stopped

-- ---- one family

module _ (state : Path) (f : FoundLog) (free : IsFreeLog (reserved_by state) f) where
  -- a stop of the looks at it
  among_none : (names : List (List ℕ)) (why : StandStop) (ts : List Entry) → StopsAmong f.log.naming names why ts → NoneEnds state (stop_fault why)
  among_none names (stop.Call k path) ts s = (looking_ends state k path (subst IsLooking (sym s.looks.0) tt), tt)
  among_none names (stop.NotFile path) ts s =
      (free_ends state f path free (inl (member_own f.log.path f.log.naming path (to_member f.log.naming names s.spots path (Sees path IsNoFile) ts s.spots_are s.looks))), tt)
  among_none names stop.Memory ts s = tt

  memory_none : (why : StandStop) → why ≡ stop.Memory → NoneEnds state (stop_fault why)
  memory_none why e = subst (λ (w : StandStop). NoneEnds state (stop_fault w)) (sym e) tt

  none_in : (there : Bool) (names : List (List ℕ)) (why : StandStop) (ts : List Entry) → ShowsNoneIn f.log.naming there names why ts → NoneEnds state (stop_fault why)
  none_in true names why ts (inl h) = memory_none why h.0
  none_in true names why ts (inr (inl s)) = among_none names why ts s
  none_in true names why ts (inr (inr s)) = parts_none state f.log.naming names why s.1.back s.1.second
  none_in false names why ts h = absurd h

  -- a look where the log waits that is set aside, which failed, or no memory for its path
  aside_none : (aside : Bool) (why : StandStop) (ts : List Entry) → ShowsNoAside aside f.log.path why ts → NoneEnds state (stop_fault why)
  aside_none true why ts (inl is, none) = subst (λ (w : StandStop). NoneEnds state (stop_fault w)) (sym is) (looking_ends state call.Look (aside_path f.log.path) tt, tt)
  aside_none true why ts (inr is, none) = memory_none why is
  aside_none false why ts h = absurd h

  members_none : (l : Listing) (s : FamilySight) (ts : List Entry) → ShowsMembersIn f.log.path f.log.naming l s ts → NoneEnds state (family_fault s)
  members_none l (Stood stand tmp) ts h = tt
  members_none l (Stopped why) ts (inl h) = memory_none why h.0
  members_none l (Stopped why) ts (inr (inl h)) = none_in l.there l.names why ts h
  members_none l (Stopped why) ts (inr (inr h)) = aside_none f.log.naming.aside why h.1.back h.1.second

  at_looks : (dir : Path) (k : CallKind) (path : Path) (ts : List Entry) → NotListedAt dir k path ts → IsLooking k
  at_looks dir call.Look path ts h = tt
  at_looks dir call.List path ts h = tt
  at_looks dir _ path ts h = absurd h

  listed_none : (why : StandStop) (ts : List Entry) → NotListed f.log.naming.dir why ts → NoneEnds state (stop_fault why)
  listed_none (stop.Call k path) ts h = (looking_ends state k path (at_looks f.log.naming.dir k path ts h), tt)
  listed_none (stop.NotFile path) ts h = (free_ends state f path free (inr h.0), tt)
  listed_none stop.Memory ts h = tt

  family_none : (known after : List Listing) (s : FamilySight) (ts : List Entry) → ShowsFamily known f.log.path f.log.naming after s ts → NoneEnds state (family_fault s)
  family_none known after s ts (behind_listing l was same m) = members_none l s ts m
  family_none known after s ts (with_listing l new e same t) = members_none l s t.back t.second
  family_none known after s ts (not_listed why new same e h) = subst (λ (x : FamilySight). NoneEnds state (family_fault x)) (sym e) (listed_none why ts h)

-- ---- all of them

pub families_none : (state : Path) (known : List Listing) (fs : List FoundLog) (after : List Listing) (ss : List FamilySight) (ts : List Entry) → Hold (IsFreeLog (reserved_by state)) fs → ShowFamilies known fs after ss ts → NoneEnds state (family_faults ss)
families_none state known [] after [] ts free h = tt
families_none state known [] after (s ∷ ss) ts free h = absurd h
families_none state known (f ∷ fs) after [] ts free h = absurd h
families_none state known (f ∷ fs) after (s ∷ ss) ts free h = none_both state (family_fault s) (family_faults ss)
    (family_none state f free.0 known h.0 s h.1.front h.1.first)
    (families_none state h.0 fs after ss h.1.back free.1 h.1.second)
