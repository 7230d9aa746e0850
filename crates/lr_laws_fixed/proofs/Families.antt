-- The looks at families show one thing alone, where no call failed and none lacked memory.
use Rattle.std.proofs.Common.{◌≡◌, ℕ, ◌+◌, Bool, true, false, inl, inr, ◌⊎◌, List, [], ◌∷◌, ◌++◌, Option, refl, sym, ap, ◌∙◌, subst, arith}
use Rattle.std.specs.List.Sorted.{IsPermutation}
use Rattle.std.proofs.lemmas.List.Sorted.{IsPermutation-sym}
use Rattle.lr_rules.specs.declared.path.Path.{Path}
use Rattle.lr_rules.specs.declared.rule.Naming.{Naming}
use Rattle.lr_rules.specs.Limits.{is_format, or_none}
use Rattle.lr_rules.specs.Names.{aside_path}
use Rattle.lr_rules.proofs.Heads.{heads, tails}
use Rattle.lr_host.specs.declared.thing.Seen.{Seen}
use Rattle.lr_host.specs.declared.entry.Entry.{Entry}
use Rattle.lr_host.specs.declared.entry.Entry.TheVariants as entry
use Rattle.lr_host.specs.Told.{Then}
use Rattle.lr_family.specs.declared.listing.Listing.{Listing}
use Rattle.lr_family.specs.declared.stand.Member.{Member}
use Rattle.lr_family.specs.declared.stand.Stand.{Stand}
use Rattle.lr_family.specs.declared.stand.StandStop.{StandStop}
use Rattle.lr_family.specs.declared.stand.StandStop.TheVariants as stop
use Rattle.lr_family.specs.Among.{ShowsIn, ShowsNoneIn}
use Rattle.lr_family.specs.Listed.{ShowsListing, NotListed}
use Rattle.lr_host.specs.Counted.{calls_in}
use Rattle.lr_host.proofs.Counts.{calls_on}
use Rattle.lr_host.proofs.Fronts.{front_same, saw_same}
use Rattle.lr_looks.specs.Families.{HadMemory, AllHadMemory, FamilySight, Stood, Stopped, WasListed, WasNotListed, ShowsAside, ShowsNoAside, ShowsMembersIn, ShowsFamily, behind_listing, with_listing, not_listed, ShowFamilies, family_fault, family_faults}
use Rattle.lr_looks.specs.Found.{FoundLog, HaveBounds}
use Rattle.lr_laws_fixed.proofs.Listings.{OneListing, one_listing, listing_or_none, AreSame, KnownAlike, more_alike}
use Rattle.lr_laws_fixed.proofs.Members.{stands_same, stops_same, stands_or_stops}
use Rattle.lr_laws_fixed.proofs.Parts.{parts_same, behind_never}
use Rattle.lr_laws_fixed.proofs.Peeled.{then_same, first_same, joined_same, one_look}

-- the two are one, and so are their entries and what comes behind
abbrev One : FamilySight → FamilySight → List Entry → List Entry → List Entry → List Entry → Type 0
One s s' ts us vs ws = (s ≡ s') × (ts ≡ us) × (vs ≡ ws)

-- the look failed at no call, and didn't stop where there was no memory
abbrev IsSure : FamilySight → Type 0
IsSure s = HadMemory s × (calls_in (family_fault s) ≡ 0)

-- ---- the members

-- what stands is told by its four parts
stand_same : (a b : Stand) → a.there ≡ b.there → a.parent ≡ b.parent → a.members ≡ b.members → a.parts ≡ b.parts → a ≡ b
stand_same a b p q r s =
    ap {B = Stand} (λ (x : Bool). record { there = x; parent = a.parent; members = a.members; parts = a.parts }) p
    ∙ (ap {B = Stand} (λ (x : Bool). record { there = b.there; parent = x; members = a.members; parts = a.parts }) q
    ∙ (ap {B = Stand} (λ (x : List Member). record { there = b.there; parent = b.parent; members = x; parts = a.parts }) r
    ∙ ap {B = Stand} (λ (x : List Path). record { there = b.there; parent = b.parent; members = b.members; parts = x }) s))

module _ (n : Naming) (good : or_none is_format n.dated ≡ true) (parent : Bool) (names more : List (List ℕ)) (perm : IsPermutation names more) (ts us vs ws : List Entry) (e : ts ++ vs ≡ us ++ ws) where
  -- two stands are one
  stood_one : (there : Bool) (a b : Stand) → ShowsIn n there parent names a ts → ShowsIn n there parent more b us → (a ≡ b) × (ts ≡ us) × (vs ≡ ws)
  stood_one true a b h g =
      let r = stands_same n good names more perm a.members b.members h.2.front g.2.front (h.2.back ++ vs) (g.2.back ++ ws) h.2.first g.2.first (then_same ts us vs ws h.2 g.2 e) in
      let q = parts_same n names more perm a.parts b.parts h.2.back g.2.back vs ws h.2.second g.2.second r.2 in
      (stand_same a b (h.0 ∙ sym g.0) (h.1 ∙ sym g.1) r.0 q.0, joined_same ts us h.2 g.2 r.1 q.1, q.2)
  stood_one false a b h g = (
    stand_same a b (h.0 ∙ sym g.0) (h.1 ∙ sym g.1) (h.2.first.0 ∙ sym g.2.first.0) (h.2.second.0 ∙ sym g.2.second.0),
    joined_same ts us h.2 g.2 (h.2.first.1 ∙ sym g.2.first.1) (h.2.second.1 ∙ sym g.2.second.1),
    front_same h.2.back g.2.back [] [] vs ws h.2.second.1 g.2.second.1 (front_same h.2.front g.2.front [] [] (h.2.back ++ vs) (g.2.back ++ ws) h.2.first.1 g.2.first.1 (then_same ts us vs ws h.2 g.2 e)),
  )

  -- not a stand and a member that is no file
  stood_or_none : (there : Bool) (a : Stand) (path : Path) → ShowsIn n there parent names a ts → ShowsNoneIn n there more (stop.NotFile path) us → ⊥
  stood_or_none true a path h (inl g) = cc (g.0)
  stood_or_none true a path h (inr (inl g)) = stands_or_stops n good names more perm a.members path h.2.front us (h.2.back ++ vs) ws h.2.first g (first_same ts us vs ws h.2 e)
  stood_or_none true a path h (inr (inr g)) = behind_never n more path us g
  stood_or_none false a path h g = g

  -- two members that are no files are one
  both_stopped : (there : Bool) (path other : Path) → ShowsNoneIn n there names (stop.NotFile path) ts → ShowsNoneIn n there more (stop.NotFile other) us → One (Stopped (stop.NotFile path)) (Stopped (stop.NotFile other)) ts us vs ws
  both_stopped true path other (inl h) g = absurd (cc (h.0))
  both_stopped true path other (inr h) (inl g) = absurd (cc (g.0))
  both_stopped true path other (inr (inr h)) (inr g) = absurd (behind_never n names path ts h)
  both_stopped true path other (inr (inl h)) (inr (inr g)) = absurd (behind_never n more other us g)
  both_stopped true path other (inr (inl h)) (inr (inl g)) = let r = stops_same n good names more perm path other ts us vs ws h g e in (ap (λ p. Stopped (stop.NotFile p)) r.0, r.1, r.2)
  both_stopped false path other h g = absurd h

-- ---- where the log waits that is set aside

-- two looks there are one
aside_one : (aside : Bool) (log : Path) (tmp tmp' : Option Seen) (ts us vs ws : List Entry) → ShowsAside aside log tmp ts → ShowsAside aside log tmp' us → ts ++ vs ≡ us ++ ws → (tmp ≡ tmp') × (ts ≡ us) × (vs ≡ ws)
aside_one true log tmp tmp' ts us vs ws h g e = (saw_same (aside_path log) (aside_path log) tmp tmp' one, h ∙ (ap (λ (x : Entry). x ∷ []) one ∙ sym g), tails (entry.Look (aside_path log) tmp) (entry.Look (aside_path log) tmp') vs ws both)
  where
    both : entry.Look (aside_path log) tmp ∷ vs ≡ entry.Look (aside_path log) tmp' ∷ ws
    both = front_same ts us (entry.Look (aside_path log) tmp ∷ []) (entry.Look (aside_path log) tmp' ∷ []) vs ws h g e

    one : entry.Look (aside_path log) tmp ≡ entry.Look (aside_path log) tmp'
    one = heads (entry.Look (aside_path log) tmp) (entry.Look (aside_path log) tmp') vs ws both
aside_one false log tmp tmp' ts us vs ws h g e = (h.0 ∙ sym g.0, h.1 ∙ sym g.1, front_same ts us [] [] vs ws h.1 g.1 e)

-- the look there stops at no file
aside_never : (aside : Bool) (log path : Path) (ts : List Entry) → ShowsNoAside aside log (stop.NotFile path) ts → ⊥
aside_never true log path ts (inl is, none) = cc is
aside_never true log path ts (inr is, none) = cc is
aside_never false log path ts h = h

-- ---- the members, and where the log waits

-- what the looks at the members among names, at their part files, and then at the path where the log waits, showed
abbrev ShowsAt : Path → Naming → Bool → Bool → List (List ℕ) → FamilySight → List Entry → Type 0
ShowsAt log n there parent names (Stood stand tmp) ts = Then (ShowsIn n there parent names stand) (ShowsAside n.aside log tmp) ts
ShowsAt log n there parent names (Stopped why) ts = ((why ≡ stop.Memory) × (ts ≡ []))
    ⊎ (ShowsNoneIn n there names why ts ⊎ ((stand : Stand) × Then (ShowsIn n there parent names stand) (ShowsNoAside n.aside log why) ts))

-- a listing tells no more to them than its names, and whether its directory and the parent are there
at_listing : (log : Path) (n : Naming) (l : Listing) (s : FamilySight) (ts : List Entry) → ShowsMembersIn log n l s ts → ShowsAt log n l.there l.parent l.names s ts
at_listing log n l (Stood stand tmp) ts h = h
at_listing log n l (Stopped why) ts h = h

-- what is no file is a member
at_member : (log : Path) (n : Naming) (there parent : Bool) (names : List (List ℕ)) (path : Path) (ts : List Entry) → ShowsAt log n there parent names (Stopped (stop.NotFile path)) ts → ShowsNoneIn n there names (stop.NotFile path) ts
at_member log n there parent names path ts (inl h) = absurd (cc (h.0))
at_member log n there parent names path ts (inr (inl h)) = h
at_member log n there parent names path ts (inr (inr h)) = absurd (aside_never n.aside log path h.1.back h.1.second)

module _ (log : Path) (n : Naming) (good : or_none is_format n.dated ≡ true) (there parent : Bool) (names more : List (List ℕ)) (perm : IsPermutation names more) (ts us vs ws : List Entry) (e : ts ++ vs ≡ us ++ ws) where
  -- two of both that stood are one
  both_stood : (a b : Stand) (tmp tmp' : Option Seen) → Then (ShowsIn n there parent names a) (ShowsAside n.aside log tmp) ts → Then (ShowsIn n there parent more b) (ShowsAside n.aside log tmp') us → One (Stood a tmp) (Stood b tmp') ts us vs ws
  both_stood a b tmp tmp' h g =
      let r = stood_one n good parent names more perm h.front g.front (h.back ++ vs) (g.back ++ ws) (then_same ts us vs ws h g e) there a b h.first g.first in
      let q = aside_one n.aside log tmp tmp' h.back g.back vs ws h.second g.second r.2 in
      (ap (λ (s : Stand). Stood s tmp) r.0 ∙ ap (λ (o : Option Seen). Stood b o) q.0, joined_same ts us h g r.1 q.1, q.2)

  -- not what stood and a member that is no file
  not_both : (a : Stand) (tmp : Option Seen) (path : Path) → Then (ShowsIn n there parent names a) (ShowsAside n.aside log tmp) ts → ShowsAt log n there parent more (Stopped (stop.NotFile path)) us → ⊥
  not_both a tmp path h g = stood_or_none n good parent names more perm h.front us (h.back ++ vs) ws (first_same ts us vs ws h e) there a path h.first (at_member log n there parent more path us g)

-- a failed call counts
no_call : {A : Type 0} (n : ℕ) → 1 + n ≡ 0 → A
no_call n e = absurd (omega (arith, e))

-- the looks at members show one thing
members_one : (log : Path) (n : Naming) → or_none is_format n.dated ≡ true → (there parent : Bool) (names more : List (List ℕ)) → IsPermutation names more → (s s' : FamilySight) → IsSure s → IsSure s' → (ts us vs ws : List Entry) → ShowsAt log n there parent names s ts → ShowsAt log n there parent more s' us
    → ts ++ vs ≡ us ++ ws → One s s' ts us vs ws
members_one log n good there parent names more perm (Stood a tmp) (Stood b tmp') p q ts us vs ws h g e = both_stood log n good there parent names more perm ts us vs ws e a b tmp tmp' h g
members_one log n good there parent names more perm (Stood a tmp) (Stopped (stop.NotFile other)) p q ts us vs ws h g e = absurd (not_both log n good there parent names more perm ts us vs ws e a tmp other h g)
members_one log n good there parent names more perm (Stood a tmp) (Stopped (stop.Call k x)) p q ts us vs ws h g e = no_call 0 q.1
members_one log n good there parent names more perm (Stood a tmp) (Stopped stop.Memory) p q ts us vs ws h g e = absurd q.0
members_one log n good there parent names more perm (Stopped (stop.NotFile path)) (Stood b tmp') p q ts us vs ws h g e = absurd (not_both log n good there parent more names (IsPermutation-sym names more perm) us ts ws vs (sym e) b tmp' path g h)
members_one log n good there parent names more perm (Stopped (stop.NotFile path)) (Stopped (stop.NotFile other)) p q ts us vs ws h g e = both_stopped n good parent names more perm ts us vs ws e there path other (at_member log n there parent names path ts h) (at_member log n there parent more other us g)
members_one log n good there parent names more perm (Stopped (stop.NotFile path)) (Stopped (stop.Call k x)) p q ts us vs ws h g e = no_call 0 q.1
members_one log n good there parent names more perm (Stopped (stop.NotFile path)) (Stopped stop.Memory) p q ts us vs ws h g e = absurd q.0
members_one log n good there parent names more perm (Stopped (stop.Call k x)) s' p q ts us vs ws h g e = no_call 0 p.1
members_one log n good there parent names more perm (Stopped stop.Memory) s' p q ts us vs ws h g e = absurd p.0

-- at listings that say the same
members_in_one : (log : Path) (n : Naming) → or_none is_format n.dated ≡ true → (l m : Listing) → AreSame l m → (s s' : FamilySight) → IsSure s → IsSure s' → (ts us vs ws : List Entry) → ShowsMembersIn log n l s ts → ShowsMembersIn log n m s' us → ts ++ vs ≡ us ++ ws → One s s' ts us vs ws
members_in_one log n good l m a s s' p q ts us vs ws h g e = members_one log n good l.there l.parent l.names m.names a.names_are s s' p q ts us vs ws (at_listing log n l s ts h)
    (subst (λ (b : Bool). ShowsAt log n b l.parent m.names s' us) (sym a.there_is) (subst (λ (b : Bool). ShowsAt log n m.there b m.names s' us) (sym a.parent_is) (at_listing log n m s' us g))) e

-- ---- one family

-- What two looks at a family have in common.
record OneFamily (s s' : FamilySight) (after later : List Listing) (ts us vs ws : List Entry) : Type 0 where
  one : One s s' ts us vs ws
  alike : KnownAlike after later

-- two looks at a directory that couldn't be listed are one
none_one : (dir : Path) (why why' : StandStop) (ts us vs ws : List Entry) → IsSure (Stopped why) → IsSure (Stopped why') → NotListed dir why ts → NotListed dir why' us → ts ++ vs ≡ us ++ ws → One (Stopped why) (Stopped why') ts us vs ws
none_one dir (stop.NotFile path) (stop.NotFile other) ts us vs ws p q h g e = let r = one_look dir dir ts us vs ws h.1 g.1 e in (ap (λ x. Stopped (stop.NotFile x)) (h.0 ∙ sym g.0), r.looks_are, r.rest_is)
none_one dir (stop.NotFile path) (stop.Call k x) ts us vs ws p q h g e = no_call 0 q.1
none_one dir (stop.NotFile path) stop.Memory ts us vs ws p q h g e = absurd q.0
none_one dir (stop.Call k x) why' ts us vs ws p q h g e = no_call 0 p.1
none_one dir stop.Memory why' ts us vs ws p q h g e = absurd p.0

-- not one that was listed and one that couldn't be
listed_or_none : (dir : Path) (there parent : Bool) (names : List (List ℕ)) (why : StandStop) (ts us vs ws : List Entry) → IsSure (Stopped why) → ShowsListing dir there parent names ts → NotListed dir why us → ts ++ vs ≡ us ++ ws → ⊥
listed_or_none dir there parent names (stop.NotFile path) ts us vs ws p h g e = listing_or_none dir path there parent names ts us vs ws h g e
listed_or_none dir there parent names (stop.Call k x) ts us vs ws p h g e = no_call 0 p.1
listed_or_none dir there parent names stop.Memory ts us vs ws p h g e = p.0

module _ (known others after later : List Listing) (log : Path) (n : Naming) (good : or_none is_format n.dated ≡ true) (alike : KnownAlike known others) (s s' : FamilySight) (p : IsSure s) (q : IsSure s') (ts us vs ws : List Entry) (e : ts ++ vs ≡ us ++ ws) where
  -- the directory was listed before
  both_behind : (l m : Listing) → WasListed known n.dir l → WasListed others n.dir m → after ≡ known → later ≡ others → ShowsMembersIn log n l s ts → ShowsMembersIn log n m s' us → OneFamily s s' after later ts us vs ws
  both_behind l m w v a b h g = record {
    one = members_in_one log n good l m (alike.same n.dir l m w v) s s' p q ts us vs ws h g e;
    alike = subst (λ x. KnownAlike x later) (sym a) (subst (KnownAlike known) (sym b) alike);
  }

  -- it is listed now
  both_with : (l m : Listing) → WasNotListed known n.dir → WasNotListed others n.dir → l.dir ≡ n.dir → m.dir ≡ n.dir → after ≡ known ++ l ∷ [] → later ≡ others ++ m ∷ [] → Then (ShowsListing n.dir l.there l.parent l.names) (ShowsMembersIn log n l s) ts
      → Then (ShowsListing n.dir m.there m.parent m.names) (ShowsMembersIn log n m s') us → OneFamily s s' after later ts us vs ws
  both_with l m new new' d d' a b h g = record {
    one = (r.0, joined_same ts us h g x.looks_are r.1, r.2);
    alike = subst (λ y. KnownAlike y later) (sym a) (subst (KnownAlike (known ++ l ∷ [])) (sym b) (more_alike known others n.dir l m alike d d' new new' same));
  }
    where
      x : OneListing l.there m.there l.parent m.parent l.names m.names h.front g.front (h.back ++ vs) (g.back ++ ws)
      x = one_listing n.dir l.there m.there l.parent m.parent l.names m.names h.front g.front (h.back ++ vs) (g.back ++ ws) h.first g.first (then_same ts us vs ws h g e)

      same : AreSame l m
      same = record { there_is = x.there_is; parent_is = x.parent_is; names_are = x.names_are }

      r : One s s' h.back g.back vs ws
      r = members_in_one log n good l m same s s' p q h.back g.back vs ws h.second g.second x.rest_is

  -- it isn't
  both_none : (why why' : StandStop) → after ≡ known → later ≡ others → s ≡ Stopped why → s' ≡ Stopped why' → NotListed n.dir why ts → NotListed n.dir why' us → OneFamily s s' after later ts us vs ws
  both_none why why' a b i j h g = record {
    one = (let r = none_one n.dir why why' ts us vs ws (subst IsSure i p) (subst IsSure j q) h g e in (i ∙ (r.0 ∙ sym j), r.1, r.2));
    alike = subst (λ x. KnownAlike x later) (sym a) (subst (KnownAlike known) (sym b) alike);
  }

  -- of the three only the same go together
  one_family : ShowsFamily known log n after s ts → ShowsFamily others log n later s' us → OneFamily s s' after later ts us vs ws
  one_family (behind_listing l w a h) (behind_listing m v b g) = both_behind l m w v a b h g
  one_family (behind_listing l w a h) (with_listing m new d b g) = absurd (let r = alike.forth n.dir l w in new r.0 r.1)
  one_family (behind_listing l w a h) (not_listed why new b j g) = absurd (let r = alike.forth n.dir l w in new r.0 r.1)
  one_family (with_listing l new d a h) (behind_listing m v b g) = absurd (let r = alike.back n.dir m v in new r.0 r.1)
  one_family (with_listing l new d a h) (with_listing m new' d' b g) = both_with l m new new' d d' a b h g
  one_family (with_listing l new d a h) (not_listed why new' b j g) = absurd (listed_or_none n.dir l.there l.parent l.names why h.front us (h.back ++ vs) ws (subst IsSure j q) h.first g (first_same ts us vs ws h e))
  one_family (not_listed why new a i h) (behind_listing m v b g) = absurd (let r = alike.back n.dir m v in new r.0 r.1)
  one_family (not_listed why new a i h) (with_listing m new' d b g) = absurd (listed_or_none n.dir m.there m.parent m.names why g.front ts (g.back ++ ws) vs (subst IsSure i p) g.first h (first_same us ts ws vs g (sym e)))
  one_family (not_listed why new a i h) (not_listed why' new' b j g) = both_none why why' a b i j h g

-- ---- all

-- no call failed at the first
no_call_first : (s : FamilySight) (ss : List FamilySight) → calls_in (family_faults (s ∷ ss)) ≡ 0 → calls_in (family_fault s) ≡ 0
no_call_first s ss e = let a = calls_on (family_fault s) (family_faults ss) in omega (arith, a, e)

-- nor at the others
no_call_rest : (s : FamilySight) (ss : List FamilySight) → calls_in (family_faults (s ∷ ss)) ≡ 0 → calls_in (family_faults ss) ≡ 0
no_call_rest s ss e = let a = calls_on (family_fault s) (family_faults ss) in omega (arith, a, e)

-- the looks at the families of the same logs show one thing
pub families_one : (logs : List FoundLog) → HaveBounds logs → (known others after later : List Listing) (sights others_seen : List FamilySight) (ts us vs ws : List Entry) → KnownAlike known others → AllHadMemory sights → AllHadMemory others_seen → calls_in (family_faults sights) ≡ 0
    → calls_in (family_faults others_seen) ≡ 0 → ShowFamilies known logs after sights ts → ShowFamilies others logs later others_seen us → ts ++ vs ≡ us ++ ws → (sights ≡ others_seen) × (ts ≡ us) × (vs ≡ ws)
families_one [] good known others after later [] [] ts us vs ws alike m n c d h g e = (refl, h.1 ∙ sym g.1, front_same ts us [] [] vs ws h.1 g.1 e)
families_one [] good known others after later [] (s' ∷ ss') ts us vs ws alike m n c d h g e = absurd g
families_one [] good known others after later (s ∷ ss) ss' ts us vs ws alike m n c d h g e = absurd h
families_one (f ∷ fs) good known others after later [] ss' ts us vs ws alike m n c d h g e = absurd h
families_one (f ∷ fs) good known others after later (s ∷ ss) [] ts us vs ws alike m n c d h g e = absurd g
families_one (f ∷ fs) good known others after later (s ∷ ss) (s' ∷ ss') ts us vs ws alike m n c d h g e =
    let x = one_family known others h.0 g.0 f.log.path f.log.naming good.0.format alike s s' (m.0, no_call_first s ss c) (n.0, no_call_first s' ss' d) h.1.front g.1.front (h.1.back ++ vs) (g.1.back ++ ws) (then_same ts us vs ws h.1 g.1 e) h.1.first g.1.first in
    let r = families_one fs good.1 h.0 g.0 after later ss ss' h.1.back g.1.back vs ws x.alike m.1 n.1 (no_call_rest s ss c) (no_call_rest s' ss' d) h.1.second g.1.second x.one.2 in
    (ap (λ q. q ∷ ss) x.one.0 ∙ ap (λ qs. s' ∷ qs) r.0, joined_same ts us h.1 g.1 x.one.1 r.1, r.2)
