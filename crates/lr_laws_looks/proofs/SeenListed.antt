-- What the looks showed of a family, whose directory may have been listed for another log before.
use Rattle.std.proofs.Common.{◌≡◌, inl, inr, ⊎_elim, ℕ, Bool, true, false, List, [], ◌∷◌, map, Option, Some, None, refl, sym, ◌∙◌, ap, subst}
use Rattle.std.specs.List.Sorted.{IsPermutation}
use Rattle.lr_rules.specs.declared.path.Path.{Path}
use Rattle.lr_rules.specs.declared.rule.Naming.{Naming}
use Rattle.lr_rules.specs.Path.{parent_of}
use Rattle.lr_host.specs.declared.thing.Kind.TheVariants as kind
use Rattle.lr_host.specs.declared.thing.Seen.{Seen}
use Rattle.lr_host.specs.declared.entry.Entry.{Entry}
use Rattle.lr_host.specs.declared.entry.Entry.TheVariants as entry
use Rattle.lr_host.specs.Listing.{HasListed}
use Rattle.lr_host.specs.Lists.{IsIn}
use Rattle.lr_host.specs.Looks.{Sees, IsDir, is_dir, look_of}
use Rattle.lr_host.specs.Told.{Then}
use Rattle.lr_host.proofs.Lists.{in_map, in_front, in_back, in_append, of_flat}
use Rattle.lr_family.specs.declared.listing.Listing.{Listing}
use Rattle.lr_family.specs.declared.stand.Stand.{Stand}
use Rattle.lr_family.specs.Among.{StandsAmong, ShowsMembers, ShowsIn}
use Rattle.lr_family.specs.Listed.{ShowsListing}
use Rattle.lr_family.specs.Parts.{part_in, PartsAmong, ShowsParts}
use Rattle.lr_family.proofs.PartLooks.{one_seen}
use Rattle.lr_looks.specs.Families.{FamilySight, Stood, Stopped, ShowsFamily, behind_listing, with_listing, not_listed, ShowFamilies, LookedLog, looked_by, looked_of}
use Rattle.lr_looks.specs.Found.{FoundLog}
use Rattle.lr_laws_family.specs.Shown.{SawDir, Shown}
use Rattle.lr_laws_family.proofs.Shows.{members_shown}
use Rattle.lr_laws_looks.proofs.Elements.{in_list}

-- ---- listings

-- a look at the parent of this directory saw a directory, or none
abbrev pub SawParent : Path → Bool → List Entry → Type 0
SawParent dir there all = (o : Option Seen) × (is_dir o ≡ there) × IsIn (entry.Look (parent_of dir) o) all

-- The directory was listed with these names, or seen to be missing: the looks that show it are among all entries.
record IsTold (all : List Entry) (dir : Path) (there parent : Bool) (names : List (List ℕ)) : Type 0 where
  ts : List Entry
  in_all : (e : Entry) → IsIn e ts → IsIn e all
  shown : ShowsListing dir there parent names ts

abbrev AreTold : List Entry → List Listing → Type 0
AreTold all known = (l : Listing) → IsIn l known → IsTold all l.dir l.there l.parent l.names

-- those that are known behind a family were told, as those before it were
told_next : (all : List Entry) (known : List Listing) (log : Path) (n : Naming) (after : List Listing) (s : FamilySight) (ts : List Entry) → ((e : Entry) → IsIn e ts → IsIn e all) → AreTold all known → ShowsFamily known log n after s ts → AreTold all after
told_next all known log n after s ts in_all told (behind_listing l was same m) = subst (AreTold all) (sym same) told
told_next all known log n after s ts in_all told (with_listing l new e same t) = subst (AreTold all) (sym same) (λ k i. ⊎_elim
    (λ a. told k a)
    (λ b. ⊎_elim (λ is. subst (λ (x : Listing). IsTold all x.dir x.there x.parent x.names) is now) (λ none. absurd none) b)
    (in_append k known (l ∷ []) i))
  where
    now : IsTold all l.dir l.there l.parent l.names
    now = subst (λ (x : Path). IsTold all x l.there l.parent l.names) (sym e) (record { ts = t.front; in_all = λ x j. in_all x (subst (IsIn x) (sym t.joined) (in_front x t.front t.back j)); shown = t.first })
told_next all known log n after s ts in_all told (not_listed why new same e h) = subst (AreTold all) (sym same) told

module _ (all : List Entry) (dir : Path) (parent : Bool) (names : List (List ℕ)) where
  -- the directory was seen
  dir_told : IsTold all dir true parent names → SawDir dir all
  dir_told t = go h.first.seen h.first.is h.first.look
    where
      h : Then (Sees dir IsDir) (HasListed dir names) t.ts
      h = t.shown.1

      go : (o : Option Seen) → IsDir o → h.front ≡ entry.Look dir o ∷ [] → SawDir dir all
      go None is look = absurd is
      go (Some seen) is look = (seen, is, t.in_all (entry.Look dir (Some seen)) (subst (IsIn (entry.Look dir (Some seen))) (sym h.joined) (in_front (entry.Look dir (Some seen)) h.front h.back (subst (IsIn (entry.Look dir (Some seen))) (sym look) (inl refl)))))

  -- the list, in whatever order
  list_told : IsTold all dir true parent names → (listed : List (List ℕ)) × IsPermutation listed names × IsIn (entry.List dir listed) all
  list_told t =
      let h = t.shown.1 in
      let l = h.second in
      (l.listed, l.same, t.in_all (entry.List dir l.listed) (subst (IsIn (entry.List dir l.listed)) (sym h.joined) (in_back (entry.List dir l.listed) h.front h.back (subst (IsIn (entry.List dir l.listed)) (sym l.list) (inl refl)))))

  -- the look that saw nothing
  missing_told : IsTold all dir false parent names → IsIn (entry.Look dir None) all
  missing_told t =
      let h = t.shown.1 in
      let s = h.first in
      t.in_all (entry.Look dir None) (subst (IsIn (entry.Look dir None)) (sym h.joined) (in_front (entry.Look dir None) h.front h.back
      (subst (λ (o : Option Seen). IsIn (entry.Look dir o) h.front) s.is (subst (IsIn (entry.Look dir s.seen)) (sym s.look) (inl refl)))))

  -- and the one behind it, at the parent
  parent_told : IsTold all dir false parent names → SawParent dir parent all
  parent_told t =
      let h = t.shown.1 in
      let s = h.second in
      (s.seen, s.is, t.in_all (entry.Look (parent_of dir) s.seen) (subst (IsIn (entry.Look (parent_of dir) s.seen)) (sym h.joined) (in_back (entry.Look (parent_of dir) s.seen) h.front h.back (subst (IsIn (entry.Look (parent_of dir) s.seen)) (sym s.look) (inl refl)))))

-- ---- families

-- The family's directory was seen, and listed with these names in some order. The looks at the members among them, and those at the part files, are among all entries.
pub record IsListed (n : Naming) (stand : Stand) (all : List Entry) : Type 0 where
  pub dir : SawDir n.dir all
  pub names : List (List ℕ)
  pub listed : List (List ℕ)
  pub same : IsPermutation listed names
  pub list : IsIn (entry.List n.dir listed) all
  pub front : List Entry
  pub members : StandsAmong n names stand.members front
  pub front_in : (e : Entry) → IsIn e front → IsIn e all
  pub back : List Entry
  pub parts : PartsAmong n names stand.parts back
  pub back_in : (e : Entry) → IsIn e back → IsIn e all

-- The directory was seen to be missing, and its parent to be there or not; nothing of the family stands.
pub record IsMissing (n : Naming) (stand : Stand) (all : List Entry) : Type 0 where
  pub members : stand.members ≡ []
  pub parts : stand.parts ≡ []
  pub look : IsIn (entry.Look n.dir None) all
  pub parent : SawParent n.dir stand.parent all

-- by whether it is there
abbrev pub WasTold : Naming → Stand → List Entry → Type 0
WasTold n stand all = (stand.there ≡ true → IsListed n stand all) × (stand.there ≡ false → IsMissing n stand all)

told_by : (all : List Entry) (n : Naming) (l : Listing) (stand : Stand) (ts : List Entry) → ((e : Entry) → IsIn e ts → IsIn e all) → IsTold all n.dir l.there l.parent l.names → ShowsIn n l.there l.parent l.names stand ts → WasTold n stand all
told_by all n l stand ts in_all told shows = go l.there there told h.first h.second
  where
    there : stand.there ≡ l.there
    there = shows.0

    h : Then (ShowsMembers n l.there l.names stand.members) (ShowsParts n l.there l.names stand.parts) ts
    h = shows.2

    go : (b : Bool) → stand.there ≡ b → IsTold all n.dir b l.parent l.names → ShowsMembers n b l.names stand.members h.front → ShowsParts n b l.names stand.parts h.back → WasTold n stand all
    go true is t m p =
        let list = list_told all n.dir l.parent l.names t in (
          (λ yes. record {
            dir = dir_told all n.dir l.parent l.names t;
            names = l.names;
            listed = list.0;
            same = list.1;
            list = list.2;
            front = h.front;
            members = m;
            front_in = λ e i. in_all e (subst (IsIn e) (sym h.joined) (in_front e h.front h.back i));
            back = h.back;
            parts = p;
            back_in = λ e i. in_all e (subst (IsIn e) (sym h.joined) (in_back e h.front h.back i));
          }),
          λ no. absurd (cc),
        )
    go false is t m p = (
      (λ yes. absurd (cc)),
      λ no. record { members = m.0; parts = p.0; look = missing_told all n.dir l.parent l.names t; parent = subst (λ b. SawParent n.dir b all) (sym shows.1) (parent_told all n.dir l.parent l.names t) },
    )

-- a family, whether its directory was listed before or is listed now
family_told : (all : List Entry) (known : List Listing) (log : Path) (n : Naming) (after : List Listing) (stand : Stand) (tmp : Option Seen) (s : FamilySight) (ts : List Entry) → s ≡ Stood stand tmp → ((e : Entry) → IsIn e ts → IsIn e all) → AreTold all known → AreTold all after
    → ShowsFamily known log n after s ts → WasTold n stand all
family_told all known log n after stand tmp s ts is in_all told next f = go (subst (λ (x : FamilySight). ShowsFamily known log n after x ts) is f)
  where
    go : ShowsFamily known log n after (Stood stand tmp) ts → WasTold n stand all
    go (behind_listing l was same m) =
        told_by all n l stand m.front (λ x i. in_all x (subst (IsIn x) (sym m.joined) (in_front x m.front m.back i)))
        (subst (λ (x : Path). IsTold all x l.there l.parent l.names) was.same (told l (in_list known was.place l was.there))) m.first
    go (with_listing l new e same t) =
        told_by all n l stand t.second.front (λ x i. in_all x (subst (IsIn x) (sym t.joined) (in_back x t.front t.back (subst (IsIn x) (sym t.second.joined) (in_front x t.second.front t.second.back i)))))
        (subst (λ (x : Path). IsTold all x l.there l.parent l.names) e (next l (subst (IsIn l) (sym same) (in_back l known (l ∷ []) (inl refl))))) t.second.first
    go (not_listed why new same e h) = absurd (cc)

-- of each log that was looked at whole
families_told : (all : List Entry) (known : List Listing) (fs : List FoundLog) (after : List Listing) (ss : List FamilySight) (ts : List Entry) → ((e : Entry) → IsIn e ts → IsIn e all) → AreTold all known → ShowFamilies known fs after ss ts
    → (x : LookedLog) → IsIn x (looked_of fs ss) → WasTold x.naming x.stand all
families_told all known [] after [] ts in_all told h x i = absurd i
families_told all known [] after (s ∷ ss) ts in_all told h x i = absurd i
families_told all known (f ∷ fs) after [] ts in_all told h x i = absurd i
families_told all known (f ∷ fs) after (s ∷ ss) ts in_all told h x i = ⊎_elim
    (λ a. own s refl a)
    (λ b. families_told all h.0 fs after ss h.1.back (λ e j. in_all e (subst (IsIn e) (sym h.1.joined) (in_back e h.1.front h.1.back j))) next h.1.second x b)
    (in_append x (looked_by f s) (looked_of fs ss) i)
  where
    in_front_all : (e : Entry) → IsIn e h.1.front → IsIn e all
    in_front_all e j = in_all e (subst (IsIn e) (sym h.1.joined) (in_front e h.1.front h.1.back j))

    next : AreTold all h.0
    next = told_next all known f.log.path f.log.naming h.0 s h.1.front in_front_all told h.1.first

    own : (r : FamilySight) → s ≡ r → IsIn x (looked_by f r) → WasTold x.naming x.stand all
    own (Stood stand tmp) is (inl e) = subst (λ (y : LookedLog). WasTold y.naming y.stand all) e (family_told all known f.log.path f.log.naming h.0 stand tmp s h.1.front is in_front_all told next h.1.first)
    own (Stood stand tmp) is (inr none) = absurd none
    own (Stopped why) is none = absurd none

pub all_told : (all : List Entry) (fs : List FoundLog) (after : List Listing) (ss : List FamilySight) (ts : List Entry) → ((e : Entry) → IsIn e ts → IsIn e all) → ShowFamilies [] fs after ss ts
    → (x : LookedLog) → IsIn x (looked_of fs ss) → WasTold x.naming x.stand all
all_told all fs after ss ts in_all h = families_told all [] fs after ss ts in_all (λ l i. absurd i) h

-- ---- part files

-- of each of these paths a look saw a regular file
abbrev pub SawFiles : List Path → List Entry → Type 0
SawFiles paths ts = (x : Path) → IsIn x paths → (seen : Seen) × (seen.kind ≡ kind.File) × IsIn (entry.Look x (Some seen)) ts

parts_shown : (all : List Entry) (n : Naming) (names : List (List ℕ)) (parts : List Path) (ts : List Entry) → ((e : Entry) → IsIn e ts → IsIn e all) → PartsAmong n names parts ts → SawFiles parts all
parts_shown all n names parts ts in_all p x i =
    let g = of_flat part_in p.sights x (subst (IsIn x) p.parts_are i) in
    let s = one_seen g.0.path x g.0.seen g.2 in
    let e : entry.Look g.0.path g.0.seen ≡ entry.Look x (Some s.1.0) = ap (λ (y : Path). entry.Look y g.0.seen) s.0 ∙ ap (entry.Look x) s.1.2 in (
      s.1.0,
      s.1.1,
      in_all (entry.Look x (Some s.1.0)) (subst (IsIn (entry.Look x (Some s.1.0))) (sym p.looks) (subst (λ (d : Entry). IsIn d (map look_of p.sights)) e (in_map look_of g.0 p.sights g.1))),
    )

-- ---- what was shown of a family

-- The members of a family were seen where its directory is there, which was seen too, and the part files of every one. Where it isn't, that was seen, and nothing stands.
abbrev pub WasShown : Naming → Stand → List Entry → Type 0
WasShown n stand all = (stand.there ≡ true → SawDir n.dir all × Shown n stand.members all) × SawFiles stand.parts all × (stand.there ≡ false → IsMissing n stand all)

was_shown : (all : List Entry) (n : Naming) (stand : Stand) → WasTold n stand all → WasShown n stand all
was_shown all n stand told = ((λ there. let l = told.0 there in (l.dir, members_shown n l.listed l.names stand.members l.front all l.same l.list l.front_in l.members)), parts stand.there refl, told.1)
  where
    parts : (b : Bool) → stand.there ≡ b → SawFiles stand.parts all
    parts true there = let l = told.0 there in parts_shown all n l.names stand.parts l.back l.back_in l.parts
    parts false gone = λ x i. absurd (subst (IsIn x) (told.1 gone).parts i)

-- of each log that was looked at whole
pub all_shown : (all : List Entry) (fs : List FoundLog) (after : List Listing) (ss : List FamilySight) (ts : List Entry) → ((e : Entry) → IsIn e ts → IsIn e all) → ShowFamilies [] fs after ss ts
    → (x : LookedLog) → IsIn x (looked_of fs ss) → WasShown x.naming x.stand all
all_shown all fs after ss ts in_all h x i = was_shown all x.naming x.stand (all_told all fs after ss ts in_all h x i)
