-- What was seen where the logs wait that are set aside.
use Rattle.std.proofs.Common.{◌≡◌, inl, inr, ⊎_elim, Bool, true, false, List, [], ◌∷◌, Option, None, refl, sym, subst}
use Rattle.lr_rules.specs.declared.path.Path.{Path}
use Rattle.lr_rules.specs.declared.rule.Naming.{Naming}
use Rattle.lr_rules.specs.Names.{aside_path}
use Rattle.lr_host.specs.declared.thing.Seen.{Seen}
use Rattle.lr_host.specs.declared.entry.Entry.{Entry}
use Rattle.lr_host.specs.declared.entry.Entry.TheVariants as entry
use Rattle.lr_host.specs.Lists.{IsIn}
use Rattle.lr_host.proofs.Lists.{in_front, in_back, in_append}
use Rattle.lr_family.specs.declared.listing.Listing.{Listing}
use Rattle.lr_family.specs.declared.stand.Stand.{Stand}
use Rattle.lr_looks.specs.Families.{FamilySight, Stood, Stopped, ShowsAside, ShowsMembersIn, ShowsFamily, behind_listing, with_listing, not_listed, ShowFamilies, LookedLog, looked_by, looked_of}
use Rattle.lr_looks.specs.Found.{FoundLog}

-- What a look there saw, which is among these entries. Of a log of another way nothing was seen.
abbrev pub SawAside : Bool → Path → Option Seen → List Entry → Type 0
SawAside true log tmp all = IsIn (entry.Look (aside_path log) tmp) all
SawAside false log tmp all = tmp ≡ None

aside_shown : (all : List Entry) (aside : Bool) (log : Path) (tmp : Option Seen) (ts : List Entry) → ((e : Entry) → IsIn e ts → IsIn e all) → ShowsAside aside log tmp ts → SawAside aside log tmp all
aside_shown all true log tmp ts in_all h = in_all (entry.Look (aside_path log) tmp) (subst (IsIn (entry.Look (aside_path log) tmp)) (sym h) (inl refl))
aside_shown all false log tmp ts in_all h = h.0

members_aside : (all : List Entry) (log : Path) (n : Naming) (l : Listing) (stand : Stand) (tmp : Option Seen) (ts : List Entry) → ((e : Entry) → IsIn e ts → IsIn e all) → ShowsMembersIn log n l (Stood stand tmp) ts → SawAside n.aside log tmp all
members_aside all log n l stand tmp ts in_all m = aside_shown all n.aside log tmp m.back (λ e i. in_all e (subst (IsIn e) (sym m.joined) (in_back e m.front m.back i))) m.second

family_aside : (all : List Entry) (known : List Listing) (log : Path) (n : Naming) (after : List Listing) (stand : Stand) (tmp : Option Seen) (s : FamilySight) (ts : List Entry) → s ≡ Stood stand tmp → ((e : Entry) → IsIn e ts → IsIn e all)
    → ShowsFamily known log n after s ts → SawAside n.aside log tmp all
family_aside all known log n after stand tmp s ts is in_all f = go (subst (λ (x : FamilySight). ShowsFamily known log n after x ts) is f)
  where
    go : ShowsFamily known log n after (Stood stand tmp) ts → SawAside n.aside log tmp all
    go (behind_listing l was same m) = members_aside all log n l stand tmp ts in_all m
    go (with_listing l new e same t) = members_aside all log n l stand tmp t.back (λ x i. in_all x (subst (IsIn x) (sym t.joined) (in_back x t.front t.back i))) t.second
    go (not_listed why new same e h) = absurd (cc)

-- of each log that was looked at whole
pub all_aside : (all : List Entry) (known : List Listing) (fs : List FoundLog) (after : List Listing) (ss : List FamilySight) (ts : List Entry) → ((e : Entry) → IsIn e ts → IsIn e all) → ShowFamilies known fs after ss ts
    → (x : LookedLog) → IsIn x (looked_of fs ss) → SawAside x.naming.aside x.path x.tmp all
all_aside all known [] after [] ts in_all h x i = absurd i
all_aside all known [] after (s ∷ ss) ts in_all h x i = absurd i
all_aside all known (f ∷ fs) after [] ts in_all h x i = absurd i
all_aside all known (f ∷ fs) after (s ∷ ss) ts in_all h x i = ⊎_elim
    (λ a. own s refl a)
    (λ b. all_aside all h.0 fs after ss h.1.back (λ e j. in_all e (subst (IsIn e) (sym h.1.joined) (in_back e h.1.front h.1.back j))) h.1.second x b)
    (in_append x (looked_by f s) (looked_of fs ss) i)
  where
    own : (r : FamilySight) → s ≡ r → IsIn x (looked_by f r) → SawAside x.naming.aside x.path x.tmp all
    own (Stood stand tmp) is (inl e) = subst (λ (y : LookedLog). SawAside y.naming.aside y.path y.tmp all) e
        (family_aside all known f.log.path f.log.naming h.0 stand tmp s h.1.front is (λ d j. in_all d (subst (IsIn d) (sym h.1.joined) (in_front d h.1.front h.1.back j))) h.1.first)
    own (Stood stand tmp) is (inr none) = absurd none
    own (Stopped why) is none = absurd none
