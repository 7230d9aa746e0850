-- Counting the listings of a directory among entries.
use Rattle.std.proofs.Common.{◌≡◌, ◌+◌, false, List, [], ◌++◌, length, refl, sym, ap, ◌∙◌, subst}
use Rattle.std.specs.Prelude.{filter}
use Rattle.std.proofs.lemmas.List.{length-append}
use Rattle.std.proofs.lemmas.List.Elements.{filter-append}
use Rattle.lr_rules.specs.declared.path.Path.{Path}
use Rattle.lr_host.specs.declared.entry.Entry.{Entry}
use Rattle.lr_host.specs.declared.entry.Entry.TheVariants as entry
use Rattle.lr_host.specs.Told.{Each, Then}
use Rattle.lr_host.proofs.Each.{each_append, each_as, none_pass}
use Rattle.lr_glob.specs.Listings.{is_listing_of, listings_of}

-- an entry that lists no directory
abbrev pub IsNoListing : Entry → Type 0
IsNoListing (entry.List dir listed) = ⊥
IsNoListing _ = Unit {0}

abbrev pub AreNoListings : List Entry → Type 0
AreNoListings ts = Each IsNoListing ts

not_counted : (dir : Path) (e : Entry) → IsNoListing e → is_listing_of dir e ≡ false
not_counted dir (entry.List listed names) i = absurd i
not_counted dir _ i = refl

-- where no entry lists a directory, this one is listed not once
pub count_none : (dir : Path) (ts : List Entry) → AreNoListings ts → listings_of dir ts ≡ 0
count_none dir ts a = ap (λ (es : List Entry). length es) (none_pass (is_listing_of dir) ts (each_as IsNoListing (λ e. is_listing_of dir e ≡ false) ts (not_counted dir) a))

-- the counts of two parts are added
pub count_joined : (dir : Path) (ts xs ys : List Entry) → ts ≡ xs ++ ys → listings_of dir ts ≡ listings_of dir xs + listings_of dir ys
count_joined dir ts xs ys e = ap (listings_of dir) e ∙ (ap (λ (es : List Entry). length es) (filter-append (is_listing_of dir) xs ys) ∙ length-append (filter (is_listing_of dir) xs) (filter (is_listing_of dir) ys))

-- ---- entries that list nothing

pub none_both : {P Q : List Entry → Type 0} (ts : List Entry) → ((us : List Entry) → P us → AreNoListings us) → ((us : List Entry) → Q us → AreNoListings us) → Then P Q ts → AreNoListings ts
none_both ts f g t = subst AreNoListings (sym t.joined) (each_append IsNoListing t.front t.back (f t.front t.first) (g t.back t.second))

pub none_empty : (ts : List Entry) → ts ≡ [] → AreNoListings ts
none_empty ts e = subst AreNoListings (sym e) tt
