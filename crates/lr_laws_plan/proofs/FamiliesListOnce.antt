-- The looks at families list a directory once: behind its listing it is known, and one that is known isn't listed.
use Rattle.std.proofs.Common.{◌≡◌, ◌≤◌, ◌+◌, ◌⊎◌, inl, inr, Bool, true, false, cond, List, [], ◌∷◌, ◌++◌, length, bytes_eq, refl, sym, ap, ◌∙◌, subst, arith}
use Rattle.std.proofs.lemmas.Slice.Eq.{bytes_eq-Decides}
use Rattle.lr_rules.specs.declared.path.Path.{Path}
use Rattle.lr_rules.specs.declared.rule.Naming.{Naming}
use Rattle.lr_rules.specs.Path.{parent_of}
use Rattle.lr_host.specs.declared.entry.Entry.{Entry}
use Rattle.lr_host.specs.declared.entry.Entry.TheVariants as entry
use Rattle.lr_host.specs.Looks.{IsDir, IsNothing, is_dir}
use Rattle.lr_host.specs.Told.{Then}
use Rattle.lr_family.specs.declared.listing.Listing.{Listing}
use Rattle.lr_family.specs.Listed.{ShowsListing}
use Rattle.lr_looks.specs.Families.{FamilySight, WasListed, ShowsMembersIn, ShowsFamily, behind_listing, with_listing, not_listed, ShowFamilies}
use Rattle.lr_looks.specs.Found.{FoundLog}
use Rattle.lr_glob.specs.Listings.{listings_of}
use Rattle.lr_looks.proofs.Known.{read_before, read_last}
use Rattle.lr_laws_plan.proofs.CountedListings.{count_none, count_joined, none_both, none_empty}
use Rattle.lr_laws_plan.proofs.LooksListNone.{sees_none, members_in_none, not_listed_none}

-- ---- directories that are known

-- a directory whose listing comes is listed
pub listed_last : (known : List Listing) (l : Listing) (dir : Path) → l.dir ≡ dir → WasListed (known ++ l ∷ []) dir l
listed_last known l dir e = record { place = length known; there = read_last known l; same = e }

-- one that was listed still is
pub listed_more : (known : List Listing) (l x : Listing) (dir : Path) → WasListed known dir x → WasListed (known ++ l ∷ []) dir x
listed_more known l x dir w = record { place = w.place; there = read_before known l x w.place w.there; same = w.same }

-- one of the listings is of this directory
abbrev pub IsKnown : List Listing → Path → Type 0
IsKnown known dir = (l : Listing) × WasListed known dir l

-- the directory whose listing comes is known
known_last : (known : List Listing) (l : Listing) (dir : Path) → l.dir ≡ dir → IsKnown (known ++ l ∷ []) dir
known_last known l dir e = (l, listed_last known l dir e)

-- one that was known still is
known_more : (known : List Listing) (l : Listing) (dir : Path) → IsKnown known dir → IsKnown (known ++ l ∷ []) dir
known_more known l dir k = (k.0, listed_more known l k.0 dir k.1)

-- ---- one listing

count_one : (dir d : Path) (names : List _) (ts : List Entry) → ts ≡ entry.List dir names ∷ [] → listings_of d ts ≡ cond (bytes_eq dir d) 1 0
count_one dir d names ts e = ap (listings_of d) e ∙ go (bytes_eq dir d)
  where
    go : (b : Bool) → length (cond b (entry.List dir names ∷ []) []) ≡ cond b 1 0
    go true = refl
    go false = refl

-- a listing lists its own directory, at most once, and no other
count_listing : (dir d : Path) (there parent : Bool) (names : List _) (ts : List Entry) → ShowsListing dir there parent names ts → listings_of d ts ≤ cond (bytes_eq dir d) 1 0
count_listing dir d true parent names ts h =
    let j = count_joined d ts h.1.front h.1.back h.1.joined in
    let a = count_none d h.1.front (sees_none dir IsDir h.1.front h.1.first) in
    let b = count_one dir d h.1.second.listed h.1.back h.1.second.list in
    omega (arith, j, a, b)
count_listing dir d false parent names ts h =
    let a = count_none d ts (none_both ts (sees_none dir IsNothing) (sees_none (parent_of dir) (λ seen. is_dir seen ≡ parent)) h.1) in
    omega (arith, a)

-- nor do the looks at the members behind it
count_with : (log : Path) (n : Naming) (l : Listing) (s : FamilySight) (d : Path) (ts : List Entry) → Then (ShowsListing n.dir l.there l.parent l.names) (ShowsMembersIn log n l s) ts → listings_of d ts ≤ cond (bytes_eq n.dir d) 1 0
count_with log n l s d ts t =
    let j = count_joined d ts t.front t.back t.joined in
    let a = count_listing n.dir d l.there l.parent l.names t.front t.first in
    let b = count_none d t.back (members_in_none log n l s t.back t.second) in
    omega (arith, j, a, b)

-- ---- one family

-- a directory that is known stays so
still_known : (known : List Listing) (log : Path) (n : Naming) (next : List Listing) (s : FamilySight) (ts : List Entry) (d : Path) → ShowsFamily known log n next s ts → IsKnown known d → IsKnown next d
still_known known log n next s ts d (behind_listing l was same m) k = subst (λ ls. IsKnown ls d) (sym same) k
still_known known log n next s ts d (with_listing l new is same t) k = subst (λ ls. IsKnown ls d) (sym same) (known_more known l d k)
still_known known log n next s ts d (not_listed why new same is h) k = subst (λ ls. IsKnown ls d) (sym same) k

-- and isn't listed
not_again : (known : List Listing) (log : Path) (n : Naming) (next : List Listing) (s : FamilySight) (ts : List Entry) (d : Path) → ShowsFamily known log n next s ts → IsKnown known d → listings_of d ts ≡ 0
not_again known log n next s ts d (behind_listing l was same m) k = count_none d ts (members_in_none log n l s ts m)
not_again known log n next s ts d (with_listing l new is same t) k = go (bytes_eq n.dir d) refl (count_with log n l s d ts t)
  where
    go : (b : Bool) → bytes_eq n.dir d ≡ b → listings_of d ts ≤ cond (bytes_eq n.dir d) 1 0 → listings_of d ts ≡ 0
    go true e h = absurd (new k.0 (subst (λ p. WasListed known p k.0) (sym ((bytes_eq-Decides n.dir d).0 e)) k.1))
    go false e h = let z : listings_of d ts ≤ 0 = subst (λ b. listings_of d ts ≤ cond b 1 0) e h in omega (arith, z)
not_again known log n next s ts d (not_listed why new same is h) k = count_none d ts (not_listed_none n.dir why ts h)

-- it isn't listed, or is once, and known then
once_then_known : (known : List Listing) (log : Path) (n : Naming) (next : List Listing) (s : FamilySight) (ts : List Entry) (d : Path) → ShowsFamily known log n next s ts → (listings_of d ts ≡ 0) ⊎ ((listings_of d ts ≤ 1) × IsKnown next d)
once_then_known known log n next s ts d (behind_listing l was same m) = inl (count_none d ts (members_in_none log n l s ts m))
once_then_known known log n next s ts d (with_listing l new is same t) = go (bytes_eq n.dir d) refl (count_with log n l s d ts t)
  where
    go : (b : Bool) → bytes_eq n.dir d ≡ b → listings_of d ts ≤ cond (bytes_eq n.dir d) 1 0 → (listings_of d ts ≡ 0) ⊎ ((listings_of d ts ≤ 1) × IsKnown next d)
    go true e h = inr (subst (λ b. listings_of d ts ≤ cond b 1 0) e h, subst (λ ls. IsKnown ls d) (sym same) (known_last known l d (is ∙ (bytes_eq-Decides n.dir d).0 e)))
    go false e h = let z : listings_of d ts ≤ 0 = subst (λ b. listings_of d ts ≤ cond b 1 0) e h in inl (omega (arith, z))
once_then_known known log n next s ts d (not_listed why new same is h) = inl (count_none d ts (not_listed_none n.dir why ts h))

-- ---- all of them

-- a directory that is known before them isn't listed
never_again : (known : List Listing) (fs : List FoundLog) (after : List Listing) (ss : List FamilySight) (ts : List Entry) (d : Path) → ShowFamilies known fs after ss ts → IsKnown known d → listings_of d ts ≡ 0
never_again known [] after [] ts d h k = count_none d ts (none_empty ts h.1)
never_again known [] after (s ∷ ss) ts d h k = absurd h
never_again known (f ∷ fs) after [] ts d h k = absurd h
never_again known (f ∷ fs) after (s ∷ ss) ts d h k =
    let j = count_joined d ts h.1.front h.1.back h.1.joined in
    let a = not_again known f.log.path f.log.naming h.0 s h.1.front d h.1.first k in
    let b = never_again h.0 fs after ss h.1.back d h.1.second (still_known known f.log.path f.log.naming h.0 s h.1.front d h.1.first k) in
    omega (arith, j, a, b)

-- any is listed at most once
pub families_once : (known : List Listing) (fs : List FoundLog) (after : List Listing) (ss : List FamilySight) (ts : List Entry) (d : Path) → ShowFamilies known fs after ss ts → listings_of d ts ≤ 1
families_once known [] after [] ts d h = let a = count_none d ts (none_empty ts h.1) in omega (arith, a)
families_once known [] after (s ∷ ss) ts d h = absurd h
families_once known (f ∷ fs) after [] ts d h = absurd h
families_once known (f ∷ fs) after (s ∷ ss) ts d h = go (once_then_known known f.log.path f.log.naming h.0 s h.1.front d h.1.first) (families_once h.0 fs after ss h.1.back d h.1.second) (count_joined d ts h.1.front h.1.back h.1.joined)
  where
    go : (listings_of d h.1.front ≡ 0) ⊎ ((listings_of d h.1.front ≤ 1) × IsKnown h.0 d) → listings_of d h.1.back ≤ 1 → listings_of d ts ≡ listings_of d h.1.front + listings_of d h.1.back → listings_of d ts ≤ 1
    go (inl a) b j = omega (arith, j, a, b)
    go (inr a) b j = let x = a.0 in let y = never_again h.0 fs after ss h.1.back d h.1.second a.1 in omega (arith, j, x, y)
