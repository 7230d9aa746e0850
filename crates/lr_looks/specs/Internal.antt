-- For proofs: logs that are found, choices that name logs of the list, the map of listings, and logs that are added to their
-- definitions.
use Rattle.std.specs.Prelude.{◌≡◌, ◌<◌, ℕ, List, [], ◌∷◌, ◌++◌, All, Option, Some, None, length, slice_get}
use Rattle.lr_kept.specs.declared.choice.Choice.{Choice}
use Rattle.lr_kept.specs.declared.choice.Choice.TheVariants.{Kept, Again, MemberOf, Reserved, Meets}
use Rattle.lr_rules.specs.declared.path.Path.{Path}
use Rattle.lr_rules.specs.declared.rule.Naming.{Naming}
use Rattle.lr_rules.specs.declared.fault.Fault.{Fault}
use Rattle.lr_host.specs.declared.entry.Entry.{Entry}
use Rattle.lr_host.specs.declared.journal.Journal.{Journal}
use Rattle.lr_host.specs.Told.{Left}
use Rattle.lr_plan.specs.declared.looks.SetLooks.{SetLooks}
use Rattle.lr_family.specs.declared.listing.Listing.{Listing}
use Rattle.lr_family.specs.declared.stand.StandStop.{StandStop}
use Rattle.lr_family.specs.declared.stand.StandStop.TheVariants as stop
use Rattle.lr_family.specs.Listed.{ShowsListing, NotListed}
use Rattle.lr_kept.specs.Begun.{place_in}
use Rattle.lr_looks.specs.declared.listings.Listings.{Listings}
use Rattle.lr_looks.specs.Families.{WasNotListed, FamilySight, ShowsFamily, LookedLog, LookedAtFamilies, LooksAtFamilies}
use Rattle.lr_looks.specs.Asked.{AskedWord}
use Rattle.lr_looks.specs.Found.{FoundLog, Hold}
use Rattle.lr_looks.specs.Sights.{WordSight, found_of}
use Rattle.lr_looks.specs.Sets.{HaveLooks}

-- Some sights of these words, one for each, found the logs that were added.
pub record AddsFound (words : List AskedWord) (found all_found : List FoundLog) : Type 0 where
  pub sights : List WordSight
  pub as_many : length sights ≡ length words
  pub found_are : all_found ≡ found ++ found_of words sights

-- the reserved path, or the log, that the choice names is one of so many
abbrev pub IsWithinCounts : ℕ → ℕ → Choice → Type 0
IsWithinCounts paths count Kept = Unit {0}
IsWithinCounts paths count (Again i) = i < count
IsWithinCounts paths count (MemberOf i) = i < count
IsWithinCounts paths count (Reserved i) = i < paths
IsWithinCounts paths count (Meets i) = i < count

abbrev pub AreWithinCounts : ℕ → ℕ → List Choice → Type 0
AreWithinCounts paths count choices = All (IsWithinCounts paths count) choices

-- ---- the map of the listings that were taken

-- The places of directories are those of their listings.
pub record ArePlaces (known : List Listing) (places : List ℕ → Option ℕ) : Type 0 where
  pub there : (dir : List ℕ) (i : ℕ) → places dir ≡ Some i → (l : Listing) × (slice_get known i ≡ Some l) × (l.dir ≡ dir)
  pub none : (dir : List ℕ) → places dir ≡ None → WasNotListed known dir

abbrev pub places_in : Listings → List ℕ → Option ℕ
places_in listings = place_in listings.places.entries

abbrev pub AreListings : Listings → Type 0
AreListings listings = ArePlaces listings.taken.items (places_in listings)

-- The listing of the directory was taken before, at this place; or it is taken now.
pub data TakesListing (known : List Listing) (dir : Path) (after : List Listing) (place : ℕ) (ts : List Entry) : Type 0 where
  before : (l : Listing) → slice_get known place ≡ Some l → l.dir ≡ dir → after ≡ known → ts ≡ []
      → TakesListing known dir after place ts
  taken : (l : Listing) → WasNotListed known dir → l.dir ≡ dir → after ≡ known ++ l ∷ [] → place ≡ length known
      → ShowsListing dir l.there l.parent l.names ts → TakesListing known dir after place ts

-- It couldn't be taken.
pub record LacksListing (known : List Listing) (dir : Path) (why : StandStop) (after : List Listing)
    (ts : List Entry) : Type 0 where
  pub not_before : WasNotListed known dir
  pub same : after ≡ known
  pub shown : NotListed dir why ts

-- So it is, or there was no memory to add it.
pub data NoListing (known : List Listing) (dir : Path) (why : StandStop) (ts : List Entry) : Type 0 where
  lacks : WasNotListed known dir → NotListed dir why ts → NoListing known dir why ts
  unadded : (l : Listing) → why ≡ stop.Memory → WasNotListed known dir → l.dir ≡ dir → ShowsListing dir l.there l.parent l.names ts
      → NoListing known dir why ts

-- the listing of the directory stands at this place
abbrev pub IsListedAt : List Listing → ℕ → Path → Type 0
IsListedAt known place dir = (l : Listing) × (slice_get known place ≡ Some l) × (l.dir ≡ dir)

-- ---- logs by definitions

-- the looks at one family, whatever listings are known behind them
abbrev pub FamilyPart : List Listing → Path → Naming → FamilySight → List Entry → Type 0
FamilyPart known log n s ts = (after : List Listing) × ShowsFamily known log n after s ts

-- these logs were added to those of their definitions
abbrev pub AddsLooked : List LookedLog → List SetLooks → List SetLooks → Type 0
AddsLooked added was now = (logs : List LookedLog) → HaveLooks logs was → HaveLooks (logs ++ added) now

-- The family of one log was looked at: a log or a fault was added.
pub record AddsFamily (known after : List Listing) (f : FoundLog) (faults all_faults : List Fault) (was now : List SetLooks)
    (told later : Option Journal) : Type 0 where
  pub looked : List LookedLog
  pub entries : Left (LookedAtFamilies known (f ∷ []) after faults all_faults looked) told later
  pub added : AddsLooked looked was now

-- The families of all logs were.
pub record AddsFamilies (logs : List FoundLog) (faults all_faults : List Fault) (was now : List SetLooks)
    (told later : Option Journal) : Type 0 where
  pub looked : List LookedLog
  pub entries : Left (LooksAtFamilies logs faults all_faults looked) told later
  pub added : AddsLooked looked was now

-- The logs that were looked at whole stand by definitions.
pub record LooksBySets (logs : List FoundLog) (faults all_faults : List Fault) (sets : List SetLooks)
    (told later : Option Journal) : Type 0 where
  pub looked : List LookedLog
  pub entries : Left (LooksAtFamilies logs faults all_faults looked) told later
  pub by_sets : HaveLooks looked sets

-- each of these logs is of one of so many definitions
abbrev pub AreOf : ℕ → List FoundLog → Type 0
AreOf count found = Hold (λ f. f.log.set < count) found
