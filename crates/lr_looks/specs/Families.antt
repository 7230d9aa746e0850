-- What the looks at families showed, with no directory listed twice.
use Rattle.std.specs.Prelude.{◌≡◌, ◌≤◌, ◌⊎◌, ℕ, Bool, true, false, List, [], ◌∷◌, ◌++◌, length, take, Option, Some, None}
use Rattle.std.specs.Prelude.{Result, Ok, Err, slice_get}
use Rattle.lr_rules.specs.declared.path.Path.{Path}
use Rattle.lr_rules.specs.declared.rule.Naming.{Naming}
use Rattle.lr_rules.specs.declared.fault.CallKind.TheVariants as call
use Rattle.lr_rules.specs.declared.fault.Fault.{Fault}
use Rattle.lr_rules.specs.declared.fault.Fault.TheVariants as fault
use Rattle.lr_rules.specs.Names.{aside_path}
use Rattle.lr_host.specs.declared.thing.Seen.{Seen}
use Rattle.lr_host.specs.declared.entry.Entry.{Entry}
use Rattle.lr_host.specs.declared.entry.Entry.TheVariants as entry
use Rattle.lr_host.specs.Told.{Then}
use Rattle.lr_family.specs.declared.listing.Listing.{Listing}
use Rattle.lr_family.specs.declared.stand.Stand.{Stand}
use Rattle.lr_family.specs.declared.stand.StandStop.{StandStop}
use Rattle.lr_family.specs.declared.stand.StandStop.TheVariants as stop
use Rattle.lr_family.specs.Among.{ShowsIn, ShowsNoneIn}
use Rattle.lr_family.specs.Listed.{ShowsListing, NotListed}
use Rattle.lr_looks.specs.declared.standing.Standing.{Standing}
use Rattle.lr_looks.specs.Found.{FoundLog}

-- ---- where a log waits that is set aside

-- What was seen there. Of a log of another way nothing is looked at.
abbrev pub ShowsAside : Bool → Path → Option Seen → List Entry → Type 0
ShowsAside true log tmp ts = ts ≡ entry.Look (aside_path log) tmp ∷ []
ShowsAside false log tmp ts = (tmp ≡ None) × (ts ≡ [])

-- Why that isn't known: the look failed, or there was no memory for its path.
abbrev pub ShowsNoAside : Bool → Path → StandStop → List Entry → Type 0
ShowsNoAside true log why ts = ((why ≡ stop.Call call.Look (aside_path log)) ⊎ (why ≡ stop.Memory)) × (ts ≡ [])
ShowsNoAside false log why ts = ⊥

-- ---- one family

-- What the looks at a family came to: what stands, and what was seen where its log waits that is set aside; or why that isn't
-- known.
pub data FamilySight : Type 0 where
  Stood : Stand → Option Seen → FamilySight
  Stopped : StandStop → FamilySight

-- what a call that looked at it answered
abbrev pub sight_of : Result Standing StandStop → FamilySight
sight_of (Ok standing) = Stood standing.stand standing.tmp
sight_of (Err why) = Stopped why

-- this directory was listed before, so
pub record WasListed (known : List Listing) (dir : Path) (l : Listing) : Type 0 where
  pub place : ℕ
  pub there : slice_get known place ≡ Some l
  pub same : l.dir ≡ dir

abbrev pub WasNotListed : List Listing → Path → Type 0
WasNotListed known dir = (l : Listing) → WasListed known dir l → ⊥

-- what stands of the family is known, but not what stands where its log waits
abbrev pub StopsAside : Path → Naming → Listing → StandStop → List Entry → Type 0
StopsAside log n l why ts = (stand : Stand) × Then (ShowsIn n l.there l.parent l.names stand) (ShowsNoAside n.aside log why) ts

-- what the looks at the members among the names of a listing, at their part files, and then at the path where the log waits,
-- showed; there may be no memory before the first
abbrev pub ShowsMembersIn : Path → Naming → Listing → FamilySight → List Entry → Type 0
ShowsMembersIn log n l (Stood stand tmp) ts = Then (ShowsIn n l.there l.parent l.names stand) (ShowsAside n.aside log tmp) ts
ShowsMembersIn log n l (Stopped why) ts = ((why ≡ stop.Memory) × (ts ≡ []))
    ⊎ (ShowsNoneIn n l.there l.names why ts ⊎ StopsAside log n l why ts)

-- The looks at the family of a log, behind some listings: its directory was listed before; or it is listed now, and known then; or
-- it couldn't be, and isn't known.
pub data ShowsFamily (known : List Listing) (log : Path) (n : Naming) (after : List Listing) (s : FamilySight)
    (ts : List Entry) : Type 0 where
  behind_listing : (l : Listing) → WasListed known n.dir l → after ≡ known → ShowsMembersIn log n l s ts
      → ShowsFamily known log n after s ts
  with_listing : (l : Listing) → WasNotListed known n.dir → l.dir ≡ n.dir → after ≡ known ++ l ∷ []
      → Then (ShowsListing n.dir l.there l.parent l.names) (ShowsMembersIn log n l s) ts → ShowsFamily known log n after s ts
  not_listed : (why : StandStop) → WasNotListed known n.dir → after ≡ known → s ≡ Stopped why → NotListed n.dir why ts
      → ShowsFamily known log n after s ts

-- the same for each log, in order
abbrev pub ShowFamilies : List Listing → List FoundLog → List Listing → List FamilySight → List Entry → Type 0
ShowFamilies known [] after [] ts = (after ≡ known) × (ts ≡ [])
ShowFamilies known (f ∷ fs) after (s ∷ ss) ts = (next : List Listing)
    × Then (ShowsFamily known f.log.path f.log.naming next s) (ShowFamilies next fs after ss) ts
ShowFamilies known _ after _ ts = ⊥

-- the fault of a family of which it isn't known what stands
abbrev pub stop_fault : StandStop → List Fault
stop_fault (stop.Call kind path) = fault.Call kind path ∷ []
stop_fault (stop.NotFile path) = fault.NotFile path ∷ []
stop_fault stop.Memory = []

abbrev pub family_fault : FamilySight → List Fault
family_fault (Stood stand tmp) = []
family_fault (Stopped why) = stop_fault why

abbrev pub family_faults : List FamilySight → List Fault
family_faults [] = []
family_faults (s ∷ ss) = family_fault s ++ family_faults ss

-- the looks at this family weren't cut off by want of memory
abbrev pub HadMemory : FamilySight → Type 0
HadMemory (Stopped stop.Memory) = ⊥
HadMemory _ = Unit {0}

abbrev pub AllHadMemory : List FamilySight → Type 0
AllHadMemory [] = Unit {0}
AllHadMemory (s ∷ ss) = HadMemory s × AllHadMemory ss

-- A log that was looked at whole: the place of its definition, its path and the names of its members, what was seen of it, what
-- stands of its family, and what was seen where it waits that is set aside.
pub record LookedLog : Type 0 where
  pub set : ℕ
  pub path : Path
  pub naming : Naming
  pub seen : Seen
  pub stand : Stand
  pub tmp : Option Seen

abbrev pub looked_at : FoundLog → Stand → Option Seen → LookedLog
looked_at f stand tmp = record {
  set = f.log.set;
  path = f.log.path;
  naming = f.log.naming;
  seen = f.seen;
  stand = stand;
  tmp = tmp;
}

abbrev pub looked_by : FoundLog → FamilySight → List LookedLog
looked_by f (Stood stand tmp) = looked_at f stand tmp ∷ []
looked_by f (Stopped why) = []

abbrev pub looked_of : List FoundLog → List FamilySight → List LookedLog
looked_of (f ∷ fs) (s ∷ ss) = looked_by f s ++ looked_of fs ss
looked_of _ _ = []

-- The looks at the families of these logs came to some sights: the faults that were added and the logs that were looked at whole
-- are theirs.
pub record LookedAtFamilies (known : List Listing) (logs : List FoundLog) (after : List Listing) (faults all_faults : List Fault)
    (looked : List LookedLog) (ts : List Entry) : Type 0 where
  pub sights : List FamilySight
  pub had_memory : AllHadMemory sights
  pub shown : ShowFamilies known logs after sights ts
  pub faults_are : all_faults ≡ faults ++ family_faults sights
  pub looked_are : looked ≡ looked_of logs sights

-- the same with no directory listed before
pub record LooksAtFamilies (logs : List FoundLog) (faults all_faults : List Fault) (looked : List LookedLog)
    (ts : List Entry) : Type 0 where
  pub listings : List Listing
  pub families : LookedAtFamilies [] logs listings faults all_faults looked ts

-- Where there was no memory, the first of them were looked at, the last maybe in part.
pub record LookedAtSomeFamilies (known : List Listing) (logs : List FoundLog) (ts : List Entry) : Type 0 where
  pub sights : List FamilySight
  pub few : length sights ≤ length logs
  pub after : List Listing
  pub shown : ShowFamilies known (take (length sights) logs) after sights ts
