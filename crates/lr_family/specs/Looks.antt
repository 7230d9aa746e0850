-- What looks at members showed, one after another.
use Rattle.std.specs.Prelude.{◌≡◌, List, [], ◌∷◌, ◌++◌, map, flat_map, All, Option, Some, None}
use Rattle.lr_rules.specs.declared.path.Path.{Path}
use Rattle.lr_host.specs.declared.thing.Kind.TheVariants as kind
use Rattle.lr_host.specs.declared.thing.Seen.{Seen}
use Rattle.lr_host.specs.declared.entry.Entry.{Entry}
use Rattle.lr_host.specs.declared.entry.Entry.TheVariants as entry
use Rattle.lr_host.specs.Lists.{IsIn}
use Rattle.lr_host.specs.Looks.{IsFileOrGone}
use Rattle.lr_host.specs.Told.{Then, Are}
use Rattle.lr_family.specs.declared.spot.Spot.{Spot}
use Rattle.lr_family.specs.declared.stand.Member.{Member}

-- A look at a member's path, and what it saw.
pub record MemberSight : Type 0 where
  pub spot : Spot
  pub seen : Option Seen

abbrev pub spot_look : MemberSight → Entry
spot_look sight = entry.Look sight.spot.path sight.seen

-- the member that was seen, where one was
abbrev pub seen_member : Spot → Option Seen → List Member
seen_member spot None = []
seen_member spot (Some seen) = record { path = spot.path; place = spot.place; seen = seen } ∷ []

abbrev pub member_of : MemberSight → List Member
member_of sight = seen_member sight.spot sight.seen

-- a look saw the member as it says, a regular file
abbrev pub WasSeen : List Entry → Member → Type 0
WasSeen ts m = (m.seen.kind ≡ kind.File) × IsIn (entry.Look m.path (Some m.seen)) ts

-- These members are those of a look at each of these, in order.
pub record AreSeen (spots : List Spot) (members : List Member) : Type 0 where
  pub sights : List MemberSight
  pub each : map (λ sight. sight.spot) sights ≡ spots
  pub members_are : members ≡ flat_map member_of sights

abbrev pub AreFilesOrGone : List MemberSight → Type 0
AreFilesOrGone sights = All (λ sight. IsFileOrGone sight.seen) sights

-- One look at each of these, in order, saw a regular file or nothing; the members are those where it saw a file.
pub record ShowsSpots (spots : List Spot) (members : List Member) (ts : List Entry) : Type 0 where
  pub sights : List MemberSight
  pub each : map (λ sight. sight.spot) sights ≡ spots
  pub files : AreFilesOrGone sights
  pub members_are : members ≡ flat_map member_of sights
  pub looks : ts ≡ map spot_look sights

-- The first of these were looked at so, and behind them P holds of the one at this path.
pub record ShowsTo (spots : List Spot) (path : Path) (P : List Entry → Type 0) (ts : List Entry) : Type 0 where
  pub before : List MemberSight
  pub spot : Spot
  pub after : List Spot
  pub each : spots ≡ map (λ sight. sight.spot) before ++ spot ∷ after
  pub is : spot.path ≡ path
  pub files : AreFilesOrGone before
  pub looks : Then (Are (map spot_look before)) P ts

-- A first part of these was looked at so.
pub record ShowsSome (spots : List Spot) (ts : List Entry) : Type 0 where
  pub sights : List MemberSight
  pub after : List Spot
  pub each : spots ≡ map (λ sight. sight.spot) sights ++ after
  pub files : AreFilesOrGone sights
  pub looks : ts ≡ map spot_look sights
