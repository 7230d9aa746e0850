-- The order of members, the newest first, and stops for a failed call.
use Rattle.std.specs.Prelude.{ℕ, ℤ, pos, neg_ℤ, List}
use Rattle.std.specs.declared.cmp.Ordering.{Ordering}
use Rattle.std.specs.Ordering.{int_cmp, eq_by_cmp}
use Rattle.std.specs.List.{IsDistinct}
use Rattle.std.specs.List.Sorted.{IsStrictlySortedBy}
use Rattle.lr_rules.specs.Dated.{stamp_key}
use Rattle.lr_family.specs.declared.place.Place.{Place}
use Rattle.lr_family.specs.declared.place.Place.TheVariants as at
use Rattle.lr_family.specs.declared.stand.Member.{Member}
use Rattle.lr_family.specs.declared.stand.StandStop.{StandStop}
use Rattle.lr_family.specs.declared.stand.StandStop.TheVariants as stop

-- the number of a place; a numbered family has no stamps
abbrev pub number_in : Place → ℕ
number_in (at.Number number) = number
number_in (at.Stamp seconds serial) = 0

-- a place as one number, greater where the member is newer; places of one family are of one kind, and a number counts as a moment
-- so many seconds before 1970
abbrev pub key_in : Place → ℤ
key_in (at.Number number) = stamp_key (neg_ℤ (pos number)) 0
key_in (at.Stamp seconds serial) = stamp_key seconds serial

-- the newer one first
abbrev pub by_newness : Member → Member → Ordering
by_newness a b = int_cmp (key_in b.place) (key_in a.place)

-- no two have the same place
abbrev pub HaveOwnPlaces : List Member → Type 0
HaveOwnPlaces members = IsDistinct (eq_by_cmp by_newness) members

-- each member is newer than those behind it
abbrev pub AreNewestFirst : List Member → Type 0
AreNewestFirst members = IsStrictlySortedBy by_newness members

-- a call failed
abbrev pub IsFailedStand : StandStop → Type 0
IsFailedStand (stop.Call kind path) = Unit {0}
IsFailedStand _ = ⊥
