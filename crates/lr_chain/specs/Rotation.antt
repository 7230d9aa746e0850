-- The entries of one rotation, by the places of the members that stand, the oldest first.
use Rattle.std.specs.Prelude.{ℕ, suc, ◌+◌, ◌*◌, Bool, false, not, ◌&&◌, ◌||◌, List, [], ◌∷◌, ◌++◌, map, reverse, filter, nat_le}
use Rattle.std.specs.Prelude.{if◌then◌else◌, ℤ, pos, ◌-ℤ◌, int_lt, Option, Some, None}
use Rattle.lr_rules.specs.declared.path.Path.{Path}
use Rattle.lr_rules.specs.declared.rule.Count.{Count}
use Rattle.lr_rules.specs.declared.rule.Count.TheVariants as count
use Rattle.lr_rules.specs.declared.rule.Naming.{Naming}
use Rattle.lr_host.specs.declared.entry.Entry.{Entry}
use Rattle.lr_host.specs.declared.entry.Entry.TheVariants.{Renames, Unlinks}
use Rattle.lr_family.specs.declared.stand.Member.{Member}
use Rattle.lr_family.specs.Spots.{path_at}
use Rattle.lr_family.specs.Stands.{number_in}

-- the places of members, from the last of them to the first
abbrev pub places_of : List Member → List ℕ
places_of members = reverse (map (λ m. number_in m.place) members)

-- the count leaves no room for a member at this place
abbrev pub is_left : Count → ℕ → Bool
is_left (count.Keep n) place = nat_le n place
is_left count.Always place = false

-- of these places, those of leftovers, and those of members that are moved
abbrev pub leftovers : Count → List ℕ → List ℕ
leftovers c places = filter (is_left c) places

abbrev pub kept : Count → List ℕ → List ℕ
kept c places = filter (λ place. not (is_left c place)) places

abbrev pub unlink_at : Naming → ℕ → Entry
unlink_at n place = Unlinks (path_at n place)

abbrev pub move_at : Naming → ℕ → Entry
move_at n place = Renames (path_at n place) (path_at n (place + 1))

-- the member was modified more than so many days of 86,400 seconds before now, where there is such an age
abbrev pub is_expired : Option ℕ → ℤ → Member → Bool
is_expired None now m = false
is_expired (Some days) now m = int_lt m.seen.mtime (now -ℤ pos (days * 86_400))

-- a member that is moved goes behind that: the count leaves no room for it at its new place, or it is too old
abbrev pub goes : Count → Option ℕ → ℤ → Member → Bool
goes c maxage now m = not (is_left c (number_in m.place)) && (is_left c (suc (number_in m.place)) || is_expired maxage now m)

-- the places that such members come from
abbrev pub going : Count → Option ℕ → ℤ → List Member → List ℕ
going c maxage now members = places_of (filter (goes c maxage now) members)

-- the log itself goes where none is kept
abbrev pub none_kept : Count → List ℕ
none_kept c = if is_left c 0 then 0 ∷ [] else []

-- What is removed behind the moves: the members that come from these places, under their new names, and the log.
abbrev pub retired : Count → List ℕ → List ℕ
retired c from = map suc from ++ none_kept c

abbrev pub leftover_steps : Naming → Count → List ℕ → List Entry
leftover_steps n c places = map (unlink_at n) (leftovers c places)

abbrev pub shift_steps : Naming → Count → List ℕ → List Entry
shift_steps n c places = map (move_at n) (kept c places)

abbrev pub turn_steps : Naming → Count → Path → List ℕ → List Entry
turn_steps n c log places = shift_steps n c places ++ Renames log (path_at n 0) ∷ []

abbrev pub retire_steps : Naming → Count → List ℕ → List Entry
retire_steps n c from = map (unlink_at n) (retired c from)

-- One rotation, where members stand at these places: the leftovers are unlinked, the members are moved one place on, the log
-- comes to place 0, and those that come from the second places are unlinked.
abbrev pub rotation : Naming → Count → Path → List ℕ → List ℕ → List Entry
rotation n c log places from = leftover_steps n c places ++ (turn_steps n c log places ++ retire_steps n c from)
