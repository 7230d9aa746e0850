-- The table that a run leaves in the state file.
use Rattle.std.specs.Prelude.{ℕ, Bool, not, ◌||◌, List, [], ◌∷◌, ◌++◌, map, filter, bytes_eq, is_some, if◌then◌else◌}
use Rattle.std.specs.List.{list_any}
use Rattle.lr_rules.specs.declared.civil.Civil.{Civil}
use Rattle.lr_rules.specs.declared.path.Path.{Path}
use Rattle.lr_state.specs.Table.{StateEntry, moment_of, is_old}

-- the name is that of one of these logs
abbrev pub is_among : List Path → List ℕ → Bool
is_among logs name = list_any (bytes_eq name) logs

-- the entry with now, where its log was rotated
abbrev pub stamped : List Path → Civil → StateEntry → StateEntry
stamped rotated now e = if is_among rotated e.0 then (e.0, now) else e

-- it is kept: its log was found and isn't passed over, or its moment is at most 366 days of civil time before now
abbrev pub stays : List Path → Civil → StateEntry → Bool
stays kept now e = is_among kept e.0 || not (is_old e.1 now)

-- the table with now for each of these logs that it lacks, in their order
abbrev pub with_new : List Path → Civil → List StateEntry → List StateEntry
with_new [] now table = table
with_new (log ∷ logs) now table = with_new logs now (if is_some (moment_of table log) then table else table ++ (log, now) ∷ [])

-- Behind a run that kept these logs and rotated those: each name keeps its place, with now where its log was rotated; what
-- is old and of no kept log is left out; then comes each kept log without an entry, with now.
abbrev pub after : List StateEntry → List Path → List Path → Civil → List StateEntry
after table rotated kept now = with_new kept now (map (stamped rotated now) (filter (stays kept now) table))
