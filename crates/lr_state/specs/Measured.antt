-- How long the state text of a run gets.
use Rattle.std.specs.Prelude.{ℕ, nat_lt, List, length, map, if◌then◌else◌}
use Rattle.lr_rules.specs.declared.civil.Civil.{Civil}
use Rattle.lr_rules.specs.declared.path.Path.{Path}
use Rattle.lr_state.specs.Table.{StateEntry}
use Rattle.lr_state.specs.Written.{moment_text, table_text}
use Rattle.lr_state.specs.After.{is_among}

-- the longer of the two as a text
abbrev pub longer_moment : Civil → Civil → Civil
longer_moment was now = if nat_lt (length (moment_text now)) (length (moment_text was)) then was else now

-- the entry with the longer of its moment and now, where its log is due
abbrev pub widest : List Path → Civil → StateEntry → StateEntry
widest due now e = if is_among due e.0 then (e.0, longer_moment e.1 now) else e

-- The text is measured before any log is rotated: each log that is due has the longer of its old moment and that of the run.
abbrev pub measured_text : List Path → Civil → List StateEntry → List ℕ
measured_text due now table = table_text (map (widest due now) table)
