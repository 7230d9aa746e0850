-- A run over both logs in which the steps of the two rotations and the writing of the state stand between one another, while one
-- writer holds the file of `/v/a.log` and another makes that log anew.
use Rattle.std.specs.Prelude.{List, [], ◌∷◌, codes, pos, Some, None}
use Rattle.lr_rules.specs.declared.path.Path.{Path}
use Rattle.lr_rules.specs.declared.civil.Moment.{Moment}
use Rattle.lr_host.specs.declared.entry.Entry.TheVariants as entry
use Rattle.lr_host.specs.declared.journal.Opening.{Opening}
use Rattle.lr_host.specs.World.{Past, Opens, ◌▸◌}
use Rattle.lr_laws.specs.Chain.{worked_file}
use Rattle.lr_laws_family.specs.Numbered.{numbered}
use Rattle.lr_laws_family.specs.Rotation.{Rotation, Rename}
use Rattle.lr_laws_rotations.specs.Logs.{state, part, a_naming, a_count, a_from, a_stand, a_log, a_first, a_second, a_third, b_log}
use Rattle.lr_laws_rotations.specs.Logs.{b_first, rules, file, directory, a_listed, b_listed}

-- the paths that the tool changes besides the log's and its members'
abbrev pub paths : List Path
paths = state ∷ part ∷ b_log ∷ b_first ∷ []

-- the rotation of `a.log`, by its members' places
abbrev pub turn : Rotation
turn = numbered a_naming a_count a_from a_stand.members a_log a_log Rename

-- `a.log` holds C, its members A and B, and `b.log` holds D; their identities are 0, 1, 2 and 3; writer 7 holds the file of `a.log`
abbrev pub stood : Opening
stood = record {
  files = worked_file (codes "C") ∷ worked_file (codes "A") ∷ worked_file (codes "B") ∷ worked_file (codes "D") ∷ [];
  dirs = codes "/" ∷ codes "/v" ∷ codes "/w" ∷ codes "/s" ∷ [];
  others = [];
  names = (a_log, 0) ∷ (a_first, 1) ∷ (a_second, 2) ∷ (b_log, 3) ∷ [];
  holds = (7, 0) ∷ [];
}

abbrev pub begun : Past
begun = Opens stood

-- the run begins, and looks at both logs and at their families
abbrev pub looked : Moment → Past
looked now =
    begun ▸ entry.Look (codes "/s") (Some directory) ▸ entry.Starts state now rules ▸ entry.Look a_log (Some file)
    ▸ entry.Look b_log (Some file) ▸ entry.Look (codes "/v") (Some directory) ▸ entry.List (codes "/v") a_listed
    ▸ entry.Look a_first (Some file)
    ▸ entry.Look a_second (Some file) ▸ entry.Look (codes "/w") (Some directory) ▸ entry.List (codes "/w") b_listed

-- up to the rename of the log, while its writer feeds its file: the state's part file is made, and the other log is rotated
abbrev pub renamed : Moment → Past
renamed now =
    looked now ▸ entry.Feed 7 (codes "x") (pos 1) ▸ entry.Renames a_second a_third ▸ entry.Makes part None
    ▸ entry.Renames a_first a_second ▸ entry.Renames b_log b_first ▸ entry.Feed 7 (codes "y") (pos 2)
    ▸ entry.Renames a_log a_first

-- up to the end, while another writer makes the log anew: the state is written and put in its place
abbrev pub over : Moment → Past
over now =
    renamed now ▸ entry.Attach 8 a_log (pos 3) ▸ entry.Feed 7 (codes "z") (pos 4) ▸ entry.Appends part (codes "new state")
    ▸ entry.Unlinks a_third ▸ entry.Feed 8 (codes "w") (pos 5) ▸ entry.Renames part state ▸ entry.Ends
