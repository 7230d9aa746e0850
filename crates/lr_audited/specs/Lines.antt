-- What each file beside logs is, by what was seen of these.
use Rattle.std.specs.Prelude.{◌≡◌, ℕ, suc, List, [], ◌∷◌, ◌++◌, map, Contains, Option, Some, None, if◌then◌else◌}
use Rattle.std.specs.List.{flat_map, AllZip}
use Rattle.lr_rules.specs.declared.path.Path.{Path}
use Rattle.lr_rules.specs.declared.rule.Count.{Count}
use Rattle.lr_rules.specs.declared.rule.Format.{Format}
use Rattle.lr_rules.specs.declared.rule.Rule.{Rule}
use Rattle.lr_rules.specs.Names.{aside_path}
use Rattle.lr_host.specs.declared.thing.Seen.{Seen}
use Rattle.lr_family.specs.declared.stand.Member.{Member}
use Rattle.lr_family.specs.Stands.{number_in}
use Rattle.lr_chain.specs.Rotation.{is_left}
use Rattle.lr_plan.specs.declared.looks.LogLook.{LogLook}
use Rattle.lr_plan.specs.declared.looks.Looks.{Looks}
use Rattle.lr_plan.specs.declared.looks.SetLooks.{SetLooks}
use Rattle.lr_plan.specs.Planned.{is_seen_file}
use Rattle.lr_audited.specs.declared.line.Line.{Line}
use Rattle.lr_audited.specs.declared.line.What.{What}
use Rattle.lr_audited.specs.declared.line.What.TheVariants as what

-- the line of a file that is a log's
abbrev pub log_file_line : Path → What → Path → Line
log_file_line path kind log = record { path = path; what = kind; log = Some log }

-- the log itself, and a part file
abbrev pub log_line : Path → Line
log_line log = log_file_line log what.Log log

abbrev pub part_line : Path → Path → Line
part_line log part = log_file_line part what.Part log

-- a numbered member is left over where the count leaves no room for its place
abbrev pub numbered_what : Count → ℕ → What
numbered_what c place = if is_left c place then what.Leftover place else what.Member place

-- the place of a dated member is how many later ones stand
abbrev pub what_of : Option Format → Count → ℕ → Member → What
what_of None c later m = numbered_what c (number_in m.place)
what_of (Some format) c later m = what.Member later

-- members, the newest first, of which the first has so many later ones
abbrev pub member_lines : Option Format → Count → Path → ℕ → List Member → List Line
member_lines dated c log later [] = []
member_lines dated c log later (m ∷ ms) = log_file_line m.path (what_of dated c later m) log ∷ member_lines dated c log
    (suc later) ms

-- the log's file where it waits for its copy: a run that broke off had set it aside
abbrev pub waiting_lines : Path → Option Seen → List Line
waiting_lines log tmp = if is_seen_file tmp then part_line log (aside_path log) ∷ [] else []

-- the part files of a log, and its file that waits
abbrev pub part_lines : LogLook → List Line
part_lines look = map (part_line look.path) look.stand.parts ++ waiting_lines look.path look.tmp

-- the members of a log that was looked at whole, and those
abbrev pub family_lines : Rule → LogLook → List Line
family_lines rule look = member_lines look.family.naming.dated rule.count look.path 0 look.stand.members ++ part_lines look

abbrev pub rule_lines : Rule → List LogLook → List Line
rule_lines rule looks = flat_map (family_lines rule) looks

abbrev pub sets_lines : List Rule → List SetLooks → List Line
sets_lines (rule ∷ rules) (set ∷ sets) = rule_lines rule set.logs ++ sets_lines rules sets
sets_lines _ _ = []

-- what is known: the logs that are kept; and of those that were looked at whole the members, the part files and what waits
abbrev pub known_lines : List Rule → Looks → List Line
known_lines rules looks = map log_line looks.kept ++ sets_lines rules looks.sets

-- their paths
abbrev pub known_paths : List Rule → Looks → List Path
known_paths rules looks = map (λ (line : Line). line.path) (known_lines rules looks)

-- ---- the line of a file

abbrev pub stranger : Path → Line
stranger path = record { path = path; what = what.Stranger; log = None }

-- it is known, or a stranger
pub data IsLine (known : List Line) (path : Path) (line : Line) : Type 0 where
  is_known : Contains known line → line.path ≡ path → IsLine known path line
  is_stranger : ((other : Line) → Contains known other → other.path ≡ path → ⊥) → line ≡ stranger path → IsLine known path line

-- each of these files has its line, in order
abbrev pub AreLines : List Line → List Path → List Line → Type 0
AreLines known files lines = AllZip (IsLine known) files lines
