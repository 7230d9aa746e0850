-- What is read of the paths of a command line: the lines in order of reading, as what the visits gave has them.
use Rattle.std.specs.Prelude.{◌≡◌, ◌-◌, ℕ, min, Bool, true, false, ◌&&◌, List, [], ◌∷◌, ◌++◌, map, Option, Some, None, Ok, Err}
use Rattle.std.specs.Prelude.{length, take, drop, is_none, nat_lt, if◌then◌else◌}
use Rattle.std.specs.List.{filter_map, list_any}
use Rattle.std.specs.Str.{bytes_eq}
use Rattle.lr_rules.specs.declared.path.Path.{Path}
use Rattle.lr_rules.specs.declared.fault.CallKind.TheVariants as call
use Rattle.lr_rules.specs.declared.fault.ConfKind.{ConfKind}
use Rattle.lr_rules.specs.declared.fault.ConfKind.TheVariants as kind
use Rattle.lr_rules.specs.declared.fault.Fault.{Fault}
use Rattle.lr_rules.specs.declared.fault.Fault.TheVariants as fault
use Rattle.lr_rules.specs.Path.{path_fault, joined, last_of}
use Rattle.lr_lex.specs.Items.{Told}
use Rattle.lr_conf.specs.Fields.{last_or}
use Rattle.lr_match.specs.Taboos.{Bars, first_taboo}
use Rattle.lr_conf.specs.declared.stop.Include.{Include}
use Rattle.lr_conf.specs.Meaning.{ConfLine, Read, Spoiled, End, Cut, Meaning, meaning, conf, asked, banned}
use Rattle.lr_host.specs.declared.entry.Entry.{Entry}
use Rattle.lr_host.specs.Told.{Then}
use Rattle.lr_include.specs.declared.part.TextEnd.{TextEnd}
use Rattle.lr_include.specs.declared.part.TextEnd.TheVariants as end
use Rattle.lr_include.specs.declared.visit.Visit.{Visit}
use Rattle.lr_include.specs.declared.visit.Visit.TheVariants as visit
use Rattle.lr_include.specs.Visits.{ShowsVisit}
use Rattle.lr_include.specs.declared.task.Ask.{Ask}
use Rattle.lr_include.specs.declared.task.ReadPiece.{ReadPiece}
use Rattle.lr_include.specs.declared.task.ReadPiece.TheVariants as piece
use Rattle.lr_include.specs.declared.task.Task.{Task}
use Rattle.lr_include.specs.declared.task.Task.TheVariants as task
use Rattle.lr_include.specs.Lines.{conf_kind}

-- A stage of a reading: the lines so far; the files that are being read, the last of them now; those of which it was told
-- that others may write them; how many files, and how many bytes, may still be read; and what is still to be read, in order.
pub record Stage : Type 0 where
  pub lines : List ConfLine
  pub inside : List Path
  pub exposed : List Path
  pub files : ℕ
  pub bytes : ℕ
  pub todo : List Task

-- ---- lines

-- the lines that a piece of a file gives
abbrev pub lines_in : Path → ReadPiece → List ConfLine
lines_in file (piece.Item i) = Read file i ∷ []
lines_in file (piece.Fault at k) = Spoiled (conf file k at) ∷ []
lines_in file piece.End = End file ∷ []
lines_in file (piece.Break f) = Spoiled f ∷ Cut ∷ []

-- those of the file that is read now; none where there is none, which doesn't come
abbrev pub lines_now : List Path → ReadPiece → List ConfLine
lines_now [] p = []
lines_now (file ∷ files) p = lines_in (last_or [] (file ∷ files)) p

-- the files that are being read behind it
abbrev pub open_behind : List Path → ReadPiece → List Path
open_behind inside (piece.Item i) = inside
open_behind inside (piece.Fault at k) = inside
open_behind inside p = take (length inside - 1) inside

-- the files for which the line asks behind these lines
abbrev pub asked_at : List ConfLine → ConfLine → List Include
asked_at lines e = drop (length (asked false lines)) (asked false (lines ++ e ∷ []))

abbrev pub ask_of : Path → Include → Task
ask_of file i = task.Ask (record { file = file; line = i.line; path = i.path })

abbrev pub asks_in : Path → List ConfLine → ReadPiece → List Task
asks_in file lines (piece.Item i) = map (ask_of file) (asked_at lines (Read file i))
asks_in file lines p = []

-- what is read in the place of the piece
abbrev pub asks_now : List Path → List ConfLine → ReadPiece → List Task
asks_now [] lines p = []
asks_now (file ∷ files) lines p = asks_in (last_or [] (file ∷ files)) lines p

-- behind a piece of the file that is read now
abbrev pub past_piece : Stage → ReadPiece → Stage
past_piece s p = record s { lines = s.lines ++ lines_now s.inside p; inside = open_behind s.inside p }

-- where something is asked for, what comes next waits
abbrev pub before_asks : List Task → Stage → Stage → Stage
before_asks [] here next = next
before_asks (t ∷ ts) here next = here

-- Behind all pieces up to the next path that is asked for.
abbrev pub settled_from : Stage → List Task → Stage
settled_from s [] = record s { todo = [] }
settled_from s (task.Line p ∷ todo) = before_asks (asks_now s.inside s.lines p)
    (record (past_piece s p) { todo = asks_now s.inside s.lines p ++ todo }) (settled_from (past_piece s p) todo)
settled_from s (task.Ask a ∷ todo) = record s { todo = task.Ask a ∷ todo }
settled_from s (task.Name a ∷ todo) = record s { todo = task.Name a ∷ todo }

abbrev pub settled_stage : Stage → Stage
settled_stage s = settled_from s s.todo

-- ---- limits

-- not deeper than 8 files
abbrev pub is_shallow : Stage → Bool
is_shallow s = nat_lt (length s.inside) 8

-- how many bytes of the next file count
abbrev pub room_of : Stage → ℕ
room_of s = min 1048576 s.bytes

-- the room for the next file, where one more may be read
abbrev pub room_for : Stage → Option ℕ
room_for s = if is_shallow s && nat_lt 0 s.files then Some (room_of s) else None

-- why a file isn't read, though one stands there
abbrev pub limit_kind : Stage → ConfKind
limit_kind s = if is_shallow s then kind.TooManyFiles else kind.TooDeep

-- ---- what a visit gave

-- the fault of a line; want of memory is none of these
abbrev pub kind_piece : ℕ → Option ConfKind → Option ReadPiece
kind_piece at None = None
kind_piece at (Some k) = Some (piece.Fault at k)

abbrev pub piece_of : Told → Option ReadPiece
piece_of (Ok i) = Some (piece.Item i)
piece_of (Err f) = kind_piece f.line (conf_kind f.kind)

-- the end of the file, or the place where its reading breaks off
abbrev pub last_piece : Path → TextEnd → ReadPiece
last_piece file end.Whole = piece.End
last_piece file end.TooMany = piece.Break (conf file kind.TooBig 0)
last_piece file end.Failed = piece.Break (fault.Call call.Read file)

-- what a file told comes next
abbrev pub line_tasks : List Told → List Task
line_tasks told = map task.Line (filter_map piece_of told)

-- the file is read now
abbrev pub entering : Stage → Path → List Told → ℕ → TextEnd → List Task → Stage
entering s file told size how todo = record {
  lines = s.lines;
  inside = s.inside ++ file ∷ [];
  exposed = s.exposed;
  files = s.files - 1;
  bytes = s.bytes - min size (room_of s);
  todo = line_tasks told ++ task.Line (last_piece file how) ∷ todo;
}

-- a fault of the visit, told where it was asked for
abbrev pub telling : Stage → Fault → List Task → Stage
telling s f todo = record s { lines = s.lines ++ Spoiled f ∷ []; todo = todo }

-- others may write the file, which is told once
abbrev pub telling_exposed : Stage → Path → List Task → Stage
telling_exposed s file todo =
    if list_any (bytes_eq file) s.exposed then record s { todo = todo } else record s
    { lines = s.lines ++ Spoiled (conf file kind.Writable 0) ∷ []; exposed = s.exposed ++ file ∷ []; todo = todo }

-- the names in a directory that make a path
abbrev pub name_task : Ask → List ℕ → Option Task
name_task a name = if is_none (path_fault (joined a.path name)) then Some
    (task.Name (record { file = a.file; line = a.line; path = joined a.path name })) else None

abbrev pub name_tasks : Ask → List (List ℕ) → List Task
name_tasks a names = filter_map (name_task a) names

abbrev pub is_name : Option Task → Bool
is_name (Some (task.Name a)) = true
is_name o = false

-- behind the other names of the directory
abbrev pub behind_names : List Task → List Task
behind_names (task.Name a ∷ todo) = behind_names todo
behind_names todo = todo

-- Behind the visit of a path that a line or the command line asks for.
abbrev pub after_ask : Stage → Ask → Visit → List Task → Stage
after_ask s a visit.Unseen todo = telling s (fault.Call call.Look a.path) todo
after_ask s a visit.Nothing todo = telling s (conf a.file kind.NoFile a.line) todo
after_ask s a visit.File todo = telling s (conf a.file (limit_kind s) a.line) todo
after_ask s a visit.Exposed todo = telling_exposed s a.path todo
after_ask s a visit.Dir todo = telling s (conf a.file kind.TooDeep a.line) todo
after_ask s a visit.Unlisted todo = telling s (fault.Call call.List a.path) todo
after_ask s a (visit.Holds names) todo = record s { todo = name_tasks a names ++ todo }
after_ask s a (visit.Reads told size how) todo = entering s a.path told size how todo

-- Behind the visit of a name in a directory: what is no file is passed over. Where no file more may be read, that is told
-- once, and the rest of the directory is passed over. A file that others may write is told, and the others are read.
abbrev pub after_name : Stage → Ask → Visit → List Task → Stage
after_name s a visit.Unseen todo = telling s (fault.Call call.Look a.path) todo
after_name s a visit.File todo = telling s (conf a.file (limit_kind s) a.line) (behind_names todo)
after_name s a visit.Exposed todo = telling_exposed s a.path todo
after_name s a (visit.Reads told size how) todo = entering s a.path told size how todo
after_name s a v todo = record s { todo = todo }

-- ---- visits

-- The taboo list as it is then bars the last part of the path.
abbrev pub IsTaboo : List ConfLine → Path → Type 0
IsTaboo lines path = Bars (banned false first_taboo lines) (last_of path)

-- Behind the next visit; none is made of a name that is barred.
abbrev pub visited_by : Stage → List Task → Option Visit → Stage
visited_by s (task.Ask a ∷ todo) (Some v) = after_ask s a v todo
visited_by s (task.Name a ∷ todo) (Some v) = after_name s a v todo
visited_by s (task.Name a ∷ todo) None = record s { todo = todo }
visited_by s todo v = s

abbrev pub visited : Stage → Option Visit → Stage
visited s v = visited_by s s.todo v

-- the stage to which the visits lead
abbrev pub at_visits : Stage → List (Option Visit) → Stage
at_visits s [] = settled_stage s
at_visits s (v ∷ vs) = at_visits (visited (settled_stage s) v) vs

-- what the next visit of a stage leaves
abbrev pub ShowsNext : Stage → List Task → Option Visit → List Entry → Type 0
ShowsNext s (task.Ask a ∷ todo) (Some v) ts = ShowsVisit a.path (is_shallow s) (room_for s) v ts
ShowsNext s (task.Name a ∷ todo) (Some v) ts = (IsTaboo s.lines a.path → ⊥) × ShowsVisit a.path false (room_for s) v ts
ShowsNext s (task.Name a ∷ todo) None ts = IsTaboo s.lines a.path × (ts ≡ [])
ShowsNext s todo v ts = ⊥

-- The entries show what these visits gave, each asked for by what was read before it.
abbrev pub ShowsVisits : Stage → List (Option Visit) → List Entry → Type 0
ShowsVisits s [] ts = ts ≡ []
ShowsVisits s (v ∷ vs) ts = Then (ShowsNext (settled_stage s) (settled_stage s).todo v) (ShowsVisits (visited (settled_stage s) v)
    vs) ts

-- ---- readings

-- the command line asks for this path
abbrev pub line_ask : Path → Task
line_ask path = task.Ask (record { file = path; line = 0; path = path })

-- it asks for these
abbrev pub begun : List Path → Stage
begun paths = record { lines = []; inside = []; exposed = []; files = 4096; bytes = 16777216; todo = map line_ask paths }

-- What the configuration of these paths means, as these visits have it.
abbrev pub visits_mean : List Path → List (Option Visit) → Meaning
visits_mean paths visits = meaning false [] (at_visits (begun paths) visits).lines

-- The entries show visits by which all was read that was asked for, and this is what they mean.
pub record Reads (paths : List Path) (m : Meaning) (ts : List Entry) : Type 0 where
  pub visits : List (Option Visit)
  pub shown : ShowsVisits (begun paths) visits ts
  pub all : (at_visits (begun paths) visits).todo ≡ []
  pub means : m ≡ visits_mean paths visits
