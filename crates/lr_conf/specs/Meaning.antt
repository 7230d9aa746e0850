-- What the lines of a configuration mean, told of whole lists of lines.
use Rattle.std.specs.Prelude.{ℕ, Bool, true, false, not, ◌||◌, List, [], ◌∷◌, ◌++◌, Option, Some, None, reverse, find, flat_map}
use Rattle.std.specs.Prelude.{if◌then◌else◌, option_to_list}
use Rattle.std.specs.List.{list_any, filter_map}
use Rattle.lr_lex.specs.declared.item.Item.{Item}
use Rattle.lr_rules.specs.declared.path.Path.{Path}
use Rattle.lr_rules.specs.declared.fault.ConfKind.{ConfKind}
use Rattle.lr_rules.specs.declared.fault.ConfKind.TheVariants as kind
use Rattle.lr_rules.specs.declared.fault.Fault.{Fault}
use Rattle.lr_rules.specs.declared.fault.Fault.TheVariants as fault
use Rattle.lr_rules.specs.declared.fault.Notice.{Notice}
use Rattle.lr_rules.specs.declared.fault.Phase.{Phase}
use Rattle.lr_rules.specs.declared.rule.Rule.{Rule}
use Rattle.lr_conf.specs.declared.fields.Fields.{Fields}
use Rattle.lr_conf.specs.declared.stop.Include.{Include}
use Rattle.lr_forms.specs.declared.set.Set.{Set}
use Rattle.lr_forms.specs.declared.set.Set.TheVariants as set
use Rattle.lr_forms.specs.declared.said.LineSaid.{LineSaid}
use Rattle.lr_forms.specs.declared.said.LineSaid.TheVariants as says
use Rattle.lr_words.specs.declared.taboo.TabooItems.{TabooItems}
use Rattle.lr_match.specs.declared.taboo.Taboo.{Taboo}
use Rattle.lr_match.specs.Taboos.{taboo_after}
use Rattle.lr_forms.specs.Says.{line_of, has_brace, closes_definition, item_says}
use Rattle.lr_conf.specs.Fields.{fields_of}
use Rattle.lr_conf.specs.Rules.{rule_of}
use Rattle.lr_conf.specs.Scripts.{script_fault}

-- ---- lines

-- A line of a file, as an item; a line with the fault that its reading told; the end of a file; the place where the reading
-- of a file breaks off, where what is pending gives nothing.
pub data ConfLine : Type 0 where
  Read : Path → Item → ConfLine
  Spoiled : Fault → ConfLine
  End : Path → ConfLine
  Cut : ConfLine

abbrev pub line_file : ConfLine → Path
line_file (Read file i) = file
line_file (Spoiled f) = []
line_file (End file) = file
line_file Cut = []

-- A line outside definitions, as it was read there: its number, whether it ends with a brace, and what it says; or the
-- fault that its reading told.
pub data OutsideLine : Type 0 where
  stands : ℕ → Bool → LineSaid → OutsideLine
  spoiled : Fault → OutsideLine
  file_ends : OutsideLine
  breaks_off : OutsideLine

-- ---- parts of a list

-- what stands before the first that passes p
abbrev pub before : {A : Type 0} → (A → Bool) → List A → List A
before p [] = []
before p (e ∷ es) = if p e then [] else (e ∷ before p es)

-- what stands up to the first that passes p, with it
abbrev pub through : {A : Type 0} → (A → Bool) → List A → List A
through p [] = []
through p (e ∷ es) = e ∷ (if p e then [] else through p es)

-- what stands behind the first that passes p
abbrev pub behind : {A : Type 0} → (A → Bool) → List A → List A
behind p [] = []
behind p (e ∷ es) = if p e then es else behind p es

-- ---- lines outside definitions

abbrev pub set_of : LineSaid → Option Set
set_of (says.Sets v) = Some v
set_of (says.OwnerPassed v) = Some v
set_of s = None

abbrev pub set_past : OutsideLine → Option Set
set_past (stands at brace s) = set_of s
set_past p = None

-- what lines outside definitions set
abbrev pub settings : List OutsideLine → List Set
settings out = filter_map set_past out

abbrev pub names_past : OutsideLine → Option (ℕ × List (List ℕ))
names_past (stands at brace (says.Names ws)) = Some (at, ws)
names_past p = None

-- it ends with a brace, by which a definition begins
abbrev pub opens_definition : OutsideLine → Bool
opens_definition (stands at brace s) = brace
opens_definition p = false

-- a directive, a `}` or the end of a file: names that are pending before it have no brace
abbrev pub leaves_names : OutsideLine → Bool
leaves_names (stands at brace (says.Sets v)) = true
leaves_names (stands at brace says.Quiet) = true
leaves_names (stands at brace (says.OwnerPassed v)) = true
leaves_names (stands at brace (says.Script phase text stray)) = true
leaves_names (stands at brace (says.Include path)) = true
leaves_names (stands at brace (says.Taboo patterns items)) = true
leaves_names (stands at brace (says.Passed word)) = true
leaves_names (stands at brace says.Close) = true
leaves_names (stands at brace (says.Bad k)) = true
leaves_names file_ends = true
leaves_names p = false

-- behind it no names are pending
abbrev pub settles : OutsideLine → Bool
settles breaks_off = true
settles p = leaves_names p || opens_definition p

-- the names at the end of these lines, with the line of each
abbrev pub pending : List OutsideLine → List (ℕ × List (List ℕ))
pending out = filter_map names_past (reverse (before settles (reverse out)))

abbrev pub first_line : List (ℕ × List (List ℕ)) → Option ℕ
first_line [] = None
first_line (n ∷ ns) = Some n.0

-- the line of the first of the pending names, and all their words
abbrev pub first_pending : List OutsideLine → Option ℕ
first_pending out = first_line (pending out)

abbrev pub words_pending : List OutsideLine → List (List ℕ)
words_pending out = flat_map (λ n. n.1) (pending out)

abbrev pub or_line : Option ℕ → ℕ → ℕ
or_line None at = at
or_line (Some first) at = first

-- the line of the first name of the definition that this line opens; none where it drops it
abbrev pub opened_at : Option ℕ → OutsideLine → Option ℕ
opened_at first (stands at brace (says.Names ws)) = Some (or_line first at)
opened_at first (stands at brace says.Open) = first
opened_at first p = None

-- how a line is read outside definitions
abbrev pub outside_line : ConfLine → OutsideLine
outside_line (Read file i) = stands (line_of i) (has_brace i) (item_says false i)
outside_line (Spoiled f) = spoiled f
outside_line (End file) = file_ends
outside_line Cut = breaks_off

-- ---- notices and faults

abbrev pub notice_of : Path → ℕ → LineSaid → Option Notice
notice_of file at (says.Passed word) = Some (record { file = file; line = at; word = Some word })
notice_of file at (says.OwnerPassed v) = Some (record { file = file; line = at; word = None })
notice_of file at s = None

abbrev pub conf : Path → ConfKind → ℕ → Fault
conf file k at = fault.Conf file at k

abbrev pub at_line : Path → ConfKind → Option ℕ → List Fault
at_line file k None = []
at_line file k (Some at) = conf file k at ∷ []

abbrev pub notice_past : Path → OutsideLine → Option Notice
notice_past file (stands at brace s) = notice_of file at s
notice_past file p = None

-- the line of the names that the line leaves without a brace
abbrev pub left_names : Option ℕ → OutsideLine → Option ℕ
left_names first p = if leaves_names p then first else None

-- a brace that closes or opens where no names are pending
abbrev pub stray_at : Path → Option ℕ → ℕ → List Fault
stray_at file None at = conf file kind.Stray at ∷ []
stray_at file (Some first) at = []

-- the fault of a line outside definitions, for itself, where names are pending from the line `first` on or none are
abbrev pub own_fault : Path → Option ℕ → OutsideLine → List Fault
own_fault file first (stands at brace says.Close) = stray_at file first at
own_fault file first (stands at brace says.Open) = stray_at file first at
own_fault file first (stands at brace says.Unknown) = conf file kind.Unknown at ∷ []
own_fault file first (stands at brace (says.Bad k)) = conf file k at ∷ []
own_fault file first (stands at brace (says.BadNames k)) = conf file k at ∷ []
own_fault file first (spoiled f) = f ∷ []
own_fault file first p = []

abbrev pub line_faults : Path → Option ℕ → OutsideLine → List Fault
line_faults file first p = at_line file kind.NoBrace (left_names first p) ++ own_fault file first p

-- ---- definitions

abbrev pub words_with : List (List ℕ) → OutsideLine → List (List ℕ)
words_with words (stands at brace (says.Names ws)) = words ++ ws
words_with words p = words

-- it ends the definition that it stands in
abbrev pub ends : ConfLine → Bool
ends (Read file i) = closes_definition i
ends (Spoiled f) = false
ends (End file) = true
ends Cut = true

-- A line in a definition, as it is read there: its file and number, and what it says; or the fault that its reading told.
pub data InsideLine : Type 0 where
  states : Path → ℕ → LineSaid → InsideLine
  broken : Fault → InsideLine
  left_open : InsideLine

abbrev pub script_of : LineSaid → Option Phase
script_of (says.Script phase text stray) = Some phase
script_of s = None

abbrev pub line_script : ConfLine → Option Phase
line_script (Read file i) = script_of (item_says true i)
line_script e = None

-- the scripts that stand among the lines of a definition
abbrev pub scripts_in : List ConfLine → List Phase
scripts_in lines = filter_map (line_script) lines

abbrev pub script_sets : Option ConfKind → Phase → List ℕ → LineSaid
script_sets None p text = says.Sets (set.Script p text)
script_sets (Some k) p text = says.Bad k

-- what a line of a definition says where these scripts stand before it
abbrev pub said_behind : List Phase → LineSaid → LineSaid
said_behind earlier (says.Script p text stray) = script_sets (script_fault earlier p stray) p text
said_behind earlier s = s

-- how a line is read in a definition, behind those of its lines that stand before it
abbrev pub within : List ConfLine → ConfLine → InsideLine
within earlier (Read file i) = states file (line_of i) (said_behind (scripts_in earlier) (item_says true i))
within earlier (Spoiled f) = broken f
within earlier (End file) = left_open
within earlier Cut = left_open

-- the lines of a definition, each as it is read behind those before it
abbrev pub body_of : List ConfLine → List ConfLine → List InsideLine
body_of earlier [] = []
body_of earlier (e ∷ es) = within earlier e ∷ body_of (earlier ++ e ∷ []) es

abbrev pub is_bad_line : LineSaid → Bool
is_bad_line (says.Bad k) = true
is_bad_line s = false

-- it drops the definition that it stands in
abbrev pub drops : InsideLine → Bool
drops (states file at s) = is_bad_line s
drops (broken f) = true
drops left_open = false

abbrev pub set_in : InsideLine → Option Set
set_in (states file at s) = set_of s
set_in w = None

abbrev pub notice_in : InsideLine → Option Notice
notice_in (states file at s) = notice_of file at s
notice_in w = None

abbrev pub line_fault : Path → ℕ → LineSaid → Option Fault
line_fault file at says.Unknown = Some (conf file kind.Unknown at)
line_fault file at (says.Bad k) = Some (conf file k at)
line_fault file at s = None

abbrev pub fault_in : InsideLine → Option Fault
fault_in (states file at s) = line_fault file at s
fault_in (broken f) = Some f
fault_in w = None

-- the fault that the line's reading told
abbrev pub broken_fault : InsideLine → Option Fault
broken_fault (broken f) = Some f
broken_fault w = None

abbrev pub spoilt_fault : ConfLine → Option Fault
spoilt_fault (Spoiled f) = Some f
spoilt_fault e = None

-- ---- what lines mean

pub record Meaning : Type 0 where
  pub rules : List Rule
  pub notices : List Notice
  pub faults : List Fault

abbrev pub nothing : Meaning
nothing = record { rules = []; notices = []; faults = [] }

infixr 20 ◌and◌
abbrev pub ◌and◌ : Meaning → Meaning → Meaning
m and n = record { rules = m.rules ++ n.rules; notices = m.notices ++ n.notices; faults = m.faults ++ n.faults }

-- faults alone
abbrev pub only_faults : List Fault → Meaning
only_faults faults = record { rules = []; notices = []; faults = faults }

-- what ends a definition that no line drops: its rule, or no brace before the end of the file
abbrev pub of_end : ℕ → List (List ℕ) → Fields → Option ConfLine → Meaning
of_end at words f (Some (Read file i)) = record { rules = rule_of file at words f ∷ []; notices = []; faults = [] }
of_end at words f (Some (End file)) = only_faults (conf file kind.NoBrace at ∷ [])
of_end at words f other = nothing

-- of lines in a definition that is dropped, the faults that their reading told
abbrev pub of_spoilt : List ConfLine → Meaning
of_spoilt es = only_faults (filter_map spoilt_fault es)

-- A definition whose first name stands at this line: its words, what was set before its lines, and its lines with what
-- follows. Behind the line that drops it only spoilt lines are told.
abbrev pub of_definition : ℕ → List (List ℕ) → List Set → List ConfLine → Meaning
of_definition at words before_it es =
    let body = body_of [] (before ends es) in
    record {
      rules = [];
      notices = filter_map notice_in (through drops body);
      faults = filter_map fault_in (through drops body);
    }
    and (if list_any drops body then only_faults (filter_map broken_fault (behind drops body)) else of_end at words
    (fields_of (before_it ++ filter_map set_in body)) (find ends es))

-- one that a fault of its first line drops says nothing, its spoilt lines aside
abbrev pub of_body : Option ℕ → List (List ℕ) → List Set → List ConfLine → Meaning
of_body None words before_it es = of_spoilt (before ends es)
of_body (Some at) words before_it es = of_definition at words before_it es

-- what begins at a line that opens a definition
abbrev pub of_opening : List OutsideLine → OutsideLine → List ConfLine → Meaning
of_opening out p es =
    if opens_definition p then
    of_body (opened_at (first_pending out) p) (words_with (words_pending out) p) (settings (out ++ p ∷ [])) es
    else nothing

-- a line outside definitions, for itself
abbrev pub of_line : Path → Option ℕ → OutsideLine → Meaning
of_line file first p = record { rules = []; notices = option_to_list (notice_past file p); faults = line_faults file first p }

-- What lines mean: in a definition or not, the lines before them that stand outside definitions, and
-- the lines. Those of an included file stand in the place of the line that asks for it.
abbrev pub meaning : Bool → List OutsideLine → List ConfLine → Meaning
meaning inside out [] = nothing
meaning true out (e ∷ es) = if ends e then meaning false (out ++ outside_line e ∷ []) es else meaning true out es
meaning false out (e ∷ es) =
    of_line (line_file e) (first_pending out) (outside_line e)
    and (of_opening out (outside_line e) es and meaning (opens_definition (outside_line e)) (out ++ outside_line e ∷ []) es)

-- ---- other files

-- the lines that stand outside definitions, as they are read there
abbrev pub outsiders : Bool → List ConfLine → List OutsideLine
outsiders inside [] = []
outsiders true (e ∷ es) = outsiders (not (ends e)) es
outsiders false (e ∷ es) = outside_line e ∷ outsiders (opens_definition (outside_line e)) es

-- the file that a line asks for
abbrev pub asks : OutsideLine → Option Include
asks (stands at brace (says.Include path)) = Some (record { path = path; line = at })
asks p = None

-- the files that lines ask for, in order
abbrev pub asked : Bool → List ConfLine → List Include
asked inside lines = filter_map asks (outsiders inside lines)

-- what a line makes taboo: items, and whether they are patterns
abbrev pub bans : OutsideLine → Option (Bool × TabooItems)
bans (stands at brace (says.Taboo patterns items)) = Some (patterns, items)
bans p = None

-- the taboo list behind these changes of it, in order
abbrev pub after_bans : Taboo → List (Bool × TabooItems) → Taboo
after_bans taboo [] = taboo
after_bans taboo (c ∷ cs) = after_bans (taboo_after taboo c.1.items c.0 c.1.adding) cs

-- the taboo list behind lines, where it is this one before them
abbrev pub banned : Bool → Taboo → List ConfLine → Taboo
banned inside taboo lines = after_bans taboo (filter_map bans (outsiders inside lines))
