-- What a draft keeps, and how it takes a line in.
use Rattle.std.specs.Prelude.{◌≡◌, ℕ, Bool, true, false, List, [], ◌∷◌, ◌++◌, Option, Some, None, Result, Ok, Err, if◌then◌else◌}
use Rattle.std.specs.Prelude.{option_to_list}
use Rattle.lr_rules.specs.declared.path.Path.{Path}
use Rattle.lr_rules.specs.declared.fault.ConfKind.{ConfKind}
use Rattle.lr_rules.specs.declared.fault.ConfKind.TheVariants as kind
use Rattle.lr_rules.specs.declared.fault.Fault.{Fault}
use Rattle.lr_rules.specs.declared.fault.Notice.{Notice}
use Rattle.lr_rules.specs.declared.fault.Phase.{Phase}
use Rattle.lr_rules.specs.declared.rule.Rule.{Rule}
use Rattle.lr_conf.specs.declared.fields.Fields.{Fields}
use Rattle.lr_forms.specs.declared.set.Set.TheVariants as set
use Rattle.lr_forms.specs.declared.said.LineSaid.{LineSaid}
use Rattle.lr_forms.specs.declared.said.LineSaid.TheVariants as says
use Rattle.lr_conf.specs.declared.place.Place.{Place}
use Rattle.lr_conf.specs.declared.place.Place.TheVariants.{Outside, Good, Dropped}
use Rattle.lr_conf.specs.declared.stop.Include.{Include}
use Rattle.lr_conf.specs.declared.stop.LayerStop.{LayerStop}
use Rattle.lr_conf.specs.declared.stop.LayerStop.TheVariants as stop
use Rattle.lr_words.specs.declared.taboo.TabooItems.{TabooItems}
use Rattle.lr_match.specs.declared.taboo.Taboo.{Taboo}
use Rattle.lr_match.specs.Taboos.{taboo_after}
use Rattle.lr_conf.specs.declared.draft.Draft.{Draft}
use Rattle.lr_forms.specs.Says.{line_of, closes_definition, item_says}
use Rattle.lr_conf.specs.Fields.{last_or}
use Rattle.lr_conf.specs.Rules.{rule_of}
use Rattle.lr_conf.specs.Scripts.{script_fault}
use Rattle.lr_conf.specs.Meaning.{ConfLine, line_file, Read, Spoiled, End, Cut, OutsideLine, stands, spoiled}
use Rattle.lr_conf.specs.Meaning.{file_ends, breaks_off, Meaning}
use Rattle.lr_conf.specs.Meaning.{◌and◌, nothing, only_faults, conf, of_line, of_spoilt, opened_at, or_line, outside_line, ends}
use Rattle.lr_conf.specs.Meaning.{notice_of, notice_past, line_faults, line_fault, said_behind}
use Rattle.lr_conf.specs.Meaning.{asks, asked, bans, after_bans, banned}
use Rattle.lr_conf.specs.Stops.{layer_faults, include_of}
use Rattle.lr_conf.specs.Setting.{default_fields, with_set}

-- ---- states

-- In a definition: its words, the line of its first name, its fields so far, and which scripts stood in it. Outside: the
-- names that are pending.
pub record State : Type 0 where
  pub place : Place
  pub defaults : Fields
  pub words : List (List ℕ)
  pub first : Option ℕ
  pub fields : Fields
  pub scripts : List Phase

abbrev pub without_names : State → State
without_names s = record s { words = []; first = None }

-- the state behind what a line says outside definitions, its brace aside
abbrev pub spoken : State → ℕ → LineSaid → State
spoken s at (says.Names ws) = record s { words = s.words ++ ws; first = Some (or_line s.first at) }
spoken s at says.Open = s
spoken s at says.Unknown = s
spoken s at (says.BadNames k) = s
spoken s at (says.Sets v) = record s { defaults = with_set s.defaults v; words = []; first = None }
spoken s at says.Quiet = without_names s
spoken s at (says.OwnerPassed v) = record s { defaults = with_set s.defaults v; words = []; first = None }
spoken s at (says.Script phase text stray) = without_names s
spoken s at (says.Include path) = without_names s
spoken s at (says.Taboo patterns items) = without_names s
spoken s at (says.Passed word) = without_names s
spoken s at says.Close = without_names s
spoken s at (says.Bad k) = without_names s

-- a brace opens a definition, with names or without
abbrev pub turned : Bool → Option ℕ → State → State
turned false o s = s
turned true (Some at) s = record s { place = Good; fields = s.defaults; scripts = [] }
turned true None s = record s { place = Dropped; words = []; first = None }

abbrev pub outside : State → OutsideLine → State
outside s (stands at brace v) = turned brace (opened_at s.first (stands at brace v)) (spoken s at v)
outside s (spoiled f) = s
outside s file_ends = without_names s
outside s breaks_off = without_names s

-- behind the end of a definition
abbrev pub left : State → State
left s = record s { place = Outside; words = []; first = None }

-- a script, with its fault or without
abbrev pub scripted : State → Phase → List ℕ → Option ConfKind → State
scripted s p text None = record s { fields = with_set s.fields (set.Script p text); scripts = s.scripts ++ p ∷ [] }
scripted s p text (Some k) = record s { place = Dropped }

abbrev pub with_said : State → LineSaid → State
with_said s (says.Sets v) = record s { fields = with_set s.fields v }
with_said s (says.OwnerPassed v) = record s { fields = with_set s.fields v }
with_said s (says.Script p text stray) = scripted s p text (script_fault s.scripts p stray)
with_said s (says.Bad k) = record s { place = Dropped }
with_said s v = s

abbrev pub good : State → ConfLine → State
good s (Read file i) =
    if closes_definition i then record s { place = Outside; words = []; first = None; fields = default_fields }
    else with_said s (item_says true i)
good s (Spoiled f) = record s { place = Dropped }
good s (End file) = left s
good s Cut = left s

abbrev pub dropped : State → ConfLine → State
dropped s e = if ends e then left s else s

abbrev pub step : Place → State → ConfLine → State
step Outside s e = outside s (outside_line e)
step Good s e = good s e
step Dropped s e = dropped s e

-- ---- what a line gives

abbrev pub said_inside : Path → ℕ → LineSaid → Meaning
said_inside file at v =
    record { rules = []; notices = option_to_list (notice_of file at v); faults = option_to_list (line_fault file at v) }

abbrev pub first_of : State → ℕ
first_of s = or_line s.first 0

abbrev pub gives_good : State → ConfLine → Meaning
gives_good s (Read file i) =
    if closes_definition i then record { rules = rule_of file (first_of s) s.words s.fields ∷ []; notices = []; faults = [] }
    else said_inside file (line_of i) (said_behind s.scripts (item_says true i))
gives_good s (Spoiled f) = only_faults (f ∷ [])
gives_good s (End file) = only_faults (conf file kind.NoBrace (first_of s) ∷ [])
gives_good s Cut = nothing

abbrev pub gives_outside : State → ConfLine → Meaning
gives_outside s e = of_line (line_file e) s.first (outside_line e)

abbrev pub gives : Place → State → ConfLine → Meaning
gives Outside s e = gives_outside s e
gives Good s e = gives_good s e
gives Dropped s e = of_spoilt (e ∷ [])

-- what lines give from a state on
abbrev pub run : State → List ConfLine → Meaning
run s [] = nothing
run s (e ∷ es) = gives s.place s e and run (step s.place s e) es

-- ---- other files

-- a line that comes stands in a definition
abbrev pub is_inside : Place → Bool
is_inside Outside = false
is_inside p = true

-- the file that a line asks for, and what it makes taboo
abbrev pub asks_at : Place → ConfLine → Option Include
asks_at Outside e = asks (outside_line e)
asks_at p e = None

abbrev pub bans_at : Place → ConfLine → Option (Bool × TabooItems)
bans_at Outside e = bans (outside_line e)
bans_at p e = None

-- ---- drafts

-- rules and notices are kept
abbrev pub kept : List Rule → List Notice → Meaning
kept rules notices = record { rules = rules; notices = notices; faults = [] }

abbrev pub state_of : Draft → State
state_of k = record {
  place = k.place;
  defaults = k.defaults;
  words = k.words.items;
  first = k.first;
  fields = k.fields;
  scripts = k.scripts.items;
}

-- what is kept, and what lines give from then on
abbrev pub coming_from : Draft → List ConfLine → Meaning
coming_from k lines = kept k.rules.items k.notices.items and run (state_of k) lines

-- the files that lines ask for from then on
abbrev pub asking_from : Draft → List ConfLine → List Include
asking_from k lines = asked (is_inside k.place) lines

-- the taboo list behind lines from then on
abbrev pub banning_from : Draft → List ConfLine → Taboo
banning_from k lines = banned (is_inside k.place) k.taboo lines

-- all but the state is the same, rules and notices aside
pub record SameTable (old : Draft) (new : Draft) : Type 0 where
  pub files : new.files ≡ old.files
  pub taboo : new.taboo ≡ old.taboo

-- one line was taken in
pub record Stepped (old : Draft) (new : Draft) (e : ConfLine) (faults : List Fault) (includes : List Include) : Type 0 where
  pub state : state_of new ≡ step old.place (state_of old) e
  pub rules : new.rules.items ≡ old.rules.items ++ (gives old.place (state_of old) e).rules
  pub notices : new.notices.items ≡ old.notices.items ++ (gives old.place (state_of old) e).notices
  pub faults_are : (gives old.place (state_of old) e).faults ≡ faults
  pub files : new.files ≡ old.files
  pub includes_are : option_to_list (asks_at old.place e) ≡ includes
  pub taboo : new.taboo ≡ after_bans old.taboo (option_to_list (bans_at old.place e))

-- nothing was taken in
pub record Unchanged (old : Draft) (new : Draft) : Type 0 where
  pub state : state_of new ≡ state_of old
  pub rules : new.rules.items ≡ old.rules.items
  pub notices : new.notices.items ≡ old.notices.items
  pub table : SameTable old new

abbrev pub Steps : Draft → Draft → Path → ConfLine → Result (Option Include) LayerStop → Type 0
Steps old new file e (Ok include) = Stepped old new e [] (option_to_list include)
Steps old new file e (Err stop.Memory) = Unchanged old new
Steps old new file e (Err fault) = Stepped old new e (layer_faults file fault) (include_of fault)

-- What a call answered that took a line, and how lines go on behind it.
abbrev pub TookIn : Draft → Draft → Path → ConfLine → Result (Option Include) LayerStop → Type 0
TookIn old new file e (Ok include) = (lines : List ConfLine) → coming_from old (e ∷ lines) ≡ coming_from new lines
TookIn old new file e (Err stop.Memory) = (lines : List ConfLine) → coming_from new lines ≡ coming_from old lines
TookIn old new file e (Err fault) = (lines : List ConfLine) → coming_from old (e ∷ lines)
    ≡ (only_faults (layer_faults file fault) and coming_from new lines)

-- the file for which the answer asks is that of the line
abbrev pub AsksIn : Draft → Draft → ConfLine → Result (Option Include) LayerStop → Type 0
AsksIn old new e (Ok include) =
    (lines : List ConfLine) → asking_from old (e ∷ lines) ≡ option_to_list include ++ asking_from new lines
AsksIn old new e (Err stop.Memory) = (lines : List ConfLine) → asking_from new lines ≡ asking_from old lines
AsksIn old new e (Err fault) = (lines : List ConfLine) → asking_from old (e ∷ lines) ≡ include_of fault ++ asking_from new lines

-- the taboo list is that behind the line
abbrev pub BansIn : Draft → Draft → ConfLine → Result (Option Include) LayerStop → Type 0
BansIn old new e (Err stop.Memory) = (lines : List ConfLine) → banning_from new lines ≡ banning_from old lines
BansIn old new e r = (lines : List ConfLine) → banning_from old (e ∷ lines) ≡ banning_from new lines

-- what lines ask for and make taboo from then on is the same
pub record AlikeIn (old : Draft) (new : Draft) : Type 0 where
  pub asks : (lines : List ConfLine) → asking_from new lines ≡ asking_from old lines
  pub bans : (lines : List ConfLine) → banning_from new lines ≡ banning_from old lines

-- and so it is behind a line that does neither
pub record PassesIn (old : Draft) (new : Draft) (e : ConfLine) : Type 0 where
  pub asks : (lines : List ConfLine) → asking_from old (e ∷ lines) ≡ asking_from new lines
  pub bans : (lines : List ConfLine) → banning_from old (e ∷ lines) ≡ banning_from new lines

-- the files that were entered and not left, and the last of them, which is read
abbrev pub files_of : Draft → List Path
files_of k = k.files

abbrev pub file_of_draft : Draft → Path
file_of_draft k = last_or [] k.files

-- ---- steps of the code

-- all but the state is the same
pub record SameRest (old : Draft) (new : Draft) : Type 0 where
  pub rules : new.rules.items ≡ old.rules.items
  pub notices : new.notices.items ≡ old.notices.items
  pub table : SameTable old new

-- all but one more notice is the same
pub record Noticed (old : Draft) (new : Draft) (n : Notice) : Type 0 where
  pub state : state_of new ≡ state_of old
  pub rules : new.rules.items ≡ old.rules.items
  pub notices : new.notices.items ≡ old.notices.items ++ n ∷ []
  pub table : SameTable old new

-- all but the taboo list is the same
pub record Banned (old : Draft) (new : Draft) (patterns : Bool) (items : TabooItems) : Type 0 where
  pub state : state_of new ≡ state_of old
  pub rules : new.rules.items ≡ old.rules.items
  pub notices : new.notices.items ≡ old.notices.items
  pub files : new.files ≡ old.files
  pub taboo : new.taboo ≡ taboo_after old.taboo items.items patterns items.adding

abbrev pub answer_of : Option ℕ → ℕ → Option ConfKind → Result (Option Include) LayerStop
answer_of None at None = Ok None
answer_of None at (Some k) = Err (stop.Conf at k)
answer_of (Some first) at None = Err (stop.Conf first kind.NoBrace)
answer_of (Some first) at (Some k) = Err (stop.NoBraceAnd first at k)

-- the answer that asks for a file
abbrev pub asking_answer : Option ℕ → Include → Result (Option Include) LayerStop
asking_answer None include = Ok (Some include)
asking_answer (Some first) include = Err (stop.NoBraceThen first include)

-- a `}` is stray where no names are pending
abbrev pub stray_kind : Option ℕ → Option ConfKind
stray_kind None = Some kind.Stray
stray_kind (Some first) = None

-- a line outside definitions was taken in
pub record Spoke (old : Draft) (new : Draft) (file : Path) (p : OutsideLine) (faults : List Fault)
    (includes : List Include) : Type 0 where
  pub state : state_of new ≡ outside (state_of old) p
  pub rules : new.rules.items ≡ old.rules.items
  pub notices : new.notices.items ≡ old.notices.items ++ option_to_list (notice_past file p)
  pub faults_are : line_faults file old.first p ≡ faults
  pub files : new.files ≡ old.files
  pub includes_are : option_to_list (asks p) ≡ includes
  pub taboo : new.taboo ≡ after_bans old.taboo (option_to_list (bans p))

abbrev pub Speaks : Draft → Draft → Path → OutsideLine → Result (Option Include) LayerStop → Type 0
Speaks old new file p (Ok include) = Spoke old new file p [] (option_to_list include)
Speaks old new file p (Err stop.Memory) = Unchanged old new
Speaks old new file p (Err fault) = Spoke old new file p (layer_faults file fault) (include_of fault)

-- names that are pending were let go
pub record Settled (old : Draft) (new : Draft) (brace : Bool) : Type 0 where
  pub state : state_of new ≡ turned brace None (without_names (state_of old))
  pub rest : SameRest old new

-- a line with this fault, which leaves pending names, was taken in
pub record Aside (old : Draft) (new : Draft) (at : ℕ) (brace : Bool) (k : ConfKind)
    (r : Result (Option Include) LayerStop) : Type 0 where
  pub state : state_of new ≡ turned brace None (state_of old)
  pub rest : SameRest old new
  pub answer : r ≡ Err (stop.Conf at k)

-- the line that ends a definition was taken in
pub record Closed (old : Draft) (new : Draft) (file : Path) : Type 0 where
  pub state : state_of new ≡ record (state_of old) { place = Outside; words = []; first = None; fields = default_fields }
  pub rules : new.rules.items ≡ old.rules.items ++ rule_of file (first_of (state_of old)) old.words.items old.fields ∷ []
  pub notices : new.notices.items ≡ old.notices.items
  pub table : SameTable old new

abbrev pub Closes : Draft → Draft → Path → Result (Option Include) LayerStop → Type 0
Closes old new file (Ok None) = Closed old new file
Closes old new file (Ok (Some include)) = ⊥
Closes old new file (Err stop.Memory) = Unchanged old new
Closes old new file (Err fault) = ⊥

-- a line in a definition that doesn't end it was taken in
pub record SaidInside (old : Draft) (new : Draft) (file : Path) (at : ℕ) (v : LineSaid) (faults : List Fault) : Type 0 where
  pub state : state_of new ≡ with_said (state_of old) v
  pub rules : new.rules.items ≡ old.rules.items
  pub notices : new.notices.items ≡ old.notices.items ++ option_to_list (notice_of file at (said_behind old.scripts.items v))
  pub faults_are : option_to_list (line_fault file at (said_behind old.scripts.items v)) ≡ faults
  pub table : SameTable old new

abbrev pub SaysInside : Draft → Draft → Path → ℕ → LineSaid → Result (Option Include) LayerStop → Type 0
SaysInside old new file at v (Ok None) = SaidInside old new file at v []
SaysInside old new file at v (Ok (Some include)) = ⊥
SaysInside old new file at v (Err stop.Memory) = Unchanged old new
SaysInside old new file at v (Err (stop.NoBraceThen first include)) = ⊥
SaysInside old new file at v (Err fault) = SaidInside old new file at v (layer_faults file fault)

-- the end of a file was taken in
abbrev pub EndsFile : Draft → Draft → Path → Option (ℕ × ConfKind) → Type 0
EndsFile old new file None = Stepped old new (End file) [] []
EndsFile old new file (Some r) = Stepped old new (End file) (conf file r.1 r.0 ∷ []) []
