-- What one line says by itself, inside a definition or outside: the first fault that applies to it, else its meaning.
use Rattle.std.specs.Prelude.{ℕ, Bool, true, false, not, ◌&&◌, ◌||◌, List, [], ◌∷◌, Option, Some, None, find, map, option_map}
use Rattle.std.specs.Prelude.{Result, Ok, Err, length, nat_lt, bytes_eq, if◌then◌else◌}
use Rattle.std.specs.List.{filter_map}
use Rattle.std.specs.Result.{result_ok, result_err}
use Rattle.lr_lex.specs.declared.item.Item.{Item}
use Rattle.lr_lex.specs.declared.item.Item.TheVariants as item
use Rattle.lr_lex.specs.declared.word.Word.{Word}
use Rattle.lr_rules.specs.declared.fault.ConfKind.{ConfKind}
use Rattle.lr_rules.specs.declared.fault.ConfKind.TheVariants as kind
use Rattle.lr_rules.specs.declared.fault.Phase.{Phase}
use Rattle.lr_rules.specs.declared.fault.Phase.TheVariants as phase
use Rattle.lr_tables.specs.declared.directive.Directive.{Directive}
use Rattle.lr_tables.specs.declared.directive.Directive.TheVariants as is
use Rattle.lr_tables.specs.Directives.{directive_table}
use Rattle.lr_words.specs.declared.taboo.TabooItems.{TabooItems}
use Rattle.lr_words.specs.Lists.{taboo_value}
use Rattle.lr_words.specs.Names.{log_name_value}
use Rattle.lr_forms.specs.declared.form.Form.{Form}
use Rattle.lr_forms.specs.declared.form.Form.TheVariants as form
use Rattle.lr_forms.specs.declared.said.LineSaid.{LineSaid}
use Rattle.lr_forms.specs.declared.said.LineSaid.TheVariants as says
use Rattle.lr_forms.specs.Forms.{form_of}
use Rattle.lr_forms.specs.Values.{one_says, day_says, make_says, include_says, taboo_says}

-- ---- where an item stands

abbrev pub line_of : Item → ℕ
line_of (item.Line ws names brace stray line) = line
line_of (item.Close line) = line
line_of (item.Script word text brace stray line) = line

-- its line ends with a brace that opens
abbrev pub has_brace : Item → Bool
has_brace (item.Line ws names brace stray line) = brace
has_brace (item.Close line) = false
has_brace (item.Script word text brace stray line) = brace

-- it closes a definition
abbrev pub closes_definition : Item → Bool
closes_definition (item.Close line) = true
closes_definition i = false

-- ---- the directive of a line

-- the directive with this word
unfoldable pub directive_of : List ℕ → Option Directive
directive_of word = option_map (λ row. row.directive) (find (λ row. bytes_eq row.word word) directive_table)

-- ---- faults

-- the first of these faults that applies
abbrev pub first_fault : List (Bool × ConfKind) → Option ConfKind
first_fault [] = None
first_fault (check ∷ checks) = if check.0 then Some check.1 else first_fault checks

abbrev pub is_passed : Form → Bool
is_passed form.Passed = true
is_passed f = false

abbrev pub is_script : Form → Bool
is_script form.Script = true
is_script f = false

abbrev pub is_outside : Form → Bool
is_outside form.Include = true
is_outside (form.Taboo patterns) = true
is_outside f = false

-- a list without an item
abbrev pub lists_nothing : Result TabooItems ConfKind → Bool
lists_nothing (Ok items) = false
lists_nothing (Err k) = true

-- it needs a value and has none
abbrev pub lacks_value : Form → List (List ℕ) → Bool
lacks_value (form.One v) vs = nat_lt (length vs) 1
lacks_value form.Include vs = nat_lt (length vs) 1
lacks_value (form.Taboo patterns) vs = lists_nothing (taboo_value vs)
lacks_value f vs = false

-- More words than it takes. `endscript`, and a script's word in a line of its own, which no text has, stand nowhere by
-- themselves.
abbrev pub has_more : Form → List (List ℕ) → Bool
has_more form.Ending vs = true
has_more form.Script vs = true
has_more form.Passed vs = false
has_more (form.Taboo patterns) vs = false
has_more (form.One v) vs = nat_lt 1 (length vs)
has_more form.Include vs = nat_lt 1 (length vs)
has_more form.Day vs = nat_lt 1 (length vs)
has_more (form.Make olddir) vs = nat_lt 3 (length vs)
has_more f vs = nat_lt 0 (length vs)

-- the faults of a line that begins with a directive, in the order in which they apply: behind NestedBrace and Unknown,
-- and before those of its value
abbrev pub checks : Bool → Bool → Bool → Form → List (List ℕ) → List (Bool × ConfKind)
checks inside brace stray f vs =
    (not inside && is_script f, kind.OutsideSet) ∷
    (inside && is_outside f, kind.InsideSet) ∷
    (lacks_value f vs, kind.MissingValue) ∷
    (brace || (stray && not (is_passed f)) || has_more f vs, kind.Stray) ∷
    []

-- ---- meanings

-- what a line says to which none of those faults applies
abbrev pub means : Form → List ℕ → List (List ℕ) → LineSaid
means form.Passed word vs = says.Passed word
means (form.Plain s) word vs = says.Sets s
means (form.One v) word vs = one_says v vs
means form.Day word vs = day_says vs
means (form.Make olddir) word vs = make_says olddir vs
means form.Include word vs = include_says vs
means (form.Taboo patterns) word vs = taboo_says patterns vs
means f word vs = says.Quiet

abbrev pub or_bad : Option ConfKind → LineSaid → LineSaid
or_bad None s = s
or_bad (Some k) s = says.Bad k

abbrev pub by_directive : Bool → Bool → Bool → List ℕ → List (List ℕ) → Option Directive → LineSaid
by_directive inside brace stray word vs None = says.Unknown
by_directive inside brace stray word vs (Some d) = or_bad (first_fault (checks inside brace stray (form_of d) vs))
    (means (form_of d) word vs)

abbrev pub texts : List Word → List (List ℕ)
texts ws = map (λ w. w.text) ws

-- a line whose first sign begins no name
abbrev pub words_say : Bool → Bool → Bool → List Word → LineSaid
words_say inside brace stray [] = if inside then says.Bad kind.NestedBrace else says.Open
words_say inside brace stray (w ∷ ws) =
    if inside && brace then says.Bad kind.NestedBrace
    else by_directive inside brace stray w.text (texts ws) (directive_of w.text)

-- ---- lines of names

-- the names as rules have them, in order
abbrev pub log_names : List Word → List (List ℕ)
log_names ws = filter_map (λ w. result_ok (log_name_value w.text)) ws

-- the faults of those that name no log, in order
abbrev pub name_faults : List Word → List ConfKind
name_faults ws = filter_map (λ w. result_err (log_name_value w.text)) ws

-- all the names, where none has a fault; else the first fault, by which the line names none
abbrev pub named : List ConfKind → List (List ℕ) → LineSaid
named [] names = says.Names names
named (k ∷ ks) names = says.BadNames k

-- A line of names, outside definitions: it names them all, or has the first fault that applies. One without a name,
-- which no text has, is stray.
abbrev pub names_say : Bool → List Word → LineSaid
names_say stray [] = says.BadNames kind.Stray
names_say stray (w ∷ ws) =
    if stray then says.BadNames kind.Stray
    else named (name_faults (w ∷ ws)) (log_names (w ∷ ws))

-- ---- lines

abbrev pub nested : Bool → ConfKind → LineSaid
nested brace k = says.Bad (if brace then kind.NestedBrace else k)

-- when a script with this word runs
abbrev pub phase_of : Directive → Option Phase
phase_of is.Firstaction = Some phase.First
phase_of is.Prerotate = Some phase.Pre
phase_of is.Postrotate = Some phase.Post
phase_of is.Lastaction = Some phase.Last
phase_of is.Preremove = Some phase.Preremove
phase_of d = None

abbrev pub phase_named : Option Directive → Option Phase
phase_named None = None
phase_named (Some d) = phase_of d

-- A script, which stands in a definition. A text gives none with another word.
abbrev pub script_in : Bool → List ℕ → Bool → Option Phase → LineSaid
script_in inside text stray None = says.Unknown
script_in inside text stray (Some p) = if inside then says.Script p text stray else says.Bad kind.OutsideSet

abbrev pub script_says : Bool → Bool → Bool → List ℕ → List ℕ → LineSaid
script_says inside brace stray word text =
    if inside && brace then says.Bad kind.NestedBrace
    else script_in inside text stray (phase_named (directive_of word))

-- what a line says
abbrev pub item_says : Bool → Item → LineSaid
item_says inside (item.Close line) = says.Close
item_says inside (item.Script word text brace stray line) = script_says inside brace stray word.text text
item_says inside (item.Line ws names brace stray line) =
    if not names then words_say inside brace stray ws
    else if inside then nested brace kind.Stray
    else names_say stray ws
