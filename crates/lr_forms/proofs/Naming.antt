-- A line that names logs names one at least.
use Rattle.std.proofs.Common.{ℕ, Bool, true, false, cond, ◌&&◌, List, [], ◌∷◌, Option, Some, None, Result, Ok, Err, length}
use Rattle.std.specs.List.{cons_option}
use Rattle.std.specs.Result.{result_ok, result_err}
use Rattle.lr_lex.specs.declared.item.Item.{Item}
use Rattle.lr_lex.specs.declared.item.Item.TheVariants as item
use Rattle.lr_lex.specs.declared.word.Word.{Word}
use Rattle.lr_rules.specs.declared.path.Path.{Path}
use Rattle.lr_rules.specs.declared.fault.ConfKind.{ConfKind}
use Rattle.lr_rules.specs.declared.fault.ConfKind.TheVariants as kind
use Rattle.lr_rules.specs.declared.fault.Phase.{Phase}
use Rattle.lr_rules.specs.declared.rule.Criterion.TheVariants as criterion
use Rattle.lr_rules.specs.declared.rule.Make.TheVariants as make
use Rattle.lr_tables.specs.declared.directive.Directive.{Directive}
use Rattle.lr_words.specs.Numbers.{names_owner}
use Rattle.lr_words.specs.declared.taboo.TabooItems.{TabooItems}
use Rattle.lr_words.specs.Lists.{taboo_value}
use Rattle.lr_words.specs.Names.{log_name_value, include_value}
use Rattle.lr_forms.specs.declared.form.Form.{Form}
use Rattle.lr_forms.specs.declared.form.Form.TheVariants as form
use Rattle.lr_forms.specs.declared.set.Set.{Set}
use Rattle.lr_forms.specs.declared.set.Set.TheVariants as set
use Rattle.lr_forms.specs.declared.said.LineSaid.{LineSaid}
use Rattle.lr_forms.specs.declared.said.LineSaid.TheVariants as says
use Rattle.lr_forms.specs.Forms.{form_of}
use Rattle.lr_forms.specs.Values.{setting, value_of, sets_or_bad, weekday_given, mode_of, setting_make, made, included, taboo_or_bad}
use Rattle.lr_forms.specs.Says.{directive_of, checks, first_fault, means, or_bad, by_directive, texts, words_say, log_names, name_faults, named, names_say, nested, phase_named, script_in, item_says}
use Rattle.lr_forms.specs.Limits.{NamesSome}

either : (b : Bool) (s t : LineSaid) → NamesSome s → NamesSome t → NamesSome (cond b s t)
either true s t h k = h
either false s t h k = k

-- ---- directives name no log

set_some : (r : Result Set ConfKind) → NamesSome (sets_or_bad r)
set_some (Ok v) = tt
set_some (Err k) = tt

made_some : (olddir : Bool) (words : ℕ) (r : Result (Option ℕ) ConfKind) → NamesSome (made olddir words r)
made_some olddir words (Ok mode) = either (names_owner words mode) (says.OwnerPassed (setting_make olddir (make.Yes mode))) (says.Sets (setting_make olddir (make.Yes mode))) tt tt
made_some olddir words (Err k) = tt

included_some : (r : Result Path ConfKind) → NamesSome (included r)
included_some (Ok path) = tt
included_some (Err k) = tt

barred_some : (patterns : Bool) (r : Result TabooItems ConfKind) → NamesSome (taboo_or_bad patterns r)
barred_some patterns (Ok items) = tt
barred_some patterns (Err k) = tt

means_some : (f : Form) (word : List ℕ) (vs : List (List ℕ)) → NamesSome (means f word vs)
means_some form.Passed word vs = tt
means_some (form.Plain s) word vs = tt
means_some (form.One v) word [] = tt
means_some (form.One v) word (w ∷ ws) = set_some (value_of v w)
means_some form.Day word vs = set_some (setting (λ day. set.Criterion (criterion.Weekly day)) (weekday_given vs))
means_some (form.Make olddir) word vs = made_some olddir (length vs) (mode_of vs)
means_some form.Include word [] = tt
means_some form.Include word (w ∷ ws) = included_some (include_value w)
means_some (form.Taboo patterns) word vs = barred_some patterns (taboo_value vs)
means_some f word vs = tt

or_bad_some : (o : Option ConfKind) (s : LineSaid) → NamesSome s → NamesSome (or_bad o s)
or_bad_some None s h = h
or_bad_some (Some k) s h = tt

directive_some : (inside brace stray : Bool) (word : List ℕ) (vs : List (List ℕ)) (o : Option Directive) → NamesSome (by_directive inside brace stray word vs o)
directive_some inside brace stray word vs None = tt
directive_some inside brace stray word vs (Some d) =
    or_bad_some (first_fault (checks inside brace stray (form_of d) vs)) (means (form_of d) word vs) (means_some (form_of d) word vs)

words_some : (inside brace stray : Bool) (ws : List Word) → NamesSome (words_say inside brace stray ws)
words_some inside brace stray [] = either inside (says.Bad kind.NestedBrace) says.Open tt tt
words_some inside brace stray (w ∷ ws) =
    either (inside && brace) (says.Bad kind.NestedBrace) (by_directive inside brace stray w.text (texts ws) (directive_of w.text)) tt
    (directive_some inside brace stray w.text (texts ws) (directive_of w.text))

-- ---- names

-- the first word has a fault or names a log, so the line has a fault or a name
named_some : (w : Word) (ws : List Word) → NamesSome (named (name_faults (w ∷ ws)) (log_names (w ∷ ws)))
named_some w ws = by (log_name_value w.text) (name_faults ws)
  where
    by : (r : Result (List ℕ) ConfKind) (faults : List ConfKind) → NamesSome (named (cons_option (result_err r) faults) (cons_option (result_ok r) (log_names ws)))
    by (Err k) faults = tt
    by (Ok n) (k ∷ ks) = tt
    by (Ok n) [] = λ none. absurd (cc)

names_some : (stray : Bool) (ws : List Word) → NamesSome (names_say stray ws)
names_some stray [] = tt
names_some stray (w ∷ ws) = either stray (says.BadNames kind.Stray) (named (name_faults (w ∷ ws)) (log_names (w ∷ ws))) tt (named_some w ws)

-- ---- lines

script_some : (inside : Bool) (text : List ℕ) (stray : Bool) (o : Option Phase) → NamesSome (script_in inside text stray o)
script_some inside text stray None = tt
script_some inside text stray (Some p) = either inside (says.Script p text stray) (says.Bad kind.OutsideSet) tt tt

pub said_some : (inside : Bool) (i : Item) → NamesSome (item_says inside i)
said_some inside (item.Close line) = tt
said_some inside (item.Script word text brace stray line) =
    either (inside && brace) (says.Bad kind.NestedBrace) (script_in inside text stray (phase_named (directive_of word.text))) tt
    (script_some inside text stray (phase_named (directive_of word.text)))
said_some inside (item.Line ws false brace stray line) = words_some inside brace stray ws
said_some inside (item.Line ws true brace stray line) = either inside (nested brace kind.Stray) (names_say stray ws) tt (names_some stray ws)
