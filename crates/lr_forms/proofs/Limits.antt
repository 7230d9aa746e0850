-- Whatever a line says meets the limits of rules.
use Rattle.std.proofs.Common.{◌≡◌, ℕ, Bool, true, false, cond, ◌&&◌, List, [], ◌∷◌, Option, Some, None, Result, Ok, Err, length, nat_le, refl, ap, sym, ◌∙◌}
use Rattle.std.specs.List.{list_all, cons_option}
use Rattle.std.specs.Result.{result_ok}
use Rattle.lr_lex.specs.declared.item.Item.{Item}
use Rattle.lr_lex.specs.declared.item.Item.TheVariants as item
use Rattle.lr_lex.specs.declared.word.Word.{Word}
use Rattle.lr_rules.specs.declared.path.Path.{Path}
use Rattle.lr_rules.specs.declared.fault.ConfKind.{ConfKind}
use Rattle.lr_rules.specs.declared.fault.ConfKind.TheVariants as kind
use Rattle.lr_rules.specs.declared.fault.Phase.{Phase}
use Rattle.lr_rules.specs.declared.rule.Back.TheVariants as back
use Rattle.lr_rules.specs.declared.rule.Criterion.TheVariants as criterion
use Rattle.lr_rules.specs.declared.rule.Make.TheVariants as make
use Rattle.lr_rules.specs.Limits.{is_small, is_size, is_count, is_make, is_extension, is_address, is_olddir, is_format, is_log_word}
use Rattle.lr_tables.specs.declared.directive.Directive.{Directive}
use Rattle.lr_tables.specs.declared.directive.Directive.TheVariants as is
use Rattle.lr_words.specs.Numbers.{number_value, count_value, size_value, begins_with_digit, some_mode, mode_value, first_mode_value, names_owner}
use Rattle.lr_words.specs.Formats.{format_value}
use Rattle.lr_words.proofs.ValueLimits.{number_meets, count_meets, weekday_meets, size_meets, mode_meets}
use Rattle.lr_words.proofs.ReadBack.{format_meets}
use Rattle.lr_words.specs.declared.taboo.TabooItems.{TabooItems}
use Rattle.lr_words.specs.Lists.{taboo_value}
use Rattle.lr_words.specs.Names.{log_name_value, include_value}
use Rattle.lr_words.specs.Words.{extension_value, address_value, olddir_value}
use Rattle.lr_words.proofs.WordLimits.{extension_meets, address_meets, olddir_meets}
use Rattle.lr_words.proofs.LogNames.{log_name_meets}
use Rattle.lr_forms.specs.declared.form.Form.{Form}
use Rattle.lr_forms.specs.declared.form.Form.TheVariants as form
use Rattle.lr_forms.specs.declared.form.Value.{Value}
use Rattle.lr_forms.specs.declared.form.Value.TheVariants as value
use Rattle.lr_forms.specs.declared.set.Set.{Set}
use Rattle.lr_forms.specs.declared.set.Set.TheVariants as set
use Rattle.lr_forms.specs.declared.said.LineSaid.{LineSaid}
use Rattle.lr_forms.specs.declared.said.LineSaid.TheVariants as says
use Rattle.lr_forms.specs.Forms.{form_of}
use Rattle.lr_forms.specs.Values.{setting, value_of, sets_or_bad, one_says, weekday_given, day_says, mode_of, setting_make, made, make_says, included, include_says, taboo_or_bad}
use Rattle.lr_forms.specs.Says.{directive_of, checks, first_fault, means, or_bad, by_directive, texts, words_say, log_names, name_faults, named, names_say, nested, phase_named, script_in, item_says}
use Rattle.lr_forms.specs.Limits.{set_meets, said_meets}

-- ---- values

abbrev Meets : Result Set ConfKind → Type 0
Meets (Ok v) = set_meets v ≡ true
Meets (Err k) = Unit {0}

setting_meets : {A : Type 0} (p : A → Bool) (field : A → Set) → ((a : A) → p a ≡ true → set_meets (field a) ≡ true)
    → (r : Result A ConfKind) → ((a : A) → r ≡ Ok a → p a ≡ true) → Meets (setting field r)
setting_meets p field by (Ok a) h = by a (h a refl)
setting_meets p field by (Err k) h = tt

value_meets : (v : Value) (w : List ℕ) → Meets (value_of v w)
value_meets value.Count w = setting_meets is_count set.Count (λ a h. h) (count_value w) (count_meets w)
value_meets value.Size w = setting_meets is_size (λ n. set.Criterion (criterion.Size n)) (λ a h. h) (size_value w) (size_meets w)
value_meets value.MinSize w = setting_meets is_size set.MinSize (λ a h. h) (size_value w) (size_meets w)
value_meets value.MaxSize w = setting_meets is_size set.MaxSize (λ a h. h) (size_value w) (size_meets w)
value_meets value.MinAge w = setting_meets is_small set.MinAge (λ a h. h) (number_value w) (number_meets w)
value_meets value.MaxAge w = setting_meets is_small set.MaxAge (λ a h. h) (number_value w) (number_meets w)
value_meets value.Start w = setting_meets is_small set.Start (λ a h. h) (number_value w) (number_meets w)
value_meets value.Extension w = setting_meets is_extension set.Extension (λ a h. h) (extension_value w) (extension_meets w)
value_meets value.AddExtension w = setting_meets is_extension set.AddExtension (λ a h. h) (extension_value w) (extension_meets w)
value_meets value.Olddir w = setting_meets is_olddir (λ dir. set.Olddir (Some dir)) (λ a h. h) (olddir_value w) (olddir_meets w)
value_meets value.Mail w = setting_meets is_address (λ a. set.Mail (Some a)) (λ a h. h) (address_value w) (address_meets w)
value_meets value.DateFormat w = setting_meets (λ ps. is_format (record { pieces = ps; back = back.Now; serial = false })) set.DateFormat (λ a h. h) (format_value w) (format_meets w)

-- ---- lines

abbrev Fine : LineSaid → Type 0
Fine s = said_meets s ≡ true

of_setting : (r : Result Set ConfKind) → Meets r → Fine (sets_or_bad r)
of_setting (Ok v) h = h
of_setting (Err k) h = refl

one_fine : (v : Value) (ws : List (List ℕ)) → Fine (one_says v ws)
one_fine v [] = refl
one_fine v (w ∷ ws) = of_setting (value_of v w) (value_meets v w)

day_meets : (ws : List (List ℕ)) (n : ℕ) → weekday_given ws ≡ Ok n → nat_le n 7 ≡ true
day_meets [] n h = let e : 0 ≡ n = cc in ap (λ x. nat_le x 7) (sym e)
day_meets (w ∷ ws) n h = weekday_meets w n h

day_fine : (ws : List (List ℕ)) → Fine (day_says ws)
day_fine ws = of_setting (setting (λ day. set.Criterion (criterion.Weekly day)) (weekday_given ws)) (setting_meets (λ n. nat_le n 7) (λ day. set.Criterion (criterion.Weekly day)) (λ a h. h) (weekday_given ws) (day_meets ws))

first_mode_meets : (w : List ℕ) (mode : Option ℕ) → first_mode_value w ≡ Ok mode → is_make (make.Yes mode) ≡ true
unfolding first_mode_value
first_mode_meets w mode h = by (begins_with_digit w) (mode_value w) refl h
  where
    by : (digit : Bool) (r : Result ℕ ConfKind) → mode_value w ≡ r → cond digit (some_mode r) (Ok None) ≡ Ok mode → is_make (make.Yes mode) ≡ true
    by true (Ok n) is e = let same : Some n ≡ mode = cc in ap (λ m. is_make (make.Yes m)) (sym same) ∙ mode_meets w n is
    by true (Err k) is e = absurd (cc)
    by false r is e = let same : None ≡ mode = cc in ap (λ m. is_make (make.Yes m)) (sym same)

mode_of_meets : (ws : List (List ℕ)) (mode : Option ℕ) → mode_of ws ≡ Ok mode → is_make (make.Yes mode) ≡ true
mode_of_meets [] mode h = let same : None ≡ mode = cc in ap (λ m. is_make (make.Yes m)) (sym same)
mode_of_meets (w ∷ ws) mode h = first_mode_meets w mode h

making_meets : (olddir : Bool) (mode : Option ℕ) → is_make (make.Yes mode) ≡ true → set_meets (setting_make olddir (make.Yes mode)) ≡ true
making_meets true mode h = h
making_meets false mode h = h

make_fine : (olddir : Bool) (ws : List (List ℕ)) → Fine (make_says olddir ws)
make_fine olddir ws = by (mode_of ws) refl
  where
    told : (owner olddir : Bool) (mode : Option ℕ) → is_make (make.Yes mode) ≡ true → Fine (cond owner (says.OwnerPassed (setting_make olddir (make.Yes mode))) (says.Sets (setting_make olddir (make.Yes mode))))
    told true olddir mode h = making_meets olddir mode h
    told false olddir mode h = making_meets olddir mode h

    by : (r : Result (Option ℕ) ConfKind) → mode_of ws ≡ r → Fine (made olddir (length ws) r)
    by (Ok mode) is = told (names_owner (length ws) mode) olddir mode (mode_of_meets ws mode is)
    by (Err k) is = refl

included_fine : (r : Result Path ConfKind) → Fine (included r)
included_fine (Ok path) = refl
included_fine (Err k) = refl

include_fine : (ws : List (List ℕ)) → Fine (include_says ws)
include_fine [] = refl
include_fine (w ∷ ws) = included_fine (include_value w)

barred_fine : (patterns : Bool) (r : Result TabooItems ConfKind) → Fine (taboo_or_bad patterns r)
barred_fine patterns (Ok items) = refl
barred_fine patterns (Err k) = refl

abbrev FineForm : Form → Type 0
FineForm (form.Plain v) = set_meets v ≡ true
FineForm f = Unit {0}

form_fine : (d : Directive) → FineForm (form_of d)
form_fine is.Hourly = refl
form_fine is.Daily = refl
form_fine is.Monthly = refl
form_fine is.Yearly = refl
form_fine is.Ifempty = refl
form_fine is.Notifempty = refl
form_fine is.Missingok = refl
form_fine is.Nomissingok = refl
form_fine is.Ignoreduplicates = refl
form_fine is.Noolddir = refl
form_fine is.Nocreateolddir = refl
form_fine is.Copy = refl
form_fine is.Copytruncate = refl
form_fine is.Nocopy = refl
form_fine is.Nocopytruncate = refl
form_fine is.Renamecopy = refl
form_fine is.Norenamecopy = refl
form_fine is.Nocreate = refl
form_fine is.Nomail = refl
form_fine is.Mailfirst = refl
form_fine is.Maillast = refl
form_fine is.Sharedscripts = refl
form_fine is.Nosharedscripts = refl
form_fine is.Dateext = refl
form_fine is.Nodateext = refl
form_fine is.Dateyesterday = refl
form_fine is.Datehourago = refl
form_fine is.Dateserial = refl
form_fine is.Nodateserial = refl
form_fine d = tt

means_fine : (f : Form) (word : List ℕ) (vs : List (List ℕ)) → FineForm f → Fine (means f word vs)
means_fine (form.Plain v) word vs ok = ok
means_fine (form.One v) word vs ok = one_fine v vs
means_fine form.Day word vs ok = day_fine vs
means_fine (form.Make olddir) word vs ok = make_fine olddir vs
means_fine form.Include word vs ok = include_fine vs
means_fine (form.Taboo patterns) word vs ok = barred_fine patterns (taboo_value vs)
means_fine f word vs ok = refl

or_bad_fine : (o : Option ConfKind) (s : LineSaid) → Fine s → Fine (or_bad o s)
or_bad_fine None s h = h
or_bad_fine (Some k) s h = refl

directive_fine : (inside brace stray : Bool) (word : List ℕ) (vs : List (List ℕ)) (o : Option Directive) → Fine (by_directive inside brace stray word vs o)
directive_fine inside brace stray word vs None = refl
directive_fine inside brace stray word vs (Some d) =
    or_bad_fine (first_fault (checks inside brace stray (form_of d) vs)) (means (form_of d) word vs) (means_fine (form_of d) word vs (form_fine d))

either : (b : Bool) (s t : LineSaid) → Fine s → Fine t → Fine (cond b s t)
either true s t h k = h
either false s t h k = k

words_fine : (inside brace stray : Bool) (ws : List Word) → Fine (words_say inside brace stray ws)
words_fine inside brace stray [] = either inside (says.Bad kind.NestedBrace) says.Open refl refl
words_fine inside brace stray (w ∷ ws) =
    either (inside && brace) (says.Bad kind.NestedBrace) (by_directive inside brace stray w.text (texts ws) (directive_of w.text)) refl
    (directive_fine inside brace stray w.text (texts ws) (directive_of w.text))

log_names_meet : (ws : List Word) → list_all is_log_word (log_names ws) ≡ true
log_names_meet [] = refl
log_names_meet (w ∷ ws) = by (log_name_value w.text) refl (log_names_meet ws)
  where
    by : (r : Result (List ℕ) ConfKind) → log_name_value w.text ≡ r → list_all is_log_word (log_names ws) ≡ true → list_all is_log_word (cons_option (result_ok r) (log_names ws)) ≡ true
    by (Ok n) is more = ap (λ b. b && list_all is_log_word (log_names ws)) (log_name_meets w.text n is) ∙ more
    by (Err k) is more = more

named_fine : (faults : List ConfKind) (names : List (List ℕ)) → list_all is_log_word names ≡ true → Fine (named faults names)
named_fine [] names h = h
named_fine (k ∷ ks) names h = refl

names_fine : (stray : Bool) (ws : List Word) → Fine (names_say stray ws)
names_fine stray [] = refl
names_fine stray (w ∷ ws) =
    let all = named_fine (name_faults (w ∷ ws)) (log_names (w ∷ ws)) (log_names_meet (w ∷ ws)) in
    either stray (says.BadNames kind.Stray) (named (name_faults (w ∷ ws)) (log_names (w ∷ ws))) refl all

script_fine : (inside : Bool) (text : List ℕ) (stray : Bool) (o : Option Phase) → Fine (script_in inside text stray o)
script_fine inside text stray None = refl
script_fine inside text stray (Some p) = either inside (says.Script p text stray) (says.Bad kind.OutsideSet) refl refl

pub said_fine : (inside : Bool) (i : Item) → said_meets (item_says inside i) ≡ true
said_fine inside (item.Close line) = refl
said_fine inside (item.Script word text brace stray line) =
    either (inside && brace) (says.Bad kind.NestedBrace) (script_in inside text stray (phase_named (directive_of word.text))) refl
    (script_fine inside text stray (phase_named (directive_of word.text)))
said_fine inside (item.Line ws false brace stray line) = words_fine inside brace stray ws
said_fine inside (item.Line ws true brace stray line) =
    either inside (nested brace kind.Stray) (names_say stray ws) refl (names_fine stray ws)
