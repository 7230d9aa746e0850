-- What the words behind a directive set, or the fault of one of them.
use Rattle.std.specs.Prelude.{ℕ, Bool, true, false, List, [], ◌∷◌, Option, Some, None, Result, Ok, Err, length, if◌then◌else◌}
use Rattle.lr_rules.specs.declared.path.Path.{Path}
use Rattle.lr_rules.specs.declared.fault.ConfKind.{ConfKind}
use Rattle.lr_rules.specs.declared.rule.Criterion.TheVariants as criterion
use Rattle.lr_rules.specs.declared.rule.Make.{Make}
use Rattle.lr_rules.specs.declared.rule.Make.TheVariants as make
use Rattle.lr_words.specs.Numbers.{number_value, count_value, weekday_value, size_value, first_mode_value, names_owner}
use Rattle.lr_words.specs.Formats.{format_value}
use Rattle.lr_words.specs.declared.taboo.TabooItems.{TabooItems}
use Rattle.lr_words.specs.Names.{include_value}
use Rattle.lr_words.specs.Words.{extension_value, address_value, olddir_value}
use Rattle.lr_words.specs.Lists.{taboo_value}
use Rattle.lr_forms.specs.declared.form.Value.{Value}
use Rattle.lr_forms.specs.declared.form.Value.TheVariants as value
use Rattle.lr_forms.specs.declared.set.Set.{Set}
use Rattle.lr_forms.specs.declared.set.Set.TheVariants as set
use Rattle.lr_forms.specs.declared.said.LineSaid.{LineSaid}
use Rattle.lr_forms.specs.declared.said.LineSaid.TheVariants as says

-- ---- one value

-- the field is set to what the word says
abbrev pub setting : {A : Type 0} → (A → Set) → Result A ConfKind → Result Set ConfKind
setting field (Ok v) = Ok (field v)
setting field (Err k) = Err k

-- what the word sets
abbrev pub value_of : Value → List ℕ → Result Set ConfKind
value_of value.Count w = setting set.Count (count_value w)
value_of value.Size w = setting (λ n. set.Criterion (criterion.Size n)) (size_value w)
value_of value.MinSize w = setting set.MinSize (size_value w)
value_of value.MaxSize w = setting set.MaxSize (size_value w)
value_of value.MinAge w = setting set.MinAge (number_value w)
value_of value.MaxAge w = setting set.MaxAge (number_value w)
value_of value.Start w = setting set.Start (number_value w)
value_of value.Extension w = setting set.Extension (extension_value w)
value_of value.AddExtension w = setting set.AddExtension (extension_value w)
value_of value.Olddir w = setting (λ dir. set.Olddir (Some dir)) (olddir_value w)
value_of value.Mail w = setting (λ address. set.Mail (Some address)) (address_value w)
value_of value.DateFormat w = setting set.DateFormat (format_value w)

abbrev pub sets_or_bad : Result Set ConfKind → LineSaid
sets_or_bad (Ok v) = says.Sets v
sets_or_bad (Err k) = says.Bad k

-- without a word, which is a fault before, it says nothing
abbrev pub one_says : Value → List (List ℕ) → LineSaid
one_says v [] = says.Quiet
one_says v (w ∷ ws) = sets_or_bad (value_of v w)

-- ---- a day of the week

-- the day that `weekly` names; without one it is 0
abbrev pub weekday_given : List (List ℕ) → Result ℕ ConfKind
weekday_given [] = Ok 0
weekday_given (w ∷ ws) = weekday_value w

abbrev pub day_says : List (List ℕ) → LineSaid
day_says ws = sets_or_bad (setting (λ day. set.Criterion (criterion.Weekly day)) (weekday_given ws))

-- ---- files and directories that are made

-- the mode behind `create` or `createolddir`, where there is one
abbrev pub mode_of : List (List ℕ) → Result (Option ℕ) ConfKind
mode_of [] = Ok None
mode_of (w ∷ ws) = first_mode_value w

abbrev pub setting_make : Bool → Make → Set
setting_make true m = set.CreateOlddir m
setting_make false m = set.Create m

-- it is made with this mode, and a word that isn't the mode is passed over
abbrev pub made : Bool → ℕ → Result (Option ℕ) ConfKind → LineSaid
made olddir words (Ok mode) =
    if names_owner words mode then says.OwnerPassed (setting_make olddir (make.Yes mode))
    else says.Sets (setting_make olddir (make.Yes mode))
made olddir words (Err k) = says.Bad k

abbrev pub make_says : Bool → List (List ℕ) → LineSaid
make_says olddir ws = made olddir (length ws) (mode_of ws)

-- ---- other files, and which of them are read

abbrev pub included : Result Path ConfKind → LineSaid
included (Ok path) = says.Include path
included (Err k) = says.Bad k

-- without a word, which is a fault before, it says nothing
abbrev pub include_says : List (List ℕ) → LineSaid
include_says [] = says.Quiet
include_says (w ∷ ws) = included (include_value w)

abbrev pub taboo_or_bad : Bool → Result TabooItems ConfKind → LineSaid
taboo_or_bad patterns (Ok items) = says.Taboo patterns items
taboo_or_bad patterns (Err k) = says.Bad k

abbrev pub taboo_says : Bool → List (List ℕ) → LineSaid
taboo_says patterns ws = taboo_or_bad patterns (taboo_value ws)
