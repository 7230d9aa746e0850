-- Each rule meets the limits of its values, whichever lines come.
use Rattle.std.proofs.Common.{◌≡◌, ℕ, zero, suc, arith, Bool, true, false, cond, ◌&&◌, List, [], ◌∷◌, ◌++◌, Option, Some, None, Result, Ok, Err, MatchOption, refl, ap, sym, ◌∙◌}
use Rattle.std.specs.List.{AllByRecursion as Each, list_all}
use Rattle.std.specs.Prelude.{IsAscii}
use Rattle.std.specs.Str.{is_utf8}
use Rattle.std.proofs.lemmas.Str.{is_utf8-from_IsUtf8, IsUtf8-from_ascii}
use Rattle.std.proofs.lemmas.Bool.{and_from}
use Rattle.lr_rules.specs.declared.path.Path.{Path}
use Rattle.lr_rules.specs.declared.fault.ConfKind.{ConfKind}
use Rattle.lr_rules.specs.declared.fault.Fault.{Fault}
use Rattle.lr_rules.specs.declared.fault.Phase.{Phase}
use Rattle.lr_rules.specs.declared.rule.Back.{Back}
use Rattle.lr_rules.specs.declared.rule.Back.TheVariants as back
use Rattle.lr_rules.specs.declared.rule.Criterion.{Criterion}
use Rattle.lr_rules.specs.declared.rule.Criterion.TheVariants as criterion
use Rattle.lr_rules.specs.declared.rule.Count.TheVariants as count
use Rattle.lr_rules.specs.declared.rule.Make.TheVariants as make
use Rattle.lr_rules.specs.declared.rule.Piece.{Piece}
use Rattle.lr_rules.specs.declared.rule.Rule.{Rule}
use Rattle.lr_rules.specs.Limits.{is_log_word, is_criterion, is_count, is_small, is_size, is_extension, is_olddir, is_make, is_address, is_format, or_none, meets_limits}
use Rattle.lr_rules.proofs.Bools.{first_true, second_true}
use Rattle.lr_words.proofs.ReadBack.{tested}
use Rattle.lr_forms.specs.declared.set.Set.{Set}
use Rattle.lr_forms.specs.declared.set.Set.TheVariants as set
use Rattle.lr_forms.specs.declared.said.LineSaid.{LineSaid}
use Rattle.lr_forms.specs.declared.said.LineSaid.TheVariants as says
use Rattle.lr_forms.specs.Says.{item_says}
use Rattle.lr_forms.specs.Limits.{set_meets, said_meets}
use Rattle.lr_forms.proofs.Limits.{said_fine}
use Rattle.lr_conf.specs.declared.draft.Draft.{Draft}
use Rattle.lr_conf.specs.declared.stop.Include.{Include}
use Rattle.lr_conf.specs.declared.stop.LayerStop.{LayerStop}
use Rattle.lr_conf.specs.declared.stop.LayerStop.TheVariants as stop
use Rattle.lr_conf.specs.Fields.{fields_of, last_set, criterion_set, count_set, maxage_set, minage_set, minsize_set, maxsize_set, start_set, extension_set, addextension_set, olddir_set, createolddir_set, create_set, mail_set, pieces_set, dated_set, back_set, serial_set}
use Rattle.lr_conf.specs.Rules.{pieces_of, rule_of}
use Rattle.lr_conf.specs.Scripts.{script_fault}
use Rattle.lr_conf.specs.Meaning.{ConfLine, End, Meaning, ◌and◌, only_faults, conf, script_sets, meaning}
use Rattle.lr_conf.specs.Stops.{layer_faults}
use Rattle.lr_conf.specs.Internal.Draft.{coming_from, TookIn}
use Rattle.lr_conf.proofs.Each.{Given}
use Rattle.lr_conf.proofs.Walk.{OkSaid, Walk, each_rule, last_given}

-- ---- lines

abbrev S : Set → Type 0
S v = set_meets v ≡ true

abbrev N : List (List ℕ) → Type 0
N ws = list_all is_log_word ws ≡ true

line_ok : (v : LineSaid) → said_meets v ≡ true → OkSaid S N v
line_ok (says.Sets v) h = h
line_ok (says.OwnerPassed v) h = h
line_ok (says.Names ws) h = h
line_ok v h = tt

script_ok : (earlier : List Phase) (p : Phase) (text : List ℕ) (stray : Bool) → OkSaid S N (script_sets (script_fault earlier p stray) p text)
script_ok earlier p text stray = by (script_fault earlier p stray)
  where
    by : (o : Option ConfKind) → OkSaid S N (script_sets o p text)
    by None = refl
    by (Some k) = tt

more_ok : (xs ys : List (List ℕ)) → N xs → N ys → N (xs ++ ys)
more_ok [] ys x y = y
more_ok (w ∷ xs) ys x y = and_from (is_log_word w) (list_all is_log_word (xs ++ ys)) (first_true (is_log_word w) (list_all is_log_word xs) x) (more_ok xs ys (second_true (is_log_word w) (list_all is_log_word xs) x) y)

-- ---- fields

criterion_given : (v : Set) → S v → Given (λ c. is_criterion c ≡ true) (criterion_set v)
criterion_given (set.Criterion c) ok = ok
criterion_given v ok = tt

count_given : (v : Set) → S v → Given (λ c. is_count c ≡ true) (count_set v)
count_given (set.Count c) ok = ok
count_given v ok = tt

maxage_given : (v : Set) → S v → Given (λ o. or_none is_small o ≡ true) (maxage_set v)
maxage_given (set.MaxAge n) ok = ok
maxage_given v ok = tt

minage_given : (v : Set) → S v → Given (λ o. or_none is_small o ≡ true) (minage_set v)
minage_given (set.MinAge n) ok = ok
minage_given v ok = tt

minsize_given : (v : Set) → S v → Given (λ o. or_none is_size o ≡ true) (minsize_set v)
minsize_given (set.MinSize n) ok = ok
minsize_given v ok = tt

maxsize_given : (v : Set) → S v → Given (λ o. or_none is_size o ≡ true) (maxsize_set v)
maxsize_given (set.MaxSize n) ok = ok
maxsize_given v ok = tt

start_given : (v : Set) → S v → Given (λ n. is_small n ≡ true) (start_set v)
start_given (set.Start n) ok = ok
start_given v ok = tt

extension_given : (v : Set) → S v → Given (λ o. or_none is_extension o ≡ true) (extension_set v)
extension_given (set.Extension e) ok = ok
extension_given v ok = tt

addextension_given : (v : Set) → S v → Given (λ o. or_none is_extension o ≡ true) (addextension_set v)
addextension_given (set.AddExtension e) ok = ok
addextension_given v ok = tt

olddir_given : (v : Set) → S v → Given (λ o. or_none is_olddir o ≡ true) (olddir_set v)
olddir_given (set.Olddir None) ok = refl
olddir_given (set.Olddir (Some dir)) ok = ok
olddir_given v ok = tt

createolddir_given : (v : Set) → S v → Given (λ m. is_make m ≡ true) (createolddir_set v)
createolddir_given (set.CreateOlddir m) ok = ok
createolddir_given v ok = tt

create_given : (v : Set) → S v → Given (λ m. is_make m ≡ true) (create_set v)
create_given (set.Create m) ok = ok
create_given v ok = tt

mail_given : (v : Set) → S v → Given (λ o. or_none is_address o ≡ true) (mail_set v)
mail_given (set.Mail None) ok = refl
mail_given (set.Mail (Some address)) ok = ok
mail_given v ok = tt

pieces_given : (v : Set) → S v → Given (λ o. or_none tested o ≡ true) (pieces_set v)
pieces_given (set.DateFormat ps) ok = ok
pieces_given v ok = tt

-- the default is a format
abbrev day_bytes : List ℕ
day_bytes = 45 ∷ 37 ∷ 89 ∷ 37 ∷ 109 ∷ 37 ∷ 100 ∷ []

abbrev hour_bytes : List ℕ
hour_bytes = 45 ∷ 37 ∷ 89 ∷ 37 ∷ 109 ∷ 37 ∷ 100 ∷ 37 ∷ 72 ∷ []

day_ascii : IsAscii day_bytes
day_ascii zero = omega arith
day_ascii (suc zero) = omega arith
day_ascii (suc (suc zero)) = omega arith
day_ascii (suc (suc (suc zero))) = omega arith
day_ascii (suc (suc (suc (suc zero)))) = omega arith
day_ascii (suc (suc (suc (suc (suc zero))))) = omega arith
day_ascii (suc (suc (suc (suc (suc (suc zero)))))) = omega arith
day_ascii (suc (suc (suc (suc (suc (suc (suc i))))))) = omega arith

hour_ascii : IsAscii hour_bytes
hour_ascii zero = omega arith
hour_ascii (suc zero) = omega arith
hour_ascii (suc (suc zero)) = omega arith
hour_ascii (suc (suc (suc zero))) = omega arith
hour_ascii (suc (suc (suc (suc zero)))) = omega arith
hour_ascii (suc (suc (suc (suc (suc zero))))) = omega arith
hour_ascii (suc (suc (suc (suc (suc (suc zero)))))) = omega arith
hour_ascii (suc (suc (suc (suc (suc (suc (suc zero))))))) = omega arith
hour_ascii (suc (suc (suc (suc (suc (suc (suc (suc zero)))))))) = omega arith
hour_ascii (suc (suc (suc (suc (suc (suc (suc (suc (suc i))))))))) = omega arith

day_text : is_utf8 day_bytes ≡ true
day_text = is_utf8-from_IsUtf8 day_bytes (IsUtf8-from_ascii day_bytes day_ascii)

hour_text : is_utf8 hour_bytes ≡ true
hour_text = is_utf8-from_IsUtf8 hour_bytes (IsUtf8-from_ascii hour_bytes hour_ascii)

default_ok : (c : Criterion) → tested (pieces_of c None) ≡ true
default_ok criterion.Hourly = ap (λ t. t && true) hour_text
default_ok criterion.Daily = ap (λ t. t && true) day_text
default_ok (criterion.Weekly day) = ap (λ t. t && true) day_text
default_ok criterion.Monthly = ap (λ t. t && true) day_text
default_ok criterion.Yearly = ap (λ t. t && true) day_text
default_ok (criterion.Size n) = ap (λ t. t && true) day_text

format_ok : (dated : Bool) (c : Criterion) (o : Option (List Piece)) (at : Back) (serial : Bool) → or_none tested o ≡ true → or_none is_format (cond dated (Some (record { pieces = pieces_of c o; back = at; serial = serial })) None) ≡ true
format_ok false c o at serial h = refl
format_ok true c None at serial h = default_ok c
format_ok true c (Some ps) at serial h = h

rule_ok : (file : Path) (at : ℕ) (words : List (List ℕ)) (vs : List Set) → N words → Each S vs → meets_limits (rule_of file at words (fields_of vs)) ≡ true
rule_ok file at words vs n ok =
    and_from _ _ n
    (and_from _ _ (last_given S (λ c. is_criterion c ≡ true) criterion_set (criterion.Size 1048576) refl criterion_given vs ok)
    (and_from _ _ (last_given S (λ c. is_count c ≡ true) count_set (count.Keep 0) refl count_given vs ok)
    (and_from _ _ (last_given S (λ o. or_none is_small o ≡ true) maxage_set None refl maxage_given vs ok)
    (and_from _ _ (last_given S (λ o. or_none is_small o ≡ true) minage_set None refl minage_given vs ok)
    (and_from _ _ (last_given S (λ o. or_none is_size o ≡ true) minsize_set None refl minsize_given vs ok)
    (and_from _ _ (last_given S (λ o. or_none is_size o ≡ true) maxsize_set None refl maxsize_given vs ok)
    (and_from _ _ (last_given S (λ k. is_small k ≡ true) start_set 1 refl start_given vs ok)
    (and_from _ _ (last_given S (λ o. or_none is_extension o ≡ true) extension_set None refl extension_given vs ok)
    (and_from _ _ (last_given S (λ o. or_none is_extension o ≡ true) addextension_set None refl addextension_given vs ok)
    (and_from _ _ (last_given S (λ o. or_none is_olddir o ≡ true) olddir_set None refl olddir_given vs ok)
    (and_from _ _ (last_given S (λ m. is_make m ≡ true) createolddir_set make.No refl createolddir_given vs ok)
    (and_from _ _ (last_given S (λ m. is_make m ≡ true) create_set make.No refl create_given vs ok)
    (and_from _ _ (last_given S (λ o. or_none is_address o ≡ true) mail_set None refl mail_given vs ok)
    (format_ok (last_set dated_set false vs) (last_set criterion_set (criterion.Size 1048576) vs) (last_set pieces_set None vs) (last_set back_set back.Now vs) (last_set serial_set false vs)
    (last_given S (λ o. or_none tested o ≡ true) pieces_set None refl pieces_given vs ok)))))))))))))))

walk : Walk S N (λ r. meets_limits r ≡ true)
walk = record { line = λ inside i. line_ok (item_says inside i) (said_fine inside i); script = script_ok; more = more_ok; rule = rule_ok }

all_true : (rs : List Rule) → Each (λ r. meets_limits r ≡ true) rs → list_all meets_limits rs ≡ true
all_true [] a = refl
all_true (r ∷ rs) a = and_from (meets_limits r) (list_all meets_limits rs) a.0 (all_true rs a.1)

pub limits : (lines : List ConfLine) → list_all meets_limits (meaning false [] lines).rules ≡ true
limits lines = all_true (meaning false [] lines).rules (each_rule walk lines)

-- ---- drafts

-- whichever lines come, each rule meets its limits
abbrev pub Limited : Draft → Type 0
Limited d = (lines : List ConfLine) → list_all meets_limits (coming_from d lines).rules ≡ true

abbrev all_meet : Meaning → Bool
all_meet m = list_all meets_limits m.rules

pub from_new : (d : Draft) → ((lines : List ConfLine) → coming_from d lines ≡ meaning false [] lines) → Limited d
from_new d e lines = ap all_meet (e lines) ∙ limits lines

pub from_same : (old new : Draft) → ((lines : List ConfLine) → coming_from new lines ≡ coming_from old lines) → Limited old → Limited new
from_same old new e h lines = ap all_meet (e lines) ∙ h lines

pub behind_silent : (old new : Draft) (e : ConfLine) → ((lines : List ConfLine) → coming_from old (e ∷ lines) ≡ coming_from new lines) → Limited old → Limited new
behind_silent old new e is h lines = sym (ap all_meet (is lines)) ∙ h (e ∷ lines)

pub behind_told : (old new : Draft) (e : ConfLine) (faults : List Fault) → ((lines : List ConfLine) → coming_from old (e ∷ lines) ≡ (only_faults faults and coming_from new lines)) → Limited old → Limited new
behind_told old new e faults is h lines = sym (ap all_meet (is lines)) ∙ h (e ∷ lines)

pub behind_line : (old new : Draft) (file : Path) (e : ConfLine) (r : Result (Option Include) LayerStop) → TookIn old new file e r → Limited old → Limited new
behind_line old new file e (Ok i) is h = behind_silent old new e is h
behind_line old new file e (Err stop.Memory) is h = from_same old new is h
behind_line old new file e (Err (stop.Conf at k)) is h = behind_told old new e (layer_faults file (stop.Conf at k)) is h
behind_line old new file e (Err (stop.NoBraceAnd first at k)) is h = behind_told old new e (layer_faults file (stop.NoBraceAnd first at k)) is h
behind_line old new file e (Err (stop.NoBraceThen first i)) is h = behind_told old new e (layer_faults file (stop.NoBraceThen first i)) is h

-- what the end of a file answers
pub behind_end : (old new : Draft) (file : Path) (r : Option (ℕ × ConfKind))
    → MatchOption r ((lines : List ConfLine) → coming_from old (End file ∷ lines) ≡ coming_from new lines) (λ t. (lines : List ConfLine) → coming_from old (End file ∷ lines) ≡ (only_faults (conf file t.1 t.0 ∷ []) and coming_from new lines))
    → Limited old → Limited new
behind_end old new file None is h = behind_silent old new (End file) is h
behind_end old new file (Some t) is h = behind_told old new (End file) (conf file t.1 t.0 ∷ []) is h
