-- What holds of whatever a line says.
use Rattle.std.specs.Prelude.{◌≢◌, Bool, true, false, [], Some}
use Rattle.std.specs.List.{list_all}
use Rattle.lr_rules.specs.declared.rule.Back.TheVariants as back
use Rattle.lr_rules.specs.Limits.{is_small, is_size, is_count, is_criterion, is_make, is_extension, is_address, is_olddir}
use Rattle.lr_rules.specs.Limits.{is_format, is_log_word}
use Rattle.lr_forms.specs.declared.set.Set.{Set}
use Rattle.lr_forms.specs.declared.set.Set.TheVariants as set
use Rattle.lr_forms.specs.declared.said.LineSaid.{LineSaid}
use Rattle.lr_forms.specs.declared.said.LineSaid.TheVariants as says

-- the value meets the limit of a rule for its field
abbrev pub set_meets : Set → Bool
set_meets (set.Criterion c) = is_criterion c
set_meets (set.Count n) = is_count n
set_meets (set.MaxAge n) = is_small n
set_meets (set.MinAge n) = is_small n
set_meets (set.MinSize n) = is_size n
set_meets (set.MaxSize n) = is_size n
set_meets (set.Start n) = is_small n
set_meets (set.Extension ending) = is_extension ending
set_meets (set.AddExtension ending) = is_extension ending
set_meets (set.Olddir (Some dir)) = is_olddir dir
set_meets (set.CreateOlddir m) = is_make m
set_meets (set.Create m) = is_make m
set_meets (set.Mail (Some address)) = is_address address
set_meets (set.DateFormat pieces) = is_format (record { pieces = pieces; back = back.Now; serial = false })
set_meets v = true

-- what is set meets its limit, and names are names of logs
abbrev pub said_meets : LineSaid → Bool
said_meets (says.Sets v) = set_meets v
said_meets (says.OwnerPassed v) = set_meets v
said_meets (says.Names ws) = list_all is_log_word ws
said_meets s = true

-- where it names logs, it names one at least
abbrev pub NamesSome : LineSaid → Type 0
NamesSome (says.Names ws) = ws ≢ []
NamesSome s = Unit {0}
