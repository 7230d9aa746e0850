-- Which scripts a definition takes.
use Rattle.std.specs.Prelude.{Bool, true, false, List, Option, Some, None, if◌then◌else◌}
use Rattle.std.specs.List.{list_any}
use Rattle.lr_rules.specs.declared.fault.ConfKind.{ConfKind}
use Rattle.lr_rules.specs.declared.fault.ConfKind.TheVariants as kind
use Rattle.lr_rules.specs.declared.fault.Phase.{Phase}
use Rattle.lr_rules.specs.declared.fault.Phase.TheVariants as phase

abbrev pub is_phase : Phase → Phase → Bool
is_phase phase.First phase.First = true
is_phase phase.Pre phase.Pre = true
is_phase phase.Post phase.Post = true
is_phase phase.Last phase.Last = true
is_phase phase.Preremove phase.Preremove = true
is_phase phase.Mail phase.Mail = true
is_phase p q = false

-- the first fault of a script that applies, where these stand before it in its definition
abbrev pub script_fault : List Phase → Phase → Bool → Option ConfKind
script_fault earlier p stray =
    if list_any (is_phase p) earlier then Some kind.ScriptTwice
    else if stray then Some kind.Stray
    else None
