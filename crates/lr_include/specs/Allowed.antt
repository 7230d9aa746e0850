-- Which faults a reading tells.
use Rattle.std.specs.Prelude.{◌≡◌, ◌+◌, ℕ, Bool, true, List, [], ◌∷◌, Option, Some, None}
use Rattle.lr_rules.specs.declared.fault.CallKind.TheVariants as call
use Rattle.lr_rules.specs.declared.fault.Fault.{Fault}
use Rattle.lr_rules.specs.declared.fault.Fault.TheVariants as fault
use Rattle.lr_include.specs.declared.visit.Visit.{Visit}
use Rattle.lr_include.specs.declared.visit.Visit.TheVariants as visit
use Rattle.lr_include.specs.declared.part.TextEnd.{TextEnd}
use Rattle.lr_include.specs.declared.part.TextEnd.TheVariants as end
use Rattle.lr_include.specs.Visits.{HasFailed}

-- a fault of a file or of a line of it, or, where there may be any, a failed call: a look, a listing or a read
abbrev pub IsAllowed : Bool → Fault → Type 0
IsAllowed calls (fault.Conf file line kind) = Unit {0}
IsAllowed calls (fault.Call call.Look path) = calls ≡ true
IsAllowed calls (fault.Call call.List path) = calls ≡ true
IsAllowed calls (fault.Call call.Read path) = calls ≡ true
IsAllowed calls f = ⊥

-- the visit has a failed call only where there may be any
abbrev pub IsAllowedVisit : Bool → Visit → Type 0
IsAllowedVisit calls v = HasFailed v → calls ≡ true

abbrev pub AreAllowedVisits : Bool → List (Option Visit) → Type 0
AreAllowedVisits calls [] = Unit {0}
AreAllowedVisits calls (Some v ∷ vs) = IsAllowedVisit calls v × AreAllowedVisits calls vs
AreAllowedVisits calls (None ∷ vs) = Unit {0} × AreAllowedVisits calls vs

-- ---- how many failed

abbrev pub failed_read : TextEnd → ℕ
failed_read end.Failed = 1
failed_read how = 0

abbrev pub failed_visit : Visit → ℕ
failed_visit visit.Unseen = 1
failed_visit visit.Unlisted = 1
failed_visit (visit.Reads told size how) = failed_read how
failed_visit v = 0

-- how many of the visits have a failed call
abbrev pub failed_in : List (Option Visit) → ℕ
failed_in [] = 0
failed_in (Some v ∷ vs) = failed_visit v + failed_in vs
failed_in (None ∷ vs) = failed_in vs
