-- The logs that were looked at whole, definition by definition, as the plan has them.
use Rattle.std.specs.Prelude.{◌≡◌, ◌+◌, ℕ, List, [], ◌∷◌, map, eqb, if◌then◌else◌}
use Rattle.std.specs.List.{flat_map}
use Rattle.lr_plan.specs.declared.looks.LogLook.{LogLook}
use Rattle.lr_plan.specs.declared.looks.SetLooks.{SetLooks}
use Rattle.lr_looks.specs.Families.{LookedLog}

-- the log, where it is one of the definition at this place
abbrev pub where_in : ℕ → LookedLog → List LookedLog
where_in set l = if eqb set l.set then l ∷ [] else []

-- those of the definition at this place
abbrev pub of_set : ℕ → List LookedLog → List LookedLog
of_set set logs = flat_map (where_in set) logs

-- a log of the definition at this place, as the plan has it
abbrev pub looked_in : ℕ → LogLook → LookedLog
looked_in set look = record {
  set = set;
  path = look.path;
  naming = look.family.naming;
  seen = look.seen;
  stand = look.stand;
  tmp = look.tmp;
}

-- Each definition has its logs, in order; the first of the definitions has this place.
abbrev pub HaveLooksFrom : ℕ → List LookedLog → List SetLooks → Type 0
HaveLooksFrom set logs [] = Unit {0}
HaveLooksFrom set logs (looks ∷ sets) = (map (looked_in set) looks.logs ≡ of_set set logs) × HaveLooksFrom (set + 1) logs sets

abbrev pub HaveLooks : List LookedLog → List SetLooks → Type 0
HaveLooks logs sets = HaveLooksFrom 0 logs sets
