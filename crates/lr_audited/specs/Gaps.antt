-- The places between members at which none stands.
use Rattle.std.specs.Prelude.{ℕ, suc, ◌-◌, List, [], ◌∷◌, ◌++◌, map, take, Option, Some, None}
use Rattle.std.specs.List.{flat_map, range_with_len}
use Rattle.lr_rules.specs.declared.path.Path.{Path}
use Rattle.lr_rules.specs.declared.rule.Format.{Format}
use Rattle.lr_family.specs.declared.stand.Member.{Member}
use Rattle.lr_family.specs.Stands.{number_in}
use Rattle.lr_plan.specs.declared.looks.LogLook.{LogLook}
use Rattle.lr_plan.specs.declared.looks.SetLooks.{SetLooks}

-- from this place on, before the members, the newest of them first, and between each and the next
abbrev pub places_between : ℕ → List Member → List ℕ
places_between from [] = []
places_between from (m ∷ ms) = range_with_len from (number_in m.place - from) ++ places_between (suc (number_in m.place)) ms

-- dated members have no places of that kind
abbrev pub free_places : Option Format → List Member → List ℕ
free_places None members = places_between 0 members
free_places (Some format) members = []

abbrev pub gap_at : Path → ℕ → Path × ℕ
gap_at log place = (log, place)

-- of a log the first 1,000
abbrev pub log_gaps : LogLook → List (Path × ℕ)
log_gaps look = map (gap_at look.path) (take 1000 (free_places look.family.naming.dated look.stand.members))

abbrev pub set_gaps : SetLooks → List (Path × ℕ)
set_gaps set = flat_map log_gaps set.logs

abbrev pub gaps_of : List SetLooks → List (Path × ℕ)
gaps_of sets = flat_map set_gaps sets
