-- Which zone the variable TZ asks for.
use Rattle.std.specs.Prelude.{◌==◌, ℕ, List, [], ◌∷◌, Option, Some, None, codes, if◌then◌else◌}
use Rattle.std.specs.Str.{bytes_eq}
use Rattle.lr_rules.specs.Path.{path_fault}
use Rattle.lr_rules.specs.declared.path.PathFault.{PathFault}
use Rattle.lr_due.specs.declared.tz.Zone.{Zone}
use Rattle.lr_due.specs.declared.tz.Zone.TheVariants.{Utc, Rule, File}

-- the value without one colon in front
abbrev pub without_colon : List ℕ → List ℕ
without_colon [] = []
without_colon (b ∷ bs) = if b == 58 then bs else b ∷ bs

-- nothing and `UTC` ask for UTC, what begins with a slash for a file, any other for a rule
abbrev pub zone_asked : List ℕ → Zone
zone_asked [] = Utc
zone_asked (b ∷ bs) =
    if b == 47 then File (b ∷ bs)
    else if bytes_eq (b ∷ bs) (codes "UTC") then Utc
    else Rule (b ∷ bs)

-- the zone that a value asks for; no value asks for UTC
abbrev pub zone_value : Option (List ℕ) → Zone
zone_value None = Utc
zone_value (Some value) = zone_asked (without_colon value)

-- the refusal of its path
abbrev pub zone_fault : Zone → Option PathFault
zone_fault (File path) = path_fault path
zone_fault _ = None
