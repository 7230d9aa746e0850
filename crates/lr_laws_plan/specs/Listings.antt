-- How often a run may list a directory.
use Rattle.std.specs.Prelude.{ℕ, List, length, filter}
use Rattle.std.specs.List.{flat_map}
use Rattle.lr_rules.specs.declared.rule.Rule.{Rule}
use Rattle.lr_rules.specs.Match.{is_wildcard}

-- how many words of these rules are wildcards
abbrev pub wildcards_of : List Rule → ℕ
wildcards_of rules = length (filter is_wildcard (flat_map (λ r. r.words) rules))
