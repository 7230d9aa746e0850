-- The first definition that gives a log.
use Rattle.std.specs.Prelude.{◌≡◌, ◌<◌, ℕ, List, [], ◌∷◌, length, get_or, chars, true, Option, Some, None}
use Rattle.lr_rules.specs.declared.path.Path.{Path}
use Rattle.lr_rules.specs.declared.rule.Rule.{Rule}
use Rattle.lr_rules.specs.Match.{Matches, RuleGives}
use Rattle.lr_rules.specs.Names.{naming_of}
use Rattle.lr_family.specs.declared.family.Family.{Family}
use Rattle.lr_laws_family.specs.Members.{IsFamily}

-- each part of a pattern matches the name at its place, and there are as many
abbrev pub AreMatched : List (List ℕ) → List (List ℕ) → Type 0
AreMatched [] [] = Unit {0}
AreMatched (part ∷ parts) (name ∷ names) = Matches true (chars part) (chars name) × AreMatched parts names
AreMatched _ _ = ⊥

-- this definition stands at this place
abbrev pub IsRuleAt : List Rule → ℕ → Rule → Type 0
IsRuleAt rules place rule = (place < length rules) × (get_or rules place rule ≡ rule)

-- none before this place gives the log
abbrev pub GivesNoneBefore : ℕ → List Rule → Path → Type 0
GivesNoneBefore place rules log = (k : ℕ) (rule : Rule) → k < place → IsRuleAt rules k rule → RuleGives rule log → ⊥

abbrev pub GivesNone : List Rule → Path → Type 0
GivesNone rules log = GivesNoneBefore (length rules) rules log

-- The definition gives it, and none before it does.
pub record IsFirst (rules : List Rule) (log : Path) (rule : Rule) : Type 0 where
  pub place : ℕ
  pub there : IsRuleAt rules place rule
  pub none_before : GivesNoneBefore place rules log
  pub gives : RuleGives rule log

-- what was found: the family by the first definition that gives the log, or none
abbrev pub IsFound : List Rule → Path → Option Family → Type 0
IsFound rules log None = GivesNone rules log
IsFound rules log (Some family) = (rule : Rule) × IsFirst rules log rule × (family.log ≡ log) × (family.naming ≡ naming_of rule log)
    × IsFamily log (naming_of rule log)
