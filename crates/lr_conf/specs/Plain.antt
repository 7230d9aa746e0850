-- What holds of each rule of a configuration.
use Rattle.std.specs.Prelude.{◌≡◌, ◌≢◌, ℕ, true, List, [], All}
use Rattle.lr_rules.specs.declared.rule.Rule.{Rule}
use Rattle.lr_rules.specs.Limits.{is_log_word, IsCount}

-- a literal name of a log, or a pattern, within its limits
abbrev pub IsRuleWord : List ℕ → Type 0
IsRuleWord word = is_log_word word ≡ true

-- it has a word at least, and its words and its count are within their limits
pub record IsPlainRule (r : Rule) : Type 0 where
  pub named : r.words ≢ []
  pub words : All IsRuleWord r.words
  pub count : IsCount r.count
