-- The words of rules, and the logs that they give.
use Rattle.std.specs.Prelude.{◌≡◌, ◌+◌, ℕ, Bool, true, List, [], ◌∷◌, ◌++◌, map, All, IsUtf8}
use Rattle.lr_rules.specs.declared.path.Path.{Path}
use Rattle.lr_rules.specs.declared.rule.Naming.{Naming}
use Rattle.lr_rules.specs.declared.rule.Rule.{Rule}
use Rattle.lr_rules.specs.Limits.{meets_limits}
use Rattle.lr_rules.specs.Match.{is_wildcard}
use Rattle.lr_rules.specs.Names.{naming_of}

-- A word of a rule: the place of the rule among the rules, the rule, and the word.
pub record AskedWord : Type 0 where
  pub set : ℕ
  pub rule : Rule
  pub text : List ℕ

abbrev pub word_of : ℕ → Rule → List ℕ → AskedWord
word_of set rule text = record { set = set; rule = rule; text = text }

-- those of one rule, in order
abbrev pub rule_words : ℕ → Rule → List AskedWord
rule_words set rule = map (word_of set rule) rule.words

-- those of all, in order of the rules, of which the first has this place
abbrev pub words_from : ℕ → List Rule → List AskedWord
words_from set [] = []
words_from set (rule ∷ rules) = rule_words set rule ++ words_from (set + 1) rules

abbrev pub asked_by : List Rule → List AskedWord
asked_by rules = words_from 0 rules

-- each of them is a text
abbrev pub AreTexts : List AskedWord → Type 0
AreTexts [] = Unit {0}
AreTexts (w ∷ ws) = IsUtf8 w.text × AreTexts ws

-- A log that a word gives: the place of its rule, its path and the names of its members; whether it is passed over silently where a
-- later word finds it again; whether the word is a wildcard.
pub record Log : Type 0 where
  pub set : ℕ
  pub path : Path
  pub naming : Naming
  pub ignore : Bool
  pub wild : Bool

abbrev pub log_at : AskedWord → Path → Log
log_at w path = record {
  set = w.set;
  path = path;
  naming = naming_of w.rule path;
  ignore = w.rule.ignore_duplicates;
  wild = is_wildcard w.text;
}

-- ---- what is asked of the rules

-- The rule is within its limits.
abbrev pub CanAsk : Rule → Type 0
CanAsk rule = meets_limits rule ≡ true

abbrev pub CanAskAll : List Rule → Type 0
CanAskAll rules = All CanAsk rules
