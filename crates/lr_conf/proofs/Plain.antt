-- Each rule has a word at least, and its words and its count are within their limits.
use Rattle.std.proofs.Common.{◌≡◌, ℕ, Bool, true, false, List, [], ◌∷◌, ◌++◌, Option, Some, None, refl, arith}
use Rattle.std.specs.Prelude.{◌≢◌, All}
use Rattle.std.specs.List.{AllByRecursion as Each, list_all}
use Rattle.std.proofs.lemmas.Bool.{and_parts}
use Rattle.std.proofs.lemmas.List.Elements.{All-from_recursion}
use Rattle.lr_rules.specs.declared.path.Path.{Path}
use Rattle.lr_rules.specs.declared.fault.ConfKind.{ConfKind}
use Rattle.lr_rules.specs.declared.fault.Phase.{Phase}
use Rattle.lr_rules.specs.declared.rule.Count.{Count}
use Rattle.lr_rules.specs.declared.rule.Count.TheVariants as count
use Rattle.lr_rules.specs.declared.rule.Rule.{Rule}
use Rattle.lr_rules.specs.Limits.{is_log_word, IsCount}
use Rattle.lr_rules.proofs.Counts.{count_small}
use Rattle.lr_forms.specs.declared.set.Set.{Set}
use Rattle.lr_forms.specs.declared.set.Set.TheVariants as set
use Rattle.lr_forms.specs.declared.said.LineSaid.{LineSaid}
use Rattle.lr_forms.specs.declared.said.LineSaid.TheVariants as says
use Rattle.lr_forms.specs.Says.{item_says}
use Rattle.lr_forms.specs.Limits.{set_meets, said_meets, NamesSome}
use Rattle.lr_forms.proofs.Limits.{said_fine}
use Rattle.lr_forms.proofs.Naming.{said_some}
use Rattle.lr_conf.specs.Fields.{fields_of, count_set}
use Rattle.lr_conf.specs.Rules.{rule_of}
use Rattle.lr_conf.specs.Scripts.{script_fault}
use Rattle.lr_conf.specs.Meaning.{ConfLine, script_sets, meaning}
use Rattle.lr_conf.specs.Plain.{IsRuleWord, IsPlainRule}
use Rattle.lr_conf.proofs.Each.{append, Given}
use Rattle.lr_conf.proofs.Walk.{OkSaid, Walk, each_rule, last_given}

-- ---- lines

-- what a line sets is within its limit
abbrev S : Set → Type 0
S v = set_meets v ≡ true

-- a word at least, and each within its limits
abbrev N : List (List ℕ) → Type 0
N ws = (ws ≢ []) × Each IsRuleWord ws

each_word : (ws : List (List ℕ)) → list_all is_log_word ws ≡ true → Each IsRuleWord ws
each_word [] h = tt
each_word (w ∷ ws) h = let both = and_parts (is_log_word w) (list_all is_log_word ws) h in (both.0, each_word ws both.1)

line_ok : (v : LineSaid) → NamesSome v → said_meets v ≡ true → OkSaid S N v
line_ok (says.Sets v) some fine = fine
line_ok (says.OwnerPassed v) some fine = fine
line_ok (says.Names ws) some fine = (some, each_word ws fine)
line_ok v some fine = tt

script_ok : (earlier : List Phase) (p : Phase) (text : List ℕ) (stray : Bool) → OkSaid S N (script_sets (script_fault earlier p stray) p text)
script_ok earlier p text stray = by (script_fault earlier p stray)
  where
    by : (o : Option ConfKind) → OkSaid S N (script_sets o p text)
    by None = refl
    by (Some k) = tt

more_front : (xs ys : List (List ℕ)) → (xs ≢ []) → (xs ++ ys) ≢ []
more_front [] ys some = absurd (some refl)
more_front (x ∷ xs) ys some = λ none. absurd (cc)

more_ok : (xs ys : List (List ℕ)) → N xs → N ys → N (xs ++ ys)
more_ok xs ys x y = (more_front xs ys x.0, append IsRuleWord xs ys x.1 y.1)

-- ---- fields

count_given : (v : Set) → S v → Given IsCount (count_set v)
count_given (set.Count c) ok = count_small c ok
count_given v ok = tt

rule_ok : (file : Path) (at : ℕ) (words : List (List ℕ)) (vs : List Set) → N words → Each S vs → IsPlainRule (rule_of file at words (fields_of vs))
rule_ok file at words vs n ok = record {
  named = n.0;
  words = All-from_recursion IsRuleWord words n.1;
  count = last_given S IsCount count_set (count.Keep 0) (omega arith) count_given vs ok;
}

-- what holds of each rule where it follows from what lines set
walk : (R : Rule → Type 0) → ((file : Path) (at : ℕ) (words : List (List ℕ)) (vs : List Set) → N words → Each S vs → R (rule_of file at words (fields_of vs))) → Walk S N R
walk R rule = record {
  line = λ inside i. line_ok (item_says inside i) (said_some inside i) (said_fine inside i);
  script = script_ok;
  more = more_ok;
  rule = rule;
}

pub all_plain : (lines : List ConfLine) → All IsPlainRule (meaning false [] lines).rules
all_plain lines = All-from_recursion IsPlainRule (meaning false [] lines).rules (each_rule (walk IsPlainRule rule_ok) lines)
