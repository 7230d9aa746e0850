-- Why a run may rotate its logs: the words of its rules.
use Rattle.std.specs.Prelude.{◌≡◌, ℕ, List, Contains}
use Rattle.lr_rules.specs.declared.rule.Rule.{Rule}
use Rattle.lr_rules.specs.Match.{WordGives}
use Rattle.lr_rules.specs.Names.{naming_of}
use Rattle.lr_host.specs.Lists.{IsIn}
use Rattle.lr_plan.specs.declared.plan.Plan.{Plan}
use Rattle.lr_laws_rotations.specs.Target.{Target, GoesBy}
use Rattle.lr_laws_looks.specs.Planned.{targets_in}

-- A word of one of the rules gives the log, with this naming, count and age, and the log goes by the rule's way.
pub record IsGivenBy (rules : List Rule) (t : Target) : Type 0 where
  pub rule : Rule
  pub word : List ℕ
  pub among : Contains rules rule
  pub has : Contains rule.words word
  pub gives : WordGives word t.log
  pub naming_is : naming_of rule t.log ≡ t.naming
  pub count_is : rule.count ≡ t.count
  pub maxage_is : rule.maxage ≡ t.maxage
  pub way_is : GoesBy rule.way t

-- so is each log of this plan
abbrev pub AreGivenBy : List Rule → Plan → Type 0
AreGivenBy rules plan = (t : Target) → IsIn t (targets_in plan) → IsGivenBy rules t
