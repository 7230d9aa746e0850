-- What the calls of a run ask of rules.
use Rattle.std.proofs.Common.{◌≡◌, true, List, [], ◌∷◌, length, All, arith, rules}
use Rattle.std.specs.List.{list_all}
use Rattle.std.proofs.lemmas.Bool.{and_parts}
use Rattle.std.proofs.lemmas.List.Elements.{All-cons}
use Rattle.lr_rules.specs.declared.rule.Rule.{Rule}
use Rattle.lr_rules.specs.Limits.{is_log_word, is_criterion, is_count, meets_limits, IsCount}
use Rattle.lr_rules.proofs.Counts.{count_small}
use Rattle.lr_plan.specs.declared.looks.LogLook.{LogLook}
use Rattle.lr_plan.specs.declared.looks.SetLooks.{SetLooks}
use Rattle.lr_plan.specs.Planned.{CanPlan, CanPlanSet, CanPlanAll}
use Rattle.lr_looks.specs.Asked.{CanAsk, CanAskAll}
use Rattle.lr_looks.specs.Ready.{AreReady}

-- its logs can be asked for
pub asks_all : (rules : List Rule) → list_all meets_limits rules ≡ true → CanAskAll rules
asks_all [] limits = none
  where
    none : All CanAsk []
    none = search rules
asks_all (x ∷ xs) limits =
    let both = and_parts (meets_limits x) (list_all meets_limits xs) limits in
    All-cons CanAsk x xs both.0 (asks_all xs both.1)

-- a rule within its limits has a count that a rotation can have
small_count : (rule : Rule) → meets_limits rule ≡ true → IsCount rule.count
small_count rule h =
    let behind_words = (and_parts (list_all is_log_word rule.words) _ h).1 in
    let behind_criterion = (and_parts (is_criterion rule.criterion) _ behind_words).1 in
    count_small rule.count (and_parts (is_count rule.count) _ behind_criterion).0

-- its logs can be planned for
pub can_plan_set : (rule : Rule) (looks : List LogLook) → meets_limits rule ≡ true → All CanPlan looks → CanPlanSet rule looks
can_plan_set rule looks limits each = record { count = small_count rule limits; each = each }

pub can_plan : (rules : List Rule) (sets : List SetLooks) → list_all meets_limits rules ≡ true → AreReady sets → length sets ≡ length rules → CanPlanAll rules sets
can_plan [] [] limits r e = record {}
can_plan [] (s ∷ ss) limits r e = absurd (omega (arith, e))
can_plan (x ∷ xs) [] limits r e = absurd (omega (arith, e))
can_plan (x ∷ xs) (s ∷ ss) limits r e =
    let both = and_parts (meets_limits x) (list_all meets_limits xs) limits in
    (can_plan_set x s.logs both.0 r.0, can_plan xs ss both.1 r.1 (omega (arith, e)))
