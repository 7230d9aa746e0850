-- The logs of a plan are those that are due and that nothing hinders.
use Rattle.std.proofs.Common.{◌≡◌, List, [], ◌∷◌, ◌++◌, refl, ap, ◌∙◌, map}
use Rattle.std.proofs.lemmas.List.{map-append}
use Rattle.lr_rules.specs.declared.clock.Clock.{Clock}
use Rattle.lr_rules.specs.declared.fault.Fault.{Fault}
use Rattle.lr_rules.specs.declared.path.Path.{Path}
use Rattle.lr_rules.specs.declared.rule.Rule.{Rule}
use Rattle.lr_due.specs.declared.answer.Due.{Due}
use Rattle.lr_due.specs.declared.answer.Due.TheVariants as due
use Rattle.lr_state.specs.Table.{StateEntry as Row}
use Rattle.lr_chain.specs.declared.ready.Ready.{Ready}
use Rattle.lr_plan.specs.Asked.{Asked}
use Rattle.lr_plan.specs.declared.looks.LogLook.{LogLook}
use Rattle.lr_plan.specs.declared.looks.SetLooks.{SetLooks}
use Rattle.lr_plan.specs.declared.plan.LogPlan.{LogPlan}
use Rattle.lr_plan.specs.Planned.{decision, stand_for, standing, ready_for, job_by, aside_by, hindrances, log_plan, none_hinders, plans_of, where_due, log_plans, all_plans, plan_of}
use Rattle.lr_laws_rotations.specs.Target.{Target}
use Rattle.lr_laws_looks.specs.Planned.{target_in, targets_of_sets, targets_in}
use Rattle.lr_laws_looks.specs.Targets.{target_of, where_free, targets_of, all_targets}
use Rattle.lr_laws_looks.proofs.Ready.{bare_log}

module _ (clock : Clock) (mailer : Path) where
  -- the target of a look with this log and this rotation
  abbrev part : Rule → LogLook → Path → Ready → Target
  part rule look log ready = record {
    log = log;
    naming = look.family.naming;
    count = rule.count;
    maxage = rule.maxage;
    stand = stand_for rule look;
    ready = ready;
    job = job_by rule.way (standing rule look) (ready_for clock rule look).target;
    aside = aside_by rule.way look.path look.tmp;
  }

  -- a log
  same_log : (rule : Rule) (look : LogLook) → target_in (log_plan clock mailer rule look) ≡ target_of clock rule look
  same_log rule look = ap (part rule look look.path) (bare_log clock rule look mailer)

  same_free : (fs : List Fault) (rule : Rule) (look : LogLook) → map target_in (none_hinders fs (log_plan clock mailer rule look ∷ [])) ≡ where_free fs (target_of clock rule look)
  same_free [] rule look = ap (λ (t : Target). t ∷ []) (same_log rule look)
  same_free (f ∷ fs) rule look = refl

  same_where : (d : Due) (xs : List LogPlan) (ts : List Target) → map target_in xs ≡ ts → map target_in (where_due d xs) ≡ where_due d ts
  same_where (due.Yes why) xs ts is = is
  same_where (due.No why) xs ts is = refl

  -- a definition
  same_logs : (rule : Rule) (decide : LogLook → Due) (looks : List LogLook) → map target_in (log_plans clock mailer rule decide looks) ≡ targets_of clock rule decide looks
  same_logs rule decide [] = refl
  same_logs rule decide (look ∷ looks) =
      map-append target_in (where_due (decide look) (plans_of clock mailer rule look)) (log_plans clock mailer rule decide looks)
      ∙ ap (λ (ts : List Target). ts ++ map target_in (log_plans clock mailer rule decide looks))
      (same_where (decide look) (plans_of clock mailer rule look) (where_free (hindrances clock rule look) (target_of clock rule look)) (same_free (hindrances clock rule look) rule look))
      ∙ ap (λ (ts : List Target). where_due (decide look) (where_free (hindrances clock rule look) (target_of clock rule look)) ++ ts) (same_logs rule decide looks)

  -- all of them
  pub same_sets : (decide : Rule → LogLook → Due) (rules : List Rule) (sets : List SetLooks) → targets_of_sets (all_plans clock mailer decide rules sets) ≡ all_targets clock decide rules sets
  same_sets decide [] [] = refl
  same_sets decide [] (set ∷ sets) = refl
  same_sets decide (rule ∷ rules) [] = refl
  same_sets decide (rule ∷ rules) (set ∷ sets) =
      ap (λ (ts : List Target). ts ++ targets_of_sets (all_plans clock mailer decide rules sets)) (same_logs rule (decide rule) set.logs)
      ∙ ap (λ (ts : List Target). targets_of clock rule (decide rule) set.logs ++ ts) (same_sets decide rules sets)

pub plan_targets : (rules : List Rule) (sets : List SetLooks) (table : List Row) (clock : Clock) (asked : Asked)
    → targets_in (plan_of rules sets table clock asked) ≡ all_targets clock (decision table clock.now asked.force) rules sets
plan_targets rules sets table clock asked = same_sets clock asked.mailer (decision table clock.now asked.force) rules sets
