-- Of a plan each log with dated members gets the name of the clock's moment, with the serial number that comes next.
use Rattle.std.proofs.Common.{◌≡◌, Bool, true, false, cond, List, [], ◌∷◌, Some, Result, Ok, Err, refl, sym, ap, ◌∙◌, subst}
use Rattle.std.specs.Prelude.{All, IfOk}
use Rattle.std.proofs.lemmas.List.Elements.{All-append, All-cons, All-nil, All-head, All-tail}
use Rattle.lr_rules.specs.declared.clock.Clock.{Clock}
use Rattle.lr_rules.specs.declared.fault.Fault.{Fault}
use Rattle.lr_rules.specs.declared.path.Path.{Path}
use Rattle.lr_rules.specs.declared.rule.Format.{Format}
use Rattle.lr_rules.specs.declared.rule.Naming.{Naming}
use Rattle.lr_rules.specs.declared.rule.Rule.{Rule}
use Rattle.lr_rules.specs.Dated.{IsDatedAt}
use Rattle.lr_stamps.specs.Dated.{clock_seconds}
use Rattle.lr_due.specs.declared.answer.Due.{Due}
use Rattle.lr_due.specs.declared.answer.Due.TheVariants as due
use Rattle.lr_state.specs.Table.{StateEntry as Row}
use Rattle.lr_family.specs.declared.stand.Member.{Member}
use Rattle.lr_family.specs.declared.stand.Stand.{Stand}
use Rattle.lr_family.specs.Places.{IsPlaceOf, AreNamed}
use Rattle.lr_chain.specs.declared.ready.Ready.{Ready}
use Rattle.lr_chain.specs.DatedReady.{dated_target}
use Rattle.lr_chain.specs.Serials.{next_serial}
use Rattle.lr_chain.proofs.Either.{ready_dates, target_at}
use Rattle.lr_plan.specs.declared.looks.LogLook.{LogLook}
use Rattle.lr_plan.specs.declared.looks.SetLooks.{SetLooks}
use Rattle.lr_plan.specs.declared.plan.LogPlan.{LogPlan}
use Rattle.lr_plan.specs.declared.plan.Plan.{Plan}
use Rattle.lr_plan.specs.declared.plan.SetPlan.{SetPlan}
use Rattle.lr_plan.specs.Asked.{Asked, asking}
use Rattle.lr_plan.specs.Planned.{makes_dir, empty_stand, stand_for, first_path, make_for, hindrances, ready_for, log_plan, none_hinders, plans_of, where_due, log_plans, set_plan, all_plans, decision, plan_of, CanPlan, CanPlanAll}
use Rattle.lr_laws_looks.proofs.Hindrances.{free_of_members}
use Rattle.lr_audited.specs.declared.line.WhyGone.{WhyGone}
use Rattle.lr_audited.specs.Audits.{going_of}
use Rattle.lr_audited.specs.Removed.{removed_by, IsStamped, AreStamped}

pub named_for : (n : Naming) (made : Bool) (stand : Stand) → AreNamed n stand.members → AreNamed n (cond made empty_stand stand).members
named_for n true stand named = All-nil (λ (m : Member). IsPlaceOf n m.place m.path)
named_for n false stand named = named

-- ---- what holds of the plan of each look holds of all logs of a plan

module _ (P : LogPlan → Type 0) (clock : Clock) (mailer : Path) (own : (rule : Rule) (look : LogLook) → CanPlan look → hindrances clock rule look ≡ [] → P (log_plan clock mailer rule look)) where
  abbrev AllSo : SetPlan → Type 0
  AllSo set = All P set.logs

  one_so : (rule : Rule) (look : LogLook) → CanPlan look → (fs : List Fault) → hindrances clock rule look ≡ fs → All P (none_hinders fs (log_plan clock mailer rule look ∷ []))
  one_so rule look can [] e = All-cons P (log_plan clock mailer rule look) [] (own rule look can e) (All-nil P)
  one_so rule look can (f ∷ fs) e = All-nil P

  due_so : (d : Due) (logs : List LogPlan) → All P logs → All P (where_due d logs)
  due_so (due.Yes why) logs h = h
  due_so (due.No why) logs h = All-nil P

  logs_so : (rule : Rule) (decide : LogLook → Due) (looks : List LogLook) → All CanPlan looks → All P (log_plans clock mailer rule decide looks)
  logs_so rule decide [] can = All-nil P
  logs_so rule decide (look ∷ looks) can = All-append P (where_due (decide look) (plans_of clock mailer rule look)) (log_plans clock mailer rule decide looks)
      (due_so (decide look) (plans_of clock mailer rule look) (one_so rule look (All-head CanPlan look looks can) (hindrances clock rule look) refl))
      (logs_so rule decide looks (All-tail CanPlan look looks can))

  pub sets_so : (decide : Rule → LogLook → Due) (rules : List Rule) (sets : List SetLooks) → CanPlanAll rules sets → All (λ (set : SetPlan). All P set.logs) (all_plans clock mailer decide rules sets)
  sets_so decide [] [] can = All-nil AllSo
  sets_so decide [] (set ∷ sets) can = All-nil AllSo
  sets_so decide (rule ∷ rules) [] can = All-nil AllSo
  sets_so decide (rule ∷ rules) (set ∷ sets) can =
      All-cons AllSo (set_plan rule (log_plans clock mailer rule (decide rule) set.logs)) (all_plans clock mailer decide rules sets) (logs_so rule (decide rule) set.logs can.0.each) (sets_so decide rules sets can.1)

-- ---- the name of the log

log_stamped : (clock : Clock) (mailer : Path) (rule : Rule) (look : LogLook) → CanPlan look → hindrances clock rule look ≡ [] → IsStamped clock (log_plan clock mailer rule look)
log_stamped clock mailer rule look can free = record { format = can.members.format; stamped = λ f dated. stamped f dated }
  where
    n : Naming
    n = look.family.naming

    stand : Stand
    stand = stand_for rule look

    target : (f : Format) → n.dated ≡ Some f → (ready_for clock rule look).target ≡ dated_target n clock stand.members
    target f dated = ap (λ (r : Ready). r.target) (ready_dates (first_path rule.way look.path look.tmp) n rule.count rule.maxage clock (make_for rule look) stand.members f dated)

    stamped : (f : Format) → n.dated ≡ Some f → IsDatedAt n (clock_seconds n.dated clock) (next_serial stand.members (clock_seconds n.dated clock)) (ready_for clock rule look).target
    stamped f dated = subst (IsDatedAt n (clock_seconds n.dated clock) (next_serial stand.members (clock_seconds n.dated clock))) (sym (target f dated))
        (target_at n rule.count clock stand (free_of_members clock rule look free) f dated can.members.format (named_for n (makes_dir rule look) look.stand can.members.named))

pub stamped_for : (rules : List Rule) (sets : List SetLooks) (table : List Row) (clock : Clock) (asked : Asked) (plan : Plan) (given : List SetPlan) → plan ≡ plan_of rules sets table clock asked → given ≡ plan.sets → CanPlanAll rules sets → AreStamped clock given
stamped_for rules sets table clock asked plan given is same can =
    subst (AreStamped clock) (sym (same ∙ ap (λ (p : Plan). p.sets) is)) (sets_so (IsStamped clock) clock asked.mailer (log_stamped clock asked.mailer) (decision table clock.now asked.force) rules sets can)

-- what it removes
pub going_is : {E : Type 0} (r : Result (List (Path × WhyGone)) E) (rules : List Rule) (sets : List SetLooks) (table : List Row) (clock : Clock) (force : Bool) (mailer : Path) (plan : Plan) (given : List SetPlan) → plan ≡ plan_of rules sets table clock (asking force mailer) → given ≡ plan.sets → table ≡ [] → force ≡ true
    → IfOk r (λ going. going ≡ removed_by clock given) → IfOk r (λ going. going ≡ going_of rules sets clock mailer)
going_is (Err e) rules sets table clock force mailer plan given is same empty forced h = tt
going_is (Ok going) rules sets table clock force mailer plan given is same empty forced h =
    h ∙ ap (removed_by clock) (same ∙ (ap (λ (p : Plan). p.sets) is ∙ (ap (λ (t : List Row). (plan_of rules sets t clock (asking force mailer)).sets) empty ∙ ap (λ (b : Bool). (plan_of rules sets [] clock (asking b mailer)).sets) forced)))
