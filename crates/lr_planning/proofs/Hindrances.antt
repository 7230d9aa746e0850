-- What is planned of one log, and of all.
use Rattle.std.proofs.Common.{◌≡◌, ◌<◌, ◌+◌, ℕ, zero, suc, List, [], ◌∷◌, ◌++◌, length, take, get_or, Result, Ok, Err, refl, sym, ap, ◌∙◌, subst, arith, append_assoc}
use Rattle.std.specs.Prelude.{OnOk}
use Rattle.std.proofs.lemmas.List.{append-nil}
use Rattle.lr_rules.specs.declared.path.Path.{Path}
use Rattle.lr_rules.specs.declared.clock.Clock.{Clock}
use Rattle.lr_rules.specs.declared.fault.Fault.{Fault}
use Rattle.lr_rules.specs.declared.fault.Fault.TheVariants as fault
use Rattle.lr_rules.specs.declared.rule.Rule.{Rule}
use Rattle.lr_due.specs.declared.answer.Due.{Due}
use Rattle.lr_chain.specs.declared.ready.Ready.{Ready}
use Rattle.lr_chain.specs.declared.ready.PrepareStop.{PrepareStop}
use Rattle.lr_chain.specs.declared.ready.PrepareStop.TheVariants as prepare
use Rattle.lr_chain.specs.Ready.{with_dir}
use Rattle.lr_chain.specs.Hindrances.{IsHindered}
use Rattle.lr_plan.specs.declared.looks.LogLook.{LogLook}
use Rattle.lr_plan.specs.declared.looks.SetLooks.{SetLooks}
use Rattle.lr_planning.specs.Hindered.{prepare_fault}
use Rattle.lr_plan.specs.Planned.{hindrances, aside_hinders, first_path, with_log, dir_of, standing, ready_for, plan_with, log_plan, none_hinders, plans_of, decisions_of, log_plans, log_faults, set_plan, all_decisions, all_plans, all_faults, CanPlanSet, CanPlanAll}

-- where a call went well, what follows from what it ensures
pub where_ok : {T E P Q : Type 0} (r : Result T E) → OnOk r P → (P → Q) → OnOk r Q
where_ok (Ok t) p f = f p
where_ok (Err e) p f = tt

-- ---- the plan of one log

pub plans_there : (clock : Clock) (mailer : Path) (rule : Rule) (look : LogLook) (ready : Ready) → with_dir (dir_of rule look) (with_log (first_path rule.way look.path look.tmp) ready) ≡ ready_for clock rule look → hindrances clock rule look ≡ aside_hinders rule.way look.path look.tmp
    → none_hinders (aside_hinders rule.way look.path look.tmp) (plan_with mailer rule (standing rule look) (with_dir (dir_of rule look) (with_log (first_path rule.way look.path look.tmp) ready)) ∷ []) ≡ plans_of clock mailer rule look
plans_there clock mailer rule look ready is h =
    ap (λ (r : Ready). none_hinders (aside_hinders rule.way look.path look.tmp) (plan_with mailer rule (standing rule look) r ∷ [])) is ∙ ap (λ (fs : List Fault). none_hinders fs (log_plan clock mailer rule look ∷ [])) (sym h)

pub plans_none : (clock : Clock) (mailer : Path) (rule : Rule) (look : LogLook) (f : Fault) → hindrances clock rule look ≡ f ∷ [] → plans_of clock mailer rule look ≡ []
plans_none clock mailer rule look f h = ap (λ (fs : List Fault). none_hinders fs (log_plan clock mailer rule look ∷ [])) h

-- the fault that is told is what hinders
pub fault_hinders : (faults : List Fault) (stop : PrepareStop) (f : Fault) → IsHindered faults stop → Ok f ≡ prepare_fault stop → faults ≡ f ∷ []
fault_hinders faults (prepare.Taken path) f h is = h ∙ (let same : f ≡ fault.Taken path = cc in ap (λ (x : Fault). x ∷ []) (sym same))
fault_hinders faults (prepare.NoDir path) f h is = h ∙ (let same : f ≡ fault.NoDir path = cc in ap (λ (x : Fault). x ∷ []) (sym same))
fault_hinders faults (prepare.TooHigh path) f h is = h ∙ (let same : f ≡ fault.TooHigh path = cc in ap (λ (x : Fault). x ∷ []) (sym same))
fault_hinders faults prepare.Memory f h is = absurd (cc)

-- ---- all definitions

-- at each place a rule has its looks
pub can_at : (rules : List Rule) (sets : List SetLooks) (at : ℕ) (rule : Rule) (set : SetLooks) → CanPlanAll rules sets → at < length rules → rule ≡ get_or rules at rule → set ≡ get_or sets at set → CanPlanSet rule set.logs
can_at [] [] at rule set can lt e f = absurd (omega arith)
can_at [] (s ∷ sets) at rule set can lt e f = absurd can
can_at (r ∷ rules) [] at rule set can lt e f = absurd can
can_at (r ∷ rules) (s ∷ sets) zero rule set can lt e f = subst (λ (q : Rule). CanPlanSet q set.logs) (sym e) (subst (λ (x : SetLooks). CanPlanSet r x.logs) (sym f) can.0)
can_at (r ∷ rules) (s ∷ sets) (suc at) rule set can lt e f = can_at rules sets at rule set can.1 (omega arith) e f

pub as_many : (rules : List Rule) (sets : List SetLooks) → CanPlanAll rules sets → length sets ≡ length rules
as_many [] [] can = refl
as_many [] (s ∷ sets) can = absurd can
as_many (r ∷ rules) [] can = absurd can
as_many (r ∷ rules) (s ∷ sets) can = ap suc (as_many rules sets can.1)

-- one definition more
decisions_step : (decide : Rule → LogLook → Due) (rules : List Rule) (sets : List SetLooks) (at : ℕ) (rule : Rule) (set : SetLooks) → at < length rules → length sets ≡ length rules → rule ≡ get_or rules at rule → set ≡ get_or sets at set
    → all_decisions decide (take (suc at) rules) (take (suc at) sets) ≡ all_decisions decide (take at rules) (take at sets) ++ decisions_of (decide rule) set.logs
decisions_step decide [] sets at rule set lt same e f = absurd (omega arith)
decisions_step decide (r ∷ rules) [] at rule set lt same e f = absurd (omega (arith, same))
decisions_step decide (r ∷ rules) (s ∷ sets) zero rule set lt same e f =
    append-nil (decisions_of (decide r) s.logs) ∙ (ap (λ (q : Rule). decisions_of (decide q) s.logs) (sym e) ∙ ap (λ (x : SetLooks). decisions_of (decide rule) x.logs) (sym f))
decisions_step decide (r ∷ rules) (s ∷ sets) (suc at) rule set lt same e f =
    ap (λ xs. decisions_of (decide r) s.logs ++ xs) (decisions_step decide rules sets at rule set (omega arith) (omega (arith, same)) e f)
    ∙ sym (append_assoc (decisions_of (decide r) s.logs) (all_decisions decide (take at rules) (take at sets)) (decisions_of (decide rule) set.logs))

plans_step : (clock : Clock) (mailer : Path) (decide : Rule → LogLook → Due) (rules : List Rule) (sets : List SetLooks) (at : ℕ) (rule : Rule) (set : SetLooks) → at < length rules → length sets ≡ length rules → rule ≡ get_or rules at rule → set ≡ get_or sets at set
    → all_plans clock mailer decide (take (suc at) rules) (take (suc at) sets) ≡ all_plans clock mailer decide (take at rules) (take at sets) ++ set_plan rule (log_plans clock mailer rule (decide rule) set.logs) ∷ []
plans_step clock mailer decide [] sets at rule set lt same e f = absurd (omega arith)
plans_step clock mailer decide (r ∷ rules) [] at rule set lt same e f = absurd (omega (arith, same))
plans_step clock mailer decide (r ∷ rules) (s ∷ sets) zero rule set lt same e f =
    ap (λ (q : Rule). set_plan q (log_plans clock mailer q (decide q) s.logs) ∷ []) (sym e) ∙ ap (λ (x : SetLooks). set_plan rule (log_plans clock mailer rule (decide rule) x.logs) ∷ []) (sym f)
plans_step clock mailer decide (r ∷ rules) (s ∷ sets) (suc at) rule set lt same e f =
    ap (λ xs. set_plan r (log_plans clock mailer r (decide r) s.logs) ∷ xs) (plans_step clock mailer decide rules sets at rule set (omega arith) (omega (arith, same)) e f)

faults_step : (clock : Clock) (decide : Rule → LogLook → Due) (rules : List Rule) (sets : List SetLooks) (at : ℕ) (rule : Rule) (set : SetLooks) → at < length rules → length sets ≡ length rules → rule ≡ get_or rules at rule → set ≡ get_or sets at set
    → all_faults clock decide (take (suc at) rules) (take (suc at) sets) ≡ all_faults clock decide (take at rules) (take at sets) ++ log_faults clock rule (decide rule) set.logs
faults_step clock decide [] sets at rule set lt same e f = absurd (omega arith)
faults_step clock decide (r ∷ rules) [] at rule set lt same e f = absurd (omega (arith, same))
faults_step clock decide (r ∷ rules) (s ∷ sets) zero rule set lt same e f =
    append-nil (log_faults clock r (decide r) s.logs) ∙ (ap (λ (q : Rule). log_faults clock q (decide q) s.logs) (sym e) ∙ ap (λ (x : SetLooks). log_faults clock rule (decide rule) x.logs) (sym f))
faults_step clock decide (r ∷ rules) (s ∷ sets) (suc at) rule set lt same e f =
    ap (λ xs. log_faults clock r (decide r) s.logs ++ xs) (faults_step clock decide rules sets at rule set (omega arith) (omega (arith, same)) e f)
    ∙ sym (append_assoc (log_faults clock r (decide r) s.logs) (all_faults clock decide (take at rules) (take at sets)) (log_faults clock rule (decide rule) set.logs))

next_is : (at : ℕ) → suc at ≡ at + 1
next_is at = omega arith

pub decisions_more : (decide : Rule → LogLook → Due) (rules : List Rule) (sets : List SetLooks) (at : ℕ) (rule : Rule) (set : SetLooks) → at < length rules → length sets ≡ length rules → rule ≡ get_or rules at rule → set ≡ get_or sets at set
    → all_decisions decide (take (at + 1) rules) (take (at + 1) sets) ≡ all_decisions decide (take at rules) (take at sets) ++ decisions_of (decide rule) set.logs
decisions_more decide rules sets at rule set lt same e f =
    subst (λ k. all_decisions decide (take k rules) (take k sets) ≡ all_decisions decide (take at rules) (take at sets) ++ decisions_of (decide rule) set.logs) (next_is at) (decisions_step decide rules sets at rule set lt same e f)

pub plans_more : (clock : Clock) (mailer : Path) (decide : Rule → LogLook → Due) (rules : List Rule) (sets : List SetLooks) (at : ℕ) (rule : Rule) (set : SetLooks) → at < length rules → length sets ≡ length rules → rule ≡ get_or rules at rule → set ≡ get_or sets at set
    → all_plans clock mailer decide (take (at + 1) rules) (take (at + 1) sets) ≡ all_plans clock mailer decide (take at rules) (take at sets) ++ set_plan rule (log_plans clock mailer rule (decide rule) set.logs) ∷ []
plans_more clock mailer decide rules sets at rule set lt same e f =
    subst (λ k. all_plans clock mailer decide (take k rules) (take k sets) ≡ all_plans clock mailer decide (take at rules) (take at sets) ++ set_plan rule (log_plans clock mailer rule (decide rule) set.logs) ∷ []) (next_is at) (plans_step clock mailer decide rules sets at rule set lt same e f)

pub faults_more : (clock : Clock) (decide : Rule → LogLook → Due) (rules : List Rule) (sets : List SetLooks) (at : ℕ) (rule : Rule) (set : SetLooks) → at < length rules → length sets ≡ length rules → rule ≡ get_or rules at rule → set ≡ get_or sets at set
    → all_faults clock decide (take (at + 1) rules) (take (at + 1) sets) ≡ all_faults clock decide (take at rules) (take at sets) ++ log_faults clock rule (decide rule) set.logs
faults_more clock decide rules sets at rule set lt same e f =
    subst (λ k. all_faults clock decide (take k rules) (take k sets) ≡ all_faults clock decide (take at rules) (take at sets) ++ log_faults clock rule (decide rule) set.logs) (next_is at) (faults_step clock decide rules sets at rule set lt same e f)

-- what was there, and so much more
pub grown : {A : Type 0} (start now next more before after : List A) → now ≡ start ++ before → next ≡ now ++ more → after ≡ before ++ more → next ≡ start ++ after
grown start now next more before after a b c = b ∙ (ap (λ xs. xs ++ more) a ∙ (append_assoc start before more ∙ ap (λ xs. start ++ xs) (sym c)))
