-- What a plan is told of ends no run, where the state's directory wasn't missed.
use Rattle.std.proofs.Common.{◌≡◌, ◌≢◌, ⊎_elim, inl, inr, Bool, true, false, List, [], ◌∷◌, ◌++◌, Some, refl, if◌then◌else◌}
use Rattle.std.specs.Prelude.{codes}
use Rattle.lr_rules.specs.declared.clock.Clock.{Clock}
use Rattle.lr_rules.specs.declared.fault.Fault.{Fault}
use Rattle.lr_rules.specs.declared.fault.Fault.TheVariants as fault
use Rattle.lr_rules.specs.declared.path.Path.{Path}
use Rattle.lr_rules.specs.declared.rule.Rule.{Rule}
use Rattle.lr_rules.specs.Names.{aside_path}
use Rattle.lr_rules.specs.Path.{parent_of}
use Rattle.lr_host.specs.declared.thing.Seen.{Seen}
use Rattle.lr_due.specs.declared.answer.Due.{Due}
use Rattle.lr_due.specs.declared.answer.Due.TheVariants as due
use Rattle.lr_host.specs.Lists.{IsIn}
use Rattle.lr_plan.specs.declared.looks.LogLook.{LogLook}
use Rattle.lr_plan.specs.declared.looks.SetLooks.{SetLooks}
use Rattle.lr_plan.specs.Planned.{makes_dir, empty_stand, stand_for, due_faults, where_due, log_faults, all_faults}
use Rattle.lr_laws_looks.proofs.Hindrances.{each_hindrance, faults_so}
use Rattle.lr_laws_plan.specs.Ending.{NoneEnds}
use Rattle.lr_laws_plan.proofs.Ends.{none_both}

-- ---- what hinders a log

-- a directory that is missing as the rotation begins was missing before
was_missing : (look : LogLook) (made : Bool) → (if made then empty_stand else look.stand).there ≡ false → look.stand.there ≡ false
was_missing look true is = absurd (cc)
was_missing look false is = is

-- It is nothing, a path that is too high or taken, or its family's directory, which a look missed; or another thing stands where it is set aside to; or it is taken up.
pub hindered_by : (P : List Fault → Type 0) (clock : Clock) (rule : Rule) (look : LogLook) → P [] → ((path : Path) → P (fault.TooHigh path ∷ [])) → ((path : Path) → P (fault.Taken path ∷ [])) → (look.stand.there ≡ false → P (fault.NoDir look.family.naming.dir ∷ [])) → ((seen : Seen) → look.tmp ≡ Some seen → P (fault.NotFile (aside_path look.path) ∷ [])) → P (fault.Unfinished look.path ∷ []) → P (due_faults clock rule look)
hindered_by P clock rule look none high had gone other again = faults_so P clock rule look none other again (each_hindrance P none high had look.family.naming rule.count clock (stand_for rule look) (λ there. gone (was_missing look (makes_dir rule look) there)))

-- ---- none of it ends a run

-- where another thing was seen at the path to which the log is set aside, that is none of the state's
abbrev pub IsOffState : Path → LogLook → Type 0
IsOffState state look = (seen : Seen) → look.tmp ≡ Some seen → (aside_path look.path ≢ state) × (aside_path look.path ≢ state ++ codes ".tmp")

-- so it is of all logs
abbrev pub AllOffState : Path → List SetLooks → Type 0
AllOffState state sets = (set : SetLooks) (look : LogLook) → IsIn set sets → IsIn look set.logs → IsOffState state look

-- the state's directory isn't one that a look at this log missed either
pub record IsNotMissed (state : Path) (look : LogLook) : Type 0 where
  pub dir : look.stand.there ≡ false → look.family.naming.dir ≡ parent_of state → ⊥
  pub beside : IsOffState state look

hindered_none : (state : Path) (clock : Clock) (rule : Rule) (look : LogLook) → IsNotMissed state look → NoneEnds state (due_faults clock rule look)
hindered_none state clock rule look h = hindered_by (NoneEnds state) clock rule look tt (λ path. ((λ e. e), tt)) (λ path. ((λ e. e), tt)) (λ there. (h.dir there, tt))
    (λ seen is. (⊎_elim (h.beside seen is).0 (h.beside seen is).1, tt)) ((λ e. e), tt)

due_none : (state : Path) (d : Due) (fs : List Fault) → NoneEnds state fs → NoneEnds state (where_due d fs)
due_none state (due.Yes why) fs h = h
due_none state (due.No why) fs h = tt

logs_none : (state : Path) (clock : Clock) (rule : Rule) (decide : LogLook → Due) (looks : List LogLook) → ((look : LogLook) → IsIn look looks → IsNotMissed state look) → NoneEnds state (log_faults clock rule decide looks)
logs_none state clock rule decide [] h = tt
logs_none state clock rule decide (l ∷ ls) h = none_both state (where_due (decide l) (due_faults clock rule l)) (log_faults clock rule decide ls)
    (due_none state (decide l) (due_faults clock rule l) (hindered_none state clock rule l (h l (inl refl)))) (logs_none state clock rule decide ls (λ look i. h look (inr i)))

-- so it is of all logs
abbrev pub NoneMissed : Path → List SetLooks → Type 0
NoneMissed state sets = (set : SetLooks) (look : LogLook) → IsIn set sets → IsIn look set.logs → IsNotMissed state look

pub plan_none : (state : Path) (clock : Clock) (decide : Rule → LogLook → Due) (rules : List Rule) (sets : List SetLooks) → NoneMissed state sets → NoneEnds state (all_faults clock decide rules sets)
plan_none state clock decide [] [] h = tt
plan_none state clock decide [] (s ∷ ss) h = tt
plan_none state clock decide (r ∷ rs) [] h = tt
plan_none state clock decide (r ∷ rs) (s ∷ ss) h = none_both state (log_faults clock r (decide r) s.logs) (all_faults clock decide rs ss)
    (logs_none state clock r (decide r) s.logs (λ look i. h s look (inl refl) i)) (plan_none state clock decide rs ss (λ set look at i. h set look (inr at) i))
