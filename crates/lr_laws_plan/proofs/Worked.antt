-- No fault of a run that came to its plan is one that ends a run.
use Rattle.std.proofs.Common.{◌≡◌, inr, true, List, [], ◌∷◌, ◌++◌, None, reverse, sym, ap, ◌∙◌, subst, append_assoc}
use Rattle.std.specs.List.{list_all}
use Rattle.lr_rules.specs.declared.clock.Clock.{Clock}
use Rattle.lr_rules.specs.declared.fault.Fault.{Fault}
use Rattle.lr_rules.specs.declared.path.Path.{Path}
use Rattle.lr_rules.specs.declared.rule.Rule.{Rule}
use Rattle.lr_rules.specs.declared.rules.Rules.{Rules}
use Rattle.lr_rules.specs.Limits.{meets_limits}
use Rattle.lr_rules.specs.Path.{parent_of}
use Rattle.lr_host.specs.declared.entry.Entry.{Entry}
use Rattle.lr_host.specs.declared.entry.Entry.TheVariants as entry
use Rattle.lr_host.specs.Looks.{Sees, IsDir}
use Rattle.lr_host.specs.Quiet.{ChangeNothing}
use Rattle.lr_host.specs.Told.{Made}
use Rattle.lr_host.specs.World.{Past}
use Rattle.lr_host.proofs.Lists.{in_back}
use Rattle.lr_host.proofs.Quiet.{quiet_still, quiet_both}
use Rattle.lr_plan.specs.Asked.{Asked}
use Rattle.lr_plan.specs.Planned.{decision}
use Rattle.lr_state.proofs.Quiet.{state_quiet}
use Rattle.lr_laws_looks.proofs.Quiet.{whole_quiet}
use Rattle.lr_run.specs.InternalRuns.{Worked, plan_in}
use Rattle.lr_laws_plan.specs.Ending.{NoneEnds}
use Rattle.lr_laws_plan.proofs.ReachedActs.{acts_none}
use Rattle.lr_laws_plan.proofs.Ends.{none_both}
use Rattle.lr_laws_plan.proofs.Gone.{IsGone}
use Rattle.lr_laws_plan.proofs.Looked.{none_missed, all_aside, looks_none}
use Rattle.lr_laws_plan.proofs.ReachedPlanned.{plan_none}
use Rattle.lr_laws_plan.proofs.Standing.{still_there}
use Rattle.lr_laws_plan.proofs.Written.{written_none}

-- where no look missed the state's directory
worked_none : (state : Path) (rules : List Rule) (clock : Clock) (asked : Asked) (own : List Fault) (ts : List Entry) → list_all meets_limits rules ≡ true → (w : Worked state rules clock asked own ts) → (IsGone w.looked.looks (parent_of state) → ⊥) → NoneEnds state own
worked_none state rules clock asked own ts limits w stands = subst (NoneEnds state) (sym w.acted.faults_are)
    (none_both state w.looked.of_looks _ (looks_none state rules w.looked.sets w.looked.of_looks w.looked.looks w.looked.shown)
    (none_both state (plan_in state rules ts w.looked clock asked).faults w.acted.of_acts
    (plan_none state clock (decision w.looked.remembered.table clock.now asked.force) rules w.looked.sets (none_missed state rules w.looked.sets w.looked.of_looks w.looked.looks w.looked.shown stands))
    (subst (NoneEnds state) (sym w.acted.entries.faults_are) (none_both state w.acted.entries.of_plan w.acted.entries.of_state
    (acts_none state rules w.looked.sets clock asked.mailer (decision w.looked.remembered.table clock.now asked.force) w.acted.marks w.acted.entries.of_plan w.acted.entries.entries.front
    (all_aside state rules w.looked.sets w.looked.of_looks w.looked.looks w.looked.shown) w.acted.entries.entries.first)
    (written_none state w.looked.remembered.stale w.acted.dirs _ w.acted.entries.of_state w.acted.entries.entries.back w.acted.entries.entries.second)))))

-- none did, since it was seen before the run began
stands : (state : Path) (clock : Clock) (rules : Rules) (asked : Asked) (own : List Fault) (p q : Past) (ts before between : List Entry) → ts ≡ before ++ (entry.Starts state clock.now rules ∷ (between ++ entry.Ends ∷ [])) → Sees (parent_of state) IsDir before → Made p (reverse ts) q
    → (w : Worked state rules.sets clock asked own between) → IsGone w.looked.looks (parent_of state) → ⊥
stands state clock rules asked own p q ts before between entries directory made w gone = still_there p q (parent_of state) ts before still (w.looked.acts ++ entry.Ends ∷ []) parts made directory quiet
    (inr (in_back (entry.Look (parent_of state) None) w.looked.reads w.looked.looks gone))
  where
    still : List Entry
    still = entry.Starts state clock.now rules ∷ (w.looked.reads ++ w.looked.looks)

    joined : between ++ entry.Ends ∷ [] ≡ (w.looked.reads ++ w.looked.looks) ++ (w.looked.acts ++ entry.Ends ∷ [])
    joined =
        ap (λ es. es ++ entry.Ends ∷ []) (w.looked.joined ∙ sym (append_assoc w.looked.reads w.looked.looks w.looked.acts))
        ∙ append_assoc (w.looked.reads ++ w.looked.looks) w.looked.acts (entry.Ends ∷ [])

    parts : ts ≡ before ++ (still ++ (w.looked.acts ++ entry.Ends ∷ []))
    parts = entries ∙ ap (λ es. before ++ (entry.Starts state clock.now rules ∷ es)) joined

    quiet : ChangeNothing still
    quiet = quiet_still (w.looked.reads ++ w.looked.looks) (quiet_both w.looked.reads w.looked.looks (state_quiet state 65_536 w.looked.sights w.looked.reads w.looked.read) (whole_quiet rules.sets w.looked.sets w.looked.of_looks w.looked.looks w.looked.shown))

pub none_ends : (state : Path) (clock : Clock) (rules : Rules) (asked : Asked) (own : List Fault) (p q : Past) (ts before between : List Entry) → ts ≡ before ++ (entry.Starts state clock.now rules ∷ (between ++ entry.Ends ∷ []))
    → Sees (parent_of state) IsDir before → Made p (reverse ts) q → Worked state rules.sets clock asked own between → NoneEnds state own
none_ends state clock rules asked own p q ts before between entries directory made w = worked_none state rules.sets clock asked own between rules.limits w (stands state clock rules asked own p q ts before between entries directory made w)
