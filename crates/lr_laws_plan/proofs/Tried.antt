-- A dry run that came to its plan has no fault that ends such a run; the last fault of one that didn't says why.
use Rattle.std.proofs.Common.{◌≡◌, ◌⊎◌, inl, inr, ⊎_elim, List, [], ◌∷◌, ◌++◌, Option, Some, None, refl, sym, ap, ◌∙◌, subst}
use Rattle.lr_rules.specs.declared.clock.Clock.{Clock}
use Rattle.lr_rules.specs.declared.fault.CallKind.TheVariants as call
use Rattle.lr_rules.specs.declared.fault.Fault.{Fault}
use Rattle.lr_rules.specs.declared.fault.Fault.TheVariants as fault
use Rattle.lr_rules.specs.declared.fault.StateKind.TheVariants as kind
use Rattle.lr_rules.specs.declared.path.Path.{Path}
use Rattle.lr_rules.specs.declared.rule.Rule.{Rule}
use Rattle.lr_rules.specs.declared.rules.Rules.{Rules}
use Rattle.lr_rules.specs.Path.{parent_of}
use Rattle.lr_due.specs.declared.answer.Due.{Due}
use Rattle.lr_due.specs.declared.answer.Due.TheVariants as due
use Rattle.lr_host.specs.declared.entry.Entry.{Entry}
use Rattle.lr_host.specs.Lists.{IsIn}
use Rattle.lr_state.specs.Table.{StateEntry as Row}
use Rattle.lr_looks.specs.Found.{paths_of}
use Rattle.lr_plan.specs.Asked.{Asked}
use Rattle.lr_plan.specs.declared.looks.LogLook.{LogLook}
use Rattle.lr_plan.specs.declared.looks.SetLooks.{SetLooks}
use Rattle.lr_plan.specs.declared.plan.Plan.{Plan}
use Rattle.lr_plan.specs.Planned.{due_faults, where_due, log_faults, all_faults, decision}
use Rattle.lr_run.specs.InternalDry.{PlanFollows, Plans, PlansBy, unknown, known, Tries, unseen, not_directory, by_none, by_state}
use Rattle.lr_laws_plan.specs.Ending.{EndsRun, NoneEnds}
use Rattle.lr_laws_plan.specs.Tried.{EndsTry, NoneEndsTry, MayEndTry, SaysWhyTry}
use Rattle.lr_laws_plan.proofs.Known.{state_why}
use Rattle.lr_laws_plan.proofs.Looked.{looks_none, all_off}
use Rattle.lr_laws_plan.proofs.ReachedPlanned.{IsOffState, AllOffState, hindered_by}

-- ---- faults

-- what ends a dry run ends a run
try_run : (state : Path) (f : Fault) → EndsTry state f → EndsRun state f
try_run state (fault.NoDir path) e = absurd e
try_run state fault.Clock e = e
try_run state (fault.Zone why) e = e
try_run state (fault.State line why) e = e
try_run state (fault.NotFile path) e = e
try_run state (fault.Call k path) e = e
try_run state (fault.Conf file line why) e = e
try_run state (fault.Missing word) e = e
try_run state (fault.Duplicate path) e = e
try_run state (fault.Overlap path by) e = e
try_run state (fault.Taken path) e = e
try_run state (fault.Unfinished path) e = e
try_run state (fault.TooHigh path) e = e
try_run state (fault.LongName word) e = e
try_run state (fault.TooMany word) e = e
try_run state (fault.TooLong path) e = e
try_run state (fault.Script phase on end) e = e
try_run state fault.Out e = e

-- what ends a run ends a dry one, or may
run_try : (state : Path) (f : Fault) → EndsRun state f → EndsTry state f ⊎ MayEndTry state f
run_try state (fault.NoDir path) e = inr (inr (ap fault.NoDir e))
run_try state fault.Clock e = inl e
run_try state (fault.Zone why) e = inl e
run_try state (fault.State line why) e = inl e
run_try state (fault.NotFile path) e = inl e
run_try state (fault.Call k path) e = inl e
run_try state (fault.Conf file line why) e = inl e
run_try state (fault.Missing word) e = inl e
run_try state (fault.Duplicate path) e = inl e
run_try state (fault.Overlap path by) e = inl e
run_try state (fault.Taken path) e = inl e
run_try state (fault.Unfinished path) e = inl e
run_try state (fault.TooHigh path) e = inl e
run_try state (fault.LongName word) e = inl e
run_try state (fault.TooMany word) e = inl e
run_try state (fault.TooLong path) e = inl e
run_try state (fault.Script phase on end) e = inl e
run_try state fault.Out e = inl e

pub none_try : (state : Path) (fs : List Fault) → NoneEnds state fs → NoneEndsTry state fs
none_try state [] h = tt
none_try state (f ∷ fs) h = ((λ e. h.0 (try_run state f e)), none_try state fs h.1)

pub try_both : (state : Path) (xs ys : List Fault) → NoneEndsTry state xs → NoneEndsTry state ys → NoneEndsTry state (xs ++ ys)
try_both state [] ys a b = b
try_both state (x ∷ xs) ys a b = (a.0, try_both state xs ys a.1 b)

-- ---- those of a plan

hindered_try : (state : Path) (clock : Clock) (rule : Rule) (look : LogLook) → IsOffState state look → NoneEndsTry state (due_faults clock rule look)
hindered_try state clock rule look beside = hindered_by (NoneEndsTry state) clock rule look tt (λ path. ((λ e. e), tt)) (λ path. ((λ e. e), tt)) (λ there. ((λ e. e), tt))
    (λ seen is. (⊎_elim (beside seen is).0 (beside seen is).1, tt)) ((λ e. e), tt)

due_try : (state : Path) (d : Due) (fs : List Fault) → NoneEndsTry state fs → NoneEndsTry state (where_due d fs)
due_try state (due.Yes why) fs h = h
due_try state (due.No why) fs h = tt

logs_try : (state : Path) (clock : Clock) (rule : Rule) (decide : LogLook → Due) (looks : List LogLook) → ((look : LogLook) → IsIn look looks → IsOffState state look) → NoneEndsTry state (log_faults clock rule decide looks)
logs_try state clock rule decide [] off = tt
logs_try state clock rule decide (l ∷ ls) off = try_both state (where_due (decide l) (due_faults clock rule l)) (log_faults clock rule decide ls)
    (due_try state (decide l) (due_faults clock rule l) (hindered_try state clock rule l (off l (inl refl)))) (logs_try state clock rule decide ls (λ look i. off look (inr i)))

plan_try : (state : Path) (clock : Clock) (decide : Rule → LogLook → Due) (rules : List Rule) (sets : List SetLooks) → AllOffState state sets → NoneEndsTry state (all_faults clock decide rules sets)
plan_try state clock decide [] [] off = tt
plan_try state clock decide [] (s ∷ ss) off = tt
plan_try state clock decide (r ∷ rs) [] off = tt
plan_try state clock decide (r ∷ rs) (s ∷ ss) off = try_both state (log_faults clock r (decide r) s.logs) (all_faults clock decide rs ss)
    (logs_try state clock r (decide r) s.logs (λ look i. off s look (inl refl) i)) (plan_try state clock decide rs ss (λ set look at i. off set look (inr at) i))

-- ---- the run

-- there is none
abbrev IsNone : Option Plan → Type 0
IsNone plan = plan ≡ None

follows_try : (state : Path) (rules : List Rule) (sets : List SetLooks) (kept : List Path) (table : List Row) (clock : Clock) (asked : Asked) (plan : Option Plan) (own : List Fault) → AllOffState state sets → PlanFollows rules sets kept table clock asked plan own → (IsNone plan → ⊥) → NoneEndsTry state own
follows_try state rules sets kept table clock asked (Some p) own off f some = subst (NoneEndsTry state) (sym (f.2 ∙ ap (λ (q : Plan). q.faults) f.1)) (plan_try state clock (decision table clock.now asked.force) rules sets off)
follows_try state rules sets kept table clock asked None own off f some = absurd (some refl)

plans_try : (state : Path) (rules : Rules) (table : List Row) (clock : Clock) (asked : Asked) (plan : Option Plan) (own : List Fault) (ts : List Entry) → Plans state rules.sets table clock asked plan own ts → (IsNone plan → ⊥) → NoneEndsTry state own
plans_try state rules table clock asked plan own ts p some = subst (NoneEndsTry state) (sym p.faults_are)
    (try_both state p.of_looks p.of_plan (none_try state p.of_looks (looks_none state rules.sets p.sets p.of_looks ts p.shown)) (follows_try state rules.sets p.sets (paths_of p.shown.kept) table clock asked plan p.of_plan (all_off state rules.sets p.sets p.of_looks ts p.shown) p.follows some))

pub reached_try : (state : Path) (clock : Clock) (asked : Asked) (rules : Rules) (plan : Option Plan) (own : List Fault) (ts : List Entry) → Tries state rules.sets clock asked plan own ts → (IsNone plan → ⊥) → NoneEndsTry state own
reached_try state clock asked rules plan own ts (unseen lost is none) some = absurd (some lost)
reached_try state clock asked rules plan own ts (not_directory lost is s) some = absurd (some lost)
reached_try state clock asked rules plan own ts (by_none t) some = plans_try state rules [] clock asked plan own t.back t.second some
reached_try state clock asked rules plan own ts (by_state t) some = go t.second
  where
    go : PlansBy state rules.sets clock asked plan own t.back → NoneEndsTry state own
    go (unknown sights f k lost is s) = absurd (some lost)
    go (known sights remembered k u) = plans_try state rules remembered.table clock asked plan own u.back u.second some

-- why it ended
plans_why : (state : Path) (rules : List Rule) (table : List Row) (clock : Clock) (asked : Asked) (plan : Option Plan) (own : List Fault) (ts : List Entry) → Plans state rules table clock asked plan own ts → IsNone plan → SaysWhyTry state own
plans_why state rules table clock asked plan own ts p none = record {
  before = p.of_looks;
  last = fault.State 0 kind.TooBig;
  own_are = p.faults_are ∙ ap (λ fs. p.of_looks ++ fs) (subst (λ (q : Option Plan). PlanFollows rules p.sets (paths_of p.shown.kept) table clock asked q p.of_plan) none p.follows).1;
  ends = inl tt;
}

pub ended_try : (state : Path) (clock : Clock) (asked : Asked) (rules : Rules) (plan : Option Plan) (own : List Fault) (ts : List Entry) → Tries state rules.sets clock asked plan own ts → IsNone plan → SaysWhyTry state own
ended_try state clock asked rules plan own ts (unseen lost is none) h = record { before = []; last = fault.Call call.Look (parent_of state); own_are = is; ends = inr (inl (inl (parent_of state, inl refl, refl))) }
ended_try state clock asked rules plan own ts (not_directory lost is s) h = record { before = []; last = fault.NoDir (parent_of state); own_are = is; ends = inr (inr refl) }
ended_try state clock asked rules plan own ts (by_none t) h = plans_why state rules.sets [] clock asked plan own t.back t.second h
ended_try state clock asked rules plan own ts (by_state t) h = go t.second
  where
    go : PlansBy state rules.sets clock asked plan own t.back → SaysWhyTry state own
    go (unknown sights f k lost is s) = record { before = []; last = f; own_are = is; ends = ⊎_elim (λ ends. run_try state f ends) (λ may. inr (inl may.0)) (state_why state 65_536 sights f t.back k s) }
    go (known sights remembered k u) = plans_why state rules.sets remembered.table clock asked plan own u.back u.second h
