-- For proofs: what a dry run shows, by cases: what was known of the state, what its looks came to, and the plan that follows from
-- them, which isn't carried out.
use Rattle.std.specs.Prelude.{◌≡◌, ◌<◌, ◌≤◌, List, [], ◌∷◌, ◌++◌, length, Option, Some, None, Ok, Err}
use Rattle.lr_rules.specs.declared.path.Path.{Path}
use Rattle.lr_rules.specs.declared.clock.Clock.{Clock}
use Rattle.lr_rules.specs.declared.rule.Rule.{Rule}
use Rattle.lr_rules.specs.declared.fault.CallKind.TheVariants as call
use Rattle.lr_rules.specs.declared.fault.Fault.{Fault}
use Rattle.lr_rules.specs.declared.fault.Fault.TheVariants as fault
use Rattle.lr_rules.specs.declared.fault.StateKind.TheVariants as kind
use Rattle.lr_rules.specs.Path.{parent_of}
use Rattle.lr_host.specs.declared.entry.Entry.{Entry}
use Rattle.lr_host.specs.Told.{Then}
use Rattle.lr_host.specs.Looks.{Sees, IsDir, IsNoDir, IsNothing}
use Rattle.lr_state.specs.Table.{StateEntry as Row}
use Rattle.lr_plan.specs.Asked.{Asked}
use Rattle.lr_plan.specs.declared.looks.SetLooks.{SetLooks}
use Rattle.lr_plan.specs.declared.plan.Plan.{Plan}
use Rattle.lr_plan.specs.Planned.{plan_of}
use Rattle.lr_looks.specs.Found.{paths_of}
use Rattle.lr_looks.specs.Shown.{ShowsLooks, ShowsSomeLooks}
use Rattle.lr_state.specs.declared.remembered.Remembered.{Remembered}
use Rattle.lr_state.specs.Known.{IsKnown}
use Rattle.lr_state.specs.Sights.{StateSights, ShowsState}
use Rattle.lr_looks.specs.Reserved.{reserved_by}
use Rattle.lr_run.specs.Halt.{SomeSeen}
use Rattle.lr_run.specs.Paths.{measured_of}

-- ---- the plan

-- What follows from these looks, where these logs are kept and the state has this table: the plan, with its own faults; or none,
-- where the text of the state could become too big, and that is the fault.
abbrev pub PlanFollows : List Rule → List SetLooks → List Path → List Row → Clock → Asked → Option Plan → List Fault → Type 0
PlanFollows rules sets kept table clock asked (Some plan) faults =
    (length (measured_of plan table kept clock.now.civil) ≤ 67_108_864) × (plan ≡ plan_of rules sets table clock asked)
    × (faults ≡ plan.faults)
PlanFollows rules sets kept table clock asked None faults = (67_108_864 < length
    (measured_of (plan_of rules sets table clock asked) table kept clock.now.civil)) × (faults ≡ fault.State 0 kind.TooBig ∷ [])

-- The logs were looked at, and what follows from that and from this table is planned. The faults are those of the looks and of the
-- plan, in this order.
pub record Plans (state : Path) (rules : List Rule) (table : List Row) (clock : Clock) (asked : Asked) (plan : Option Plan)
    (faults : List Fault) (ts : List Entry) : Type 0 where
  pub sets : List SetLooks
  pub of_looks : List Fault
  pub of_plan : List Fault
  pub faults_are : faults ≡ of_looks ++ of_plan
  pub shown : ShowsLooks (reserved_by state) rules sets of_looks ts
  pub follows : PlanFollows rules sets (paths_of shown.kept) table clock asked plan of_plan

-- ---- the run

-- Behind the look at the state's directory: nothing is known of the state, with the one fault of that; or it is planned by the
-- table that was read.
pub data PlansBy (state : Path) (rules : List Rule) (clock : Clock) (asked : Asked) (plan : Option Plan) (faults : List Fault)
    (ts : List Entry) : Type 0 where
  unknown : (sights : StateSights) (f : Fault) → IsKnown state sights (Err f) → plan ≡ None → faults ≡ f ∷ []
      → ShowsState state 65_536 sights ts → PlansBy state rules clock asked plan faults ts
  known : (sights : StateSights) (remembered : Remembered) → IsKnown state sights (Ok remembered)
      → Then (ShowsState state 65_536 sights) (Plans state rules remembered.table clock asked plan faults) ts
      → PlansBy state rules clock asked plan faults ts

-- A dry run with these faults of its own, that came to this plan: the look at the state's directory failed, or saw another kind of
-- thing; or it saw nothing, so the table is empty; or it saw the directory.
pub data Tries (state : Path) (rules : List Rule) (clock : Clock) (asked : Asked) (plan : Option Plan) (faults : List Fault)
    (ts : List Entry) : Type 0 where
  unseen : plan ≡ None → faults ≡ fault.Call call.Look (parent_of state) ∷ [] → ts ≡ []
      → Tries state rules clock asked plan faults ts
  not_directory : plan ≡ None → faults ≡ fault.NoDir (parent_of state) ∷ [] → Sees (parent_of state) IsNoDir ts
      → Tries state rules clock asked plan faults ts
  by_none : Then (Sees (parent_of state) IsNothing) (Plans state rules [] clock asked plan faults) ts
      → Tries state rules clock asked plan faults ts
  by_state : Then (Sees (parent_of state) IsDir) (PlansBy state rules clock asked plan faults) ts
      → Tries state rules clock asked plan faults ts

-- There was no memory: before the first call, or behind a first part of what is seen.
pub data LacksTry (state : Path) (rules : List Rule) (ts : List Entry) : Type 0 where
  before_all : ts ≡ [] → LacksTry state rules ts
  amid_looks : Then (Sees (parent_of state) IsNothing) (ShowsSomeLooks (reserved_by state) rules) ts → LacksTry state rules ts
  amid_state : Then (Sees (parent_of state) IsDir) (SomeSeen state rules) ts → LacksTry state rules ts
