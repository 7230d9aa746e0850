-- For proofs: what a run leaves, by its answer and by cases.
use Rattle.std.specs.Prelude.{◌≡◌, Bool, true, false, List, ◌++◌, Option, Result, Ok, Err}
use Rattle.lr_rules.specs.declared.path.Path.{Path}
use Rattle.lr_rules.specs.declared.clock.Clock.{Clock}
use Rattle.lr_rules.specs.declared.rules.Rules.{Rules}
use Rattle.lr_rules.specs.declared.fault.Fault.{Fault}
use Rattle.lr_rules.specs.Path.{parent_of}
use Rattle.lr_host.specs.declared.entry.Entry.{Entry}
use Rattle.lr_host.specs.Looks.{Sees, IsDir}
use Rattle.lr_plan.specs.Asked.{Asked}
use Rattle.lr_plan.specs.declared.plan.Plan.{Plan}
use Rattle.lr_run.specs.declared.answer.Ran.{Ran}
use Rattle.lr_run.specs.declared.answer.RunStop.{RunStop}
use Rattle.lr_run.specs.declared.answer.RunStop.TheVariants as stop
use Rattle.lr_run.specs.InternalDry.{Tries, LacksTry}
use Rattle.lr_run.specs.InternalRuns.{Runs, LacksMemory}

-- a run that is dry, or isn't, that came to this plan and has these faults of its own
abbrev pub RunLeaves : Bool → Path → Asked → Clock → Rules → Option Plan → List Fault → List Entry → Type 0
RunLeaves true state asked clock rules plan own ts = Tries state rules.sets clock asked plan own ts
RunLeaves false state asked clock rules plan own ts = Runs state asked clock rules plan own ts

-- Another held the lock: the state's directory was seen, and no more. A dry run asks for no lock.
abbrev pub Holds : Bool → Path → List Entry → Type 0
Holds true state ts = ⊥
Holds false state ts = Sees (parent_of state) IsDir ts

-- there was no memory
abbrev pub Lacks : Bool → Path → Asked → Clock → Rules → List Entry → Type 0
Lacks true state asked clock rules ts = LacksTry state rules.sets ts
Lacks false state asked clock rules ts = LacksMemory state asked clock rules ts

-- What a run left, by its answer. The faults that were handed in stand before its own.
abbrev pub Answers : Path → Bool → Asked → Clock → Rules → List Fault → Result Ran RunStop → List Entry → Type 0
Answers state debug asked clock rules earlier (Ok ran) ts = (own : List Fault) × (ran.faults.items ≡ earlier ++ own)
    × RunLeaves debug state asked clock rules ran.plan own ts
Answers state debug asked clock rules earlier (Err stop.Held) ts = Holds debug state ts
Answers state debug asked clock rules earlier (Err stop.Memory) ts = Lacks debug state asked clock rules ts
