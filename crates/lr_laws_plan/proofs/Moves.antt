-- The acts of a plan are unlinks, renames, makings of logs and of directories, with looks at these, the steps of copies and programs.
use Rattle.std.proofs.Common.{List, map}
use Rattle.lr_rules.specs.declared.clock.Clock.{Clock}
use Rattle.lr_rules.specs.declared.path.Path.{Path}
use Rattle.lr_rules.specs.declared.fault.Fault.{Fault}
use Rattle.lr_rules.specs.declared.rule.Rule.{Rule}
use Rattle.lr_host.specs.declared.entry.Entry.{Entry}
use Rattle.lr_host.specs.declared.entry.Entry.TheVariants as entry
use Rattle.lr_host.specs.Told.{Each}
use Rattle.lr_host.proofs.Each.{each_append, each_as}
use Rattle.lr_due.specs.declared.answer.Due.{Due}
use Rattle.lr_plan.specs.declared.looks.LogLook.{LogLook}
use Rattle.lr_plan.specs.declared.looks.SetLooks.{SetLooks}
use Rattle.lr_plan.specs.declared.mark.Mark.{Mark}
use Rattle.lr_plan.specs.declared.step.SetSteps.{SetSteps}
use Rattle.lr_plan.specs.declared.step.Step.{Step}
use Rattle.lr_plan.specs.declared.step.Step.TheVariants.{Runs, Removes, MakesDir, Renames, Creates, Takes, Copies, SyncsFile, SyncsDir, Truncates, Rotated}
use Rattle.lr_plan.proofs.Leaving.{OfEach, each_made, each_failed}
use Rattle.lr_plan.specs.Cut.{SetsCut}
use Rattle.lr_plan.specs.Done.{SetsDone}
use Rattle.lr_plan.specs.Planned.{all_plans}
use Rattle.lr_plan.specs.Steps.{steps_of_set}
use Rattle.lr_acts.specs.Making.{all_of_sets}
use Rattle.lr_run.proofs.Folded.{Folds, acts_fold, cut_acts_fold}
use Rattle.lr_run.proofs.Simple.{IsSimple, AreSimple, plan_simple}
use Rattle.lr_laws_plan.proofs.CountedListings.{IsNoListing, AreNoListings}

-- an unlink, a rename, the making of a directory, a look, the making, filling or emptying of a file, a read of one, a sync, or a program
abbrev pub IsMove : Entry → Type 0
IsMove (entry.Unlinks path) = Unit {0}
IsMove (entry.Renames from to) = Unit {0}
IsMove (entry.MakesDir path mode) = Unit {0}
IsMove (entry.Look path seen) = Unit {0}
IsMove (entry.Makes path mode) = Unit {0}
IsMove (entry.Reads path place piece) = Unit {0}
IsMove (entry.Appends path piece) = Unit {0}
IsMove (entry.Truncates path) = Unit {0}
IsMove (entry.SyncsFile path) = Unit {0}
IsMove (entry.SyncsDir path) = Unit {0}
IsMove (entry.Runs program args input end) = Unit {0}
IsMove _ = ⊥

-- ---- one step

of_simple : (s : Step) → IsSimple s → OfEach IsMove s
of_simple (Runs p on command) i = λ end. tt
of_simple (Removes path) i = tt
of_simple (MakesDir path mode) i = (tt, λ seen. tt)
of_simple (Renames from to) i = tt
of_simple (Creates path mode) i = tt
of_simple (Takes path mode) i = tt
of_simple (Copies from to limit) i = (λ place piece short. tt, λ piece. tt)
of_simple (SyncsFile path) i = tt
of_simple (SyncsDir path) i = tt
of_simple (Truncates path) i = tt
of_simple (Rotated log) i = tt
of_simple _ i = absurd i

moves_fold : Folds IsSimple (λ fs ts. Each IsMove ts)
moves_fold = record {
  none = tt;
  made = λ s ts i h. each_made IsMove s ts (of_simple s i) h;
  failed = λ s f ts i h. each_failed IsMove s f ts (of_simple s i) h;
  both = λ fs gs ts us h g. each_append IsMove ts us h g;
}

sets_move : (sets : List SetSteps) (ms : List Mark) (fs : List Fault) (ts : List Entry) → AreSimple (all_of_sets sets) → SetsDone sets ms fs ts → Each IsMove ts
sets_move sets ms fs ts i h = acts_fold IsSimple (λ fs ts. Each IsMove ts) moves_fold sets ms fs ts i h

-- the acts of a plan
pub plan_moves : (rules : List Rule) (sets : List SetLooks) (clock : Clock) (mailer : Path) (decide : Rule → LogLook → Due) (ms : List Mark) (fs : List Fault) (ts : List Entry) → SetsDone (map steps_of_set (all_plans clock mailer decide rules sets)) ms fs ts → Each IsMove ts
plan_moves rules sets clock mailer decide ms fs ts h = sets_move (map steps_of_set (all_plans clock mailer decide rules sets)) ms fs ts (plan_simple clock mailer decide rules sets) h

-- and a first part of them
pub cut_moves : (rules : List Rule) (sets : List SetLooks) (clock : Clock) (mailer : Path) (decide : Rule → LogLook → Due) (ms : List Mark) (fs : List Fault) (ts : List Entry) → SetsCut (map steps_of_set (all_plans clock mailer decide rules sets)) ms fs ts → Each IsMove ts
cut_moves rules sets clock mailer decide ms fs ts h = cut_acts_fold IsSimple (λ fs ts. Each IsMove ts) moves_fold (map steps_of_set (all_plans clock mailer decide rules sets)) ms fs ts (plan_simple clock mailer decide rules sets) h

-- ---- what they aren't

no_listing : (e : Entry) → IsMove e → IsNoListing e
no_listing (entry.List dir names) i = i
no_listing _ i = tt

-- they list nothing
pub moves_list_none : (ts : List Entry) → Each IsMove ts → AreNoListings ts
moves_list_none ts m = each_as IsMove IsNoListing ts no_listing m
