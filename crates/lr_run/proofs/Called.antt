-- The acts of a plan fail by calls, by programs that end badly, by copies that break off, and where something else has the path of a directory to be made, alone.
use Rattle.std.proofs.Common.{◌≡◌, ◌⊎◌, inl, inr, ◌+◌, ℕ, List, [], ◌∷◌, ◌++◌, Option, refl, sym, ap, ◌∙◌, subst, arith}
use Rattle.lr_rules.specs.declared.clock.Clock.{Clock}
use Rattle.lr_rules.specs.declared.fault.CallKind.TheVariants as call
use Rattle.lr_rules.specs.declared.fault.Fault.{Fault}
use Rattle.lr_rules.specs.declared.fault.Fault.TheVariants as fault
use Rattle.lr_rules.specs.declared.fault.Phase.{Phase}
use Rattle.lr_rules.specs.declared.path.Path.{Path}
use Rattle.lr_rules.specs.declared.rule.Rule.{Rule}
use Rattle.lr_rules.specs.Match.{part_end, EndsWith}
use Rattle.lr_host.specs.declared.entry.Entry.{Entry}
use Rattle.lr_host.specs.Lists.{IsIn}
use Rattle.lr_host.proofs.Lists.{in_front, in_back}
use Rattle.lr_scripts.specs.declared.command.Command.{Command}
use Rattle.lr_copy.specs.declared.job.BytesStop.{BytesStop}
use Rattle.lr_copy.specs.declared.job.BytesStop.TheVariants as broke
use Rattle.lr_state.specs.Table.{StateEntry as Row}
use Rattle.lr_plan.specs.Asked.{Asked}
use Rattle.lr_plan.specs.declared.looks.SetLooks.{SetLooks}
use Rattle.lr_plan.specs.declared.mark.Mark.{Mark}
use Rattle.lr_plan.specs.declared.step.Step.{Step}
use Rattle.lr_plan.specs.declared.step.Step.TheVariants.{Runs, Removes, MakesDir, Renames, Creates, Takes, Copies, SyncsFile, SyncsDir, Truncates, Rotated}
use Rattle.lr_host.specs.Counted.{call_in, calls_in, bad_script_in, bad_scripts_in}
use Rattle.lr_plan.specs.Done.{PlanDone}
use Rattle.lr_chain.specs.declared.directory.DirStop.TheVariants as unmade
use Rattle.lr_plan.specs.Outcomes.{bytes_fault, Fails, ProgramFailed, badly, not_run, maybe_run}
use Rattle.lr_plan.specs.Planned.{plan_of}
use Rattle.lr_plan.specs.Steps.{steps_of_plan}
use Rattle.lr_host.proofs.Counts.{calls_on, scripts_on}
use Rattle.lr_acts.specs.Making.{all_of_sets}
use Rattle.lr_writing.specs.Synced.{all_to_make_of}
use Rattle.lr_writing.proofs.Telling.{MakesAmong, EachAmong, plan_among}
use Rattle.lr_run.specs.Copied.{IsOfCopy, NoneOfCopy}
use Rattle.lr_run.specs.Met.{IsNoOther, MetNothing}
use Rattle.lr_run.proofs.Folded.{Folds, acts_fold}
use Rattle.lr_run.proofs.Simple.{EachStep, IsSimple, AreSimple}
use Rattle.lr_run.proofs.Works.{steps_simple}

-- ---- failed calls, bad ends and broken copies among faults

-- none in a first part
pub none_before : (all xs ys : List Fault) → all ≡ xs ++ ys → calls_in all ≡ 0 → calls_in xs ≡ 0
none_before all xs ys e z = let a = ap calls_in e in let b = calls_on xs ys in omega (arith, a, b, z)

-- none in what is added
pub none_behind : (all xs ys : List Fault) → all ≡ xs ++ ys → calls_in all ≡ 0 → calls_in ys ≡ 0
none_behind all xs ys e z = let a = ap calls_in e in let b = calls_on xs ys in omega (arith, a, b, z)

no_end_before : (all xs ys : List Fault) → all ≡ xs ++ ys → bad_scripts_in all ≡ 0 → bad_scripts_in xs ≡ 0
no_end_before all xs ys e z = let a = ap bad_scripts_in e in let b = scripts_on xs ys in omega (arith, a, b, z)

no_end_behind : (all xs ys : List Fault) → all ≡ xs ++ ys → bad_scripts_in all ≡ 0 → bad_scripts_in ys ≡ 0
no_end_behind all xs ys e z = let a = ap bad_scripts_in e in let b = scripts_on xs ys in omega (arith, a, b, z)

none_copied_before : (xs ys : List Fault) → NoneOfCopy (xs ++ ys) → NoneOfCopy xs
none_copied_before [] ys n = tt
none_copied_before (x ∷ xs) ys n = (n.0, none_copied_before xs ys n.1)

pub none_copied_behind : (xs ys : List Fault) → NoneOfCopy (xs ++ ys) → NoneOfCopy ys
none_copied_behind [] ys n = n
none_copied_behind (x ∷ xs) ys n = none_copied_behind xs ys n.1

-- none tells of another thing at the path of a directory to be made
none_other_behind : (dirs : List Path) (all xs ys : List Fault) → all ≡ xs ++ ys → IsNoOther dirs all → IsNoOther dirs ys
none_other_behind dirs all xs ys e n = λ dir i j. n dir i (subst (IsIn (fault.NotFile dir)) (sym e) (in_back (fault.NotFile dir) xs ys j))

none_other_before : (dirs : List Path) (all xs ys : List Fault) → all ≡ xs ++ ys → IsNoOther dirs all → IsNoOther dirs xs
none_other_before dirs all xs ys e n = λ dir i j. n dir i (subst (IsIn (fault.NotFile dir)) (sym e) (in_front (fault.NotFile dir) xs ys j))

-- a failed call or a bad end; or, without one, a copy that broke off, or another thing at the path of one of these directories, which was to be made
abbrev IsStop : List Path → Fault → Type 0
IsStop dirs f = (call_in f + bad_script_in f ≡ 1) ⊎ (IsOfCopy f ⊎ ((dir : Path) × IsIn dir dirs × (f ≡ fault.NotFile dir)))

-- each of the faults is so
abbrev AreStops : List Path → List Fault → Type 0
AreStops dirs [] = Unit {0}
AreStops dirs (f ∷ fs) = IsStop dirs f × AreStops dirs fs

-- two parts of these alone
stops_both : (dirs : List Path) (xs ys : List Fault) → AreStops dirs xs → AreStops dirs ys → AreStops dirs (xs ++ ys)
stops_both dirs [] ys h g = g
stops_both dirs (x ∷ xs) ys h g = (h.0, stops_both dirs xs ys h.1 g)

-- these alone, and the faults tell of nothing that was met: no faults
none_stopped : (dirs : List Path) (fs : List Fault) → AreStops dirs fs → MetNothing dirs fs → fs ≡ []
none_stopped dirs [] h n = refl
none_stopped dirs (f ∷ fs) h n = absurd (go h.0)
  where
    go : IsStop dirs f → ⊥
    go (inl one) = let y = n.no_call in let z = n.no_end in omega (arith, one, y, z)
    go (inr (inl copy)) = n.no_copy.0 copy
    go (inr (inr other)) = n.no_other other.0 other.1 (inl other.2)

-- ---- the acts

-- a fault that is one of these
is_stop : (dirs : List Path) (f g : Fault) → f ≡ g → call_in g + bad_script_in g ≡ 1 → AreStops dirs (f ∷ [])
is_stop dirs f g e h = (inl (ap (λ (x : Fault). call_in x + bad_script_in x) e ∙ h), tt)

-- a copy that broke off so
is_copy : (dirs : List Path) (f g : Fault) → f ≡ g → IsOfCopy g → AreStops dirs (f ∷ [])
is_copy dirs f g e h = (inr (inl (subst IsOfCopy (sym e) h)), tt)

program_stopped : (dirs : List Path) (p : Phase) (on : List ℕ) (c : Command) (f : Fault) (ts : List Entry) → ProgramFailed p on c f ts → AreStops dirs (f ∷ [])
program_stopped dirs p on c f ts (badly end bad e o) = is_stop dirs f (fault.Script p on end) e refl
program_stopped dirs p on c f ts (not_run e o) = is_stop dirs f (fault.Call call.Run c.program) e refl
program_stopped dirs p on c f ts (maybe_run end e o) = is_stop dirs f (fault.Call call.Run c.program) e refl

take_stopped : (dirs : List Path) (path : Path) (mode : Option ℕ) (f : Fault) (ts : List Entry) → EndsWith path part_end → Fails (Takes path mode) f ts → AreStops dirs (f ∷ [])
take_stopped dirs path mode f ts i (inl h) = is_stop dirs f (fault.Call call.Make path) h.0 refl
take_stopped dirs path mode f ts i (inr h) = is_copy dirs f (fault.Taken path) h.0 i

bytes_stopped : (dirs : List Path) (from to : Path) (why : BytesStop) (f : Fault) → f ≡ bytes_fault from to why → AreStops dirs (f ∷ [])
bytes_stopped dirs from to broke.Read f e = is_stop dirs f (fault.Call call.Read from) e refl
bytes_stopped dirs from to broke.Append f e = is_stop dirs f (fault.Call call.Append to) e refl
bytes_stopped dirs from to broke.TooLong f e = is_copy dirs f (fault.TooLong from) e tt

dir_stopped : (dirs : List Path) (path : Path) (mode : Option ℕ) (f : Fault) (ts : List Entry) → IsIn path dirs → Fails (MakesDir path mode) f ts → AreStops dirs (f ∷ [])
dir_stopped dirs path mode f ts i (unmade.Make, is, made) = is_stop dirs f (fault.Call call.MakeDir path) is refl
dir_stopped dirs path mode f ts i (unmade.Look, e, o) = is_stop dirs f (fault.Call call.Look path) e refl
dir_stopped dirs path mode f ts i (unmade.NotDir, e, saw) = (inr (inr (path, i, e)), tt)

-- a simple step, which makes no directory but one of these
abbrev IsStep : List Path → Step → Type 0
IsStep dirs s = IsSimple s × MakesAmong dirs s

-- so it fails
step_stopped : (dirs : List Path) (s : Step) (f : Fault) (ts : List Entry) → IsStep dirs s → Fails s f ts → AreStops dirs (f ∷ [])
step_stopped dirs (Runs p on command) f ts i h = program_stopped dirs p on command f ts h
step_stopped dirs (Removes path) f ts i h = is_stop dirs f (fault.Call call.Unlink path) h.0 refl
step_stopped dirs (Renames from to) f ts i h = is_stop dirs f (fault.Call call.Rename from) h.0 refl
step_stopped dirs (MakesDir path mode) f ts i h = dir_stopped dirs path mode f ts i.1 h
step_stopped dirs (Creates path mode) f ts i h = is_stop dirs f (fault.Call call.Make path) h.0 refl
step_stopped dirs (Takes path mode) f ts i h = take_stopped dirs path mode f ts i.0 h
step_stopped dirs (Copies from to limit) f ts i h = bytes_stopped dirs from to h.0 f h.1
step_stopped dirs (SyncsFile path) f ts i h = is_stop dirs f (fault.Call call.Sync path) h.0 refl
step_stopped dirs (SyncsDir path) f ts i h = is_stop dirs f (fault.Call call.Sync path) h.0 refl
step_stopped dirs (Truncates path) f ts i h = is_stop dirs f (fault.Call call.Truncate path) h.0 refl
step_stopped dirs (Rotated log) f ts i h = absurd h
step_stopped dirs _ f ts i h = absurd i.0

stopped_folds : (dirs : List Path) → Folds (IsStep dirs) (λ fs ts. AreStops dirs fs)
stopped_folds dirs = record {
  none = tt;
  made = λ s ts i h. tt;
  failed = step_stopped dirs;
  both = λ fs gs ts us h g. stops_both dirs fs gs h g;
}

each_step : (dirs : List Path) (ss : List Step) → AreSimple ss → EachAmong dirs ss → EachStep (IsStep dirs) ss
each_step dirs [] h g = tt
each_step dirs (s ∷ ss) h g = ((h.0, g.0), each_step dirs ss h.1 g.1)

-- the acts of the plan, by whose faults nothing was met, have none
pub acts_met_none : (rules : List Rule) (sets : List SetLooks) (table : List Row) (clock : Clock) (asked : Asked) (ms : List Mark) (fs : List Fault) (ts : List Entry) → PlanDone (plan_of rules sets table clock asked) ms fs ts → MetNothing (all_to_make_of (plan_of rules sets table clock asked).sets) fs → fs ≡ []
acts_met_none rules sets table clock asked ms fs ts h n =
    none_stopped dirs fs (acts_fold (IsStep dirs) (λ gs us. AreStops dirs gs) (stopped_folds dirs) (steps_of_plan (plan_of rules sets table clock asked)) ms fs ts
    (each_step dirs (all_of_sets (steps_of_plan (plan_of rules sets table clock asked))) (steps_simple rules sets table clock asked) (plan_among (plan_of rules sets table clock asked).sets)) h) n
  where
    dirs : List Path
    dirs = all_to_make_of (plan_of rules sets table clock asked).sets

-- a first part of faults that tell of nothing that was met, and what is added to some
pub met_before : (dirs : List Path) (all xs ys : List Fault) → all ≡ xs ++ ys → MetNothing dirs all → MetNothing dirs xs
met_before dirs all xs ys e n = record {
  no_call = none_before all xs ys e n.no_call;
  no_end = no_end_before all xs ys e n.no_end;
  no_copy = none_copied_before xs ys (subst NoneOfCopy e n.no_copy);
  no_other = none_other_before dirs all xs ys e n.no_other;
}

pub met_behind : (dirs : List Path) (all xs ys : List Fault) → all ≡ xs ++ ys → MetNothing dirs all → MetNothing dirs ys
met_behind dirs all xs ys e n = record {
  no_call = none_behind all xs ys e n.no_call;
  no_end = no_end_behind all xs ys e n.no_end;
  no_copy = none_copied_behind xs ys (subst NoneOfCopy e n.no_copy);
  no_other = none_other_behind dirs all xs ys e n.no_other;
}
