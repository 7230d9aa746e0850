-- What a step leaves: where it was made, and where it failed.
use Rattle.std.specs.Prelude.{◌≡◌, ◌≢◌, ◌⊎◌, pos, ℕ, List, [], ◌∷◌}
use Rattle.lr_rules.specs.declared.path.Path.{Path}
use Rattle.lr_rules.specs.declared.fault.CallKind.TheVariants as call
use Rattle.lr_rules.specs.declared.fault.Ended.{Ended}
use Rattle.lr_rules.specs.declared.fault.Ended.TheVariants as ended
use Rattle.lr_rules.specs.declared.fault.Fault.{Fault}
use Rattle.lr_rules.specs.declared.fault.Fault.TheVariants as fault
use Rattle.lr_rules.specs.declared.fault.Phase.{Phase}
use Rattle.lr_host.specs.declared.entry.Entry.{Entry}
use Rattle.lr_host.specs.declared.entry.Entry.TheVariants as entry
use Rattle.lr_host.specs.Told.{Maybe}
use Rattle.lr_scripts.specs.declared.command.Command.{Command}
use Rattle.lr_scripts.specs.Programs.{runs}
use Rattle.lr_chain.specs.declared.directory.DirStop.{DirStop}
use Rattle.lr_chain.specs.declared.directory.DirStop.TheVariants as unmade
use Rattle.lr_chain.specs.Directory.{DirMade, DirStopped}
use Rattle.lr_copy.specs.declared.job.BytesStop.{BytesStop}
use Rattle.lr_copy.specs.declared.job.BytesStop.TheVariants as broke
use Rattle.lr_copy.specs.Bytes.{AllBytes, BytesBroke}
use Rattle.lr_host.specs.Appending.{Appended, AppendBroke}
use Rattle.lr_plan.specs.declared.mark.Mark.{Mark}
use Rattle.lr_plan.specs.declared.mark.Mark.TheVariants as mark
use Rattle.lr_plan.specs.declared.step.Step.{Step}
use Rattle.lr_plan.specs.declared.step.Step.TheVariants.{Runs, Removes, MakesDir, Renames, Creates, Takes, Copies, Appends}
use Rattle.lr_plan.specs.declared.step.Step.TheVariants.{SyncsFile, SyncsDir, Truncates, Rotated}

-- this entry alone
abbrev pub One : Entry → List Entry → Type 0
One e ts = ts ≡ e ∷ []

-- The step was made: each of its calls answered Ok, a program with 0. A make of a path that is named leaves nothing.
abbrev pub Succeeds : Step → List Entry → Type 0
Succeeds (Runs phase on command) ts = One (runs command (ended.Exit (pos 0))) ts
Succeeds (Removes path) ts = One (entry.Unlinks path) ts
Succeeds (MakesDir path mode) ts = DirMade path mode ts
Succeeds (Renames from to) ts = One (entry.Renames from to) ts
Succeeds (Creates path mode) ts = Maybe (entry.Makes path mode) ts
Succeeds (Takes path mode) ts = One (entry.Makes path mode) ts
Succeeds (Copies from to limit) ts = (count : ℕ) × AllBytes from to limit count ts
Succeeds (Appends path text) ts = Appended path text ts
Succeeds (SyncsFile path) ts = One (entry.SyncsFile path) ts
Succeeds (SyncsDir path) ts = One (entry.SyncsDir path) ts
Succeeds (Truncates path) ts = One (entry.Truncates path) ts
Succeeds (Rotated log) ts = ts ≡ []

-- what the step tells those behind it, once it was made
abbrev pub marks_of : Step → List Mark
marks_of (Rotated log) = mark.Rotated log ∷ []
marks_of (MakesDir path mode) = mark.Directory path ∷ []
marks_of (Creates path mode) = mark.Created path ∷ []
marks_of _ = []

-- a call of the step failed, with the entry of that call or without
abbrev pub CallFailed : Fault → Fault → Entry → List Entry → Type 0
CallFailed told f e ts = (f ≡ told) × Maybe e ts

-- a program ended badly, or couldn't be run
pub data ProgramFailed (phase : Phase) (on : List ℕ) (command : Command) (f : Fault) (ts : List Entry) : Type 0 where
  badly : (end : Ended) → end ≢ ended.Exit (pos 0) → f ≡ fault.Script phase on end → One (runs command end) ts
      → ProgramFailed phase on command f ts
  not_run : f ≡ fault.Call call.Run command.program → ts ≡ [] → ProgramFailed phase on command f ts
  maybe_run : (end : Ended) → f ≡ fault.Call call.Run command.program → One (runs command end) ts
      → ProgramFailed phase on command f ts

-- what is told of a directory that wasn't made
abbrev pub dir_fault : Path → DirStop → Fault
dir_fault path unmade.Make = fault.Call call.MakeDir path
dir_fault path unmade.Look = fault.Call call.Look path
dir_fault path unmade.NotDir = fault.NotFile path

-- what is told of a copy of bytes that broke off
abbrev pub bytes_fault : Path → Path → BytesStop → Fault
bytes_fault from to broke.Read = fault.Call call.Read from
bytes_fault from to broke.Append = fault.Call call.Append to
bytes_fault from to broke.TooLong = fault.TooLong from

-- The step failed so: what its calls left up to the one that failed, and of that one its entry or none.
abbrev pub Fails : Step → Fault → List Entry → Type 0
Fails (Runs phase on command) f ts = ProgramFailed phase on command f ts
Fails (Removes path) f ts = CallFailed (fault.Call call.Unlink path) f (entry.Unlinks path) ts
Fails (MakesDir path mode) f ts = (why : DirStop) × (f ≡ dir_fault path why) × DirStopped path mode why ts
Fails (Renames from to) f ts = CallFailed (fault.Call call.Rename from) f (entry.Renames from to) ts
Fails (Creates path mode) f ts = CallFailed (fault.Call call.Make path) f (entry.Makes path mode) ts
Fails (Takes path mode) f ts = CallFailed (fault.Call call.Make path) f (entry.Makes path mode) ts
    ⊎ ((f ≡ fault.Taken path) × (ts ≡ []))
Fails (Copies from to limit) f ts = (why : BytesStop) × (f ≡ bytes_fault from to why) × BytesBroke from to limit why ts
Fails (Appends path text) f ts = (f ≡ fault.Call call.Append path) × AppendBroke path text ts
Fails (SyncsFile path) f ts = CallFailed (fault.Call call.Sync path) f (entry.SyncsFile path) ts
Fails (SyncsDir path) f ts = CallFailed (fault.Call call.Sync path) f (entry.SyncsDir path) ts
Fails (Truncates path) f ts = CallFailed (fault.Call call.Truncate path) f (entry.Truncates path) ts
Fails (Rotated log) f ts = ⊥
