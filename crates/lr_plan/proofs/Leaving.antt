-- What holds of each entry that steps leave: what holds of each that steps of their kinds can leave.
use Rattle.std.proofs.Common.{⊎_elim, sym, subst, ℕ, ◌≤◌, List, [], ◌∷◌, ◌++◌, length, Option}
use Rattle.lr_rules.specs.declared.fault.Ended.{Ended}
use Rattle.lr_rules.specs.declared.fault.Fault.{Fault}
use Rattle.lr_rules.specs.declared.fault.Phase.{Phase}
use Rattle.lr_rules.specs.declared.path.Path.{Path}
use Rattle.lr_host.specs.declared.entry.Entry.{Entry}
use Rattle.lr_host.specs.declared.entry.Entry.TheVariants as entry
use Rattle.lr_host.specs.declared.thing.Seen.{Seen}
use Rattle.lr_host.specs.Told.{Each}
use Rattle.lr_host.proofs.Appending.{each_appended, each_append_broke}
use Rattle.lr_host.proofs.Each.{each_append, each_none, each_one, each_maybe}
use Rattle.lr_scripts.specs.declared.command.Command.{Command}
use Rattle.lr_scripts.specs.Programs.{runs}
use Rattle.lr_chain.specs.declared.directory.DirStop.TheVariants as unmade
use Rattle.lr_copy.proofs.EachOfBytes.{each_all, each_broke}
use Rattle.lr_plan.specs.declared.mark.Mark.{Mark}
use Rattle.lr_plan.specs.declared.step.Step.{Step}
use Rattle.lr_plan.specs.declared.step.Step.TheVariants.{Runs, Removes, MakesDir, Renames, Creates, Takes, Copies, Appends, SyncsFile, SyncsDir, Truncates, Rotated}
use Rattle.lr_plan.specs.Course.{Course}
use Rattle.lr_plan.specs.Outcomes.{Succeeds, Fails, ProgramFailed, badly, not_run, maybe_run}

-- it holds of each entry that the step can leave
abbrev pub OfEach : (Entry → Type 0) → Step → Type 0
OfEach P (Runs phase on command) = (end : Ended) → P (runs command end)
OfEach P (Removes path) = P (entry.Unlinks path)
OfEach P (MakesDir path mode) = P (entry.MakesDir path mode) × ((seen : Option Seen) → P (entry.Look path seen))
OfEach P (Renames from to) = P (entry.Renames from to)
OfEach P (Creates path mode) = P (entry.Makes path mode)
OfEach P (Takes path mode) = P (entry.Makes path mode)
OfEach P (Copies from to limit) = ((place : ℕ) (piece : List ℕ) → length piece ≤ 65536 → P (entry.Reads from place piece)) × ((piece : List ℕ) → P (entry.Appends to piece))
OfEach P (Appends path text) = (piece : List ℕ) → P (entry.Appends path piece)
OfEach P (SyncsFile path) = P (entry.SyncsFile path)
OfEach P (SyncsDir path) = P (entry.SyncsDir path)
OfEach P (Truncates path) = P (entry.Truncates path)
OfEach P (Rotated log) = Unit {0}

abbrev pub OfAll : (Entry → Type 0) → List Step → Type 0
OfAll P [] = Unit {0}
OfAll P (s ∷ ss) = OfEach P s × OfAll P ss

pub of_both : (P : Entry → Type 0) (xs ys : List Step) → OfAll P xs → OfAll P ys → OfAll P (xs ++ ys)
of_both P [] ys a b = b
of_both P (x ∷ xs) ys a b = (a.0, of_both P xs ys a.1 b)

module _ (P : Entry → Type 0) where
  -- of a step that was made
  pub each_made : (s : Step) (ts : List Entry) → OfEach P s → Succeeds s ts → Each P ts
  each_made (Runs phase on command) ts k w = each_one P w (k _)
  each_made (Removes path) ts k w = each_one P w k
  each_made (MakesDir path mode) ts k w = ⊎_elim (λ made. each_one P made k.0) (λ saw. each_one P saw.look (k.1 saw.seen)) w
  each_made (Renames from to) ts k w = each_one P w k
  each_made (Creates path mode) ts k w = each_maybe P (entry.Makes path mode) w k
  each_made (Takes path mode) ts k w = each_one P w k
  each_made (Copies from to limit) ts k w = each_all P from to k.0 k.1 limit w.0 ts w.1
  each_made (Appends path text) ts k w = each_appended P path text ts (λ piece short. k piece) w
  each_made (SyncsFile path) ts k w = each_one P w k
  each_made (SyncsDir path) ts k w = each_one P w k
  each_made (Truncates path) ts k w = each_one P w k
  each_made (Rotated log) ts k w = each_none P w

  program_failed : (phase : Phase) (on : List ℕ) (command : Command) (f : Fault) (ts : List Entry) → ((end : Ended) → P (runs command end)) → ProgramFailed phase on command f ts → Each P ts
  program_failed phase on command f ts k (badly end ne is one) = each_one P one (k end)
  program_failed phase on command f ts k (not_run is none) = each_none P none
  program_failed phase on command f ts k (maybe_run end is one) = each_one P one (k end)

  dir_failed : (path : Path) (mode : Option ℕ) (f : Fault) (ts : List Entry) → OfEach P (MakesDir path mode) → Fails (MakesDir path mode) f ts → Each P ts
  dir_failed path mode f ts k (unmade.Make, is, made) = each_maybe P (entry.MakesDir path mode) made k.0
  dir_failed path mode f ts k (unmade.Look, is, none) = each_none P none
  dir_failed path mode f ts k (unmade.NotDir, is, saw) = each_one P saw.look (k.1 saw.seen)

  -- of one that failed
  pub each_failed : (s : Step) (f : Fault) (ts : List Entry) → OfEach P s → Fails s f ts → Each P ts
  each_failed (Runs phase on command) f ts k h = program_failed phase on command f ts k h
  each_failed (Removes path) f ts k h = each_maybe P (entry.Unlinks path) h.1 k
  each_failed (MakesDir path mode) f ts k h = dir_failed path mode f ts k h
  each_failed (Renames from to) f ts k h = each_maybe P (entry.Renames from to) h.1 k
  each_failed (Creates path mode) f ts k h = each_maybe P (entry.Makes path mode) h.1 k
  each_failed (Takes path mode) f ts k h = ⊎_elim (λ call. each_maybe P (entry.Makes path mode) call.1 k) (λ taken. each_none P taken.1) h
  each_failed (Copies from to limit) f ts k h = each_broke P from to k.0 k.1 limit h.0 ts h.2
  each_failed (Appends path text) f ts k h = each_append_broke P path text ts (λ piece short. k piece) h.1
  each_failed (SyncsFile path) f ts k h = each_maybe P (entry.SyncsFile path) h.1 k
  each_failed (SyncsDir path) f ts k h = each_maybe P (entry.SyncsDir path) h.1 k
  each_failed (Truncates path) f ts k h = each_maybe P (entry.Truncates path) h.1 k
  each_failed (Rotated log) f ts k h = absurd h

  -- of all of them, or of those up to one that failed
  pub each_of_course : (steps : List Step) (ms : List Mark) (fs : List Fault) (ts : List Entry) → OfAll P steps → Course steps ms fs ts → Each P ts
  each_of_course [] ms fs ts k c = each_none P c.2
  each_of_course (s ∷ ss) ms fs ts k c = ⊎_elim (λ stop. each_failed s stop.fault ts k.0 stop.failed)
      (λ g. subst (Each P) (sym g.entries.joined) (each_append P g.entries.front g.entries.back (each_made s g.entries.front k.0 g.entries.first) (each_of_course ss g.later fs g.entries.back k.1 g.entries.second))) c
