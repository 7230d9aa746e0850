-- The changes of the steps of a plan, part by part.
use Rattle.std.specs.Prelude.{◌≡◌, ◌⊎◌, ℕ, Bool, true, false, List, [], ◌∷◌, ◌++◌, map, filter}
use Rattle.std.specs.List.{flat_map}
use Rattle.lr_host.specs.declared.entry.Entry.{Entry}
use Rattle.lr_host.specs.declared.entry.Entry.TheVariants as entry
use Rattle.lr_host.specs.Lists.{IsIn}
use Rattle.lr_host.specs.Told.{Each, Then}
use Rattle.lr_laws_family.specs.Weave.{IsFirstOf, Weave}
use Rattle.lr_plan.specs.declared.step.Step.{Step}
use Rattle.lr_plan.specs.declared.step.Step.TheVariants.{MakesDir, Creates, Takes, Copies, Appends, Truncates}
use Rattle.lr_plan.specs.declared.step.SetSteps.{SetSteps}
use Rattle.lr_plan.specs.Asking.{asks}
use Rattle.lr_laws_rotations.specs.Target.{Target, target_entries}
use Rattle.lr_laws_rotations.specs.AllTurns.{AlsoDoes, IsOfSome, IsOfOther}
use Rattle.lr_laws_acts.specs.Planned.{LogsDiffer}

-- an entry by which a name goes
abbrev pub takes_name : Entry → Bool
takes_name (entry.Renames from to) = true
takes_name (entry.Unlinks x) = true
takes_name _ = false

-- the change by which a step takes names, if any; the making of a log or of a directory isn't one, since it is left out where that
-- is there
abbrev pub change_of : Step → List Entry
change_of step = filter takes_name (asks step)

abbrev pub changes_by : List Step → List Entry
changes_by steps = flat_map change_of steps

-- It appends no text; and where it makes a directory or makes, fills or empties a file, P holds of that.
abbrev pub IsPlainStep : (Entry → Type 0) → Step → Type 0
IsPlainStep P (Creates path mode) = P (entry.Makes path mode)
IsPlainStep P (MakesDir path mode) = P (entry.MakesDir path mode)
IsPlainStep P (Takes path mode) = P (entry.Makes path mode)
IsPlainStep P (Copies from to limit) = (piece : List ℕ) → P (entry.Appends to piece)
IsPlainStep P (Appends path text) = ⊥
IsPlainStep P (Truncates path) = P (entry.Truncates path)
IsPlainStep P _ = Unit {0}

abbrev pub ArePlain : (Entry → Type 0) → List Step → Type 0
ArePlain P [] = Unit {0}
ArePlain P (step ∷ steps) = IsPlainStep P step × ArePlain P steps

abbrev pub EachPlain : (Entry → Type 0) → List (List Step) → Type 0
EachPlain P [] = Unit {0}
EachPlain P (steps ∷ each) = ArePlain P steps × EachPlain P each

pub record IsPlainSet (P : Entry → Type 0) (s : SetSteps) : Type 0 where
  pub first : ArePlain P s.first
  pub each : EachPlain P s.each
  pub last : ArePlain P s.last

abbrev pub ArePlainSets : (Entry → Type 0) → List SetSteps → Type 0
ArePlainSets P [] = Unit {0}
ArePlainSets P (s ∷ sets) = IsPlainSet P s × ArePlainSets P sets

-- The entry starts no run; and where it makes a directory or makes, fills or empties a file, P holds of it.
abbrev pub MakesOnly : (Entry → Type 0) → Entry → Type 0
MakesOnly P (entry.MakesDir path mode) = P (entry.MakesDir path mode)
MakesOnly P (entry.Makes path mode) = P (entry.Makes path mode)
MakesOnly P (entry.Starts state now rules) = ⊥
MakesOnly P (entry.Appends path bytes) = P (entry.Appends path bytes)
MakesOnly P (entry.Truncates path) = P (entry.Truncates path)
MakesOnly P _ = Unit {0}

-- the entry is what the rotation of one of these logs does besides its renames and unlinks
abbrev pub MakesOne : List Target → Entry → Type 0
MakesOne [] e = ⊥
MakesOne (t ∷ ts) e = AlsoDoes t e ⊎ MakesOne ts e

-- the parts of a definition, and of all
abbrev pub parts_of_set : SetSteps → List (List Entry)
parts_of_set s = changes_by s.first ∷ (map changes_by s.each ++ changes_by s.last ∷ [])

abbrev pub parts_of_sets : List SetSteps → List (List Entry)
parts_of_sets sets = flat_map parts_of_set sets

-- a first part of each part, one behind another
abbrev pub FirstParts : List (List Entry) → List Entry → Type 0
FirstParts [] ts = ts ≡ []
FirstParts (part ∷ parts) ts = Then (IsFirstOf part) (FirstParts parts) ts

-- Of these parts P holds of each entry.
abbrev pub AllOf : (Entry → Type 0) → List (List Entry) → Type 0
AllOf P [] = Unit {0}
AllOf P (part ∷ parts) = Each P part × AllOf P parts

-- One of the parts has these steps, with entries of P between; all entries of the others are of P.
pub record InOnePart (P : Entry → Type 0) (steps : List Entry) (parts : List (List Entry)) : Type 0 where
  pub before : List (List Entry)
  pub part : List Entry
  pub after : List (List Entry)
  pub parts_are : parts ≡ before ++ part ∷ after
  pub first : AllOf P before
  pub woven : Weave P steps part
  pub rest : AllOf P after

-- The changes of the plan are those of the rotations of these logs, of which none stands twice, and what they do besides.
pub record ArePlanned (targets : List Target) (sets : List SetSteps) : Type 0 where
  pub apart : LogsDiffer targets
  pub plain : ArePlainSets (MakesOne targets) sets
  pub all : AllOf (IsOfSome targets) (parts_of_sets sets)
  pub each : (t : Target) → IsIn t targets → InOnePart (IsOfOther t.log targets) (target_entries t) (parts_of_sets sets)
