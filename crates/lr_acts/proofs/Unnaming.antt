-- What holds of each entry that a step leaves, where it holds of all but unlinks and renames, and of the step's own.
use Rattle.std.proofs.Common.{◌≡◌, Bool, true, false, refl, List}
use Rattle.lr_rules.specs.declared.fault.Fault.{Fault}
use Rattle.lr_host.specs.declared.entry.Entry.{Entry}
use Rattle.lr_host.specs.declared.entry.Entry.TheVariants.{Renames, Unlinks}
use Rattle.lr_host.specs.Told.{Each}
use Rattle.lr_plan.specs.declared.step.Step.{Step}
use Rattle.lr_plan.specs.declared.step.Step.TheVariants as step
use Rattle.lr_plan.specs.Outcomes.{Succeeds, Fails}
use Rattle.lr_plan.proofs.Leaving.{OfEach, each_made, each_failed}

-- an entry that takes a name away
abbrev pub unnames : Entry → Bool
unnames (Renames from to) = true
unnames (Unlinks y) = true
unnames _ = false

-- the step's own such entry is so
abbrev pub OfUnnaming : (Entry → Type 0) → Step → Type 0
OfUnnaming P (step.Removes path) = P (Unlinks path)
OfUnnaming P (step.Renames from to) = P (Renames from to)
OfUnnaming P _ = Unit {0}

module _ (P : Entry → Type 0) (other : (e : Entry) → unnames e ≡ false → P e) where
  of_each : (s : Step) → OfUnnaming P s → OfEach P s
  of_each (step.Runs phase on command) k = λ end. other _ refl
  of_each (step.Removes path) k = k
  of_each (step.MakesDir path mode) k = (other _ refl, λ seen. other _ refl)
  of_each (step.Renames from to) k = k
  of_each (step.Creates path mode) k = other _ refl
  of_each (step.Takes path mode) k = other _ refl
  of_each (step.Copies from to limit) k = (λ place piece short. other _ refl, λ piece. other _ refl)
  of_each (step.Appends path text) k = λ piece. other _ refl
  of_each (step.SyncsFile path) k = other _ refl
  of_each (step.SyncsDir path) k = other _ refl
  of_each (step.Truncates path) k = other _ refl
  of_each (step.Rotated log) k = tt

  pub left_made : (s : Step) (ts : List Entry) → OfUnnaming P s → Succeeds s ts → Each P ts
  left_made s ts k w = each_made P s ts (of_each s k) w

  pub left_failed : (s : Step) (f : Fault) (ts : List Entry) → OfUnnaming P s → Fails s f ts → Each P ts
  left_failed s f ts k h = each_failed P s f ts (of_each s k) h
