-- The lines of steps, part by part.
use Rattle.std.proofs.Common.{◌≡◌, ◌∙◌, Bool, List, [], ◌∷◌, ◌++◌, map, true, false, refl, sym, ap, if◌then◌else◌}
use Rattle.std.proofs.lemmas.List.{append_assoc, append-nil}
use Rattle.std.specs.List.{flat_map}
use Rattle.std.proofs.lemmas.Grind.{flat_map-append}
use Rattle.lr_rules.specs.declared.fault.Phase.{Phase}
use Rattle.lr_rules.specs.declared.fault.Phase.TheVariants as phase
use Rattle.lr_scripts.specs.declared.command.Command.{Command}
use Rattle.lr_copy.specs.declared.job.Job.{Job}
use Rattle.lr_plan.specs.declared.step.Step.{Step}
use Rattle.lr_plan.specs.declared.step.Step.TheVariants as step
use Rattle.lr_plan.specs.Steps.{copy, step_if}
use Rattle.lr_shown.specs.Lines.{lines_of, program_line, script_line, step_line}

-- of these steps and those
pub lines_on : (xs ys : List Step) → lines_of xs ++ lines_of ys ≡ lines_of (xs ++ ys)
lines_on xs ys = sym (flat_map-append step_line xs ys)

module _ {X Y Z : Type 0} where
  -- the texts of the values of values
  pub texts_each : (f : Y → List Z) (g : X → List Y) (xs : List X) → flat_map (λ x. flat_map f (g x)) xs ≡ flat_map f (flat_map g xs)
  texts_each f g [] = refl
  texts_each f g (x ∷ xs) = ap (λ t. flat_map f (g x) ++ t) (texts_each f g xs) ∙ sym (flat_map-append f (g x) (flat_map g xs))

  pub texts_map : (f : Y → List Z) (g : X → Y) (xs : List X) → flat_map (λ x. f (g x)) xs ≡ flat_map f (map g xs)
  texts_map f g [] = refl
  texts_map f g (x ∷ xs) = ap (λ t. f (g x) ++ t) (texts_map f g xs)

-- a program of another phase than a mail is a script
pub script_where_no_mail : (p : Phase) (command : Command) → (p ≡ phase.Mail → ⊥) → script_line p command ≡ program_line p command
script_where_no_mail phase.Mail command h = absurd (h refl)
script_where_no_mail phase.First command h = refl
script_where_no_mail phase.Pre command h = refl
script_where_no_mail phase.Post command h = refl
script_where_no_mail phase.Last command h = refl
script_where_no_mail phase.Preremove command h = refl

-- ---- parts of a rotation

pub lines_if : (b : Bool) (x : Step) → (if b then step_line x else []) ≡ lines_of (step_if b x)
lines_if true x = sym (append-nil (step_line x))
lines_if false x = refl

-- the steps of a copy that have no line are left out
pub copy_lines : (job : Job) → lines_of (step_if job.stale (step.Removes job.part) ++ ((step.Copies job.from job.part job.limit ∷ step.Renames job.part job.to ∷ []) ++ step_if job.cut (step.Truncates job.from))) ≡ lines_of (copy job)
copy_lines job =
    sym (lines_on (step_if job.stale (step.Removes job.part)) ((step.Copies job.from job.part job.limit ∷ step.Renames job.part job.to ∷ []) ++ step_if job.cut (step.Truncates job.from)))
    ∙ lines_on (step_if job.stale (step.Removes job.part)) (step.Takes job.part job.mode ∷ step.Copies job.from job.part job.limit ∷ step.SyncsFile job.part ∷ step.Renames job.part job.to ∷ step.SyncsDir job.dir ∷ step_if job.cut (step.Truncates job.from))

-- three parts, and what follows
pub regrouped : (a b c d : List Step) → lines_of (a ++ (b ++ c)) ++ lines_of d ≡ lines_of (a ++ (b ++ (c ++ d)))
regrouped a b c d = lines_on (a ++ (b ++ c)) d ∙ ap lines_of (append_assoc a (b ++ c) d ∙ ap (λ t. a ++ t) (append_assoc b c d))
