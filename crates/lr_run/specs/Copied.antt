-- The copies by which a run may empty a log, and the faults of a copy that broke off without a failed call.
use Rattle.std.specs.Prelude.{◌≡◌, ℕ, true, List, Contains, Option, Some, None}
use Rattle.std.specs.List.{AllByRecursion}
use Rattle.lr_rules.specs.declared.clock.Clock.{Clock}
use Rattle.lr_rules.specs.declared.fault.Fault.{Fault}
use Rattle.lr_rules.specs.declared.fault.Fault.TheVariants as fault
use Rattle.lr_rules.specs.declared.path.Path.{Path}
use Rattle.lr_rules.specs.declared.rule.Format.{Format}
use Rattle.lr_rules.specs.declared.rule.Naming.{Naming}
use Rattle.lr_rules.specs.declared.rule.Rule.{Rule}
use Rattle.lr_rules.specs.declared.rule.Way.TheVariants as way
use Rattle.lr_rules.specs.Dated.{IsDatedAt}
use Rattle.lr_rules.specs.Match.{part_end, EndsWith, RuleGives}
use Rattle.lr_rules.specs.Names.{IsMemberAt, naming_of}
use Rattle.lr_stamps.specs.Dated.{clock_seconds}
use Rattle.lr_family.specs.Parts.{part_of}
use Rattle.lr_copy.specs.declared.job.Job.{Job}
use Rattle.lr_copy.specs.Fits.{ArePaths}

-- the path that a log gets, by the format of its dates, where there is one: that of the first number, or of the clock's stamp with
-- some serial number
abbrev pub IsNewestBy : Option Format → Naming → Clock → Path → Type 0
IsNewestBy None n clock x = IsMemberAt n 0 x
IsNewestBy (Some format) n clock x = (serial : ℕ) × IsDatedAt n (clock_seconds n.dated clock) serial x

abbrev pub IsNewest : Naming → Clock → Path → Type 0
IsNewest n clock x = IsNewestBy n.dated n clock x

-- One of the rules gives the log, and has `copytruncate`; of the names that it gives the log the copy gets that of the newest
-- member, by that member's part file.
pub record IsCopyBy (rules : List Rule) (clock : Clock) (job : Job) : Type 0 where
  pub rule : Rule
  pub among : Contains rules rule
  pub given : RuleGives rule job.from
  pub way_is : rule.way ≡ way.CopyTruncate
  pub newest : IsNewest (naming_of rule job.from) clock job.to
  pub part_is : job.part ≡ part_of job.to
  pub paths : ArePaths job
  pub cut : job.cut ≡ true

-- a file is too long to be copied, or a part file's name is taken
abbrev pub IsOfCopy : Fault → Type 0
IsOfCopy (fault.TooLong path) = Unit {0}
IsOfCopy (fault.Taken path) = EndsWith path part_end
IsOfCopy _ = ⊥

abbrev pub NoneOfCopy : List Fault → Type 0
NoneOfCopy faults = AllByRecursion (λ f. IsOfCopy f → ⊥) faults
