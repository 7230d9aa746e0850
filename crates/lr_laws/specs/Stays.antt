-- The promise over a call, for the sets of which a condition holds as it begins; and when its steps are those of one rotation.
use Rattle.std.specs.Prelude.{◌≡◌, ◌⊎◌, ℕ, ℤ, false, List, reverse, Option, Some, None}
use Rattle.lr_rules.specs.declared.rule.Way.{Way}
use Rattle.lr_rules.specs.declared.rule.Way.TheVariants.{Rename}
use Rattle.lr_host.specs.declared.entry.Entry.{Entry}
use Rattle.lr_host.specs.declared.journal.Journal.{Journal}
use Rattle.lr_host.specs.World.{Past, past}
use Rattle.lr_host.specs.Opening.{IsJournal}
use Rattle.lr_host.specs.Sets.{LogSet, Numbered, Dated, order}
use Rattle.lr_host.specs.Runs.{has_begun}
use Rattle.lr_host.specs.Forward.{IsForward}
use Rattle.lr_host.specs.Safe.{IsSafe}
use Rattle.lr_host.specs.Steady.{IsSteadyBy, NoneAttached}
use Rattle.lr_laws.specs.Room.{MayMoveOn}
use Rattle.lr_laws.specs.Rotation.{IsRotation}
use Rattle.lr_laws.specs.DatedRotation.{IsDatedRotation}

-- where the journal is told, each set of which the one condition holds before, and which is safe then, is safe after, where the
-- other condition holds of it then
abbrev pub KeepsSafeIf : (LogSet → Past → Type 0) → (LogSet → Past → Type 0) → Option Journal → Option Journal → Type 0
KeepsSafeIf when then (Some j) (Some k) = (s : LogSet) → when s (past j) → IsJournal (past j) → IsSafe s (past j) → then s (past k)
    → IsSafe s (past k)
KeepsSafeIf when then None None = Unit {0}
KeepsSafeIf when then _ _ = ⊥

-- so where no writer was attached to a member
abbrev pub StaysSafe : (LogSet → Past → Type 0) → Option Journal → Option Journal → Type 0
StaysSafe when before after = KeepsSafeIf when NoneAttached before after

-- so where the set is steady, for logs that are rotated in this way
abbrev pub KeepsSafeBy : Way → (LogSet → Past → Type 0) → Option Journal → Option Journal → Type 0
KeepsSafeBy way when before after = KeepsSafeIf when (IsSteadyBy way) before after

-- so for logs that are rotated by rename
abbrev pub KeepsSafeWhere : (LogSet → Past → Type 0) → Option Journal → Option Journal → Type 0
KeepsSafeWhere when before after = KeepsSafeBy Rename when before after

-- These steps, in order, are those of one rotation of the numbered set in this run, each member below a limit being ready, or lie
-- aside.
pub record Rotates (steps : List Entry) (s : LogSet) (p : Past) : Type 0 where
  pub numbered : order s ≡ Numbered
  pub limit : ℕ
  pub ready : MayMoveOn s p limit
  pub rotation : IsRotation s p limit (reverse steps)

-- These steps, in order, are those of one rotation of the dated set in this run, which has begun none, to a member that none is
-- later than; or they lie aside.
pub record RotatesDated (steps : List Entry) (s : LogSet) (p : Past) : Type 0 where
  pub dated : order s ≡ Dated
  pub not_begun : has_begun s p ≡ false
  pub newest : ℤ
  pub forward : IsForward s p newest
  pub rotation : IsDatedRotation s p newest (reverse steps)

-- so of a set of numbers or of dates
abbrev pub RotatesSet : List Entry → LogSet → Past → Type 0
RotatesSet steps s p = Rotates steps s p ⊎ RotatesDated steps s p
