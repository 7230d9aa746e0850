-- How far a member may still go in this run.
use Rattle.std.specs.Prelude.{◌≡◌, ℕ, ◌+◌, ◌≤◌, ◌<◌, List, length, cond, ℤ, pos, Some}
use Rattle.lr_rules.specs.declared.path.Path.{Path}
use Rattle.lr_host.specs.declared.thing.Thing.TheVariants as thing
use Rattle.lr_host.specs.Lists.{AreDistinct}
use Rattle.lr_host.specs.World.{Names, Change, Past, world, names}
use Rattle.lr_host.specs.Kept.{Leaves}
use Rattle.lr_host.specs.Sets.{LogSet, AreLaterMembers}
use Rattle.lr_host.specs.Runs.{has_begun}
use Rattle.lr_host.specs.Later.{IsGeneration, later}

-- the later rotations once this run has begun one
abbrev pub later_once_begun : LogSet → Past → ℕ → ℕ
later_once_begun s p g = later s p g + cond (has_begun s p) 0 1

-- a generation that the path names may be at this place once this run has begun a rotation
abbrev pub MayStandAt : LogSet → Past → Path → ℕ → Type 0
MayStandAt s p x place = (g : ℕ) → names (world p) x ≡ thing.File g → IsGeneration s p g → place ≤ later_once_begun s p g

-- Under all names that a cut may leave, each generation that a member names may get one more later member, once this run has begun
-- a rotation.
abbrev pub HasRoomForOne : LogSet → Past → Type 0
HasRoomForOne s p = (m : Names) (undone : List Change) → Leaves p m undone → (g : ℕ) (x : Path) (t : ℤ) → IsGeneration s p g
    → m x ≡ thing.File g → s.key x ≡ Some t
    → (ys : List Path) → AreDistinct ys → AreLaterMembers s.key m t ys → length ys + 1 ≤ later_once_begun s p g

-- each numbered member at a place below the limit may go one place further
abbrev pub MayMoveOn : LogSet → Past → ℕ → Type 0
MayMoveOn s p limit = (x : Path) (place : ℕ) → s.key x ≡ Some (pos place) → place < limit → MayStandAt s p x (place + 1)
