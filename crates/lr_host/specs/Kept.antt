-- What is kept of a log and its members.
use Rattle.std.specs.Prelude.{◌≡◌, ◌⊎◌, ℕ, List, [], ◌++◌, cond}
use Rattle.lr_rules.specs.declared.path.Path.{Path}
use Rattle.lr_host.specs.declared.thing.Thing.TheVariants as thing
use Rattle.lr_host.specs.declared.entry.Entry.TheVariants.{Feed, Cut}
use Rattle.lr_host.specs.World.{MayLeave, Names, Change, Past, Opens, ◌▸◌, world, names, step, makes, length_of, cut_to, holds_file}
use Rattle.lr_host.specs.World.{opening_file}
use Rattle.lr_host.specs.Fits.{IsNamed}
use Rattle.lr_host.specs.Sets.{LogSet, order, IsUnplaced, IsWithin}
use Rattle.lr_host.specs.Later.{IsGeneration, later}
use Rattle.lr_host.specs.Released.{IsUnnamed, IsMadeIn, IsReleased}

-- Exactly one path names the file, and it is the log, the path where the log waits while it is set aside, or a member whose place
-- is at most the limit.
pub record Stands (s : LogSet) (n : Names) (limit g : ℕ) : Type 0 where
  pub at : Path
  pub named : n at ≡ thing.File g
  pub only : (y : Path) → n y ≡ thing.File g → y ≡ at
  pub placed : IsUnplaced s at ⊎ IsWithin (order s) s.key n at limit

-- the bytes that a file must have: those at the opening, or none as it is made; then what writers fed it, in order, cut where a cut
-- lists it
abbrev pub content : Past → ℕ → List ℕ
content (Opens o) g = (opening_file o.files g).bytes
content (p ▸ Feed writer bytes at) g = cond (holds_file ((world p).holds writer) g) (content p g ++ bytes) (content p g)
content (p ▸ Cut names_kept lengths) g = cut_to (length_of lengths g) (content p g)
content (p ▸ e) g = cond (makes (step (world p) e) g) [] (content p g)

abbrev pub IsWhole : Past → ℕ → Type 0
IsWhole p g = ((world p).files g).bytes ≡ content p g

-- Each generation is released, or it stands under exactly one name, at a place not above its later rotations, with its bytes.
abbrev pub IsKept : LogSet → Past → Type 0
IsKept s p = (g : ℕ) → IsGeneration s p g → IsReleased s p g ⊎ (Stands s (names (world p)) (later s p g) g × IsWhole p g)

-- ---- under the names that a cut may leave

-- a cut now may leave these names, and undoes these changes
abbrev pub Leaves : Past → Names → List Change → Type 0
Leaves p n undone = MayLeave (world p).durable (world p).pending n undone

-- No path names the file then. Either one names it now, and what is undone made it, or it was released before.
abbrev pub IsGoneIn : Names → Names → List Change → Type 0 → ℕ → Type 0
IsGoneIn then now undone released g = IsUnnamed then g × ((IsNamed now g × IsMadeIn undone g) ⊎ (IsUnnamed now g × released))

-- what is kept under names that a cut may leave, by the later rotations of now
abbrev pub IsKeptUnder : LogSet → Past → Names → List Change → Type 0
IsKeptUnder s p n undone = (g : ℕ) → IsGeneration s p g → IsGoneIn n (names (world p)) undone (IsReleased s p g) g
    ⊎ (Stands s n (later s p g) g × IsWhole p g)

-- what is kept, whatever a cut leaves
abbrev pub IsKeptWithin : LogSet → Past → Type 0
IsKeptWithin s p = (n : Names) (undone : List Change) → Leaves p n undone → IsKeptUnder s p n undone
