-- The generations of a log, and how many rotations each has seen.
use Rattle.std.specs.Prelude.{◌≡◌, ◌⊎◌, ℕ, ◌+◌, ◌-◌, List, [], ◌∷◌, Bool, true, false, cond, ◌||◌, ◌&&◌, nat_eq, bytes_eq, ℤ, pos}
use Rattle.std.specs.Prelude.{negsuc, int_lt, Option, Some, None}
use Rattle.lr_rules.specs.declared.path.Path.{Path}
use Rattle.lr_host.specs.declared.thing.Thing.TheVariants as thing
use Rattle.lr_host.specs.declared.entry.Entry.{Entry}
use Rattle.lr_host.specs.declared.entry.Entry.TheVariants.{Renames}
use Rattle.lr_host.specs.declared.journal.Opening.{Opening}
use Rattle.lr_host.specs.World.{World, Past, Opens, ◌▸◌, world, names, is_file, opening_names}
use Rattle.lr_host.specs.Sets.{Order, Numbered, Dated, LogSet, order}
use Rattle.lr_host.specs.Runs.{rotations}

abbrev pub opening_of : Past → Opening
opening_of (Opens o) = o
opening_of (p ▸ e) = opening_of p

-- the log named the file at some prefix
abbrev pub stood : LogSet → Past → ℕ → Bool
stood s (Opens o) g = is_file (opening_names o s.log) g
stood s (p ▸ e) g = stood s p g || is_file (names (world (p ▸ e)) s.log) g

-- A member named the file at the opening.
pub record WasMember (s : LogSet) (o : Opening) (g : ℕ) : Type 0 where
  pub at : Path
  pub key : ℤ
  pub member : s.key at ≡ Some key
  pub named : opening_names o at ≡ thing.File g

-- the file is a generation of the log
abbrev pub IsGeneration : LogSet → Past → ℕ → Type 0
IsGeneration s p g = (stood s p g ≡ true) ⊎ WasMember s (opening_of p) g

-- the entry renames the file away from the log's path
abbrev pub leaves : LogSet → World → Entry → ℕ → Bool
leaves s w (Renames from to) g = bytes_eq s.log from && is_file (names w s.log) g
leaves s w _ g = false

-- the rotations begun up to the last rename of the file away from the log's path, that of its own run among them
abbrev pub left_at : LogSet → Past → ℕ → Option ℕ
left_at s (Opens o) g = None
left_at s (p ▸ e) g = cond (leaves s (world p) e g) (Some (rotations s (p ▸ e))) (left_at s p g)

-- the place that a numbered member's key says
abbrev pub place_by : Option ℤ → ℕ
place_by None = 0
place_by (Some (pos place)) = place
place_by (Some (negsuc k)) = 0

-- the key is later than the moment
abbrev pub is_later : ℤ → Option ℤ → Bool
is_later t None = false
is_later t (Some u) = int_lt t u

-- how many of these names have a later key
abbrev pub count_later : (Path → Option ℤ) → ℤ → List (Path × ℕ) → ℕ
count_later key t [] = 0
count_later key t (n ∷ ns) = cond (is_later t (key n.0)) 1 0 + count_later key t ns

abbrev pub count_over : (Path → Option ℤ) → Option ℤ → List (Path × ℕ) → ℕ
count_over key None all = 0
count_over key (Some t) all = count_later key t all

-- the place of a path among the opening's names
abbrev pub place_among : Order → (Path → Option ℤ) → List (Path × ℕ) → Path → ℕ
place_among Numbered key all x = place_by (key x)
place_among Dated key all x = count_over key (key x) all

-- the place of a file among the opening's names: that of the first of these paths that names it
abbrev pub place_first : LogSet → List (Path × ℕ) → List (Path × ℕ) → ℕ → ℕ
place_first s all [] g = 0
place_first s all (n ∷ ns) g = cond (nat_eq n.1 g) (place_among (order s) s.key all n.0) (place_first s all ns g)

-- the place of a file at the opening
abbrev pub first_place : LogSet → List (Path × ℕ) → ℕ → ℕ
first_place s all g = place_first s all all g

-- the later rotations, by the last rename away from the log, whether the file stood at the log, the rotations begun, and the place
-- at the opening
abbrev pub counted : Option ℕ → Bool → ℕ → ℕ → ℕ
counted (Some n) at_log rotations first = rotations - n
counted None true rotations first = 0
counted None false rotations first = first + rotations

-- The later rotations of a generation: the runs that began a rotation after the run that last renamed it away from the log; of one
-- that never stood at the log its place at the opening and all such runs; else none.
abbrev pub later : LogSet → Past → ℕ → ℕ
later s p g = counted (left_at s p g) (stood s p g) (rotations s p) (first_place s (opening_of p).names g)
