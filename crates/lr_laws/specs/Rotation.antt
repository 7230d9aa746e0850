-- The entries of one rotation of a numbered set, as a list.
use Rattle.std.specs.Prelude.{◌≡◌, ◌⊎◌, ℕ, ◌+◌, ◌≤◌, ◌<◌, Bool, true, false, List, [], ◌∷◌, ℤ, pos, negsuc, Option, Some, None}
use Rattle.lr_rules.specs.declared.path.Path.{Path}
use Rattle.lr_rules.specs.declared.rule.Count.TheVariants.{Keep}
use Rattle.lr_host.specs.declared.thing.Thing.TheVariants as thing
use Rattle.lr_host.specs.declared.entry.Entry.{Entry}
use Rattle.lr_host.specs.declared.entry.Entry.TheVariants.{Attach, Feed, Flush, Detach, Starts, Renames, Makes, Unlinks, Cut}
use Rattle.lr_host.specs.World.{Names, Past, world, names, names_after}
use Rattle.lr_host.specs.Fits.{IsFileAt}
use Rattle.lr_host.specs.Steps.{changes_of}
use Rattle.lr_host.specs.Sets.{LogSet, IsAsideOf, is_unplaced}
use Rattle.lr_host.specs.Runs.{rules_of, SomeRule}
use Rattle.lr_host.specs.Released.{ByAge}
use Rattle.lr_laws.specs.Follow.{IsElsewhere}

-- the member at this place may go: the rule's count says so, or a look of the run saw the file that it names too old
abbrev pub IsPastCount : LogSet → Past → ℕ → Type 0
IsPastCount s p place = (count : ℕ) × SomeRule (rules_of p) s.log (λ r. r.count ≡ Keep count) × (count ≤ place)

abbrev pub IsPastAge : LogSet → Past → Names → Path → Type 0
IsPastAge s p n x = (g : ℕ) → n x ≡ thing.File g → SomeRule (rules_of p) s.log (ByAge p g)

-- The rename turns the log, where the names are n: the log goes to the member with the newest key, or to where it waits while it is
-- set aside; or what waits there is taken up again, and goes to that member.
pub data IsTurn (s : LogSet) (n : Names) (newest : ℤ) (from to : Path) : Type 0 where
  straight : from ≡ s.log → s.key to ≡ Some newest → IsTurn s n newest from to
  put_aside : from ≡ s.log → IsAsideOf s to → IsTurn s n newest from to
  taken_up : IsAsideOf s from → IsFileAt n from → s.key to ≡ Some newest → IsTurn s n newest from to

-- A step of a rotation that began behind p, where the names are n and members below the limit haven't moved: such a member goes one
-- place further, or the log turns, to a path that names nothing; what waited aside goes, or a member that may; the log is made
-- anew.
abbrev pub IsStep : LogSet → Past → ℕ → Names → Entry → Type 0
IsStep s p limit n (Renames from to) = (n to ≡ thing.Nothing)
    × (((place : ℕ) × (place < limit) × (s.key from ≡ Some (pos place)) × (s.key to ≡ Some (pos (place + 1))))
    ⊎ IsTurn s n (pos 0) from to)
IsStep s p limit n (Unlinks x) = IsAsideOf s x ⊎ ((place : ℕ) × (s.key x ≡ Some (pos place))
    × (IsPastCount s p place ⊎ IsPastAge s p n x))
IsStep s p limit n (Makes x mode) = x ≡ s.log
IsStep s p limit n _ = ⊥

abbrev pub limit_by : Option ℤ → Bool → ℕ → ℕ
limit_by (Some (pos place)) turns limit = place
limit_by (Some (negsuc k)) turns limit = 0
limit_by None true limit = 0
limit_by None false limit = limit

-- the place below which members haven't moved
abbrev pub limit_after : LogSet → ℕ → List Entry → ℕ
limit_after s limit [] = limit
limit_after s limit (Renames from to ∷ es) = limit_by (s.key from) (is_unplaced s from) (limit_after s limit es)
limit_after s limit (_ ∷ es) = limit_after s limit es

-- an entry of the tool in this run, on no path of the set
abbrev pub IsAside : LogSet → Entry → Type 0
IsAside s (Starts state now rules) = ⊥
IsAside s (Attach writer x at) = ⊥
IsAside s (Feed writer bytes at) = ⊥
IsAside s (Flush writer) = ⊥
IsAside s (Detach writer) = ⊥
IsAside s (Cut names_kept lengths) = ⊥
IsAside s e = IsElsewhere s e

-- These entries behind p, the newest first, are steps of one rotation of the set, highest place first, or lie aside.
abbrev pub IsRotation : LogSet → Past → ℕ → List Entry → Type 0
IsRotation s p limit [] = Unit {0}
IsRotation s p limit (e ∷ es) = IsRotation s p limit es × (IsAside s e
    ⊎ IsStep s p (limit_after s limit es) (names_after (names (world p)) (changes_of es)) e)

-- the log's path names a file where one of these entries, the newest first, renames it
abbrev pub LogFits : LogSet → Names → List Entry → Type 0
LogFits s n [] = Unit {0}
LogFits s n (e ∷ es) = LogFits s n es × ((to : Path) → e ≡ Renames s.log to → IsFileAt (names_after n (changes_of es)) s.log)
