-- What a journal tells of some logs.
use Rattle.std.specs.Prelude.{◌≡◌, ◌↔◌, ℕ, ◌+◌, true, List, Bool, length, map, sum_by}
use Rattle.std.specs.List.{AllZip, list_any}
use Rattle.lr_rules.specs.declared.path.Path.{Path}
use Rattle.lr_rules.specs.declared.rule.Naming.{Naming}
use Rattle.lr_host.specs.declared.thing.Thing.{Thing}
use Rattle.lr_host.specs.declared.thing.Thing.TheVariants as thing
use Rattle.lr_host.specs.declared.entry.Entry.TheVariants.{Starts}
use Rattle.lr_host.specs.Lists.{AreDistinct, IsIn}
use Rattle.lr_host.specs.World.{World, Past, Opens, ◌▸◌, world, names}
use Rattle.lr_host.specs.Fits.{IsFileAt}
use Rattle.lr_host.specs.Sets.{LogSet, in_set}
use Rattle.lr_host.specs.Runs.{rotations}
use Rattle.lr_host.specs.Later.{IsGeneration}
use Rattle.lr_host.specs.Released.{IsUnnamed}
use Rattle.lr_family.specs.declared.family.Family.{Family}
use Rattle.lr_nights.specs.declared.summary.Summary.{Summary}

-- logs, each with the naming of its members
abbrev pub logs_of : List Family → List (Path × Naming)
logs_of families = map (λ f. (f.log, f.naming)) families

-- the set is that of the log and its members
abbrev pub IsSetOf : Path × Naming → LogSet → Type 0
IsSetOf l s = (s.log ≡ l.0) × (s.naming ≡ l.1)

-- the sets are those of the logs, one for each, in order
abbrev pub AreSetsOf : List (Path × Naming) → List LogSet → Type 0
AreSetsOf logs sets = AllZip IsSetOf logs sets

-- how many runs began
abbrev pub starts_in : Past → ℕ
starts_in (Opens o) = 0
starts_in (p ▸ Starts state now rules) = starts_in p + 1
starts_in (p ▸ _) = starts_in p

-- how many times a run began the rotation of one of the sets: the pairs of such a run and such a set
abbrev pub begun_in : List LogSet → Past → ℕ
begun_in sets p = sum_by (λ s. rotations s p) sets

-- the path is a log or a member of one
abbrev pub in_one : List LogSet → Path → Bool
in_one sets x = list_any (λ s. in_set s x) sets

-- the path names a regular file, and is a log or a member of one
abbrev pub IsFileOf : List LogSet → Past → Path → Type 0
IsFileOf sets p x = IsFileAt (names (world p)) x × (in_one sets x ≡ true)

-- the length in bytes of the file that is named
abbrev pub size_named : World → Thing → ℕ
size_named w (thing.File g) = length (w.files g).bytes
size_named w _ = 0

-- the length in bytes of the file that has the path
abbrev pub size_at : Past → Path → ℕ
size_at p x = size_named (world p) (names (world p) x)

-- the file is a generation of one of the sets
pub record IsGenerationOfOne (sets : List LogSet) (p : Past) (g : ℕ) : Type 0 where
  pub set : LogSet
  pub one : IsIn set sets
  pub generation : IsGeneration set p g

-- the file is a generation of one of the sets, and no path names it
abbrev pub IsGone : List LogSet → Past → ℕ → Type 0
IsGone sets p g = IsGenerationOfOne sets p g × IsUnnamed (names (world p)) g

-- The list has just what has P, each once.
pub record HoldsJust {A : Type 0} (P : A → Type 0) (xs : List A) : Type 0 where
  pub once : AreDistinct xs
  pub all : (x : A) → IsIn x xs ↔ P x

-- The numbers are those of the journal, over so many nights, of the sets of these logs: each log has one.
pub record IsSummary (logs : List (Path × Naming)) (given : ℕ) (p : Past) (s : Summary) : Type 0 where
  pub sets : List LogSet
  pub of_logs : AreSetsOf logs sets
  pub nights : s.nights ≡ given
  pub runs : s.runs ≡ starts_in p
  pub begun : s.begun ≡ begun_in sets p
  -- the paths of the files that stand
  pub paths : List Path
  pub are_files : HoldsJust (IsFileOf sets p) paths
  pub files : s.files ≡ length paths
  pub bytes : s.bytes ≡ sum_by (size_at p) paths
  -- the identities of the files that are gone
  pub gone : List ℕ
  pub are_gone : HoldsJust (IsGone sets p) gone
  pub released : s.released ≡ length gone
