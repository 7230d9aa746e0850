-- The making of a directory.
use Rattle.std.specs.Prelude.{◌≡◌, ◌⊎◌, ℕ, List, [], ◌∷◌, Option}
use Rattle.lr_rules.specs.declared.path.Path.{Path}
use Rattle.lr_host.specs.declared.entry.Entry.{Entry}
use Rattle.lr_host.specs.declared.entry.Entry.TheVariants.{MakesDir}
use Rattle.lr_host.specs.Looks.{Sees, IsDir, IsNoDir}
use Rattle.lr_host.specs.Told.{Counts, Rose}
use Rattle.lr_chain.specs.declared.directory.DirStop.{DirStop}
use Rattle.lr_chain.specs.declared.directory.DirStop.TheVariants as unmade

-- It was made, or it was there: then a look saw it.
abbrev pub DirMade : Path → Option ℕ → List Entry → Type 0
DirMade path mode ts = (ts ≡ MakesDir path mode ∷ []) ⊎ Sees path IsDir ts

-- It couldn't be made, and its entry stands or not; or what has the path couldn't be looked at; or a look saw that this is none.
abbrev pub DirStopped : Path → Option ℕ → DirStop → List Entry → Type 0
DirStopped path mode unmade.Make ts = (ts ≡ []) ⊎ (ts ≡ MakesDir path mode ∷ [])
DirStopped path mode unmade.Look ts = ts ≡ []
DirStopped path mode unmade.NotDir ts = Sees path IsNoDir ts

-- Each of the two calls failed only where faults rose.
abbrev pub DirCause : DirStop → Counts → Counts → Type 0
DirCause unmade.NotDir before now = Unit {0}
DirCause _ before now = Rose before.faults now.faults
