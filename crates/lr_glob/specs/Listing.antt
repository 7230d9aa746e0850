-- A listing of a directory.
use Rattle.std.specs.Prelude.{◌≡◌, List, [], ◌∷◌, ℕ}
use Rattle.lr_rules.specs.declared.path.Path.{Path}
use Rattle.lr_host.specs.declared.entry.Entry.{Entry}
use Rattle.lr_host.specs.declared.entry.Entry.TheVariants as entry
use Rattle.lr_glob.specs.declared.visit.VisitStop.{VisitStop}
use Rattle.lr_glob.specs.declared.visit.VisitStop.TheVariants as visit

-- the directory was listed, and these are its names
abbrev pub Lists : Path → List (List ℕ) → List Entry → Type 0
Lists dir names ts = ts ≡ entry.List dir names ∷ []

-- it came behind the look
abbrev pub IsFailed : VisitStop → Type 0
IsFailed visit.Look = ⊥
IsFailed _ = Unit {0}
