-- Lists of entries that calls leave: what they change, and whether they fit one after another.
use Rattle.std.specs.Prelude.{Bool, true, false, ◌≡◌, List, [], ◌∷◌, reverse, take, length, filter, Option}
use Rattle.lr_host.specs.declared.thing.Thing.TheVariants as thing
use Rattle.lr_host.specs.declared.entry.Entry.{Entry}
use Rattle.lr_host.specs.declared.entry.Entry.TheVariants.{Starts, Renames, Unlinks, MakesDir, Makes, Appends, Truncates}
use Rattle.lr_host.specs.declared.journal.Journal.{Journal}
use Rattle.lr_host.specs.World.{world, Names, names, names_after, Change, Puts, Moves, Drops}
use Rattle.lr_host.specs.Told.{CanCall, WhereTold}

-- the changes of names by these entries
abbrev pub changes_of : List Entry → List Change
changes_of [] = []
changes_of (Renames from to ∷ es) = Moves from to ∷ changes_of es
changes_of (Unlinks x ∷ es) = Drops x ∷ changes_of es
changes_of (MakesDir x mode ∷ es) = Puts x thing.Directory ∷ changes_of es
changes_of (_ ∷ es) = changes_of es

-- a change entry, or the start of a run: those that Safe looks at
abbrev pub is_change : Entry → Bool
is_change (Starts state now rules) = true
is_change (Renames from to) = true
is_change (Makes x mode) = true
is_change (Appends x bytes) = true
is_change (Truncates x) = true
is_change (Unlinks x) = true
is_change (MakesDir x mode) = true
is_change _ = false

-- an entry by which a name goes, or a directory comes
abbrev pub is_naming : Entry → Bool
is_naming (Renames from to) = true
is_naming (Unlinks x) = true
is_naming (MakesDir x mode) = true
is_naming _ = false

-- the entries fit one after another
abbrev pub FitAll : Names → List Entry → Type 0
FitAll n [] = Unit {0}
FitAll n (e ∷ es) = FitAll n es × CanCall (names_after n (changes_of es)) e

-- the change entries among them do
abbrev pub FitChanges : Names → List Entry → Type 0
FitChanges n [] = Unit {0}
FitChanges n (e ∷ es) = FitChanges n es × (is_change e ≡ true → CanCall (names_after n (changes_of es)) e)

-- Where the journal is told, these calls, in order, fit one after another.
pub record CanAll (told : Option Journal) (steps : List Entry) : Type 0 where
  pub can : WhereTold told (λ p. FitAll (names (world p)) (reverse steps))

-- these entries are the first of the steps, and where it is Ok all of them
abbrev pub Upto : List Entry → Bool → List Entry → Type 0
Upto steps is_ok ts = (ts ≡ take (length ts) steps) × (is_ok ≡ true → ts ≡ steps)

-- the change entries among these are
abbrev pub TookSteps : List Entry → Bool → List Entry → Type 0
TookSteps steps is_ok ts = Upto steps is_ok (filter is_change ts)
