-- What a listing of a directory shows, and why there is none.
use Rattle.std.specs.Prelude.{◌≡◌, ◌⊎◌, ◌↔◌, ◌≤◌, ℕ, Bool, true, false, List, [], length, Result, Err}
use Rattle.lr_rules.specs.declared.path.Path.{Path}
use Rattle.lr_rules.specs.declared.fault.CallKind.{CallKind}
use Rattle.lr_rules.specs.declared.fault.CallKind.TheVariants as call
use Rattle.lr_rules.specs.Path.{parent_of}
use Rattle.lr_host.specs.declared.entry.Entry.{Entry}
use Rattle.lr_host.specs.Listing.{HasListed}
use Rattle.lr_host.specs.Told.{Then}
use Rattle.lr_host.specs.Looks.{Sees, IsNothing, IsDir, IsNoDir, is_dir}
use Rattle.lr_family.specs.declared.stand.StandStop.{StandStop}
use Rattle.lr_family.specs.declared.stand.StandStop.TheVariants as stop

-- The directory is there, and has these names; or it isn't there, and a look at its parent showed whether that is.
abbrev pub ShowsListing : Path → Bool → Bool → List (List ℕ) → List Entry → Type 0
ShowsListing dir true parent names ts = (parent ≡ true) × Then (Sees dir IsDir) (HasListed dir names) ts
ShowsListing dir false parent names ts = (names ≡ []) × Then (Sees dir IsNothing)
    (Sees (parent_of dir) (λ seen. is_dir seen ≡ parent)) ts

-- A call failed: a look at the directory, one at its parent, or the listing.
abbrev pub NotListedAt : Path → CallKind → Path → List Entry → Type 0
NotListedAt dir call.Look path ts = ((path ≡ dir) × (ts ≡ [])) ⊎ ((path ≡ parent_of dir) × Sees dir IsNothing ts)
NotListedAt dir call.List path ts = (path ≡ dir) × Sees dir IsDir ts
NotListedAt dir _ path ts = ⊥

-- The directory is named, and is no directory.
abbrev pub ShowsNoDir : Path → Path → List Entry → Type 0
ShowsNoDir dir path ts = (path ≡ dir) × Sees dir IsNoDir ts

abbrev pub NotListed : Path → StandStop → List Entry → Type 0
NotListed dir (stop.Call kind path) ts = NotListedAt dir kind path ts
NotListed dir (stop.NotFile path) ts = ShowsNoDir dir path ts
NotListed dir stop.Memory ts = (ts ≡ []) ⊎ (Sees dir IsNothing ts ⊎ Sees dir IsDir ts)

-- it is NotFile exactly where the look shows no directory
abbrev pub IsExactlyNoDir : {T : Type 0} → Path → Result T StandStop → List Entry → Type 0
IsExactlyNoDir dir result ts = (path : Path) → (result ≡ Err (stop.NotFile path)) ↔ ShowsNoDir dir path ts

-- at most so many entries
abbrev pub AreAtMost : ℕ → List Entry → Type 0
AreAtMost count ts = length ts ≤ count
