-- What a stand shows that lists the directory first, and why there is none.
use Rattle.std.specs.Prelude.{◌≡◌, ◌⊎◌, ◌↔◌, ℕ, Bool, true, List, Result, Err}
use Rattle.lr_rules.specs.declared.path.Path.{Path}
use Rattle.lr_rules.specs.declared.rule.Naming.{Naming}
use Rattle.lr_host.specs.declared.entry.Entry.{Entry}
use Rattle.lr_host.specs.Told.{Then}
use Rattle.lr_family.specs.declared.stand.Stand.{Stand}
use Rattle.lr_family.specs.declared.stand.StandStop.{StandStop}
use Rattle.lr_family.specs.declared.stand.StandStop.TheVariants as stop
use Rattle.lr_family.specs.Among.{ShowsIn, ShowsNoneIn, StopsAmong}
use Rattle.lr_family.specs.Listed.{ShowsListing, ShowsNoDir, NotListed}

-- The directory was listed, or isn't there, and the looks at the members among its names, and at their part files, show these.
abbrev pub ShowsStand : Naming → Stand → List Entry → Type 0
ShowsStand n stand ts = (names : List (List ℕ)) × Then (ShowsListing n.dir stand.there stand.parent names)
    (ShowsIn n stand.there stand.parent names stand) ts

-- The directory wasn't listed for this cause, or it was, and the looks behind it stopped for it.
abbrev pub ShowsStop : Naming → StandStop → List Entry → Type 0
ShowsStop n why ts = NotListed n.dir why ts
    ⊎ ((there parent : Bool) × (names : List (List ℕ)) × Then (ShowsListing n.dir there parent names)
    (ShowsNoneIn n there names why) ts)

-- The family's directory is named and no directory, or a member is no regular file: the first in order of bytes.
abbrev pub ShowsNoFile : Naming → Path → List Entry → Type 0
ShowsNoFile n path ts = ShowsNoDir n.dir path ts
    ⊎ ((names : List (List ℕ)) × Then (ShowsListing n.dir true true names) (StopsAmong n names (stop.NotFile path)) ts)

-- it is NotFile of a path exactly where the looks show it
abbrev pub IsExactly : Naming → Result Stand StandStop → List Entry → Type 0
IsExactly n result ts = (path : Path) → (result ≡ Err (stop.NotFile path)) ↔ ShowsNoFile n path ts
