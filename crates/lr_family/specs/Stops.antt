-- Where the looks at members stopped.
use Rattle.std.specs.Prelude.{◌≡◌, List, []}
use Rattle.lr_rules.specs.declared.path.Path.{Path}
use Rattle.lr_rules.specs.declared.fault.CallKind.TheVariants as call
use Rattle.lr_host.specs.declared.entry.Entry.{Entry}
use Rattle.lr_host.specs.Told.{Are}
use Rattle.lr_family.specs.declared.look.LookStop.{LookStop}
use Rattle.lr_family.specs.declared.look.LookStop.TheVariants as look
use Rattle.lr_family.specs.declared.spot.Spot.{Spot}
use Rattle.lr_family.specs.declared.stand.StandStop.{StandStop}
use Rattle.lr_family.specs.declared.stand.StandStop.TheVariants as stop
use Rattle.lr_host.specs.Looks.{Sees, IsNoFile}
use Rattle.lr_family.specs.Looks.{ShowsTo, ShowsSome}

abbrev pub standing_stop : LookStop → Path → StandStop
standing_stop look.Call path = stop.Call call.Look path
standing_stop look.NotFile path = stop.NotFile path

-- the look failed, or saw no regular file
abbrev pub OneStopped : Path → LookStop → List Entry → Type 0
OneStopped path look.Call ts = ts ≡ []
OneStopped path look.NotFile ts = Sees path IsNoFile ts

-- one of these stopped the looks, or there was no memory
abbrev pub SomeStopped : List Spot → StandStop → List Entry → Type 0
SomeStopped spots (stop.Call kind path) ts = (kind ≡ call.Look) × ShowsTo spots path (Are []) ts
SomeStopped spots (stop.NotFile path) ts = ShowsTo spots path (Sees path IsNoFile) ts
SomeStopped spots stop.Memory ts = ShowsSome spots ts
