-- For proofs: the looks, one by one.
use Rattle.std.specs.Prelude.{◌≡◌, Bool, true, false, List, [], reverse, Option, Some, None, is_some}
use Rattle.lr_rules.specs.declared.path.Path.{Path}
use Rattle.lr_rules.specs.declared.rule.Naming.{Naming}
use Rattle.lr_rules.specs.declared.fault.CallKind.TheVariants as call
use Rattle.lr_rules.specs.declared.fault.Fault.{Fault}
use Rattle.lr_rules.specs.declared.fault.Fault.TheVariants as fault
use Rattle.lr_host.specs.declared.entry.Entry.{Entry}
use Rattle.lr_host.specs.declared.journal.Journal.{Journal}
use Rattle.lr_host.specs.Looks.{Sees, IsNoFile}
use Rattle.lr_host.specs.Looking.{AreSights}
use Rattle.lr_host.specs.Told.{Left}
use Rattle.lr_family.specs.declared.stand.StandStop.{StandStop}
use Rattle.lr_family.specs.declared.stand.StandStop.TheVariants as stands
use Rattle.lr_cat.specs.declared.seeing.FileStop.{FileStop}
use Rattle.lr_cat.specs.declared.seeing.FileStop.TheVariants as files
use Rattle.lr_cat.specs.declared.stop.CatStop.{CatStop}
use Rattle.lr_cat.specs.declared.stop.CatStop.TheVariants as stop
use Rattle.lr_cat.specs.Saw.{FamilySaw, ShowsFamilySaw, SeesNone, files_of}

-- the path, where a file was found there
abbrev pub found_if : Path → Bool → Option Path
found_if path true = Some path
found_if path false = None

abbrev pub FindsNoFile : Path → FileStop → List Entry → Type 0
FindsNoFile path files.Call ts = ts ≡ []
FindsNoFile path files.NotFile ts = Sees path IsNoFile ts

abbrev pub file_fault : FileStop → Path → Fault
file_fault files.Call path = fault.Call call.Look path
file_fault files.NotFile path = fault.NotFile path

abbrev pub stand_stop : StandStop → CatStop
stand_stop (stands.Call kind path) = stop.Fault (fault.Call kind path)
stand_stop (stands.NotFile path) = stop.Fault (fault.NotFile path)
stand_stop stands.Memory = stop.Memory

-- what stands was seen, and these are its files, of which the last is the oldest; and the log that is set aside waits among them,
-- or doesn't
pub record SeesAll (n : Naming) (log : Path) (files : List Path) (waits : Bool) (told later : Option Journal) : Type 0 where
  pub saw : FamilySaw
  pub shows : Left (ShowsFamilySaw n log saw) told later
  pub files_are : reverse files ≡ files_of saw
  pub waits_is : waits ≡ is_some saw.aside

-- it wasn't, for this cause
abbrev pub SeesNot : Naming → Path → CatStop → Option Journal → Option Journal → Type 0
SeesNot n log (stop.Fault f) told later = Left (SeesNone n log f) told later
SeesNot n log stop.Held told later = ⊥
SeesNot n log stop.Memory told later = Left AreSights told later
