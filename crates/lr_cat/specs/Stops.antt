-- Why a call wasn't carried through, and what it came to all the same.
use Rattle.std.specs.Prelude.{◌≡◌, ℕ, Bool, List, Option, Some, None, Result, Ok, Err}
use Rattle.lr_rules.specs.declared.fault.Fault.{Fault}
use Rattle.lr_host.specs.declared.entry.Entry.{Entry}
use Rattle.lr_host.specs.declared.journal.Journal.{Journal}
use Rattle.lr_host.specs.Told.{Counts, Rose}
use Rattle.lr_cat.specs.declared.stop.CatStop.{CatStop}
use Rattle.lr_cat.specs.declared.stop.CatStop.TheVariants as stop
use Rattle.lr_cat.specs.Texts.{FileText, HasCause, PassesTexts}

-- a fault that a call raised has its cause, and so has the lock of another
abbrev pub StopCause : CatStop → Counts → Counts → ℕ → ℕ → Type 0
StopCause (stop.Fault f) counted counts puts later = HasCause f counted counts puts later
StopCause stop.Held counted counts puts later = Rose counted.held counts.held
StopCause stop.Memory counted counts puts later = Unit {0}

-- What was left, and what the output took, are of some texts, by how it ended; for another cause than a fault the output took
-- nothing.
abbrev pub CameTo : (Result Bool Fault → List FileText → List Entry → Type 0) → Result Bool CatStop → Option Journal
    → Option Journal → Option (List ℕ) → Option (List ℕ) → Type 0
CameTo P (Ok waits) told later before after = PassesTexts (P (Ok waits)) None told later before after
CameTo P (Err (stop.Fault f)) told later before after = PassesTexts (P (Err f)) (Some f) told later before after
CameTo P (Err _) told later before after = after ≡ before
