-- For proofs: the parts of a call under the lock.
use Rattle.std.specs.Prelude.{◌≡◌, Bool, List, [], ◌∷◌, Result, Err}
use Rattle.lr_rules.specs.declared.clock.Clock.{Clock}
use Rattle.lr_rules.specs.declared.rule.Naming.{Naming}
use Rattle.lr_rules.specs.declared.rules.Rules.{Rules}
use Rattle.lr_rules.specs.declared.fault.CallKind.TheVariants as call
use Rattle.lr_rules.specs.declared.fault.Fault.{Fault}
use Rattle.lr_rules.specs.declared.fault.Fault.TheVariants as fault
use Rattle.lr_host.specs.declared.entry.Entry.{Entry}
use Rattle.lr_host.specs.declared.entry.Entry.TheVariants.{Starts, Ends}
use Rattle.lr_host.specs.Looking.{AreSights}
use Rattle.lr_host.specs.Told.{Then, Are, Maybe}
use Rattle.lr_cat.specs.declared.stop.CatStop.{CatStop}
use Rattle.lr_cat.specs.declared.stop.CatStop.TheVariants as stop
use Rattle.lr_cat.specs.declared.words.Wanted.{Wanted}
use Rattle.lr_cat.specs.Saw.{Works}
use Rattle.lr_cat.specs.Texts.{FileText}

-- and then the run ended
abbrev pub EndsWork : (List Entry → Type 0) → List Entry → Type 0
EndsWork P = Then P (Are (Ends ∷ []))

-- The run began and ended, and of the entries between the two this holds.
abbrev pub BeginsAndEnds : Wanted → Clock → Rules → (List Entry → Type 0) → List Entry → Type 0
BeginsAndEnds w clock rules P = Then (Are (Starts w.state clock.now rules ∷ [])) (EndsWork P)

-- from the begin on: it failed, or the run began and ended
pub data Goes (w : Wanted) (clock : Clock) (rules : Rules) (n : Naming) (how : Result Bool Fault) (texts : List FileText)
    (ts : List Entry) : Type 0 where
  begun : BeginsAndEnds w clock rules (Works n w.log how texts) ts → Goes w clock rules n how texts ts
  not_begun : how ≡ Err (fault.Call call.Begin w.state) → texts ≡ [] → Maybe (Starts w.state clock.now rules) ts
      → Goes w clock rules n how texts ts

abbrev pub GoesShort : Wanted → Clock → Rules → CatStop → List Entry → Type 0
GoesShort w clock rules stop.Held ts = ts ≡ []
GoesShort w clock rules stop.Memory ts = BeginsAndEnds w clock rules AreSights ts
GoesShort w clock rules (stop.Fault f) ts = Unit {0}
