-- What a call leaves behind its configuration.
use Rattle.std.specs.Prelude.{◌≡◌, ◌⊎◌, Bool, List, [], Result, Err}
use Rattle.lr_rules.specs.declared.clock.Clock.{Clock}
use Rattle.lr_rules.specs.declared.rule.Naming.{Naming}
use Rattle.lr_rules.specs.declared.rules.Rules.{Rules}
use Rattle.lr_rules.specs.declared.fault.CallKind.TheVariants as call
use Rattle.lr_rules.specs.declared.fault.Fault.{Fault}
use Rattle.lr_rules.specs.declared.fault.Fault.TheVariants as fault
use Rattle.lr_rules.specs.Path.{parent_of}
use Rattle.lr_host.specs.declared.entry.Entry.{Entry}
use Rattle.lr_host.specs.declared.entry.Entry.TheVariants.{Starts}
use Rattle.lr_host.specs.Looks.{Sees, IsDir, IsNotDir}
use Rattle.lr_host.specs.Looking.{AreSights}
use Rattle.lr_host.specs.Told.{Then, Maybe}
use Rattle.lr_looks.specs.Inside.{Inside}
use Rattle.lr_cat.specs.declared.stop.CatStop.{CatStop}
use Rattle.lr_cat.specs.declared.stop.CatStop.TheVariants as stop
use Rattle.lr_cat.specs.declared.words.Wanted.{Wanted}
use Rattle.lr_cat.specs.Saw.{Works}
use Rattle.lr_cat.specs.Texts.{FileText}

-- Behind its configuration a call ended so, and read these texts: the state's directory isn't there, or the look at it failed; the
-- begin failed, with its entry or without; or it began, and ended.
pub data Cats (w : Wanted) (clock : Clock) (rules : Rules) (n : Naming) (how : Result Bool Fault) (texts : List FileText)
    (ts : List Entry) : Type 0 where
  no_directory : how ≡ Err (fault.NoDir (parent_of w.state)) → texts ≡ [] → Sees (parent_of w.state) IsNotDir ts
      → Cats w clock rules n how texts ts
  not_seen : how ≡ Err (fault.Call call.Look (parent_of w.state)) → texts ≡ [] → ts ≡ [] → Cats w clock rules n how texts ts
  not_begun : how ≡ Err (fault.Call call.Begin w.state) → texts ≡ []
      → Then (Sees (parent_of w.state) IsDir) (Maybe (Starts w.state clock.now rules)) ts → Cats w clock rules n how texts ts
  began : Inside w.state clock rules (Works n w.log how texts) ts → Cats w clock rules n how texts ts

-- Where it wasn't carried through: another run has the lock; or there was no memory, before the first call, or under the lock,
-- where nothing was changed.
abbrev pub LockIsHeld : Wanted → List Entry → Type 0
LockIsHeld w ts = Sees (parent_of w.state) IsDir ts

abbrev pub CatIsShort : Wanted → Clock → Rules → List Entry → Type 0
CatIsShort w clock rules ts = (ts ≡ []) ⊎ Inside w.state clock rules AreSights ts

abbrev pub StopsSo : Wanted → Clock → Rules → CatStop → List Entry → Type 0
StopsSo w clock rules stop.Held ts = LockIsHeld w ts
StopsSo w clock rules stop.Memory ts = CatIsShort w clock rules ts
StopsSo w clock rules (stop.Fault f) ts = Unit {0}
