-- The faults of a report but for its `Out`.
use Rattle.std.proofs.Common.{◌≡◌, List, [], ◌∷◌, ◌++◌, Result, Ok, Err, OnErr, refl, sym, ap, subst, Contains}
use Rattle.std.proofs.lemmas.List.Elements.{Contains-push, Contains-append_right}
use Rattle.lr_rules.specs.declared.fault.Fault.{Fault}
use Rattle.lr_rules.specs.declared.fault.Fault.TheVariants as fault
use Rattle.lr_rules.specs.declared.fault.Notice.{Notice}
use Rattle.lr_host.specs.declared.sink.SinkFault.{SinkFault}
use Rattle.lr_report.specs.declared.outcome.Outcome.{Outcome}
use Rattle.lr_report.specs.declared.outcome.Outcome.TheVariants.{Done}
use Rattle.lr_cli.specs.Faults.{HasFault}
use Rattle.lr_cli.specs.Printed.{no_out, but_out}

-- a fault that isn't `Out` stays
stays : (f : Fault) → (f ≡ fault.Out → ⊥) → no_out f ≡ f ∷ []
stays fault.Out other = absurd (other refl)
stays (fault.Conf file line kind) other = refl
stays fault.Clock other = refl
stays (fault.Zone why) other = refl
stays (fault.State line kind) other = refl
stays (fault.Missing word) other = refl
stays (fault.NotFile path) other = refl
stays (fault.NoDir path) other = refl
stays (fault.Duplicate path) other = refl
stays (fault.Overlap path by) other = refl
stays (fault.Taken path) other = refl
stays (fault.Unfinished path) other = refl
stays (fault.TooHigh path) other = refl
stays (fault.LongName word) other = refl
stays (fault.TooMany word) other = refl
stays (fault.TooLong path) other = refl
stays (fault.Call kind path) other = refl
stays (fault.Script phase on end) other = refl

-- faults among which there is no `Out` all stay
pub all_stay : (fs : List Fault) → (Contains fs fault.Out → ⊥) → but_out fs ≡ fs
all_stay [] none = refl
all_stay (f ∷ []) none = stays f (λ e. none (subst (λ g. Contains (g ∷ []) fault.Out) (sym e) (Contains-push [] fault.Out)))
all_stay (f ∷ g ∷ fs) none = ap (λ gs. f ∷ gs) (all_stay (g ∷ fs) (λ h. none (Contains-append_right (f ∷ []) (g ∷ fs) fault.Out h)))

-- an `Out` behind them goes
pub last_goes : (fs : List Fault) → but_out (fs ++ fault.Out ∷ []) ≡ fs
last_goes [] = refl
last_goes (f ∷ []) = refl
last_goes (f ∷ g ∷ fs) = ap (λ gs. f ∷ gs) (last_goes (g ∷ fs))

-- the answer with these notices and faults
abbrev pub report_with : List Notice → List Fault → Outcome
report_with ns fs = Done (record { notices = ns; faults = fs })

-- where the output failed, it is among them
pub has_out : (put : Result (Unit {0}) SinkFault) (o : Outcome) (ns : List Notice) (fs : List Fault) → OnErr put (o ≡ report_with ns (fs ++ fault.Out ∷ [])) → OnErr put (HasFault o fault.Out)
has_out (Ok u) o ns fs e = tt
has_out (Err why) o ns fs e = subst (λ r. HasFault r fault.Out) (sym e) (Contains-push fs fault.Out)
