-- Faults of the output, and what an outcome tells.
use Rattle.std.proofs.Common.{◌≡◌, sym, subst, ⊎_elim, List, [], ◌∷◌, arith}
use Rattle.std.specs.Prelude.{Contains}
use Rattle.std.proofs.lemmas.List.Elements.{Contains-append_cases, Contains-push_cases}
use Rattle.lr_rules.specs.declared.fault.Fault.{Fault}
use Rattle.lr_rules.specs.declared.fault.Fault.TheVariants as fault
use Rattle.lr_rules.specs.declared.fault.Notice.{Notice}
use Rattle.lr_host.specs.Counted.{IsAround, NoneAround}
use Rattle.lr_report.specs.Reported.{IsOut, HasNoOut}
use Rattle.lr_report.specs.declared.outcome.Outcome.{Outcome}
use Rattle.lr_report.specs.declared.outcome.Outcome.TheVariants.{Done}

pub is_out : (f : Fault) → f ≡ fault.Out → IsOut f
is_out f e = subst IsOut (sym e) tt

pub no_out_among : (fs : List Fault) → HasNoOut fs → Contains fs fault.Out → ⊥
no_out_among [] h c = omega (arith, c.1)
no_out_among (f ∷ fs) h c = ⊎_elim (λ (a : Contains (f ∷ []) fault.Out). h.0 (is_out f (⊎_elim (λ (b : Contains [] fault.Out). absurd (omega (arith, b.1))) (λ e. e) (Contains-push_cases [] f fault.Out a)))) (λ b. no_out_among fs h.1 b) (Contains-append_cases (f ∷ []) fs fault.Out c)

pub out_around : (f : Fault) → (IsAround f → ⊥) → IsOut f → ⊥
out_around fault.Out other i = other tt
out_around _ other i = i

-- none of the output among them
pub no_out_of : (fs : List Fault) → NoneAround fs → HasNoOut fs
no_out_of [] none = tt
no_out_of (f ∷ fs) none = (out_around f none.0, no_out_of fs none.1)

abbrev pub notices_in : Outcome → List Notice
notices_in (Done report) = report.notices
notices_in _ = []

abbrev pub faults_in : Outcome → List Fault
faults_in (Done report) = report.faults
faults_in _ = []
