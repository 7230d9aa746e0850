-- By what a run came to, or why it halted: what its faults and its entries tell of its plan.
use Rattle.std.proofs.Common.{⊎_elim, inl, inr, true, false, refl, List, reverse, Some, None, subst}
use Rattle.lr_rules.specs.declared.clock.Clock.{Clock}
use Rattle.lr_rules.specs.declared.fault.Fault.{Fault}
use Rattle.lr_rules.specs.declared.path.Path.{Path}
use Rattle.lr_rules.specs.declared.rules.Rules.{Rules}
use Rattle.lr_host.specs.declared.entry.Entry.{Entry}
use Rattle.lr_host.specs.Told.{Made}
use Rattle.lr_host.specs.World.{Past}
use Rattle.lr_plan.specs.Asked.{Asked}
use Rattle.lr_run.specs.Halt.{OfFaults, Halts}
use Rattle.lr_run.specs.Work.{Work, ShowsWork, CarriesOut, DidNothing, run_entries}
use Rattle.lr_run.proofs.Leaving.{halt_left, tried_left}
use Rattle.lr_run.proofs.Evidence.{faults_of}
use Rattle.lr_run.proofs.Turned.{inside}
use Rattle.lr_laws_plan.specs.Ending.{EndsRun, NoneEnds, SaysWhyRun}
use Rattle.lr_laws_plan.specs.Looked.{behind_start, SawState}
use Rattle.lr_laws_plan.specs.Tried.{NoneEndsTry, SaysWhyTry}
use Rattle.lr_laws_plan.proofs.Ends.{last_ends}
use Rattle.lr_laws_plan.proofs.Reached.{Unreached, unreached, reached_saw, reached_none}
use Rattle.lr_laws_plan.proofs.Tried.{reached_try, ended_try}

module _ (state : Path) (asked : Asked) (clock : Clock) (rules : Rules) where
  -- a run that carried its plan out
  pub carried_none : (w : Work) (p q : Past) → Made p (reverse (run_entries false state clock rules w)) q → ShowsWork false state rules.sets clock asked w → CarriesOut state clock w → NoneEnds state (faults_of w)
  carried_none w p q made shows out = reached_none state asked clock rules (faults_of w) p q (run_entries false state clock rules w) made (inside state asked clock rules w shows out)

  pub carried_saw : (w : Work) → ShowsWork false state rules.sets clock asked w → CarriesOut state clock w → SawState state (behind_start (run_entries false state clock rules w))
  carried_saw w shows out = reached_saw state asked clock rules (faults_of w) (run_entries false state clock rules w) (inside state asked clock rules w shows out)

  -- one that halted with these faults
  pub halt_unreached : (own : List Fault) (ts : List Entry) → Halts false state rules clock asked (OfFaults own) ts → Unreached state own (behind_start ts)
  halt_unreached own ts h =
      unreached state asked clock rules own ts (halt_left state rules clock asked None refl ts false (OfFaults own) h)

  pub halt_why : (own : List Fault) (ts : List Entry) → Halts false state rules clock asked (OfFaults own) ts → SaysWhyRun state own
  halt_why own ts h = let u = halt_unreached own ts h in record { before = u.before; last = u.last; own_are = u.own_are; ends = ⊎_elim (λ ends. inl ends) (λ may. inr (may.0, may.1)) u.ends }

  pub halt_unseen : (own : List Fault) (ts : List Entry) → Halts false state rules clock asked (OfFaults own) ts → NoneEnds state own → SawState state (behind_start ts) → ⊥
  halt_unseen own ts h none saw = let u = halt_unreached own ts h in
      ⊎_elim (λ (ends : EndsRun state u.last). last_ends state u.before u.last (subst (NoneEnds state) u.own_are none) ends) (λ may. may.2 saw) u.ends

  -- a dry one
  pub tried_none : (w : Work) → ShowsWork true state rules.sets clock asked w → DidNothing w → NoneEndsTry state (faults_of w)
  tried_none w shows nothing = reached_try state clock asked rules (Some w.plan) (faults_of w) (run_entries true state clock rules w) (tried_left state rules clock asked w shows nothing) (λ h. cc)

  pub try_why : (own : List Fault) (ts : List Entry) → Halts true state rules clock asked (OfFaults own) ts → SaysWhyTry state own
  try_why own ts h = ended_try state clock asked rules None own ts (halt_left state rules clock asked None refl ts true (OfFaults own) h) refl
