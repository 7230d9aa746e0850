-- Behind the acts of its plan a run can write its state.
use Rattle.std.proofs.Common.{List, Option, sym, subst}
use Rattle.lr_rules.specs.declared.clock.Clock.{Clock}
use Rattle.lr_rules.specs.declared.fault.Fault.{Fault}
use Rattle.lr_rules.specs.declared.path.Path.{Path}
use Rattle.lr_rules.specs.declared.rules.Rules.{Rules}
use Rattle.lr_host.specs.declared.journal.Journal.{Journal}
use Rattle.lr_host.specs.Told.{Left, not_told, is_told}
use Rattle.lr_plan.specs.Asked.{Asked}
use Rattle.lr_plan.specs.declared.looks.Looks.{Looks}
use Rattle.lr_plan.specs.declared.step.SetSteps.{SetSteps}
use Rattle.lr_plan.specs.Done.{SetsDone}
use Rattle.lr_plan.specs.Asking.{CanMake}
use Rattle.lr_plan.specs.Planned.{decision}
use Rattle.lr_plan.specs.Steps.{state_steps}
use Rattle.lr_acts.specs.declared.progress.Progress.{Progress}
use Rattle.lr_looks.specs.Shown.{LooksAtAll}
use Rattle.lr_state.specs.declared.remembered.Remembered.{Remembered}
use Rattle.lr_writing.specs.Target.{StateTarget}
use Rattle.lr_writing.proofs.Fits.{writing_fits}
use Rattle.lr_looks.specs.Reserved.{reserved_by}
use Rattle.lr_laws_looks.proofs.Free.{targets_free}
use Rattle.lr_laws_looks.proofs.Placed.{AllAreFree, state_placed}
use Rattle.lr_run.specs.declared.ready.Ready.{Ready}
use Rattle.lr_run.specs.Internal.{ReadyFor, CanWrite, KnownBefore, SeenBefore, plan_for}
use Rattle.lr_run.proofs.Works.{make_at, make_none}

none_reserved : AllAreFree
none_reserved = λ reserved rules sets faults ts clock decide shown. targets_free rules sets faults ts clock decide shown

state_fits : (state : Path) (rules : Rules) (looks : Looks) (remembered : Remembered) (clock : Clock) (asked : Asked) (ready : Ready) (x y : Progress) (a b : List Fault) {middle told : Option Journal}
    → ReadyFor state clock.now remembered looks.kept (plan_for rules looks remembered clock asked) ready x y → KnownBefore state remembered middle → Left (LooksAtAll (reserved_by state) rules.sets looks a b) middle told → CanWrite ready told
state_fits state rules looks remembered clock asked ready x y a b r known not_told = λ later marks faults dirs text behind acts. make_at _ (make_none _) acts
state_fits state rules looks remembered clock asked ready x y a b {middle = middle} {told = told} r known (is_told m h) = λ later marks faults dirs text behind acts.
    subst (λ (w : StateTarget). CanMake later (state_steps w.state w.stale dirs text)) (sym r.is.writes)
    (writing_fits state remembered.stale dirs text later
    (state_placed none_reserved state 65_536 remembered rules looks.sets clock asked.mailer (decision remembered.table clock.now asked.force) marks faults dirs known.before middle told later
    (behind (plan_for rules looks remembered clock asked).sets r.is.directories) known.disk known.there known.read (is_told m (h.own, h.shown))
    (subst (λ (ss : List SetSteps). Left (SetsDone ss marks faults) told later) r.is.steps acts)))

pub fits_behind_acts : (state : Path) (rules : Rules) (looks : Looks) (remembered : Remembered) (clock : Clock) (asked : Asked) (ready : Ready) (x y : Progress) (told : Option Journal)
    → ReadyFor state clock.now remembered looks.kept (plan_for rules looks remembered clock asked) ready x y → SeenBefore state rules looks remembered told → CanWrite ready told
fits_behind_acts state rules looks remembered clock asked ready x y told r s = state_fits state rules looks remembered clock asked ready x y s.faults s.all_faults r s.known s.looked
