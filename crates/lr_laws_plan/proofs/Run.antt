-- By what a run came to: none of its acts failed, where nothing was in its way and none of their faults is of a call or of a program.
use Rattle.std.proofs.Common.{◌≡◌, false, sym, subst, List, [], ◌++◌, reverse, Some}
use Rattle.lr_rules.specs.declared.clock.Clock.{Clock}
use Rattle.lr_rules.specs.declared.fault.Fault.TheVariants as fault
use Rattle.lr_rules.specs.declared.path.Path.{Path}
use Rattle.lr_rules.specs.declared.rules.Rules.{Rules}
use Rattle.lr_host.specs.declared.entry.Entry.{Entry}
use Rattle.lr_host.specs.declared.journal.Journal.{Journal}
use Rattle.lr_host.specs.Counted.{calls_in, bad_scripts_in}
use Rattle.lr_host.specs.Opening.{IsJournal}
use Rattle.lr_host.specs.Quiet.{AreQuiet}
use Rattle.lr_host.specs.Told.{Made}
use Rattle.lr_host.specs.World.{past}
use Rattle.lr_host.proofs.Lists.{in_back}
use Rattle.lr_acts.specs.Making.{all_of_sets}
use Rattle.lr_acts.specs.Taken.{LastTaken}
use Rattle.lr_laws_acts.specs.Jobs.{jobs_of}
use Rattle.lr_plan.specs.Asked.{Asked}
use Rattle.lr_plan.specs.declared.plan.Plan.{Plan}
use Rattle.lr_plan.specs.Done.{rotated_logs}
use Rattle.lr_plan.specs.Steps.{steps_of_plan, state_steps}
use Rattle.lr_run.specs.Ran.{TellsNamesOf}
use Rattle.lr_run.specs.Paths.{dirs_in}
use Rattle.lr_run.specs.Saw.{text_by}
use Rattle.lr_run.specs.Work.{Work, ShowsWork, CarriesOut, act_faults, run_entries}
use Rattle.lr_run.proofs.Evidence.{faults_of}
use Rattle.lr_run.proofs.Turned.{inside}
use Rattle.lr_laws_plan.specs.Fulfilled.{NothingFailed}
use Rattle.lr_laws_plan.proofs.Failing.{acts_met_nothing}
use Rattle.lr_laws_plan.specs.Smooth.{IsSmooth}
use Rattle.lr_laws_plan.proofs.Smooth.{acts_fail_nothing}

pub run_fails_nothing : (state : Path) (asked : Asked) (clock : Clock) (rules : Rules) (w : Work) (j k : Journal) (es reads : List Entry) → Made (past j) es (past k) → IsJournal (past j) → reverse es ≡ reads ++ run_entries false state clock rules w → AreQuiet reads
    → ShowsWork false state rules.sets clock asked w → CarriesOut state clock w → TellsNamesOf state clock w (Some j) (Some k) → IsSmooth state (jobs_of w.plan.sets) (dirs_in w.plan) (past j) (past k)
    → calls_in (act_faults w.acts) ≡ 0 → bad_scripts_in (act_faults w.acts) ≡ 0 → act_faults w.acts ≡ []
run_fails_nothing state asked clock rules w j k es reads made journal joined quiet shows out names smooth no_call no_end =
    acts_met_nothing state rules.sets clock asked w shows.plan out (subst (λ (p : Plan). NothingFailed state (dirs_in p) (act_faults w.acts)) (sym shows.plan.is)
    (acts_fail_nothing state asked clock rules (faults_of w) j k es reads (run_entries false state clock rules w) made journal joined quiet (inside state asked clock rules w shows out)
    (subst (λ (p : Plan). IsSmooth state (jobs_of p.sets) (dirs_in p) (past j) (past k)) shows.plan.is smooth)
    (λ x last i. names.taken x (subst (λ (p : Plan). LastTaken x (all_of_sets (steps_of_plan p) ++ state_steps state w.saw.stale w.acts.dirs (text_by w.saw clock (rotated_logs w.acts.marks)))) (sym shows.plan.is) (last w.saw.stale w.acts.dirs (text_by w.saw clock (rotated_logs w.acts.marks))))
    (in_back (fault.Taken x) w.plan.faults (act_faults w.acts) i))
    no_call no_end))
