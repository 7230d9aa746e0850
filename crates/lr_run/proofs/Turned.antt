-- What a run came to, by the logs of its plan: they are those that its looks show, and they are turned where no step of them failed.
use Rattle.std.proofs.Common.{◌≡◌, false, List, [], ◌∷◌, ◌++◌, reverse, sym, ap, ◌∙◌, subst, append_assoc}
use Rattle.lr_rules.specs.declared.clock.Clock.{Clock}
use Rattle.lr_rules.specs.declared.path.Path.{Path}
use Rattle.lr_rules.specs.declared.rule.Rule.{Rule}
use Rattle.lr_rules.specs.declared.rules.Rules.{Rules}
use Rattle.lr_host.specs.declared.entry.Entry.{Entry}
use Rattle.lr_host.specs.declared.entry.Entry.TheVariants.{Starts, Ends}
use Rattle.lr_host.specs.Lists.{IsIn}
use Rattle.lr_host.specs.Opening.{IsJournal}
use Rattle.lr_host.specs.Quiet.{AreQuiet}
use Rattle.lr_host.specs.Told.{Made}
use Rattle.lr_host.specs.World.{Past}
use Rattle.lr_plan.specs.Asked.{Asked}
use Rattle.lr_laws_rotations.specs.Target.{Target}
use Rattle.lr_laws_looks.specs.Planned.{targets_in}
use Rattle.lr_laws_looks.proofs.Planned.{plan_targets}
use Rattle.lr_run.specs.Rotated.{rotated_targets, IsTurnedAmong, TurnLogs}
use Rattle.lr_looks.specs.Inside.{Inside}
use Rattle.lr_run.specs.InternalRuns.{Worked}
use Rattle.lr_run.specs.Work.{Work, IsPlanOf, ShowsWork, CarriesOut, run_entries}
use Rattle.lr_run.proofs.Evidence.{faults_of, text_shown, worked_of}
use Rattle.lr_run.proofs.Turning.{run_turned}

-- the logs of the plan are those that the looks show
pub logs_are : (rules : List Rule) (clock : Clock) (asked : Asked) (w : Work) → IsPlanOf rules w.saw clock asked w.plan → rotated_targets rules w.saw.table clock asked w.saw.sets ≡ targets_in w.plan
logs_are rules clock asked w planned = sym (ap targets_in planned.is ∙ plan_targets rules w.saw.sets w.saw.table clock asked)

module _ (state : Path) (asked : Asked) (clock : Clock) (rules : Rules) (w : Work) (shows : ShowsWork false state rules.sets clock asked w) (out : CarriesOut state clock w) where
  -- what it did between its begin and its end
  abbrev pub work : List Entry
  work = w.reads ++ (w.looks ++ w.did)

  abbrev pub worked : Worked state rules.sets clock asked (faults_of w) work
  worked = worked_of state rules clock asked w shows out

  abbrev pub inside : Inside state clock rules (Worked state rules.sets clock asked (faults_of w)) (run_entries false state clock rules w)
  inside = record {
    before = w.dir;
    between = work;
    entries = ap (λ (us : List Entry). w.dir ++ (Starts state clock.now rules ∷ us))
        (ap (λ (us : List Entry). w.reads ++ us) (sym (append_assoc w.looks w.did (Ends ∷ []))) ∙ sym (append_assoc w.reads (w.looks ++ w.did) (Ends ∷ [])));
    directory = (text_shown state w.saw.text w.saw.stale w.dir w.reads shows.seen.file).0;
    within = worked;
  }

pub logs_turned : (state : Path) (asked : Asked) (clock : Clock) (rules : Rules) (w : Work) (p q : Past) (es reads : List Entry) → Made p es q → IsJournal p → reverse es ≡ reads ++ run_entries false state clock rules w → AreQuiet reads
    → ShowsWork false state rules.sets clock asked w → CarriesOut state clock w → w.acts.of_logs ≡ [] → TurnLogs state w.plan p q
logs_turned state asked clock rules w p q es reads made journal joined quiet shows out none =
    subst (λ (ts : List Target). (t : Target) → IsIn t ts → IsTurnedAmong state ts p q t) (logs_are rules.sets clock asked w shows.plan)
    (λ t one. run_turned state asked clock rules (faults_of w) p q es reads (run_entries false state clock rules w) made journal joined quiet (inside state asked clock rules w shows out) none t one)
