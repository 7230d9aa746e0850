-- What a call of the program leaves, by its answer, as evidence in its entries.
use Rattle.std.proofs.Common.{◌≡◌, ◌⊎◌, ℕ, Bool, true, false, List, [], ◌∷◌, ◌++◌, Option, None, refl, sym, subst}
use Rattle.std.specs.Prelude.{ℤ}
use Rattle.lr_rules.specs.declared.path.Path.{Path}
use Rattle.lr_rules.specs.declared.clock.Clock.{Clock}
use Rattle.lr_rules.specs.declared.fault.Fault.{Fault}
use Rattle.lr_rules.specs.declared.fault.Notice.{Notice}
use Rattle.lr_rules.specs.declared.rules.Rules.{Rules}
use Rattle.lr_host.specs.declared.entry.Entry.{Entry}
use Rattle.lr_host.specs.Told.{Then}
use Rattle.lr_conf.specs.Meaning.{Meaning}
use Rattle.lr_include.specs.Stages.{Reads}
use Rattle.lr_include.specs.Lacking.{LacksReading}
use Rattle.lr_due.specs.declared.tz.Zone.{Zone}
use Rattle.lr_plan.specs.Asked.{asking}
use Rattle.lr_plan.specs.declared.plan.Plan.{Plan}
use Rattle.lr_run.specs.InternalAnswers.{RunLeaves, Holds, Lacks}
use Rattle.lr_run.specs.Halt.{Halt, OfFaults, OfLock, OfMemory, Halts}
use Rattle.lr_run.specs.Work.{ShowsWork, run_entries}
use Rattle.lr_run.proofs.Leaving.{halt_left, carried_left, tried_left}
use Rattle.lr_run.proofs.Evidence.{faults_of}
use Rattle.lr_command.specs.declared.request.Request.{Request}
use Rattle.lr_report.specs.declared.outcome.Outcome.{Outcome}
use Rattle.lr_report.specs.declared.outcome.Outcome.TheVariants.{Done, BadWords, Held, OutOfMemory}
use Rattle.lr_report.specs.declared.outcome.Report.{Report}
use Rattle.lr_cli.specs.Asked.{AskFor}
use Rattle.lr_cli.specs.Called.{Came, asked_in, answer_by, Tells, PlanEnds, ConfsHalt, no_reading, no_plan, no_clock as call_no_clock, no_zone, behind_clock, CallEnds, halted, called as call_called, CallShows, not_read as call_not_read, read as call_read}
use Rattle.lr_clock.specs.Clock.{ShowsClock, LacksClock}
use Rattle.lr_clock.specs.Zone.{LacksZoneMemory}

-- The configuration was read, and a run was made over its rules, a dry one or one that acts, which came to this plan. The report has the notices of the configuration, and its faults before those of the run.
pub record Reports (request : Request) (clock : Clock) (plan : Option Plan) (notices : List Notice) (faults : List Fault) (ts : List Entry) : Type 0 where
  pub meaning : Meaning
  pub rules : Rules
  pub own : List Fault
  pub rules_are : rules.sets ≡ meaning.rules
  pub notices_are : notices ≡ meaning.notices
  pub faults_are : faults ≡ meaning.faults ++ own
  pub entries : Then (Reads request.confs meaning) (RunLeaves request.settings.debug request.settings.state (asking request.settings.force request.settings.mailer) clock rules plan own) ts

-- The configuration was read, and the state's directory was seen; the lock was another's.
pub record FindsLock (request : Request) (ts : List Entry) : Type 0 where
  pub meaning : Meaning
  pub entries : Then (Reads request.confs meaning) (Holds request.settings.debug request.settings.state) ts

-- Where there was no memory: for the configuration's texts or its rules, or in the run, behind a first part of what it sees, or for a program, amid its acts.
pub data LacksMemory (request : Request) (clock : Clock) (ts : List Entry) : Type 0 where
  at_confs : LacksReading request.confs ts → LacksMemory request clock ts
  at_run : (meaning : Meaning) (rules : Rules) → rules.sets ≡ meaning.rules → Then (Reads request.confs meaning) (Lacks request.settings.debug request.settings.state (asking request.settings.force request.settings.mailer) clock rules) ts → LacksMemory request clock ts

-- What a call left that was to run by this request and this clock, and came to this plan, which it did only where it has a report.
abbrev pub Answers : Request → Clock → Option Plan → Outcome → List Entry → Type 0
Answers request clock plan (Done report) ts = Reports request clock plan report.notices report.faults ts
Answers request clock plan Held ts = (plan ≡ None) × FindsLock request ts
Answers request clock plan OutOfMemory ts = (plan ≡ None) × LacksMemory request clock ts
Answers request clock plan BadWords ts = ⊥

-- The same in a zone at these seconds: where there is no clock, its fault is the one that is told, and no more is called; and nothing is changed where there was no memory for it.
pub data AnswersAt (request : Request) (zone : Zone) (seconds : ℤ) (plan : Option Plan) (outcome : Outcome) (ts : List Entry) : Type 0 where
  no_clock : (f : Fault) → plan ≡ None → outcome ≡ Done (record { notices = []; faults = f ∷ [] }) → LacksClock zone seconds f ts → AnswersAt request zone seconds plan outcome ts
  no_memory : plan ≡ None → outcome ≡ OutOfMemory → LacksZoneMemory zone ts → AnswersAt request zone seconds plan outcome ts
  called : (clock : Clock) → Then (ShowsClock zone seconds clock) (Answers request clock plan outcome) ts → AnswersAt request zone seconds plan outcome ts

-- What a call of the program left that came to this plan: where the words ask for nothing, nothing, and so where there was no memory for what they ask for.
pub data Answered (here : Path) (words : List (List ℕ)) (zone : Zone) (seconds : ℤ) (plan : Option Plan) (outcome : Outcome) (ts : List Entry) : Type 0 where
  not_read : plan ≡ None → (outcome ≡ BadWords) ⊎ (outcome ≡ OutOfMemory) → ts ≡ [] → Answered here words zone seconds plan outcome ts
  read : (request : Request) → AskFor here words request → AnswersAt request zone seconds plan outcome ts → Answered here words zone seconds plan outcome ts

-- ---- from what it came to

module _ (request : Request) (clock : Clock) (plan : Option Plan) where
  halt_answers : (outcome : Outcome) (ts : List Entry) → plan ≡ None → ConfsHalt request clock outcome ts → Answers request clock plan outcome ts
  halt_answers outcome ts lost (no_reading is l) = subst (λ (o : Outcome). Answers request clock plan o ts) (sym is) (lost, at_confs l)
  halt_answers outcome ts lost (no_plan meaning rules halt same is t) = subst (λ (o : Outcome). Answers request clock plan o ts) (sym is) (go halt t)
    where
      go : (h : Halt) → Then (Reads request.confs meaning) (Halts request.settings.debug request.settings.state rules clock (asked_in request) h) ts → Answers request clock plan (answer_by meaning h) ts
      go (OfFaults own) u = record {
        meaning = meaning;
        rules = rules;
        own = own;
        rules_are = same;
        notices_are = refl;
        faults_are = refl;
        entries = record { front = u.front; back = u.back; joined = u.joined; first = u.first; second = halt_left request.settings.state rules clock (asked_in request) plan lost u.back request.settings.debug (OfFaults own) u.second };
      }
      go OfLock u = (lost, record { meaning = meaning; entries = record { front = u.front; back = u.back; joined = u.joined; first = u.first; second = halt_left request.settings.state rules clock (asked_in request) plan lost u.back request.settings.debug OfLock u.second } })
      go OfMemory u = (lost, at_run meaning rules same (record { front = u.front; back = u.back; joined = u.joined; first = u.first; second = halt_left request.settings.state rules clock (asked_in request) plan lost u.back request.settings.debug OfMemory u.second }))

  -- a run that came to its plan and has a report
  work_leaves : (debug : Bool) (c : Came) (report : Report) → c.clock ≡ clock → ShowsWork debug request.settings.state c.rules.sets c.clock (asked_in request) c.work → PlanEnds debug request c plan (Done report)
      → RunLeaves debug request.settings.state (asked_in request) clock c.rules plan (faults_of c.work) (run_entries debug request.settings.state c.clock c.rules c.work)
  work_leaves true c report at shows e = subst (λ (x : Clock). RunLeaves true request.settings.state (asked_in request) x c.rules plan (faults_of c.work) (run_entries true request.settings.state c.clock c.rules c.work)) at
      (subst (λ (p : Option Plan). RunLeaves true request.settings.state (asked_in request) c.clock c.rules p (faults_of c.work) (run_entries true request.settings.state c.clock c.rules c.work)) (sym e.0.plan) (tried_left request.settings.state c.rules c.clock (asked_in request) c.work shows e.1))
  work_leaves false c report at shows e = subst (λ (x : Clock). RunLeaves false request.settings.state (asked_in request) x c.rules plan (faults_of c.work) (run_entries false request.settings.state c.clock c.rules c.work)) at
      (subst (λ (p : Option Plan). RunLeaves false request.settings.state (asked_in request) c.clock c.rules p (faults_of c.work) (run_entries false request.settings.state c.clock c.rules c.work)) (sym e.0.plan) (carried_left request.settings.state c.rules c.clock (asked_in request) c.work shows e.1))

told_of : (debug : Bool) (request : Request) (c : Came) (plan : Option Plan) (report : Report) → PlanEnds debug request c plan (Done report) → Tells c plan report
told_of true request c plan report e = e.0
told_of false request c plan report e = e.0

-- one that has a report
pub done_answers : (request : Request) (zone : Zone) (seconds : ℤ) (plan : Option Plan) (report : Report) (came : Option Came) (ts : List Entry) → CallEnds request zone seconds plan (Done report) came ts → AnswersAt request zone seconds plan (Done report) ts
done_answers request zone seconds plan report came ts (halted none lost (call_no_clock f is l)) = no_clock f lost is l
done_answers request zone seconds plan report came ts (halted none lost (no_zone is l)) = absurd (cc)
done_answers request zone seconds plan report came ts (halted none lost (behind_clock clock t)) = called clock (record { front = t.front; back = t.back; joined = t.joined; first = t.first; second = halt_answers request clock plan (Done report) t.back lost t.second })
done_answers request zone seconds plan report came ts (call_called c some s e is) = called c.clock (record {
  front = c.of_clock;
  back = c.of_confs ++ run_entries request.settings.debug request.settings.state c.clock c.rules c.work;
  joined = is;
  first = s.clock;
  second = record {
    meaning = c.meaning;
    rules = c.rules;
    own = faults_of c.work;
    rules_are = s.confs.rules;
    notices_are = t.notices;
    faults_are = t.faults;
    entries = record { front = c.of_confs; back = run_entries request.settings.debug request.settings.state c.clock c.rules c.work; joined = refl; first = s.confs.read; second = work_leaves request c.clock plan request.settings.debug c report refl s.confs.work e };
  };
})
  where
    t : Tells c plan report
    t = told_of request.settings.debug request c plan report e

pub shown_answers : (here : Path) (words : List (List ℕ)) (zone : Zone) (seconds : ℤ) (plan : Option Plan) (report : Report) (came : Option Came) (ts : List Entry) → CallShows here words zone seconds plan (Done report) came ts → Answered here words zone seconds plan (Done report) ts
shown_answers here words zone seconds plan report came ts (call_not_read none lost which empty) = not_read lost which empty
shown_answers here words zone seconds plan report came ts (call_read request asks e) = read request asks (done_answers request zone seconds plan report came ts e)
