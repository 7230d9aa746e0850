-- From what a clock, a reading and the run behind them left, to what the call came to.
use Rattle.std.proofs.Common.{◌≡◌, ℤ, Bool, true, false, List, [], ◌++◌, Option, Some, None, Result, Ok, Err, reverse, refl, sym, ap, ◌∙◌, subst}
use Rattle.std.proofs.lemmas.Option.{none-some, same_Some}
use Rattle.lr_rules.specs.declared.clock.Clock.{Clock}
use Rattle.lr_rules.specs.declared.fault.Fault.{Fault}
use Rattle.lr_rules.specs.declared.path.Path.{Path}
use Rattle.lr_host.specs.declared.entry.Entry.{Entry}
use Rattle.lr_host.specs.declared.journal.Journal.{Journal}
use Rattle.lr_host.specs.Told.{Left, not_told, is_told, Then}
use Rattle.lr_host.proofs.Left.{left_as, left_both, left_first}
use Rattle.lr_acts.proofs.Taking.{taken_later}
use Rattle.lr_due.specs.declared.tz.Zone.{Zone}
use Rattle.lr_include.specs.declared.reading.Reading.{Reading}
use Rattle.lr_include.specs.Lacking.{LacksReading}
use Rattle.lr_include.specs.Readers.{meaning_of}
use Rattle.lr_include.specs.Stages.{Reads}
use Rattle.lr_plan.specs.declared.plan.Plan.{Plan}
use Rattle.lr_run.specs.declared.answer.Ran.{Ran}
use Rattle.lr_run.specs.declared.answer.RunStop.{RunStop}
use Rattle.lr_run.specs.declared.answer.RunStop.TheVariants as stop
use Rattle.lr_run.specs.Halt.{Halt, OfFaults, OfLock, OfMemory, Halts}
use Rattle.lr_run.specs.Ran as ran
use Rattle.lr_run.specs.Ran.{RanSo, RunEnds, AnswersHalt, AnswersWork, TellsNamesOf}
use Rattle.lr_run.specs.Work.{Work, act_faults, run_entries}
use Rattle.lr_command.specs.declared.request.Request.{Request}
use Rattle.lr_clock.specs.declared.clock.ClockStop.{ClockStop}
use Rattle.lr_clock.specs.declared.clock.ClockStop.TheVariants as clock_stop
use Rattle.lr_report.specs.declared.outcome.Outcome.{Outcome}
use Rattle.lr_report.specs.declared.outcome.Outcome.TheVariants.{Done, Held, OutOfMemory}
use Rattle.lr_report.specs.declared.outcome.Report.{Report}
use Rattle.lr_cli.specs.Called.{Came, no_reading, no_plan, PlanEnds, CallHalts, no_clock, no_zone, behind_clock, CallEnds, halted, called, asked_in}
use Rattle.lr_clock.specs.Clock.{ShowsClock, ClockStopped, clock_answer}
use Rattle.lr_cli.specs.Faults.{answer_of}
use Rattle.lr_cli.specs.Internal.{ConfsEnd, confs_halted, confs_called, CameTo}
use Rattle.lr_clock.specs.Zone.{at_first}

-- ---- a run behind a reading

-- the answer of a call whose run ended so, and the plan that it came to
abbrev pub outcome_by : Reading → Result Ran RunStop → Outcome
outcome_by r (Ok ran) = Done (record { notices = r.notices; faults = ran.faults.items })
outcome_by r (Err why) = answer_of (Err why)

abbrev pub plan_by : Result Ran RunStop → Option Plan
plan_by (Ok ran) = ran.plan
plan_by (Err why) = None

module _ (request : Request) (clock : Clock) (r : Reading) (earlier : List Fault) (same : earlier ≡ r.faults) where
  -- what the call came to behind these entries of the reading
  abbrev came_of : List Entry → Work → Came
  came_of front w = record { clock = clock; meaning = meaning_of r; rules = r.rules; work = w; of_clock = []; of_confs = front }

  abbrev came_in : List Entry → Option Work → Option Came
  came_in front None = None
  came_in front (Some w) = Some (came_of front w)

  halt_ends : (result : Result Ran RunStop) (halt : Halt) (ts : List Entry) → Then (Reads request.confs (meaning_of r)) (Halts request.settings.debug request.settings.state r.rules clock (asked_in request) halt) ts → AnswersHalt earlier halt result
      → ConfsEnd request clock (plan_by result) (outcome_by r result) None ts
  halt_ends (Ok ran) (OfFaults own) ts t a = confs_halted refl a.0 (no_plan (meaning_of r) r.rules (OfFaults own) refl (ap (λ (fs : List Fault). Done (record { notices = r.notices; faults = fs })) (a.1 ∙ ap (λ (fs : List Fault). fs ++ own) same)) t)
  halt_ends (Ok ran) OfLock ts t a = absurd a
  halt_ends (Ok ran) OfMemory ts t a = absurd a
  halt_ends (Err stop.Held) (OfFaults own) ts t a = absurd a
  halt_ends (Err stop.Held) OfLock ts t a = confs_halted refl refl (no_plan (meaning_of r) r.rules OfLock refl refl t)
  halt_ends (Err stop.Held) OfMemory ts t a = absurd a
  halt_ends (Err stop.Memory) (OfFaults own) ts t a = absurd a
  halt_ends (Err stop.Memory) OfLock ts t a = absurd a
  halt_ends (Err stop.Memory) OfMemory ts t a = confs_halted refl refl (no_plan (meaning_of r) r.rules OfMemory refl refl t)

  work_ends : (debug : Bool) (result : Result Ran RunStop) (front : List Entry) (w : Work) → AnswersWork debug request.settings.state clock earlier w result → PlanEnds debug request (came_of front w) (plan_by result) (outcome_by r result)
  work_ends true (Ok ran) front w a = (record { plan = a.0.plan; notices = refl; faults = a.0.faults ∙ ap (λ (fs : List Fault). fs ++ (w.saw.faults ++ (w.plan.faults ++ act_faults w.acts))) same }, a.1)
  work_ends true (Err stop.Held) front w a = absurd a
  work_ends true (Err stop.Memory) front w a = absurd a
  work_ends false (Ok ran) front w a = (record { plan = a.0.plan; notices = refl; faults = a.0.faults ∙ ap (λ (fs : List Fault). fs ++ (w.saw.faults ++ (w.plan.faults ++ act_faults w.acts))) same }, a.1)
  work_ends false (Err stop.Held) front w a = absurd a
  work_ends false (Err stop.Memory) front w a = (refl, a)

  run_ends : (result : Result Ran RunStop) (work : Option Work) (ts : List Entry) → (t : Then (Reads request.confs (meaning_of r)) (RunEnds request.settings.debug request.settings.state r.rules clock (asked_in request) earlier result work) ts)
      → ConfsEnd request clock (plan_by result) (outcome_by r result) (came_in t.front work) ts
  run_ends result work ts t = go t.front t.back t.joined t.first t.second
    where
      go : (front back : List Entry) → ts ≡ front ++ back → Reads request.confs (meaning_of r) front → RunEnds request.settings.debug request.settings.state r.rules clock (asked_in request) earlier result work back
          → ConfsEnd request clock (plan_by result) (outcome_by r result) (came_in front work) ts
      go front back joined read (ran.halted halt none h a) =
          subst (λ (o : Option Work). ConfsEnd request clock (plan_by result) (outcome_by r result) (came_in front o) ts) (sym none) (halt_ends result halt ts (record { front = front; back = back; joined = joined; first = read; second = h }) a)
      go front back joined read (ran.came w some shows a is) =
          confs_called (came_of front w) (ap (came_in front) some) refl refl (record { rules = refl; read = read; work = shows }) (work_ends request.settings.debug result front w a) (joined ∙ ap (λ (us : List Entry). front ++ us) is)

  -- the names that the journal tells
  names_in : (result : Result Ran RunStop) (front : List Entry) (work : Option Work) (o n : Option Journal) → ((w : Work) (ran : Ran) → work ≡ Some w → result ≡ Ok ran → request.settings.debug ≡ false → TellsNamesOf request.settings.state clock w o n)
      → (c : Came) (report : Report) → came_in front work ≡ Some c → outcome_by r result ≡ Done report → request.settings.debug ≡ false → TellsNamesOf request.settings.state c.clock c.work o n
  names_in result front None o n h c report is done acts = absurd (none-some c is)
  names_in (Ok ran) front (Some w) o n h c report is done acts = subst (λ (x : Came). TellsNamesOf request.settings.state x.clock x.work o n) (same_Some (came_of front w) c is) (h w ran refl refl acts)
  names_in (Err stop.Held) front (Some w) o n h c report is done acts = absurd (cc)
  names_in (Err stop.Memory) front (Some w) o n h c report is done acts = absurd (cc)

  came_behind : (result : Result Ran RunStop) (work : Option Work) {o n : Option Journal} → Left (Then (Reads request.confs (meaning_of r)) (RunEnds request.settings.debug request.settings.state r.rules clock (asked_in request) earlier result work)) o n
      → ((w : Work) (ran : Ran) → work ≡ Some w → result ≡ Ok ran → request.settings.debug ≡ false → TellsNamesOf request.settings.state clock w o n) → CameTo (ConfsEnd request clock (plan_by result) (outcome_by r result)) request (outcome_by r result) o n
  came_behind result work not_told h = record { came = None; shows = not_told; names = λ c report is done acts. absurd (none-some c is) }
  came_behind result work (is_told {j = j} {k = k} {es = es} made t) h = record {
    came = came_in t.front work;
    shows = is_told made (run_ends result work (reverse es) t);
    names = names_in result t.front work (Some j) (Some k) h;
  }

  pub confs_came : (result : Result Ran RunStop) {o m n : Option Journal} → Left (Reads request.confs (meaning_of r)) o m → RanSo request.settings.debug request.settings.state r.rules clock (asked_in request) earlier result m n
      → CameTo (ConfsEnd request clock (plan_by result) (outcome_by r result)) request (outcome_by r result) o n
  confs_came result a h = came_behind result h.work (left_both a h.shows)
      (λ w ran is done acts. record { named = (h.names w ran is done acts).named; taken = λ x last i. taken_later x a ((h.names w ran is done acts).taken x last i) })

-- there was no memory for the configuration
pub lacks_came : (request : Request) (clock : Clock) (confs : List Path) {o n : Option Journal} → confs ≡ request.confs → Left (LacksReading confs) o n → CameTo (ConfsEnd request clock None OutOfMemory) request OutOfMemory o n
lacks_came request clock confs e l = record {
  came = None;
  shows = left_as l (λ ts h. confs_halted refl refl (no_reading refl (subst (λ (ps : List Path). LacksReading ps ts) e h)));
  names = λ c report is done acts. absurd (none-some c is);
}

-- ---- behind a clock

module _ (request : Request) (zone : Zone) (seconds : ℤ) (clock : Clock) (plan : Option Plan) (outcome : Outcome) where
  abbrev with_clock : List Entry → Came → Came
  with_clock front c = record { clock = c.clock; meaning = c.meaning; rules = c.rules; work = c.work; of_clock = front; of_confs = c.of_confs }

  abbrev clocked : List Entry → Option Came → Option Came
  clocked front None = None
  clocked front (Some c) = Some (with_clock front c)

  ends_so : (debug : Bool) (o : Outcome) (front : List Entry) (c : Came) → PlanEnds debug request c plan o → PlanEnds debug request (with_clock front c) plan o
  ends_so true (Done report) front c e = (record { plan = e.0.plan; notices = e.0.notices; faults = e.0.faults }, e.1)
  ends_so false (Done report) front c e = (record { plan = e.0.plan; notices = e.0.notices; faults = e.0.faults }, e.1)
  ends_so false OutOfMemory front c e = e
  ends_so _ _ front c e = absurd e

  behind_ends : (came : Option Came) (ts front back : List Entry) → ts ≡ front ++ back → ShowsClock zone seconds clock front → ConfsEnd request clock plan outcome came back → CallEnds request zone seconds plan outcome (clocked front came) ts
  behind_ends came ts front back joined shown (confs_halted none lost h) = halted (ap (clocked front) none) lost (behind_clock clock (record { front = front; back = back; joined = joined; first = shown; second = h }))
  behind_ends came ts front back joined shown (confs_called c some at first shows e is) = called (with_clock front c) (ap (clocked front) some)
      (record { clock = subst (λ (x : Clock). ShowsClock zone seconds x front) (sym at) shown; confs = record { rules = shows.rules; read = shows.read; work = shows.work } }) (ends_so request.settings.debug outcome front c e)
      (joined ∙ ap (λ (us : List Entry). front ++ us) (is ∙ ap (λ (us : List Entry). us ++ (c.of_confs ++ run_entries request.settings.debug request.settings.state c.clock c.rules c.work)) first))

  names_behind : (came : Option Came) (front : List Entry) (o n : Option Journal) → ((c : Came) (report : Report) → came ≡ Some c → outcome ≡ Done report → request.settings.debug ≡ false → TellsNamesOf request.settings.state c.clock c.work o n)
      → (c : Came) (report : Report) → clocked front came ≡ Some c → outcome ≡ Done report → request.settings.debug ≡ false → TellsNamesOf request.settings.state c.clock c.work o n
  names_behind None front o n h c report is done acts = absurd (none-some c is)
  names_behind (Some b) front o n h c report is done acts = subst (λ (x : Came). TellsNamesOf request.settings.state x.clock x.work o n) (same_Some (with_clock front b) c is) (h b report refl done acts)

  clock_behind : (came : Option Came) {o n : Option Journal} → Left (Then (ShowsClock zone seconds clock) (ConfsEnd request clock plan outcome came)) o n
      → ((c : Came) (report : Report) → came ≡ Some c → outcome ≡ Done report → request.settings.debug ≡ false → TellsNamesOf request.settings.state c.clock c.work o n) → CameTo (CallEnds request zone seconds plan outcome) request outcome o n
  clock_behind came not_told h = record { came = None; shows = not_told; names = λ c report is done acts. absurd (none-some c is) }
  clock_behind came (is_told {j = j} {k = k} {es = es} made t) h = record {
    came = clocked t.front came;
    shows = is_told made (behind_ends came (reverse es) t.front t.back t.joined t.first t.second);
    names = names_behind came t.front (Some j) (Some k) h;
  }

  pub clock_came : (s : ℤ) {o m n : Option Journal} → s ≡ seconds → Left (ShowsClock zone s clock) o m → CameTo (ConfsEnd request clock plan outcome) request outcome m n → CameTo (CallEnds request zone seconds plan outcome) request outcome o n
  clock_came s {o = o} {m = m} same a h = clock_behind h.came (left_both shown h.shows)
      (λ c report is done acts. record { named = (h.names c report is done acts).named; taken = λ x last i. taken_later x a ((h.names c report is done acts).taken x last i) })
    where
      shown : Left (ShowsClock zone seconds clock) o m
      shown = subst (λ (z : ℤ). Left (ShowsClock zone z clock) o m) same a

-- a call that halted
pub none_came : (request : Request) (zone : Zone) (seconds : ℤ) (plan : Option Plan) (outcome : Outcome) {o n : Option Journal} → plan ≡ None → Left (CallHalts request zone seconds outcome) o n → CameTo (CallEnds request zone seconds plan outcome) request outcome o n
none_came request zone seconds plan outcome lost l = record { came = None; shows = left_as l (λ ts h. halted refl lost h); names = λ c report is done acts. absurd (none-some c is) }

pub no_clock_came : (request : Request) (zone : Zone) (seconds : ℤ) (o : Option Journal) → CameTo (CallEnds request zone seconds None OutOfMemory) request OutOfMemory o o
no_clock_came request zone seconds o = none_came request zone seconds None OutOfMemory refl (left_first (CallHalts request zone seconds OutOfMemory) o (no_zone refl (at_first refl)))

pub stop_came : (request : Request) (zone : Zone) (s seconds : ℤ) (why : ClockStop) (plan : Option Plan) (outcome : Outcome) {o n : Option Journal} → s ≡ seconds → plan ≡ None → outcome ≡ clock_answer why → Left (ClockStopped zone s why) o n → CameTo (CallEnds request zone seconds plan outcome) request outcome o n
stop_came request zone s seconds why plan outcome {o = o} {n = n} same lost is l = none_came request zone seconds plan outcome lost (subst (λ (a : Outcome). Left (CallHalts request zone seconds a) o n) (sym is) (go why (subst (λ (z : ℤ). Left (ClockStopped zone z why) o n) same l)))
  where
    go : (w : ClockStop) → Left (ClockStopped zone seconds w) o n → Left (CallHalts request zone seconds (clock_answer w)) o n
    go (clock_stop.Fault f) h = left_as h (λ ts x. no_clock f refl x)
    go clock_stop.Memory h = left_as h (λ ts x. no_zone refl x)
