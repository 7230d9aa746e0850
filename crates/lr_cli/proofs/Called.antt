-- The answers of a call of the program.
use Rattle.std.proofs.Common.{◌≡◌, ◌≤◌, ◌⊎◌, inl, inr, arith, ℕ, List, [], ◌∷◌, ◌++◌, Option, Some, None, Result, Ok, Err, IfOk, OnOk, OnErr, refl, sym, ap, ◌∙◌, subst, false}
use Rattle.std.specs.Prelude.{ℤ, Contains}
use Rattle.std.proofs.lemmas.Option.{none-some}
use Rattle.lr_rules.specs.declared.clock.Clock.{Clock}
use Rattle.lr_rules.specs.declared.path.Path.{Path}
use Rattle.lr_rules.specs.declared.fault.Fault.{Fault}
use Rattle.lr_rules.specs.declared.fault.Fault.TheVariants as fault
use Rattle.lr_rules.specs.declared.fault.Notice.{Notice}
use Rattle.lr_host.specs.declared.journal.Journal.{Journal}
use Rattle.lr_host.specs.declared.sink.SinkFault.{SinkFault}
use Rattle.lr_host.specs.Quiet.{AreQuiet}
use Rattle.lr_host.specs.Safe.{KeepsSafe}
use Rattle.lr_host.specs.Opening.{IsJournal}
use Rattle.lr_host.specs.Told.{Counts, NoneFell, Left, Rose, WhereTold}
use Rattle.lr_host.proofs.Left.{left_as, left_first, left_then}
use Rattle.lr_due.specs.declared.tz.Zone.{Zone}
use Rattle.lr_host.specs.Counted.{AreCounted, Went, WentBy}
use Rattle.lr_laws_rotations.proofs.Safety.{quiet_call_safe}
use Rattle.lr_laws_rotations.specs.Runs.{IsWholeRunBy}
use Rattle.lr_laws_rotations.proofs.RunSafety.{all_safe}
use Rattle.lr_plan.specs.declared.plan.Plan.{Plan}
use Rattle.lr_report.specs.Lines.{report_lines}
use Rattle.lr_report.specs.Puts.{Took, TookPart}
use Rattle.lr_shown.specs.Puts.{Puts}
use Rattle.lr_run.specs.Ran.{TellsNamesOf}
use Rattle.lr_run.specs.declared.answer.RunStop.{RunStop}
use Rattle.lr_run.specs.declared.answer.RunStop.TheVariants as stop
use Rattle.lr_clock.specs.declared.clock.ClockStop.{ClockStop}
use Rattle.lr_clock.specs.declared.clock.ClockStop.TheVariants as clock_stop
use Rattle.lr_cli.specs.declared.told.Told.{Told}
use Rattle.lr_report.specs.declared.outcome.Outcome.{Outcome}
use Rattle.lr_report.specs.declared.outcome.Outcome.TheVariants.{Done, BadWords, Held, OutOfMemory}
use Rattle.lr_report.specs.declared.outcome.Report.{Report}
use Rattle.lr_command.specs.declared.request.Request.{Request}
use Rattle.lr_command.specs.Words.{asked_request}
use Rattle.lr_cli.specs.Called.{Came, CallEnds, CallShows, not_read, read}
use Rattle.lr_clock.specs.Clock.{ShowsClock, ClockStopped, HasClock, IsClockFault, IsClocked, with_clock, without_clock, clock_answer}
use Rattle.lr_report.specs.Reported.{AreReported}
use Rattle.lr_cli.specs.Faults.{answer_of, told_faults, HasCounted, HasFault}
use Rattle.lr_cli.specs.Asked.{AskFor, planned_text}
use Rattle.lr_cli.specs.Internal.{CameTo, TurnsByClock, only_looked, ran}
use Rattle.lr_cli.specs.Safe.{HadClock, KeepsSafeByClock, no_clock as safe_without, by_clock}
use Rattle.lr_report.specs.Outcome.{outcome_text}
use Rattle.lr_report.proofs.Reported.{no_out_among, no_out_of, notices_in, faults_in}
use Rattle.lr_clock.proofs.Quiet.{clock_quiet, stop_quiet}
use Rattle.lr_cli.specs.Printed.{without_out, printed_of}
use Rattle.lr_cli.specs.Says.{asked_text, Prints, Says}
use Rattle.lr_cli.proofs.OutAside.{report_with}
use Rattle.lr_cli.proofs.Reading.{run_behind}
use Rattle.lr_cli.proofs.Reached.{left_before}
use Rattle.lr_cli.proofs.Result.{came_so, came_whole, came_copied}
use Rattle.lr_cli.proofs.Still.{same_request}

-- ---- a run where there is no clock

pub stop_shape : (zone : Zone) (s seconds : ℤ) (why : ClockStop) {o n : Option Journal} → Left (ClockStopped zone s why) o n → TurnsByClock zone seconds o n
stop_shape zone s seconds why l = only_looked (left_as l (λ ts h. stop_quiet zone s why ts h))

-- the one fault that is told
faults_alone : (told : Told) (f : Fault) → answer_of (Ok told) ≡ clock_answer (clock_stop.Fault f) → (told.notices ≡ []) × (told.faults.items ≡ f ∷ [])
faults_alone told f e = (ap notices_in e, ap faults_in e)

pub stop_clocked : (zone : Zone) (s seconds : ℤ) (r : Result Told RunStop) (c : Result Clock ClockStop) (why : ClockStop) (Y : Fault → Type 0) → s ≡ seconds → answer_of r ≡ clock_answer why → c ≡ Err why → ((f : Fault) → c ≡ Err (clock_stop.Fault f) → IsClockFault zone s f × Y f)
    → IfOk r (λ told. IsClocked zone seconds told.notices told.faults.items)
stop_clocked zone s seconds (Ok told) c (clock_stop.Fault f) Y same e is h = let alone = faults_alone told f e in without_clock f alone.0 alone.1 (subst (λ (z : ℤ). IsClockFault zone z f) same (h f is).0)
stop_clocked zone s seconds (Ok told) c clock_stop.Memory Y same e is h = absurd (cc)
stop_clocked zone s seconds (Err w) c why Y same e is h = tt

-- ---- a run at a clock

pub clock_shape : (zone : Zone) (s seconds : ℤ) (clock : Clock) {o m n : Option Journal} → s ≡ seconds → Left (ShowsClock zone s clock) o m → Left (IsWholeRunBy clock) m n → TurnsByClock zone seconds o n
clock_shape zone s seconds clock same a b = ran clock
    (left_then a b (λ xs ys p q. record { front = xs; back = ys; joined = refl; first = subst (λ (z : ℤ). ShowsClock zone z clock xs) same p; second = tt }))
    (left_then a b (λ xs ys p q. run_behind clock xs ys (clock_quiet zone s clock xs p) q))

-- the counts tell of all faults that were told
counted_told : (told : Told) (k l : Counts) → Went [] told.faults.items k l → AreCounted told.faults.items k l
counted_told told k l w = subst (λ (fs : List Fault). AreCounted fs k l) (sym w.adds.after_is) w.adds.are_counted

pub clock_clocked : (zone : Zone) (s seconds : ℤ) (clock : Clock) (r : Result Told RunStop) (k l : Counts) → s ≡ seconds → HasClock zone s clock → WentBy r [] (told_faults r) k l → IfOk r (λ told. IsClocked zone seconds told.notices told.faults.items)
clock_clocked zone s seconds clock (Ok told) k l same h w = with_clock clock (subst (λ (z : ℤ). HasClock zone z clock) same h) (counted_told told k l w).none_around
clock_clocked zone s seconds clock (Err why) k l same h w = tt

-- the counts rose as much since a moment before
pub clock_reported : (r : Result Told RunStop) (j k l : Counts) → NoneFell j k → WentBy r [] (told_faults r) k l → IfOk r (λ told. AreReported told.faults.items j l)
clock_reported (Ok told) j k l le w = let c = counted_told told k l w in record {
  calls = (let rose = c.calls in let more : j.faults ≤ k.faults = le.0 in omega (arith, rose, more));
  scripts = (let rose = c.scripts in let more : j.bad_ends ≤ k.bad_ends = le.1 in omega (arith, rose, more));
  no_out = no_out_of told.faults.items c.none_around;
}
clock_reported (Err why) j k l le w = tt

-- ---- the call

-- a call that changed nothing keeps each set safe
quiet_keeps : {o n : Option Journal} → Left AreQuiet o n → KeepsSafe o n
quiet_keeps {o = o} {n = n} l = quiet_call_safe o n l

-- so does one that called nothing
pub safe_alone : (zone : Zone) (seconds : ℤ) (o : Option Journal) → KeepsSafeByClock zone seconds o o
safe_alone zone seconds o = safe_without (quiet_keeps (left_first AreQuiet o tt))

-- one by a clock keeps those safe that aren't ahead of it; one without only looked, and keeps each
pub turns_safe : (zone : Zone) (s seconds : ℤ) {o n : Option Journal} → s ≡ seconds → TurnsByClock zone s o n → KeepsSafeByClock zone seconds o n
turns_safe zone s seconds same (only_looked l) = safe_without (quiet_keeps l)
turns_safe zone s seconds {o = o} {n = n} same (ran clock had run) = by_clock clock (subst (λ (z : ℤ). HadClock zone z clock o n) same had) (all_safe clock o n run)

-- ---- what is printed

-- no plan has no text
none_asked : (r : Option Request) → asked_text r None ≡ []
none_asked None = refl
none_asked (Some request) = refl

-- an outcome of one line
abbrev pub IsLine : Outcome → Type 0
IsLine (Done report) = ⊥
IsLine _ = Unit {0}

line_prints : (o : Outcome) (x y : Option (List ℕ)) (low high : ℕ) → IsLine o → TookPart (outcome_text o) x y → Took (outcome_text o) x y ⊎ Rose low high → Prints (printed_of [] o) o x y low high
line_prints (Done report) x y low high i p w = absurd i
line_prints BadWords x y low high i p w = record { printed = p; whole = w; broken_off = λ report e. absurd (cc) }
line_prints Held x y low high i p w = record { printed = p; whole = w; broken_off = λ report e. absurd (cc) }
line_prints OutOfMemory x y low high i p w = record { printed = p; whole = w; broken_off = λ report e. absurd (cc) }

pub prints_line : (front : List ℕ) (o a : Outcome) (x y : Option (List ℕ)) (low high : ℕ) → IsLine o → front ≡ [] → a ≡ o → TookPart (outcome_text o) x y → Took (outcome_text o) x y ⊎ Rose low high → Prints (printed_of front a) a x y low high
prints_line front o a x y low high i f e p w = subst (λ (b : Outcome). Prints (printed_of front b) b x y low high) (sym e) (subst (λ (t : List ℕ). Prints (printed_of t o) o x y low high) (sym f) (line_prints o x y low high i p w))

-- ---- all that is told of a call

-- words that ask for nothing, or there was no memory for what they ask for
pub says_nothing : (here : Path) (words : List (List ℕ)) (zone : Zone) (seconds : ℤ) (a o : Outcome) (j : Option Journal) (counted counts : Counts) (x y : Option (List ℕ)) (low high : ℕ) → WhereTold j IsJournal → a ≡ o → (o ≡ BadWords) ⊎ (o ≡ OutOfMemory) → IsLine o → without_out a ≡ without_out o → without_out o ≡ o
    → TookPart (outcome_text o) x y → Took (outcome_text o) x y ⊎ Rose low high → Says here words zone seconds a j j counted counts x y low high
says_nothing here words zone seconds a o j counted counts x y low high disk same which i w v p t = record {
  came = None;
  plan = None;
  shown = shown;
  called = λ request asks c before after some told later. absurd (none-some c some);
  ended = left_before here words zone seconds None (without_out a) None shown;
  state = came_whole here words zone seconds None (without_out a) None shown;
  copied = came_copied here words zone seconds None (without_out a) None disk shown;
  prints = prints_line (asked_text (asked_request here words) None) o a x y low high i (none_asked (asked_request here words)) same p t;
}
  where
    shown : Left (CallShows here words zone seconds None (without_out a) None) j j
    shown = left_first (CallShows here words zone seconds None (without_out a) None) j (not_read refl refl (subst (λ (r : Outcome). (r ≡ BadWords) ⊎ (r ≡ OutOfMemory)) (sym (w ∙ v)) which) refl)

-- a request's, by what the run at its clock came to
pub says_so : (here : Path) (words : List (List ℕ)) (zone : Zone) (s seconds : ℤ) (request : Request) (plan : Option Plan) (a o : Outcome) (j k : Option Journal) (counted counts : Counts) (x y : Option (List ℕ)) (low high : ℕ) → WhereTold j IsJournal → s ≡ seconds → without_out a ≡ o → AskFor here words request
    → CameTo (CallEnds request zone s plan o) request o j k → HasCounted (without_out a) counted counts → Prints (printed_of (planned_text request plan) a) a x y low high → Says here words zone seconds a j k counted counts x y low high
says_so here words zone s seconds request plan a o j k counted counts x y low high disk at same asks h are p = record {
  came = h.came;
  plan = plan;
  shown = shown;
  called = came_so here words zone seconds plan (without_out a) h.came counted counts disk shown are
      (λ other c report others some done acts. names_of (same_request here words request other asks others) c report some (sym same ∙ done) acts);
  ended = left_before here words zone seconds plan (without_out a) h.came shown;
  state = came_whole here words zone seconds plan (without_out a) h.came shown;
  copied = came_copied here words zone seconds plan (without_out a) h.came disk shown;
  prints = subst (λ (r : Option Request). Prints (printed_of (asked_text r plan) a) a x y low high) (sym asks) p;
}
  where
    ends : Left (CallEnds request zone seconds plan (without_out a) h.came) j k
    ends = subst (λ (r : Outcome). Left (CallEnds request zone seconds plan r h.came) j k) (sym same) (subst (λ (z : ℤ). Left (CallEnds request zone z plan o h.came) j k) at h.shows)

    shown : Left (CallShows here words zone seconds plan (without_out a) h.came) j k
    shown = left_as ends (λ ts e. read request asks e)

    names_of : {other : Request} → request ≡ other → (c : Came) (report : Report) → h.came ≡ Some c → o ≡ Done report → other.settings.debug ≡ false → TellsNamesOf other.settings.state c.clock c.work j k
    names_of e c report some done acts = subst (λ (r : Request). TellsNamesOf r.settings.state c.clock c.work j k) e (h.names c report some done (ap (λ (r : Request). r.settings.debug) e ∙ acts))

-- what was put of a report
pub report_prints : (put : Result (Unit {0}) SinkFault) (front : List ℕ) (ns : List Notice) (fs : List Fault) (o : Outcome) (x y : Option (List ℕ)) (low high : ℕ) → Puts (front ++ report_lines ns fs) put x y low high → without_out o ≡ report_with ns fs → OnErr put (HasFault o fault.Out) → Prints (printed_of front o) o x y low high
report_prints (Ok u) front ns fs o x y low high p e h = record {
  printed = subst (λ (r : Outcome). TookPart (front ++ outcome_text r) x y) (sym e) p.part;
  whole = inl (subst (λ (r : Outcome). Took (front ++ outcome_text r) x y) (sym e) p.whole);
  broken_off = λ report is. inl (subst (λ (r : Outcome). Took (front ++ outcome_text r) x y) (sym e) p.whole);
}
report_prints (Err f) front ns fs o x y low high p e h = record {
  printed = subst (λ (r : Outcome). TookPart (front ++ outcome_text r) x y) (sym e) p.part;
  whole = inr p.cause;
  broken_off = λ report is. inr (subst (λ (r : Outcome). HasFault r fault.Out) is h);
}

pub report_out : (put : Result (Unit {0}) SinkFault) (text : List ℕ) (ns : List Notice) (fs : List Fault) (o : Outcome) (x y : Option (List ℕ)) (low high : ℕ) → Puts text put x y low high → OnOk put (o ≡ report_with ns fs) → (Contains fs fault.Out → ⊥) → HasFault o fault.Out → Rose low high
report_out (Ok u) text ns fs o x y low high p e lost h = absurd (lost (subst (λ (r : Outcome). HasFault r fault.Out) e h))
report_out (Err f) text ns fs o x y low high p e lost h = p.cause

pub has_counted : (r : Result Told RunStop) (a : Outcome) (k l : Counts) → a ≡ answer_of r → IfOk r (λ told. AreReported told.faults.items k l) → HasCounted a k l
has_counted (Ok told) a k l same h = subst (λ (o : Outcome). HasCounted o k l) (sym same) h
has_counted (Err stop.Held) a k l same h = subst (λ (o : Outcome). HasCounted o k l) (sym same) tt
has_counted (Err stop.Memory) a k l same h = subst (λ (o : Outcome). HasCounted o k l) (sym same) tt

-- its report is that of the run
pub has_clocked : (zone : Zone) (s seconds : ℤ) (r : Result Told RunStop) (a : Outcome) (report : Report) → s ≡ seconds → a ≡ answer_of r → a ≡ Done report → IfOk r (λ told. IsClocked zone s told.notices told.faults.items) → IsClocked zone seconds report.notices report.faults
has_clocked zone s seconds (Ok told) a report at same done h =
    subst (λ (z : ℤ). IsClocked zone z report.notices report.faults) at (subst (λ (x : Report). IsClocked zone s x.notices x.faults) reports h)
  where
    reports : record { notices = told.notices; faults = told.faults.items } ≡ report
    reports = cc
has_clocked zone s seconds (Err stop.Held) a report at same done h = absurd (cc)
has_clocked zone s seconds (Err stop.Memory) a report at same done h = absurd (cc)

-- an answer without a report
pub not_counted : (a o : Outcome) (k l : Counts) → a ≡ o → (o ≡ BadWords) ⊎ (o ≡ OutOfMemory) → HasCounted a k l
not_counted a o k l same (inl e) = subst (λ (r : Outcome). HasCounted r k l) (sym (same ∙ e)) tt
not_counted a o k l same (inr e) = subst (λ (r : Outcome). HasCounted r k l) (sym (same ∙ e)) tt

pub none_out : (r : Result Told RunStop) (k l : Counts) → IfOk r (λ told. AreReported told.faults.items k l) → IfOk r (λ told. Contains told.faults.items fault.Out → ⊥)
none_out (Ok told) k l h = no_out_among told.faults.items h.no_out
none_out (Err s) k l h = tt
