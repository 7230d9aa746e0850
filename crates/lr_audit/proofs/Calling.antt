-- What the parts of a call came to, put together.
use Rattle.std.proofs.Common.{◌≡◌, ◌≤◌, List, [], ◌∷◌, ◌++◌, Option, Some, None, Result, Ok, Err, OnErr, refl, sym, ap, ◌∙◌, subst, arith, append_assoc}
use Rattle.std.specs.Prelude.{ℤ, All, IfOk}
use Rattle.std.proofs.lemmas.List.Elements.{recursion_from_All}
use Rattle.lr_rules.specs.declared.clock.Clock.{Clock}
use Rattle.lr_rules.specs.declared.fault.Fault.{Fault}
use Rattle.lr_rules.specs.declared.fault.Notice.{Notice}
use Rattle.lr_rules.specs.declared.memory.Memory.{Memory}
use Rattle.lr_rules.specs.declared.path.Path.{Path}
use Rattle.lr_rules.specs.declared.rule.Rule.{Rule}
use Rattle.lr_rules.specs.declared.rules.Rules.{Rules}
use Rattle.lr_host.specs.declared.entry.Entry.{Entry}
use Rattle.lr_host.specs.declared.journal.Journal.{Journal}
use Rattle.lr_host.specs.Counted.{calls_in, RoseBy, AreCounted, Went}
use Rattle.lr_host.specs.Quiet.{AreQuiet}
use Rattle.lr_host.specs.Told.{Counts, Left, NoneFell, not_told, is_told}
use Rattle.lr_host.proofs.Counts.{counted_on}
use Rattle.lr_host.proofs.Left.{left_as, left_first, left_then}
use Rattle.lr_host.proofs.Quiet.{quiet_both}
use Rattle.lr_due.specs.declared.tz.Zone.{Zone}
use Rattle.lr_include.specs.declared.reading.Reading.{Reading}
use Rattle.lr_include.specs.Readers.{meaning_of, IsConfOrCall}
use Rattle.lr_include.specs.Stages.{Reads}
use Rattle.lr_include.specs.Lacking.{LacksReading}
use Rattle.lr_include.proofs.AllQuiet.{reads_quiet, lacking_quiet}
use Rattle.lr_plan.specs.declared.looks.Looks.{Looks}
use Rattle.lr_looks.specs.Reserved.{reserved_by}
use Rattle.lr_looks.specs.Shown.{LooksAtAll, ShowsSomeLooks}
use Rattle.lr_laws_looks.proofs.Quiet.{whole_quiet, part_quiet}
use Rattle.lr_clock.specs.declared.clock.ClockStop.{ClockStop}
use Rattle.lr_clock.specs.declared.clock.ClockStop.TheVariants as stop
use Rattle.lr_clock.specs.Clock.{ShowsClock, LacksClock, ClockStopped, HasClock, IsClockFault, IsClocked, with_clock, without_clock, clock_answer}
use Rattle.lr_report.specs.declared.outcome.Outcome.TheVariants.{Done, OutOfMemory}
use Rattle.lr_report.specs.Reported.{AreReported}
use Rattle.lr_audited.specs.declared.line.Audit.{Audit}
use Rattle.lr_audit.specs.declared.told.Told.{Told}
use Rattle.lr_audit.specs.declared.words.Wanted.{Wanted}
use Rattle.lr_command.specs.Words.{mail_program}
use Rattle.lr_report.proofs.Reported.{no_out_of, notices_in, faults_in}
use Rattle.lr_include.proofs.Scriptless.{none_scripted}
use Rattle.lr_clock.proofs.Quiet.{clock_quiet, lost_quiet}
use Rattle.lr_audit.specs.Audits.{AddsSaw, Audits}
use Rattle.lr_audit.specs.Came.{Came, answer_of, audit_told, CallEnds, no_clock, no_memory, audited}
use Rattle.lr_audit.specs.Internal.{CameTo, RulesCame, ConfsCame}
use Rattle.lr_audit.proofs.Summing.{saw_quiet}

-- ---- the logs of rules

looks_quiet : (reserved : List Path) (rules : List Rule) (looks : Looks) (f g : List Fault) (ts : List Entry) → LooksAtAll reserved rules looks f g ts → AreQuiet ts
looks_quiet reserved rules looks f g ts l = whole_quiet rules looks.sets l.own ts l.shown

pub rules_told : (state : Path) (rules : Rules) (looks : Looks) (clock : Clock) (mailer : Path) (a : Audit) (f mid g h : List Fault) (o m n : Option Journal) → mailer ≡ mail_program → h ≡ g → Left (LooksAtAll (reserved_by state) rules.sets looks f mid) o m
    → Left (Audits rules.sets looks clock mailer a mid g) m n → Left (RulesCame state rules clock a f h) o n
rules_told state rules looks clock mailer a f mid g h o m n mail same l k = left_then l k (λ ts us p q. record {
  looks = looks;
  mid = mid;
  entries = record { front = ts; back = us; joined = refl; first = p; second = subst (λ (fs : List Fault). Audits rules.sets looks clock mail_program a mid fs us) (sym same) (subst (λ (x : Path). Audits rules.sets looks clock x a mid g us) mail q) };
})

pub looks_lost : (state : Path) (rules : List Rule) (o n : Option Journal) → Left (ShowsSomeLooks (reserved_by state) rules) o n → Left AreQuiet o n
looks_lost state rules o n l = left_as l (λ ts h. part_quiet rules ts h)

pub looks_behind : (state : Path) (rules : List Rule) (looks : Looks) (f mid : List Fault) (o m n : Option Journal) → Left (LooksAtAll (reserved_by state) rules looks f mid) o m → Left AreQuiet m n → Left AreQuiet o n
looks_behind state rules looks f mid o m n l k = left_then l k (λ ts us p q. quiet_both ts us (looks_quiet (reserved_by state) rules looks f mid ts p) q)

pub audits_behind : (state : Path) (rules : List Rule) (looks : Looks) (clock : Clock) (mailer : Path) (a : Audit) (f mid g : List Fault) (o m n : Option Journal) → Left (LooksAtAll (reserved_by state) rules looks f mid) o m → Left (Audits rules looks clock mailer a mid g) m n → Left AreQuiet o n
audits_behind state rules looks clock mailer a f mid g o m n l k = left_then l k (λ ts us p q. quiet_both ts us (looks_quiet (reserved_by state) rules looks f mid ts p) (saw_quiet looks q.files mid g us q.adds))

-- ---- a configuration

pub confs_told : (w : Wanted) (clock : Clock) (r : Reading) (confs : List Path) (told : Told) (a : Audit) (start all : List Fault) (state : Path) (o m n : Option Journal) → confs ≡ w.confs → start ≡ r.faults → state ≡ w.state → told.audit ≡ Some a → told.notices ≡ r.notices → told.faults.items ≡ all
    → Left (Reads confs (meaning_of r)) o m → Left (RulesCame state r.rules clock a start all) m n → Left (ConfsCame w clock told) o n
confs_told w clock r confs told a start all state o m n same first named its notes faults l k = left_then l k (λ ts us p q. both ts us (subst (λ (xs : List Path). Reads xs (meaning_of r) ts) same p) (subst (λ (x : Path). RulesCame x r.rules clock a start all us) named q))
  where
    both : (ts us : List Entry) → Reads w.confs (meaning_of r) ts → RulesCame w.state r.rules clock a start all us → ConfsCame w clock told (ts ++ us)
    both ts us p q = record {
      came = came;
      clock_is = refl;
      first = refl;
      audit = its;
      notices = notes;
      faults = faults ∙ (adds.faults_are ∙ (ap (λ (fs : List Fault). fs ++ adds.own) (looks.faults_are ∙ ap (λ (fs : List Fault). fs ++ looks.own) first) ∙ append_assoc r.faults looks.own adds.own));
      shown = record {
        rules = refl;
        read = p;
        looks = record { shown = looks.shown; words_are = refl; kept_are = looks.kept_are };
        saw = adds.saw;
        is_audit = q.entries.second.is_audit;
      };
      entries = ap (λ (es : List Entry). ts ++ es) q.entries.joined;
    }
      where
        looks : LooksAtAll (reserved_by w.state) r.rules.sets q.looks start q.mid q.entries.front
        looks = q.entries.first

        adds : AddsSaw q.looks q.entries.second.files q.mid all q.entries.back
        adds = q.entries.second.adds

        came : Came
        came = record {
          clock = clock;
          meaning = meaning_of r;
          rules = r.rules;
          words = looks.shown.entries.first.sights;
          looks = q.looks;
          dirs = adds.dirs;
          files = q.entries.second.files;
          audit = a;
          look_faults = looks.own;
          file_faults = adds.own;
          of_clock = [];
          of_confs = ts;
          of_looks = q.entries.front;
          of_files = q.entries.back;
        }

pub reading_lost : (confs : List Path) (o n : Option Journal) → Left (LacksReading confs) o n → Left AreQuiet o n
reading_lost confs o n l = left_as l (λ ts h. lacking_quiet confs ts h)

pub reading_behind : (confs : List Path) (r : Reading) (o m n : Option Journal) → Left (Reads confs (meaning_of r)) o m → Left AreQuiet m n → Left AreQuiet o n
reading_behind confs r o m n l k = left_then l k (λ ts us p q. quiet_both ts us (reads_quiet confs (meaning_of r) ts p) q)

-- ---- the faults, and the counts

pub confs_counted : (fs start all : List Fault) (j k l : Counts) → start ≡ fs → All IsConfOrCall fs → RoseBy (calls_in fs) j.faults k.faults → NoneFell j k → Went start all k l → AreCounted all j l
confs_counted fs start all j k l same only rose le went =
    let n = none_scripted fs (recursion_from_All IsConfOrCall fs only) in
    subst (λ (gs : List Fault). AreCounted gs j l) (sym (went.adds.after_is ∙ ap (λ gs. gs ++ went.adds.added) same))
    (counted_on fs went.adds.added j k l (record { calls = rose; scripts = (let z = n.0 in let fell : j.bad_ends ≤ k.bad_ends = le.1 in omega (arith, z, fell)); none_around = n.1 }) went.adds.are_counted)

-- the counts rose as much since a moment before
pub clock_reported : (r : Result Told Memory) (j k l : Counts) → NoneFell j k → IfOk r (λ told. AreCounted told.faults.items k l) → IfOk r (λ told. AreReported told.faults.items j l)
clock_reported (Ok told) j k l le c = record {
  calls = (let rose = c.calls in let more : j.faults ≤ k.faults = le.0 in omega (arith, rose, more));
  scripts = (let rose = c.scripts in let more : j.bad_ends ≤ k.bad_ends = le.1 in omega (arith, rose, more));
  no_out = no_out_of told.faults.items c.none_around;
}
clock_reported (Err w) j k l le c = tt

pub clock_clocked : (zone : Zone) (s seconds : ℤ) (clock : Clock) (r : Result Told Memory) (k l : Counts) → s ≡ seconds → HasClock zone s clock → IfOk r (λ told. AreCounted told.faults.items k l) → IfOk r (λ told. IsClocked zone seconds told.notices told.faults.items)
clock_clocked zone s seconds clock (Ok told) k l same h c = with_clock clock (subst (λ (z : ℤ). HasClock zone z clock) same h) c.none_around
clock_clocked zone s seconds clock (Err w) k l same h c = tt

faults_alone : (told : Told) (f : Fault) → answer_of (Ok told) ≡ clock_answer (stop.Fault f) → (told.notices ≡ []) × (told.faults.items ≡ f ∷ [])
faults_alone told f e = (ap notices_in e, ap faults_in e)

module _ (zone : Zone) (s seconds : ℤ) (same : s ≡ seconds) where
  pub stop_clocked : (r : Result Told Memory) (c : Result Clock ClockStop) (why : ClockStop) (Y : Fault → Type 0) → answer_of r ≡ clock_answer why → c ≡ Err why → ((f : Fault) → c ≡ Err (stop.Fault f) → IsClockFault zone s f × Y f) → IfOk r (λ told. IsClocked zone seconds told.notices told.faults.items)
  stop_clocked (Ok told) c (stop.Fault f) Y e is h = let alone = faults_alone told f e in without_clock f alone.0 alone.1 (subst (λ (z : ℤ). IsClockFault zone z f) same (h f is).0)
  stop_clocked (Ok told) c stop.Memory Y e is h = absurd (cc)
  stop_clocked (Err w) c why Y e is h = tt

  pub stop_reported : (r : Result Told Memory) (c : Result Clock ClockStop) (why : ClockStop) (k l : Counts) (X : Fault → Type 0) → answer_of r ≡ clock_answer why → c ≡ Err why → ((f : Fault) → c ≡ Err (stop.Fault f) → X f × AreReported (f ∷ []) k l) → IfOk r (λ told. AreReported told.faults.items k l)
  stop_reported (Ok told) c (stop.Fault f) k l X e is h = let alone = faults_alone told f e in subst (λ (fs : List Fault). AreReported fs k l) (sym alone.1) (h f is).1
  stop_reported (Ok told) c stop.Memory k l X e is h = absurd (cc)
  stop_reported (Err w) c why k l X e is h = tt

-- ---- at a clock

-- what it came to stands also where the host tells nothing
came_out : (P : Option Came → List Entry → Type 0) (o n : Option Journal) → Left (λ ts. (came : Option Came) × P came ts) o n → CameTo P o n
came_out P _ _ not_told = record { came = None; left = not_told }
came_out P _ _ (is_told m h) = record { came = h.0; left = is_told m h.1 }

-- with its clock before it
abbrev with_entries : Came → List Entry → Came
with_entries c ts = record {
  clock = c.clock;
  meaning = c.meaning;
  rules = c.rules;
  words = c.words;
  looks = c.looks;
  dirs = c.dirs;
  files = c.files;
  audit = c.audit;
  look_faults = c.look_faults;
  file_faults = c.file_faults;
  of_clock = ts;
  of_confs = c.of_confs;
  of_looks = c.of_looks;
  of_files = c.of_files;
}

module _ (w : Wanted) (zone : Zone) (s seconds : ℤ) (same : s ≡ seconds) where
  pub clock_came : (r : Result Told Memory) (clock : Clock) (o m n : Option Journal) → Left (ShowsClock zone s clock) o m → IfOk r (λ told. Left (ConfsCame w clock told) m n) → OnErr r (Left AreQuiet m n) → CameTo (CallEnds w zone seconds (audit_told r) (answer_of r)) o n
  clock_came (Err e) clock o m n l k q = came_out (CallEnds w zone seconds None OutOfMemory) o n (left_then l q (λ ts us p h. (None, no_memory refl refl refl (quiet_both ts us (clock_quiet zone s clock ts p) h))))
  clock_came (Ok told) clock o m n l k q = came_out (CallEnds w zone seconds told.audit (answer_of (Ok told))) o n (left_then l k (λ ts us p h. (Some (with_entries h.came ts), ended ts us p h)))
    where
      ended : (ts us : List Entry) → ShowsClock zone s clock ts → (h : ConfsCame w clock told us) → CallEnds w zone seconds told.audit (answer_of (Ok told)) (Some (with_entries h.came ts)) (ts ++ us)
      ended ts us p h = audited (with_entries h.came ts) refl h.audit (ap (λ (ns : List Notice). Done (record { notices = ns; faults = told.faults.items })) h.notices ∙ ap (λ (fs : List Fault). Done (record { notices = h.came.meaning.notices; faults = fs })) h.faults)
          (record {
            clock = subst (λ (c : Clock). ShowsClock zone seconds c ts) (sym h.clock_is) (subst (λ (z : ℤ). ShowsClock zone z clock ts) same p);
            confs = record { rules = h.shown.rules; read = h.shown.read; looks = record { shown = h.shown.looks.shown; words_are = h.shown.looks.words_are; kept_are = h.shown.looks.kept_are }; saw = h.shown.saw; is_audit = h.shown.is_audit };
          })
          (ap (λ (es : List Entry). ts ++ es) h.entries)

  pub stop_came : (r : Result Told Memory) (why : ClockStop) (o n : Option Journal) → audit_told r ≡ None → answer_of r ≡ clock_answer why → Left (ClockStopped zone s why) o n → CameTo (CallEnds w zone seconds (audit_told r) (answer_of r)) o n
  stop_came r (stop.Fault f) o n none answer l = record { came = None; left = left_as l (λ ts h. no_clock f refl none answer (subst (λ (z : ℤ). LacksClock zone z f ts) same h)) }
  stop_came r stop.Memory o n none answer l = record { came = None; left = left_as l (λ ts h. no_memory refl none answer (lost_quiet zone ts h)) }

  pub no_room_came : (o : Option Journal) → CameTo (CallEnds w zone seconds None OutOfMemory) o o
  no_room_came o = record { came = None; left = left_first (CallEnds w zone seconds None OutOfMemory None) o (no_memory refl refl refl tt) }
