-- Whether a call came to its plan: what its report tells of that where it did, and why where it didn't.
use Rattle.std.proofs.Common.{◌≡◌, ◌⊎◌, inl, inr, ⊎_elim, ℕ, Bool, true, false, List, [], ◌∷◌, ◌++◌, Option, None, sym, ap, ◌∙◌, subst, append_assoc}
use Rattle.std.specs.Prelude.{ℤ}
use Rattle.std.specs.List.{AllByRecursion as Every}
use Rattle.std.proofs.lemmas.List.Elements.{recursion_from_All}
use Rattle.std.proofs.lemmas.Option.{none-some}
use Rattle.lr_rules.specs.declared.clock.Clock.{Clock}
use Rattle.lr_rules.specs.declared.fault.CallKind.TheVariants as call
use Rattle.lr_rules.specs.declared.fault.Fault.{Fault}
use Rattle.lr_rules.specs.declared.fault.Fault.TheVariants as fault
use Rattle.lr_rules.specs.declared.path.Path.{Path}
use Rattle.lr_rules.specs.declared.rules.Rules.{Rules}
use Rattle.lr_host.specs.declared.entry.Entry.{Entry}
use Rattle.lr_host.specs.declared.journal.Journal.{Journal}
use Rattle.lr_host.specs.Told.{Left, Then}
use Rattle.lr_host.proofs.Left.{left_as}
use Rattle.lr_conf.specs.Meaning.{Meaning}
use Rattle.lr_include.specs.Readers.{IsConfOrCall}
use Rattle.lr_include.specs.Stages.{visits_mean, Reads}
use Rattle.lr_include.proofs.AllQuiet.{reads_quiet as confs_quiet}
use Rattle.lr_include.proofs.Allowed.{only_those}
use Rattle.lr_due.specs.declared.tz.Zone.{Zone}
use Rattle.lr_due.specs.declared.tz.Zone.TheVariants.{File}
use Rattle.lr_plan.specs.declared.plan.Plan.{Plan}
use Rattle.lr_run.specs.Halt.{Halt, OfFaults, OfLock, OfMemory, Halts}
use Rattle.lr_laws_plan.specs.Ending.{EndsRun, NoneEnds}
use Rattle.lr_laws_plan.specs.Looked.{behind_start, SawState}
use Rattle.lr_laws_plan.specs.Tried.{EndsTry}
use Rattle.lr_laws_plan.proofs.Ends.{last_ends}
use Rattle.lr_laws_plan.proofs.Reached.{unseen}
use Rattle.lr_laws_plan.proofs.Start.{behind_quiet, none_behind}
use Rattle.lr_laws_plan.proofs.Value.{halt_unreached, try_why}
use Rattle.lr_command.specs.declared.request.Request.{Request}
use Rattle.lr_clock.specs.declared.clock.ClockStop.TheVariants as stop
use Rattle.lr_report.specs.declared.outcome.Outcome.{Outcome}
use Rattle.lr_report.specs.declared.outcome.Outcome.TheVariants.{Done, BadWords, OutOfMemory}
use Rattle.lr_report.specs.declared.outcome.Report.{Report}
use Rattle.lr_cli.specs.Asked.{AskFor}
use Rattle.lr_cli.specs.Before.{AreStill, IsOfZone, MayEndCall, MayEndDry, SaysWhyDry, EndsBefore}
use Rattle.lr_cli.specs.Called.{Came, asked_in, answer_by, ConfsHalt, no_reading, no_plan, CallHalts, no_clock, no_zone, behind_clock, CallEnds, halted, called, CallShows, not_read, read}
use Rattle.lr_clock.specs.Clock.{LacksClock, out_of_range, no_text, refused}
use Rattle.lr_clock.specs.Zone.{LacksText, not_file, too_big, look_failed as text_look_failed, read_failed as text_read_failed}
use Rattle.lr_clock.proofs.Quiet.{clock_quiet, stop_quiet}
use Rattle.lr_laws_plan.proofs.Known.{ends_as}
use Rattle.lr_cli.proofs.Still.{same_request, halt_still}

-- ---- the configuration's faults end no run

conf_none : (state : Path) (fs : List Fault) → Every IsConfOrCall fs → NoneEnds state fs
conf_none state [] h = tt
conf_none state (fault.Conf file line kind ∷ fs) h = ((λ e. e), conf_none state fs h.1)
conf_none state (fault.Call call.Look path ∷ fs) h = ((λ e. e), conf_none state fs h.1)
conf_none state (fault.Call call.List path ∷ fs) h = ((λ e. e), conf_none state fs h.1)
conf_none state (fault.Call call.Read path ∷ fs) h = ((λ e. e), conf_none state fs h.1)
conf_none state (_ ∷ fs) h = absurd h.0

pub means_none : (state : Path) (confs : List Path) (m : Meaning) (ts : List Entry) → Reads confs m ts → NoneEnds state m.faults
means_none state confs m ts r = subst (λ (x : Meaning). NoneEnds state x.faults) (sym r.means) (conf_none state (visits_mean confs r.visits).faults (recursion_from_All IsConfOrCall (visits_mean confs r.visits).faults (only_those confs r.visits)))

-- ---- without a clock

-- Why a fault ended a call: it ends a run; or it may end it, and the state wasn't seen.
abbrev IsWhy : Path → Zone → Fault → List Entry → Type 0
IsWhy state zone f us = EndsRun state f ⊎ (MayEndCall state zone f × (SawState state us → ⊥))

-- Such a fault is the last.
record Unreached (state : Path) (zone : Zone) (faults : List Fault) (us : List Entry) : Type 0 where
  before : List Fault
  last : Fault
  faults_are : faults ≡ before ++ last ∷ []
  ends : IsWhy state zone last us

of_zone : (zone : Zone) (path : Path) (f : Fault) → zone ≡ File path → (f ≡ fault.Call call.Look path) ⊎ (f ≡ fault.Call call.Read path) → IsOfZone zone f
of_zone zone path f is h = subst (λ (z : Zone). IsOfZone z f) (sym is) h

text_why : (state : Path) (zone : Zone) (f : Fault) (ts : List Entry) → (SawState state (behind_start ts) → ⊥) → LacksText zone f ts → IsWhy state zone f (behind_start ts)
text_why state zone f ts unseen_there (not_file path z e s) = inl (ends_as state f _ e tt)
text_why state zone f ts unseen_there (too_big path bytes z e n t) = inl (ends_as state f _ e tt)
text_why state zone f ts unseen_there (text_look_failed path z e none) = inr (inl (of_zone zone path f z (inl e)), unseen_there)
text_why state zone f ts unseen_there (text_read_failed path z e t) = inr (inl (of_zone zone path f z (inr e)), unseen_there)

clock_why : (state : Path) (zone : Zone) (seconds : ℤ) (f : Fault) (ts : List Entry) → (SawState state (behind_start ts) → ⊥) → LacksClock zone seconds f ts → IsWhy state zone f (behind_start ts)
clock_why state zone seconds f ts unseen_there (out_of_range out e none) = inl (ends_as state f _ e tt)
clock_why state zone seconds f ts unseen_there (no_text range l) = text_why state zone f ts unseen_there l
clock_why state zone seconds f ts unseen_there (refused text range e r s) = inl (ends_as state f _ e tt)

-- of a dry call
tries_as : (state : Path) (f g : Fault) → f ≡ g → EndsTry state g → EndsTry state f
tries_as state f g is h = subst (EndsTry state) (sym is) h

text_dry : (state : Path) (zone : Zone) (f : Fault) (ts : List Entry) → LacksText zone f ts → EndsTry state f ⊎ MayEndDry state zone f
text_dry state zone f ts (not_file path z e s) = inl (tries_as state f _ e tt)
text_dry state zone f ts (too_big path bytes z e n t) = inl (tries_as state f _ e tt)
text_dry state zone f ts (text_look_failed path z e none) = inr (inl (of_zone zone path f z (inl e)))
text_dry state zone f ts (text_read_failed path z e t) = inr (inl (of_zone zone path f z (inr e)))

clock_dry : (state : Path) (zone : Zone) (seconds : ℤ) (f : Fault) (ts : List Entry) → LacksClock zone seconds f ts → EndsTry state f ⊎ MayEndDry state zone f
clock_dry state zone seconds f ts (out_of_range out e none) = inl (tries_as state f _ e tt)
clock_dry state zone seconds f ts (no_text range l) = text_dry state zone f ts l
clock_dry state zone seconds f ts (refused text range e r s) = inl (tries_as state f _ e tt)

-- ---- a call that halted

module _ (request : Request) (zone : Zone) (seconds : ℤ) (report : Report) where
  abbrev state : Path
  state = request.settings.state

  same_faults : (notices : List _) (fs : List Fault) → Done report ≡ Done (record { notices = notices; faults = fs }) → report.faults ≡ fs
  same_faults notices fs e = cc

  run_why : request.settings.debug ≡ false → (clock : Clock) (meaning : Meaning) (rules : Rules) (halt : Halt) (us : List Entry) → Done report ≡ answer_by meaning halt → (t : Then (Reads request.confs meaning) (Halts request.settings.debug state rules clock (asked_in request) halt) us) → Unreached state zone report.faults (behind_start us)
  run_why acts clock meaning rules (OfFaults own) us e t =
      let u = halt_unreached state (asked_in request) clock rules own t.back (subst (λ (b : Bool). Halts b state rules clock (asked_in request) (OfFaults own) t.back) acts t.second) in
      record {
        before = meaning.faults ++ u.before;
        last = u.last;
        faults_are = same_faults meaning.notices (meaning.faults ++ own) e ∙ ap (λ fs. meaning.faults ++ fs) u.own_are ∙ sym (append_assoc meaning.faults u.before (u.last ∷ []));
        ends = ⊎_elim (λ ends. inl ends) (λ may. inr (inr may.1, λ s. may.2 (subst (SawState state) behind s))) u.ends;
      }
    where
      behind : behind_start us ≡ behind_start t.back
      behind = ap behind_start t.joined ∙ behind_quiet t.front t.back (confs_quiet request.confs meaning t.front t.first)
  run_why acts clock meaning rules OfLock us e t = absurd (cc)
  run_why acts clock meaning rules OfMemory us e t = absurd (cc)

  confs_why : request.settings.debug ≡ false → (clock : Clock) (us : List Entry) → ConfsHalt request clock (Done report) us → Unreached state zone report.faults (behind_start us)
  confs_why acts clock us (no_reading e l) = absurd (cc)
  confs_why acts clock us (no_plan meaning rules halt same e t) = run_why acts clock meaning rules halt us e t

  halt_why : request.settings.debug ≡ false → (ts : List Entry) → CallHalts request zone seconds (Done report) ts → Unreached state zone report.faults (behind_start ts)
  halt_why acts ts (no_clock f e l) = record { before = []; last = f; faults_are = same_faults [] (f ∷ []) e; ends = clock_why state zone seconds f ts (λ s. unseen state (behind_start ts) (none_behind ts (stop_quiet zone seconds (stop.Fault f) ts l)) s) l }
  halt_why acts ts (no_zone e l) = absurd (cc)
  halt_why acts ts (behind_clock clock t) = subst (Unreached state zone report.faults) (sym (ap behind_start t.joined ∙ behind_quiet t.front t.back (clock_quiet zone seconds clock t.front t.first))) (confs_why acts clock t.back t.second)

  -- a dry one
  run_dry : request.settings.debug ≡ true → (clock : Clock) (meaning : Meaning) (rules : Rules) (halt : Halt) (us : List Entry) → Done report ≡ answer_by meaning halt → (t : Then (Reads request.confs meaning) (Halts request.settings.debug state rules clock (asked_in request) halt) us) → SaysWhyDry state zone report.faults
  run_dry dry clock meaning rules (OfFaults own) us e t =
      let w = try_why state (asked_in request) clock rules own t.back (subst (λ (b : Bool). Halts b state rules clock (asked_in request) (OfFaults own) t.back) dry t.second) in
      record {
        before = meaning.faults ++ w.before;
        last = w.last;
        faults_are = same_faults meaning.notices (meaning.faults ++ own) e ∙ ap (λ fs. meaning.faults ++ fs) w.own_are ∙ sym (append_assoc meaning.faults w.before (w.last ∷ []));
        ends = ⊎_elim (λ ends. inl ends) (λ may. inr (inr may)) w.ends;
      }
  run_dry dry clock meaning rules OfLock us e t = absurd (cc)
  run_dry dry clock meaning rules OfMemory us e t = absurd (cc)

  confs_dry : request.settings.debug ≡ true → (clock : Clock) (us : List Entry) → ConfsHalt request clock (Done report) us → SaysWhyDry state zone report.faults
  confs_dry dry clock us (no_reading e l) = absurd (cc)
  confs_dry dry clock us (no_plan meaning rules halt same e t) = run_dry dry clock meaning rules halt us e t

  halt_dry : request.settings.debug ≡ true → (ts : List Entry) → CallHalts request zone seconds (Done report) ts → SaysWhyDry state zone report.faults
  halt_dry dry ts (no_clock f e l) = record { before = []; last = f; faults_are = same_faults [] (f ∷ []) e; ends = clock_dry state zone seconds f ts l }
  halt_dry dry ts (no_zone e l) = absurd (cc)
  halt_dry dry ts (behind_clock clock t) = confs_dry dry clock t.back t.second

-- ---- a call that ended before its plan

halt_before : (here : Path) (words : List (List ℕ)) (request : Request) (zone : Zone) (seconds : ℤ) (outcome : Outcome) (ts : List Entry) → AskFor here words request → CallHalts request zone seconds outcome ts → EndsBefore here words zone outcome ts
halt_before here words request zone seconds outcome ts asked h = record {
  still = halt_still request zone seconds outcome ts h;
  why = λ other asks acts report is. let u = unreached other asks acts report is in record { before = u.before; last = u.last; faults_are = u.faults_are; ends = ⊎_elim (λ ends. inl ends) (λ may. inr may.0) u.ends };
  dry_why = λ other asks dry report is. halt_dry other zone seconds report dry ts (halts other asks report is);
  unseen = λ other asks acts report is none saw. let u = unreached other asks acts report is in
      ⊎_elim (λ ends. last_ends other.settings.state u.before u.last (subst (NoneEnds other.settings.state) u.faults_are none) ends) (λ may. may.1 saw) u.ends;
}
  where
    halts : (other : Request) → AskFor here words other → (report : Report) → outcome ≡ Done report → CallHalts other zone seconds (Done report) ts
    halts other asks report is = subst (λ (r : Request). CallHalts r zone seconds (Done report) ts) (same_request here words request other asked asks) (subst (λ (o : Outcome). CallHalts request zone seconds o ts) is h)

    unreached : (other : Request) → AskFor here words other → other.settings.debug ≡ false → (report : Report) → outcome ≡ Done report → Unreached other.settings.state zone report.faults (behind_start ts)
    unreached other asks acts report is = halt_why other zone seconds report acts ts (halts other asks report is)

-- one that called nothing has no report
no_report : (outcome : Outcome) (report : Report) → (outcome ≡ BadWords) ⊎ (outcome ≡ OutOfMemory) → outcome ≡ Done report → ⊥
no_report outcome report (inl words) done = absurd (cc)
no_report outcome report (inr memory) done = absurd (cc)

ends_before : (here : Path) (words : List (List ℕ)) (request : Request) (zone : Zone) (seconds : ℤ) (plan : Option Plan) (outcome : Outcome) (came : Option Came) (ts : List Entry) → came ≡ None → AskFor here words request → CallEnds request zone seconds plan outcome came ts → EndsBefore here words zone outcome ts
ends_before here words request zone seconds plan outcome came ts none asked (halted n lost h) = halt_before here words request zone seconds outcome ts asked h
ends_before here words request zone seconds plan outcome came ts none asked (called c some s e is) = absurd (none-some c (sym none ∙ some))

call_before : (here : Path) (words : List (List ℕ)) (zone : Zone) (seconds : ℤ) (plan : Option Plan) (outcome : Outcome) (came : Option Came) (ts : List Entry) → came ≡ None → CallShows here words zone seconds plan outcome came ts → EndsBefore here words zone outcome ts
call_before here words zone seconds plan outcome came ts none (not_read n lost which empty) = record {
  still = subst AreStill (sym empty) tt;
  why = λ request asks acts report is. absurd (no_report outcome report which is);
  dry_why = λ request asks dry report is. absurd (no_report outcome report which is);
  unseen = λ request asks acts report is none_ends saw. no_report outcome report which is;
}
call_before here words zone seconds plan outcome came ts none (read request asked e) = ends_before here words request zone seconds plan outcome came ts none asked e

pub left_before : (here : Path) (words : List (List ℕ)) (zone : Zone) (seconds : ℤ) (plan : Option Plan) (outcome : Outcome) (came : Option Came) {o n : Option Journal} → Left (CallShows here words zone seconds plan outcome came) o n → came ≡ None → Left (EndsBefore here words zone outcome) o n
left_before here words zone seconds plan outcome came l none = left_as l (λ ts h. call_before here words zone seconds plan outcome came ts none h)
