-- From what a call came to, what it made of the disk.
use Rattle.std.proofs.Common.{◌≡◌, ◌+◌, inl, ℕ, Bool, true, false, List, [], ◌∷◌, ◌++◌, Option, Some, None, reverse, refl, sym, ap, ◌∙◌, subst, append_assoc, arith}
use Rattle.std.specs.Prelude.{ℤ}
use Rattle.std.proofs.lemmas.List.{reverse-reverse}
use Rattle.std.proofs.lemmas.Option.{none-some, same_Some}
use Rattle.lr_rules.specs.declared.fault.Fault.{Fault}
use Rattle.lr_rules.specs.declared.fault.Fault.TheVariants as fault
use Rattle.lr_rules.specs.declared.path.Path.{Path}
use Rattle.lr_rules.specs.StatePath.{state_part}
use Rattle.lr_rules.proofs.Bools.{not_both}
use Rattle.lr_host.specs.declared.entry.Entry.{Entry}
use Rattle.lr_host.specs.declared.entry.Entry.TheVariants as entry
use Rattle.lr_host.specs.declared.journal.Journal.{Journal}
use Rattle.lr_host.specs.Counted.{calls_in, bad_scripts_in}
use Rattle.lr_host.specs.Lists.{IsIn}
use Rattle.lr_host.specs.Opening.{IsJournal}
use Rattle.lr_host.specs.Quiet.{AreQuiet}
use Rattle.lr_host.specs.Told.{Counts, Left, not_told, is_told, Made, WhereTold}
use Rattle.lr_host.specs.World.{past}
use Rattle.lr_host.proofs.Counts.{calls_on, scripts_on}
use Rattle.lr_host.proofs.Each.{each_as}
use Rattle.lr_host.proofs.Lists.{in_back}
use Rattle.lr_host.proofs.Made.{Cut}
use Rattle.lr_due.specs.declared.tz.Zone.{Zone}
use Rattle.lr_laws.specs.Renewing.{LeavesAlone, MayRenew, left_alone}
use Rattle.lr_laws.specs.StateWhole.{KeepsWhole}
use Rattle.lr_copy.specs.declared.job.Job.{Job}
use Rattle.lr_copy.specs.Fits.{ArePaths}
use Rattle.lr_laws_acts.specs.Emptied.{EmptiesCopied, EmptiesWhole}
use Rattle.lr_laws_acts.specs.Jobs.{jobs_of}
use Rattle.lr_laws_acts.proofs.Entries.{quiet_empties, both_empty, same_empties}
use Rattle.lr_laws_acts.proofs.CopiesWhole.{empties_whole}
use Rattle.lr_plan.specs.declared.plan.Plan.{Plan}
use Rattle.lr_laws_looks.specs.Planned.{targets_in}
use Rattle.lr_laws_looks.proofs.Elements.{in_each}
use Rattle.lr_run.specs.Copied.{IsCopyBy}
use Rattle.lr_run.specs.Logs.{AreGivenBy}
use Rattle.lr_run.specs.Met.{MetNothing}
use Rattle.lr_run.specs.Ran.{TellsNamesOf}
use Rattle.lr_run.specs.InternalRuns.{in_acts}
use Rattle.lr_run.specs.Paths.{dirs_in}
use Rattle.lr_run.specs.Scripts.{RunNothing}
use Rattle.lr_run.specs.Work.{ShowsWork, CarriesOut, BreaksOff, DidNothing, act_faults, run_entries, first_entries}
use Rattle.lr_run.proofs.Drying.{leaves_copied, lacks_copied}
use Rattle.lr_run.proofs.Leaving.{carried_left, carried_may, broken_left, broken_may}
use Rattle.lr_run.proofs.Made.{AreMade, are_made, made_later}
use Rattle.lr_run.proofs.Evidence.{faults_of, broken_of}
use Rattle.lr_run.proofs.Renewing.{left_whole, quiet_alone, behind_quiet as may_behind}
use Rattle.lr_run.proofs.Scriptless.{never_broke_off}
use Rattle.lr_run.proofs.Turned.{logs_turned}
use Rattle.lr_laws_plan.specs.Ending.{NoneEnds}
use Rattle.lr_laws_plan.specs.Looked.{behind_start, SawState}
use Rattle.lr_laws_plan.specs.Tried.{NoneEndsTry}
use Rattle.lr_laws_plan.proofs.Ends.{none_both}
use Rattle.lr_laws_plan.proofs.Standing.{cut_at}
use Rattle.lr_laws_plan.proofs.Start.{behind_quiet}
use Rattle.lr_laws_plan.proofs.Tried.{none_try, try_both}
use Rattle.lr_laws_plan.proofs.Value.{carried_none, carried_saw, tried_none}
use Rattle.lr_laws_plan.specs.Fulfilled.{IsFulfilled}
use Rattle.lr_laws_plan.specs.Rest.{LeavesRest, LeavesSets}
use Rattle.lr_laws_plan.specs.Truth.{WereTrue}
use Rattle.lr_laws_plan.proofs.Failing.{logs_met_nothing, run_met_nothing}
use Rattle.lr_laws_plan.proofs.Fulfilled.{fulfilled}
use Rattle.lr_laws_plan.proofs.Given.{logs_given}
use Rattle.lr_laws_plan.proofs.ListsOnce.{run_looks_once}
use Rattle.lr_laws_plan.proofs.Rest.{done_rest, done_sets, done_only, cut_rest, cut_sets, cut_only}
use Rattle.lr_laws_plan.proofs.Truth.{run_looks_true}
use Rattle.lr_laws_plan.specs.Smooth.{IsSmooth, NoneRose}
use Rattle.lr_laws_plan.proofs.Run.{run_fails_nothing}
use Rattle.lr_laws_plan.proofs.Smooth.{none_rose}
use Rattle.lr_command.specs.declared.request.Request.{Request}
use Rattle.lr_clock.specs.Came.{WhereCame}
use Rattle.lr_report.specs.declared.outcome.Outcome.{Outcome}
use Rattle.lr_report.specs.declared.outcome.Outcome.TheVariants.{Done, OutOfMemory}
use Rattle.lr_report.specs.declared.outcome.Report.{Report}
use Rattle.lr_cli.specs.Asked.{AskFor}
use Rattle.lr_cli.specs.Before.{IsStill, AreStill}
use Rattle.lr_cli.specs.Called.{Came, call_entries, asked_in, ShowsCame, Tells, PlanEnds, CallEnds, halted, called, CallShows, not_read, read}
use Rattle.lr_report.specs.Reported.{AreReported}
use Rattle.lr_run.proofs.Called.{none_copied_behind}
use Rattle.lr_cli.specs.Faults.{HasCounted}
use Rattle.lr_cli.specs.Result.{SawTruly, Makes, IsCalled, IsTextOf, IsCopyIn}
use Rattle.lr_cli.proofs.Reached.{means_none}
use Rattle.lr_cli.proofs.Still.{front_sights, front_quiet, dry_quiet, halt_still, same_request}

-- ---- counts

-- neither are told where no count rose
none_told : (faults : List Fault) (counted counts : Counts) → AreReported faults counted counts → NoneRose counted counts → (calls_in faults ≡ 0) × (bad_scripts_in faults ≡ 0)
none_told faults counted counts are none = (none_rose (calls_in faults) counted.faults counts.faults are.calls none.0, none_rose (bad_scripts_in faults) counted.bad_ends counts.bad_ends are.scripts none.1)

own_calls : (xs ys : List Fault) → calls_in (xs ++ ys) ≡ 0 → calls_in ys ≡ 0
own_calls xs ys h = let all : calls_in (xs ++ ys) ≡ calls_in xs + calls_in ys = calls_on xs ys in omega (arith, h, all)

own_ends : (xs ys : List Fault) → bad_scripts_in (xs ++ ys) ≡ 0 → bad_scripts_in ys ≡ 0
own_ends xs ys h = let all : bad_scripts_in (xs ++ ys) ≡ bad_scripts_in xs + bad_scripts_in ys = scripts_on xs ys in omega (arith, h, all)

-- faults behind others met nothing where all did
own_met : (dirs : List Path) (xs own : List Fault) → MetNothing dirs (xs ++ own) → MetNothing dirs own
own_met dirs xs own m = record { no_call = own_calls xs own m.no_call; no_end = own_ends xs own m.no_end; no_copy = none_copied_behind xs own m.no_copy; no_other = λ dir i j. m.no_other dir i (in_back (fault.NotFile dir) xs own j) }

pub same_report : (a b : Report) → Done a ≡ Done b → a ≡ b
same_report a b e = cc

-- ---- a call that came to its plan

module _ (request : Request) (zone : Zone) (seconds : ℤ) (c : Came) (j k : Journal) (made : Made (past j) (reverse (call_entries request c)) (past k)) (journal : IsJournal (past j)) (shown : ShowsCame request zone seconds c) where
  abbrev state : Path
  state = request.settings.state

  abbrev front : List Entry
  front = c.of_clock ++ c.of_confs

  abbrev entries : List Entry
  entries = call_entries request c

  quiet : AreQuiet front
  quiet = front_quiet request zone seconds c shown

  parts : entries ≡ front ++ run_entries request.settings.debug state c.clock c.rules c.work
  parts = sym (append_assoc c.of_clock c.of_confs (run_entries request.settings.debug state c.clock c.rules c.work))

  joined : reverse (reverse entries) ≡ front ++ run_entries request.settings.debug state c.clock c.rules c.work
  joined = reverse-reverse entries ∙ parts

  saw_truly : SawTruly request c j k
  saw_truly = record {
    looks = subst (λ (us : List Entry). WereTrue c.rules.sets c.work.saw.words c.work.saw.sets us (c.work.reads ++ c.work.looks) (past j) (past k)) (append_assoc c.of_clock c.of_confs (first_entries request.settings.debug state c.clock c.rules c.work))
        (run_looks_true request.settings.debug state c.clock c.rules c.work (past j) (past k) (reverse entries) front made journal joined shown.confs.work.seen);
    listed = run_looks_once request.settings.debug state c.clock c.rules c.work (past j) (past k) (reverse entries) front made joined shown.confs.work.seen.sets;
  }

  -- ---- one that carried its plan out

  module _ (acts : request.settings.debug ≡ false) (out : CarriesOut state c.clock c.work) where
    abbrev run : List Entry
    run = run_entries false state c.clock c.rules c.work

    shows : ShowsWork false state c.rules.sets c.clock (asked_in request) c.work
    shows = subst (λ (b : Bool). ShowsWork b state c.rules.sets c.clock (asked_in request) c.work) acts shown.confs.work

    acting : reverse (reverse entries) ≡ front ++ run
    acting = joined ∙ ap (λ (b : Bool). front ++ run_entries b state c.clock c.rules c.work) acts

    all_acting : entries ≡ front ++ run
    all_acting = parts ∙ ap (λ (b : Bool). front ++ run_entries b state c.clock c.rules c.work) acts

    module _ (report : Report) (plan : Option Plan) (tells : Tells c plan report) (names : TellsNamesOf state c.clock c.work (Some j) (Some k)) (counted counts : Counts) (are : AreReported report.faults counted counts) where
      fulfilled_so : act_faults c.work.acts ≡ [] → IsFulfilled state c.clock c.work entries (past j) (past k)
      fulfilled_so none = subst (λ (us : List Entry). IsFulfilled state c.clock c.work us (past j) (past k)) (reverse-reverse entries)
          (fulfilled state (asked_in request) c.clock c.rules c.work (past j) (past k) (reverse entries) front made journal acting (front_sights request zone seconds c shown) shows out none names.named)

      -- the acts' own faults are told
      of_acts : {n : List Fault → ℕ} → ((xs ys : List Fault) → n (xs ++ ys) ≡ 0 → n ys ≡ 0) → n report.faults ≡ 0 → n (act_faults c.work.acts) ≡ 0
      of_acts {n} own_so none = own_so c.work.plan.faults (act_faults c.work.acts) (own_so c.work.saw.faults (c.work.plan.faults ++ act_faults c.work.acts) (own_so c.meaning.faults (faults_of c.work) (subst (λ (fs : List Fault). n fs ≡ 0) tells.faults none)))

      smooth_so : NoneRose counted counts → IsSmooth state (jobs_of c.work.plan.sets) (dirs_in c.work.plan) (past j) (past k) → act_faults c.work.acts ≡ []
      smooth_so none smooth = run_fails_nothing state (asked_in request) c.clock c.rules c.work j k (reverse entries) front made journal acting quiet shows out names smooth
          (of_acts own_calls (none_told report.faults counted counts are none).0) (of_acts own_ends (none_told report.faults counted counts are none).1)

      met_so : MetNothing (dirs_in c.work.plan) report.faults → MetNothing (dirs_in c.work.plan) (faults_of c.work)
      met_so m = own_met (dirs_in c.work.plan) c.meaning.faults (faults_of c.work) (subst (MetNothing (dirs_in c.work.plan)) tells.faults m)

      reached_so : NoneEnds state report.faults × SawState state (behind_start entries)
      reached_so = (
        subst (NoneEnds state) (sym tells.faults) (none_both state c.meaning.faults (faults_of c.work) (means_none state request.confs c.meaning c.of_confs shown.confs.read)
            (carried_none state (asked_in request) c.clock c.rules c.work cut.mid (past k) cut.second shows out)),
        subst (SawState state) (sym (ap behind_start all_acting ∙ behind_quiet front run quiet)) (carried_saw state (asked_in request) c.clock c.rules c.work shows out),
      )
        where
          cut : Cut (past j) (past k) (reverse run) (reverse front)
          cut = cut_at (past j) (past k) entries front run all_acting made

      makes : Makes request c report counted counts j k
      makes = record {
        turned = λ none. logs_turned state (asked_in request) c.clock c.rules c.work (past j) (past k) (reverse entries) front made journal acting quiet shows out none;
        fulfilled = fulfilled_so;
        smooth = smooth_so;
        complete = λ none read saw planned. tells.faults ∙ (ap (λ (fs : List Fault). fs ++ faults_of c.work) read ∙ (ap (λ (fs : List Fault). fs ++ (c.work.plan.faults ++ act_faults c.work.acts)) saw ∙ (ap (λ (fs : List Fault). fs ++ act_faults c.work.acts) planned ∙ none)));
        told_of_logs = λ m. logs_met_nothing state c.rules.sets c.clock (asked_in request) c.work shows.plan out (met_so m);
        told_of_all = λ n. run_met_nothing state c.rules.sets c.clock (asked_in request) c.work shows.plan out
            (record { met = met_so n.met; not_taken = λ i. n.not_taken (subst (IsIn (fault.Taken (state_part state))) (sym tells.faults) (in_back (fault.Taken (state_part state)) c.meaning.faults (faults_of c.work) i)) });
        names = names;
        reached = reached_so;
      }

    -- it left all else alone
    rest_so : LeavesRest state c.work.saw.kept (targets_in c.work.plan) (past j) (past k)
    rest_so = done_rest state (asked_in request) c.clock c.rules c.work shows (past j) (past k) (reverse entries) front made journal acting quiet out

    sets_so : LeavesSets (targets_in c.work.plan) (past j) (past k)
    sets_so = done_sets state (asked_in request) c.clock c.rules c.work shows (past j) (past k) (reverse entries) front made journal acting quiet out

  given_so : AreGivenBy c.rules.sets c.work.plan
  given_so = logs_given request.settings.debug state (asked_in request) c.clock c.rules c.work (past j) (past k) (reverse entries) front made joined shown.confs.work.seen.sets shown.confs.work.plan

  -- ---- a dry one

  tries_so : (report : Report) (plan : Option Plan) → request.settings.debug ≡ true → Tells c plan report → DidNothing c.work → NoneEndsTry state report.faults
  tries_so report plan dry tells nothing = subst (NoneEndsTry state) (sym tells.faults) (try_both state c.meaning.faults (faults_of c.work) (none_try state c.meaning.faults (means_none state request.confs c.meaning c.of_confs shown.confs.read))
      (tried_none state (asked_in request) c.clock c.rules c.work (subst (λ (b : Bool). ShowsWork b state c.rules.sets c.clock (asked_in request) c.work) dry shown.confs.work) nothing))

  -- ---- one that broke off

  module _ (acts : request.settings.debug ≡ false) (out : BreaksOff c.work) where
    broken_shows : ShowsWork false state c.rules.sets c.clock (asked_in request) c.work
    broken_shows = subst (λ (b : Bool). ShowsWork b state c.rules.sets c.clock (asked_in request) c.work) acts shown.confs.work

    broken_entries : reverse (reverse entries) ≡ front ++ run_entries false state c.clock c.rules c.work
    broken_entries = joined ∙ ap (λ (b : Bool). front ++ run_entries b state c.clock c.rules c.work) acts

    broken_rest : LeavesRest state c.work.saw.kept (targets_in c.work.plan) (past j) (past k)
    broken_rest = cut_rest state (asked_in request) c.clock c.rules c.work broken_shows (past j) (past k) (reverse entries) front made journal broken_entries quiet out

    broken_sets : LeavesSets (targets_in c.work.plan) (past j) (past k)
    broken_sets = cut_sets state (asked_in request) c.clock c.rules c.work broken_shows (past j) (past k) (reverse entries) front made journal broken_entries quiet out

  short_so : request.settings.debug ≡ false → BreaksOff c.work → RunNothing c.rules.sets → ⊥
  short_so acts out none = never_broke_off state c.rules.sets c.clock (asked_in request) (c.work.reads ++ (c.work.looks ++ c.work.did)) none
      (broken_of state c.rules c.clock (asked_in request) c.work (subst (λ (b : Bool). ShowsWork b state c.rules.sets c.clock (asked_in request) c.work) acts shown.confs.work) out)

  -- ---- all of it

  called_so : (debug : Bool) → request.settings.debug ≡ debug → (plan : Option Plan) (outcome : Outcome) → PlanEnds debug request c plan outcome → (counted counts : Counts) → HasCounted outcome counted counts
      → ((report : Report) → outcome ≡ Done report → request.settings.debug ≡ false → TellsNamesOf state c.clock c.work (Some j) (Some k)) → IsCalled request c outcome counted counts j k
  called_so true is plan (Done report) e counted counts are names = record {
    saw = saw_truly;
    given = given_so;
    only = λ acts. absurd (not_both request.settings.debug is acts);
    rest = λ acts. absurd (not_both request.settings.debug is acts);
    sets = λ acts. absurd (not_both request.settings.debug is acts);
    made = λ other acts done. absurd (not_both request.settings.debug is acts);
    tried = λ other dry done. subst (λ (r : Report). NoneEndsTry state r.faults) (same_report report other done) (tries_so report plan dry e.0 e.1);
    short = λ memory. absurd (cc);
  }
  called_so false is plan (Done report) e counted counts are names = record {
    saw = saw_truly;
    given = given_so;
    only = λ acts. done_only state (asked_in request) c.clock c.rules c.work (shows acts e.1) e.1;
    rest = λ acts. rest_so acts e.1;
    sets = λ acts. sets_so acts e.1;
    made = λ other acts done. subst (λ (r : Report). Makes request c r counted counts j k) (same_report report other done) (makes acts e.1 report plan e.0 (names report refl acts) counted counts are);
    tried = λ other dry done. absurd (not_both request.settings.debug dry is);
    short = λ memory. absurd (cc);
  }
  called_so false is plan OutOfMemory e counted counts are names = record {
    saw = saw_truly;
    given = given_so;
    only = λ acts. cut_only state (asked_in request) c.clock c.rules c.work (broken_shows acts e.1) e.1;
    rest = λ acts. broken_rest acts e.1;
    sets = λ acts. broken_sets acts e.1;
    made = λ other acts done. absurd (cc);
    tried = λ other dry done. absurd (cc);
    short = λ memory none. short_so is e.1 none;
  }
  called_so _ is plan _ e counted counts are names = absurd e

-- ---- of what a call is told to have left

left_called : (here : Path) (words : List (List ℕ)) (zone : Zone) (seconds : ℤ) (plan : Option Plan) (outcome : Outcome) (came : Option Came) (counted counts : Counts) (request : Request) (c : Came) (j k : Journal) (es : List Entry) → Made (past j) es (past k) → IsJournal (past j)
    → CallShows here words zone seconds plan outcome came (reverse es) → AskFor here words request → came ≡ Some c → HasCounted outcome counted counts
    → ((report : Report) → outcome ≡ Done report → request.settings.debug ≡ false → TellsNamesOf request.settings.state c.clock c.work (Some j) (Some k)) → IsCalled request c outcome counted counts j k
left_called here words zone seconds plan outcome came counted counts request c j k es made journal (not_read none lost which empty) asks some are names = absurd (none-some c (sym none ∙ some))
left_called here words zone seconds plan outcome came counted counts request c j k es made journal (read other asked e) asks some are names = go (subst (λ (r : Request). CallEnds r zone seconds plan outcome came (reverse es)) (same_request here words other request asked asks) e)
  where
    go : CallEnds request zone seconds plan outcome came (reverse es) → IsCalled request c outcome counted counts j k
    go (halted none lost h) = absurd (none-some c (sym none ∙ some))
    go (called d is s e at) = subst (λ (x : Came). IsCalled request x outcome counted counts j k) same
        (called_so request zone seconds d j k (subst (λ (us : List Entry). Made (past j) us (past k)) (sym (reverse-reverse es) ∙ ap reverse at) made) journal s request.settings.debug refl plan outcome e counted counts are
        (λ report done acts. subst (λ (x : Came). TellsNamesOf request.settings.state x.clock x.work (Some j) (Some k)) (sym same) (names report done acts)))
      where
        same : d ≡ c
        same = same_Some d c (sym is ∙ some)

pub came_so : (here : Path) (words : List (List ℕ)) (zone : Zone) (seconds : ℤ) (plan : Option Plan) (outcome : Outcome) (came : Option Came) (counted counts : Counts) {o n : Option Journal} → WhereTold o IsJournal → Left (CallShows here words zone seconds plan outcome came) o n → HasCounted outcome counted counts
    → ((request : Request) (c : Came) (report : Report) → AskFor here words request → came ≡ Some c → outcome ≡ Done report → request.settings.debug ≡ false → TellsNamesOf request.settings.state c.clock c.work o n) → (request : Request) → AskFor here words request → WhereCame came o n (λ c j k. IsCalled request c outcome counted counts j k)
came_so here words zone seconds plan outcome came counted counts disk not_told are names request asks c j k some told later = absurd (none-some j told)
came_so here words zone seconds plan outcome came counted counts disk (is_told {j = i} {k = l} {es = es} made h) are names request asks c j k some told later =
    subst (λ (x : Journal). IsCalled request c outcome counted counts j x) (same_Some l k later) (subst (λ (x : Journal). IsCalled request c outcome counted counts x l) (same_Some i j told)
    (left_called here words zone seconds plan outcome came counted counts request c i l es made disk h asks some are (λ report done acts. names request c report asks some done acts)))

-- ---- the state at each moment

-- what is still leaves each path alone
still_aside : (x : Path) (e : Entry) → IsStill e → LeavesAlone x e
still_aside x (entry.Look y seen) s = λ i. i
still_aside x (entry.List y names) s = λ i. i
still_aside x (entry.Reads y place piece) s = λ i. i
still_aside x (entry.Starts y now rules) s = λ i. i
still_aside x entry.Ends s = λ i. i
still_aside x _ s = absurd s

still_may : (state : Path) (IsText : List ℕ → Type 0) (ts : List Entry) → AreStill ts → MayRenew state IsText ts
still_may state IsText ts still = left_alone (each_as IsStill (LeavesAlone state) ts (still_aside state) still)

ends_may : (request : Request) (zone : Zone) (seconds : ℤ) (plan : Option Plan) (outcome : Outcome) (came : Option Came) (ts : List Entry) → AreMade ts → CallEnds request zone seconds plan outcome came ts → MayRenew request.settings.state (IsTextOf request.settings.debug outcome came) ts
ends_may request zone seconds plan outcome came ts made (halted none lost h) = still_may request.settings.state (IsTextOf request.settings.debug outcome came) ts (halt_still request zone seconds outcome ts h)
ends_may request zone seconds plan outcome came ts made (called c some s e is) = subst (λ (x : Option Came). MayRenew request.settings.state (IsTextOf request.settings.debug outcome x) ts) (sym some) (subst (MayRenew request.settings.state (IsTextOf request.settings.debug outcome (Some c))) (sym is) (go request.settings.debug refl outcome e))
  where
    state : Path
    state = request.settings.state

    front : List Entry
    front = c.of_clock ++ c.of_confs

    parts : (b : Bool) → request.settings.debug ≡ b → call_entries request c ≡ front ++ run_entries b state c.clock c.rules c.work
    parts b dry = ap (λ (x : Bool). c.of_clock ++ (c.of_confs ++ run_entries x state c.clock c.rules c.work)) dry ∙ sym (append_assoc c.of_clock c.of_confs (run_entries b state c.clock c.rules c.work))

    run_made : request.settings.debug ≡ false → AreMade (run_entries false state c.clock c.rules c.work)
    run_made acts = made_later front (run_entries false state c.clock c.rules c.work) (subst AreMade (is ∙ parts false acts) made)

    shows : request.settings.debug ≡ false → ShowsWork false state c.rules.sets c.clock (asked_in request) c.work
    shows acts = subst (λ (b : Bool). ShowsWork b state c.rules.sets c.clock (asked_in request) c.work) acts s.confs.work

    go : (b : Bool) → request.settings.debug ≡ b → (o : Outcome) → PlanEnds b request c plan o → MayRenew state (IsTextOf b o (Some c)) (call_entries request c)
    go true dry (Done report) e = quiet_alone state (IsTextOf true (Done report) (Some c)) (call_entries request c) (dry_quiet request zone seconds c dry s)
    go false acts (Done report) e = subst (MayRenew state (IsTextOf false (Done report) (Some c))) (sym (parts false acts)) (may_behind state (IsTextOf false (Done report) (Some c)) (IsTextOf false (Done report) (Some c)) (λ text t. t) front (run_entries false state c.clock c.rules c.work) (front_quiet request zone seconds c s)
        (carried_may state c.rules c.clock (asked_in request) c.work (shows acts) e.1 (run_made acts)))
    go false acts OutOfMemory e = subst (MayRenew state (IsTextOf false OutOfMemory (Some c))) (sym (parts false acts)) (may_behind state (IsTextOf false OutOfMemory (Some c)) (IsTextOf false OutOfMemory (Some c)) (λ text t. t) front (run_entries false state c.clock c.rules c.work) (front_quiet request zone seconds c s)
        (broken_may state c.rules c.clock (asked_in request) c.work (shows acts) e.1 (IsTextOf false OutOfMemory (Some c)) (run_made acts)))
    go _ dry _ e = absurd e

pub came_whole : (here : Path) (words : List (List ℕ)) (zone : Zone) (seconds : ℤ) (plan : Option Plan) (outcome : Outcome) (came : Option Came) {o n : Option Journal} → Left (CallShows here words zone seconds plan outcome came) o n → (request : Request) → AskFor here words request → KeepsWhole request.settings.state (λ ts text. IsTextOf request.settings.debug outcome came text) o n
came_whole here words zone seconds plan outcome came l request asks = left_whole request.settings.state (λ ts text. IsTextOf request.settings.debug outcome came text) (CallShows here words zone seconds plan outcome came) l go
  where
    go : (ts : List Entry) → AreMade ts → CallShows here words zone seconds plan outcome came ts → MayRenew request.settings.state (IsTextOf request.settings.debug outcome came) ts
    go ts made (not_read none lost which empty) = still_may request.settings.state (IsTextOf request.settings.debug outcome came) ts (subst AreStill (sym empty) tt)
    go ts made (read other asked e) = ends_may request zone seconds plan outcome came ts made (subst (λ (r : Request). CallEnds r zone seconds plan outcome came ts) (same_request here words other request asked asks) e)

-- ---- the logs that are emptied

still_empties : (P : Job → Type 0) (ts : List Entry) → AreStill ts → EmptiesCopied P ts
still_empties P ts still before log after is = absurd (in_each IsStill ts (entry.Truncates log) still (subst (IsIn (entry.Truncates log)) (sym is) (in_back (entry.Truncates log) before (entry.Truncates log ∷ after) (inl refl))))

ends_copied : (request : Request) (zone : Zone) (seconds : ℤ) (plan : Option Plan) (outcome : Outcome) (came : Option Came) (ts : List Entry) → AreMade ts → CallEnds request zone seconds plan outcome came ts → EmptiesCopied (IsCopyIn came) ts
ends_copied request zone seconds plan outcome came ts made (halted none lost h) = still_empties (IsCopyIn came) ts (halt_still request zone seconds outcome ts h)
ends_copied request zone seconds plan outcome came ts made (called c some s e is) = subst (λ (x : Option Came). EmptiesCopied (IsCopyIn x) ts) (sym some) (go request.settings.debug refl outcome e)
  where
    state : Path
    state = request.settings.state

    front : List Entry
    front = c.of_clock ++ c.of_confs

    parts : (b : Bool) → request.settings.debug ≡ b → ts ≡ front ++ run_entries b state c.clock c.rules c.work
    parts b dry = is ∙ (ap (λ (x : Bool). c.of_clock ++ (c.of_confs ++ run_entries x state c.clock c.rules c.work)) dry ∙ sym (append_assoc c.of_clock c.of_confs (run_entries b state c.clock c.rules c.work)))

    run_made : request.settings.debug ≡ false → AreMade (run_entries false state c.clock c.rules c.work)
    run_made acts = made_later front (run_entries false state c.clock c.rules c.work) (subst AreMade (parts false acts) made)

    shows : request.settings.debug ≡ false → ShowsWork false state c.rules.sets c.clock (asked_in request) c.work
    shows acts = subst (λ (b : Bool). ShowsWork b state c.rules.sets c.clock (asked_in request) c.work) acts s.confs.work

    behind : request.settings.debug ≡ false → EmptiesCopied (IsCopyBy c.rules.sets c.clock) (run_entries false state c.clock c.rules c.work) → EmptiesCopied (IsCopyBy c.rules.sets c.clock) ts
    behind acts e = same_empties (IsCopyBy c.rules.sets c.clock) (front ++ run_entries false state c.clock c.rules c.work) ts (parts false acts)
        (both_empty (IsCopyBy c.rules.sets c.clock) front (run_entries false state c.clock c.rules c.work) (quiet_empties (IsCopyBy c.rules.sets c.clock) front (front_quiet request zone seconds c s)) e)

    go : (b : Bool) → request.settings.debug ≡ b → (o : Outcome) → PlanEnds b request c plan o → EmptiesCopied (IsCopyBy c.rules.sets c.clock) ts
    go true dry (Done report) e = same_empties (IsCopyBy c.rules.sets c.clock) (call_entries request c) ts is (quiet_empties (IsCopyBy c.rules.sets c.clock) (call_entries request c) (dry_quiet request zone seconds c dry s))
    go false acts (Done report) e = behind acts (leaves_copied false state c.rules c.clock (asked_in request) (Some c.work.plan) (faults_of c.work) (run_entries false state c.clock c.rules c.work) (run_made acts) (carried_left state c.rules c.clock (asked_in request) c.work (shows acts) e.1))
    go false acts OutOfMemory e = behind acts (lacks_copied false state c.rules c.clock (asked_in request) (run_entries false state c.clock c.rules c.work) (run_made acts) (in_acts (broken_left state c.rules c.clock (asked_in request) c.work (shows acts) e.1)))
    go _ dry _ e = absurd e

copy_paths : (came : Option Came) (job : Job) → IsCopyIn came job → ArePaths job
copy_paths None job is = absurd is
copy_paths (Some c) job is = is.paths

pub came_copied : (here : Path) (words : List (List ℕ)) (zone : Zone) (seconds : ℤ) (plan : Option Plan) (outcome : Outcome) (came : Option Came) {o n : Option Journal} → WhereTold o IsJournal → Left (CallShows here words zone seconds plan outcome came) o n → EmptiesWhole (IsCopyIn came) o n
came_copied here words zone seconds plan outcome came disk not_told = tt
came_copied here words zone seconds plan outcome came disk (is_told {j = j} {k = k} {es = es} made h) = λ journal. empties_whole (IsCopyIn came) (copy_paths came) (is_told {j = j} {k = k} {es = es} made (go (reverse es) (are_made (past j) (past k) es made journal) h)) journal
  where
    go : (ts : List Entry) → AreMade ts → CallShows here words zone seconds plan outcome came ts → EmptiesCopied (IsCopyIn came) ts
    go ts m (not_read none lost which empty) = still_empties (IsCopyIn came) ts (subst AreStill (sym empty) tt)
    go ts m (read request asked e) = ends_copied request zone seconds plan outcome came ts m e
