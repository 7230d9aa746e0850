-- The evidence of what a run did in its entries, from the values that it came to.
use Rattle.std.proofs.Common.{◌≡◌, ◌≤◌, ◌<◌, refl, sym, ap, ◌∙◌, subst, ℕ, Bool, false, List, [], ◌∷◌, ◌++◌, length, Option, Some, None, Result, Ok, Err, append_assoc}
use Rattle.std.proofs.lemmas.List.{append-nil}
use Rattle.lr_rules.specs.declared.clock.Clock.{Clock}
use Rattle.lr_rules.specs.declared.fault.Fault.{Fault}
use Rattle.lr_rules.specs.declared.fault.Fault.TheVariants as fault
use Rattle.lr_rules.specs.declared.fault.StateKind.TheVariants as kind
use Rattle.lr_rules.specs.declared.path.Path.{Path}
use Rattle.lr_rules.specs.declared.rule.Rule.{Rule}
use Rattle.lr_rules.specs.declared.rules.Rules.{Rules}
use Rattle.lr_rules.specs.Path.{parent_of}
use Rattle.lr_host.specs.declared.entry.Entry.{Entry}
use Rattle.lr_host.specs.declared.entry.Entry.TheVariants.{Starts, Ends}
use Rattle.lr_host.specs.declared.journal.Journal.{Journal}
use Rattle.lr_host.specs.Looks.{Sees, IsDir}
use Rattle.lr_host.specs.Told.{Left, Then}
use Rattle.lr_host.proofs.Left.{left_as}
use Rattle.lr_state.specs.Written.{table_text}
use Rattle.lr_plan.specs.Asked.{Asked}
use Rattle.lr_plan.specs.declared.plan.Plan.{Plan}
use Rattle.lr_plan.specs.Course.{Course}
use Rattle.lr_plan.specs.Cut.{SetsCut}
use Rattle.lr_plan.specs.Done.{SetsDone, rotated_logs}
use Rattle.lr_plan.specs.Steps.{steps_of_plan, state_steps}
use Rattle.lr_acts.specs.Making.{HasProgram, all_of_sets}
use Rattle.lr_looks.specs.Found.{FoundLog, paths_of}
use Rattle.lr_state.specs.Known.{TextSaysOnly}
use Rattle.lr_state.specs.After.{after}
use Rattle.lr_state.specs.Measured.{measured_text}
use Rattle.lr_writing.specs.Synced.{AreSynced}
use Rattle.lr_run.specs.declared.answer.Ran.{Ran}
use Rattle.lr_run.specs.declared.answer.RunStop.{RunStop}
use Rattle.lr_run.specs.declared.answer.RunStop.TheVariants as stop
use Rattle.lr_run.specs.InternalAnswers.{Answers}
use Rattle.lr_run.specs.Halt as halt
use Rattle.lr_run.specs.Halt.{Halt, Halts, LacksState, OfFaults, OfLock, OfMemory}
use Rattle.lr_run.specs.Internal.{saw_too_big, came_to, WorksOn, knows_none, knows}
use Rattle.lr_run.specs.Ran.{RanSo, RunEnds, halted, came, AnswersHalt}
use Rattle.lr_run.specs.InternalRuns as runs
use Rattle.lr_looks.specs.Inside.{Inside}
use Rattle.lr_run.specs.InternalRuns.{Looked, Works, Worked, BrokeOff}
use Rattle.lr_run.specs.Paths.{logs_in}
use Rattle.lr_run.specs.Saw.{Saw, ShowsStateText, ShowsStateFile, by_dir, by_none, ShowsSets, plan_by, text_by, measured_by}
use Rattle.lr_run.specs.Work.{Work, act_faults, IsPlanOf, ShowsWork, CarriesOut, BreaksOff}
use Rattle.lr_run.proofs.Knowing.{is_known}

-- the faults of what a run came to
abbrev pub faults_of : Work → List Fault
faults_of w = w.saw.faults ++ (w.plan.faults ++ act_faults w.acts)

-- ---- what was seen

module _ (state : Path) (rules : List Rule) (clock : Clock) (asked : Asked) where
  -- it was looked so
  abbrev pub looked_of : (saw : Saw) (reads looks did ts : List Entry) → ts ≡ reads ++ (looks ++ did) → ShowsStateText state saw.text saw.stale reads → TextSaysOnly saw.text (Ok saw.table) → ShowsSets state rules saw looks → Looked state rules ts
  looked_of saw reads looks did ts joined text says sets = record {
    sights = text.sights;
    remembered = record { table = saw.table; stale = saw.stale };
    known = is_known state saw.text saw.table saw.stale reads text says;
    sets = saw.sets;
    of_looks = saw.faults;
    reads = reads;
    looks = looks;
    acts = did;
    joined = joined;
    read = text.shown;
    shown = sets.shown;
  }

  module _ (w : Work) (ts : List Entry) (joined : ts ≡ w.reads ++ (w.looks ++ w.did)) (text : ShowsStateText state w.saw.text w.saw.stale w.reads) (says : TextSaysOnly w.saw.text (Ok w.saw.table)) (sets : ShowsSets state rules w.saw w.looks) (planned : IsPlanOf rules w.saw clock asked w.plan) where
    abbrev looked : Looked state rules ts
    looked = looked_of w.saw w.reads w.looks w.did ts joined text says sets

    abbrev follows : Plan
    follows = plan_by rules w.saw clock asked

    pub small_so : length (runs.measured_in state rules ts looked clock asked) ≤ 67_108_864
    small_so = subst (λ (fs : List FoundLog). length (measured_text (logs_in follows) clock.now.civil (after w.saw.table [] (paths_of fs) clock.now.civil)) ≤ 67_108_864) sets.kept_are
        (subst (λ (p : Plan). length (measured_by w.saw p clock) ≤ 67_108_864) planned.is planned.small)

    -- it was carried out
    abbrev pub work_of : CarriesOut state clock w → Worked state rules clock asked (faults_of w) ts
    work_of out = record {
      looked = looked;
      acted = record {
        small = small_so;
        dirs = w.acts.dirs;
        marks = w.acts.marks;
        dirs_are = subst (λ (p : Plan). AreSynced p.sets w.acts.marks w.acts.dirs) planned.is out.dirs;
        of_acts = act_faults w.acts;
        faults_are = ap (λ (p : Plan). w.saw.faults ++ (p.faults ++ act_faults w.acts)) planned.is;
        entries = record {
          of_plan = w.acts.of_logs;
          of_state = w.acts.of_state;
          faults_are = refl;
          entries = subst (λ (fs : List FoundLog). Then (SetsDone (steps_of_plan follows) w.acts.marks w.acts.of_logs) (Course (state_steps state w.saw.stale w.acts.dirs (table_text (after w.saw.table (rotated_logs w.acts.marks) (paths_of fs) clock.now.civil))) [] w.acts.of_state) w.did) sets.kept_are
              (subst (λ (p : Plan). Then (SetsDone (steps_of_plan p) w.acts.marks w.acts.of_logs) (Course (state_steps state w.saw.stale w.acts.dirs (text_by w.saw clock (rotated_logs w.acts.marks))) [] w.acts.of_state) w.did) planned.is out.entries);
        };
      };
    }

    -- or it broke off
    pub broke_of : BreaksOff w → BrokeOff state rules clock asked ts
    broke_of out = record {
      looked = looked;
      small = small_so;
      program = subst (λ (p : Plan). HasProgram (all_of_sets (steps_of_plan p))) planned.is out.program;
      marks = w.acts.marks;
      of_acts = w.acts.of_logs;
      part = subst (λ (p : Plan). SetsCut (steps_of_plan p) w.acts.marks w.acts.of_logs w.did) planned.is out.part;
    }

  pub too_big_of : (saw : Saw) (reads looks ts : List Entry) (plan : Option Plan) → ts ≡ reads ++ looks → ShowsStateText state saw.text saw.stale reads → TextSaysOnly saw.text (Ok saw.table) → ShowsSets state rules saw looks → 67_108_864 < length (measured_by saw (plan_by rules saw clock asked) clock) → plan ≡ None
      → Works state rules clock asked plan (saw.faults ++ fault.State 0 kind.TooBig ∷ []) ts
  too_big_of saw reads looks ts plan e text says sets big none = runs.too_big (looked_of saw reads looks [] ts (e ∙ ap (λ us. reads ++ us) (sym (append-nil looks))) text says sets)
      (subst (λ (fs : List FoundLog). 67_108_864 < length (measured_text (logs_in (plan_by rules saw clock asked)) clock.now.civil (after saw.table [] (paths_of fs) clock.now.civil))) sets.kept_are big) none refl refl

  -- between the begin and the end
  pub works_of : (plan : Option Plan) (a b : List Fault) (work : Option Work) (ts : List Entry) → WorksOn state rules clock asked plan a b work ts → (own : List Fault) × Works state rules clock asked plan own ts
  works_of plan a b work ts (knows_none f none gone e lacks) = (f ∷ [], runs.not_known lacks.sights f lacks.known none refl lacks.shown)
  works_of plan a b work ts (knows (saw_too_big saw none gone e s)) = (saw.faults ++ fault.State 0 kind.TooBig ∷ [], too_big_of saw s.reads s.looks ts plan s.entries s.read.shown s.read.says s.sets s.big none)
  works_of plan a b work ts (knows (came_to w same t)) = (faults_of w, runs.worked (work_of w ts t.entries t.read.shown t.read.says t.sets t.planned t.done) (t.plan_is ∙ ap Some t.planned.is))

-- ---- a run

pub text_shown : (state : Path) (text : List ℕ) (stale : Bool) (dir reads : List Entry) → ShowsStateFile false state text stale dir reads → Sees (parent_of state) IsDir dir × ShowsStateText state text stale reads
text_shown state text stale dir reads (by_dir s shown) = (s, shown)
text_shown state text stale dir reads (by_none bad s e n) = absurd (cc)

module _ (state : Path) (rules : Rules) (clock : Clock) (asked : Asked) where
  -- between its begin and its end it worked so
  abbrev pub worked_of : (w : Work) → ShowsWork false state rules.sets clock asked w → CarriesOut state clock w → Worked state rules.sets clock asked (faults_of w) (w.reads ++ (w.looks ++ w.did))
  worked_of w shows out = work_of state rules.sets clock asked w (w.reads ++ (w.looks ++ w.did)) refl (text_shown state w.saw.text w.saw.stale w.dir w.reads shows.seen.file).1 shows.seen.says shows.seen.sets shows.plan out

  pub broken_of : (w : Work) → ShowsWork false state rules.sets clock asked w → BreaksOff w → BrokeOff state rules.sets clock asked (w.reads ++ (w.looks ++ w.did))
  broken_of w shows out = broke_of state rules.sets clock asked w (w.reads ++ (w.looks ++ w.did)) refl (text_shown state w.saw.text w.saw.stale w.dir w.reads shows.seen.file).1 shows.seen.says shows.seen.sets shows.plan out

  pub within_of : (P : List Entry → Type 0) (dir reads looks did ts : List Entry) → Sees (parent_of state) IsDir dir → ts ≡ dir ++ (Starts state clock.now rules ∷ (reads ++ (looks ++ (did ++ Ends ∷ [])))) → P (reads ++ (looks ++ did)) → Inside state clock rules P ts
  within_of P dir reads looks did ts s e p = record {
    before = dir;
    between = reads ++ (looks ++ did);
    entries = e ∙ ap (λ us. dir ++ (Starts state clock.now rules ∷ us)) (ap (λ us. reads ++ us) (sym (append_assoc looks did (Ends ∷ []))) ∙ sym (append_assoc reads (looks ++ did) (Ends ∷ [])));
    directory = s;
    within = p;
  }

  pub inside_as : (P Q : List Entry → Type 0) (ts : List Entry) → ((us : List Entry) → P us → Q us) → Inside state clock rules P ts → Inside state clock rules Q ts
  inside_as P Q ts f i = record { before = i.before; between = i.between; entries = i.entries; directory = i.directory; within = f i.between i.within }

  module _ (earlier : List Fault) (ts : List Entry) where
    -- with these faults of its own, and no plan
    by_faults : (r : Result Ran RunStop) (own : List Fault) → AnswersHalt earlier (OfFaults own) r → ((plan : Option Plan) → plan ≡ None → runs.Runs state asked clock rules plan own ts) → Answers state false asked clock rules earlier r ts
    by_faults (Ok ran) own a f = (own, a.1, f ran.plan a.0)
    by_faults (Err stop.Held) own a f = absurd a
    by_faults (Err stop.Memory) own a f = absurd a

    by_lock : (r : Result Ran RunStop) → AnswersHalt earlier OfLock r → Sees (parent_of state) IsDir ts → Answers state false asked clock rules earlier r ts
    by_lock (Ok ran) a s = absurd a
    by_lock (Err stop.Held) a s = s
    by_lock (Err stop.Memory) a s = absurd a

    by_memory : (r : Result Ran RunStop) → AnswersHalt earlier OfMemory r → runs.LacksMemory state asked clock rules ts → Answers state false asked clock rules earlier r ts
    by_memory (Ok ran) a s = absurd a
    by_memory (Err stop.Held) a s = absurd a
    by_memory (Err stop.Memory) a s = s

    by_halt : (r : Result Ran RunStop) (h : Halt) → Halts false state rules clock asked h ts → AnswersHalt earlier h r → Answers state false asked clock rules earlier r ts
    by_halt r h (halt.not_seen e none) a = by_faults r _ (subst (λ (x : Halt). AnswersHalt earlier x r) e a) (λ plan n. runs.not_seen n refl none)
    by_halt r h (halt.no_directory e s) a = by_faults r _ (subst (λ (x : Halt). AnswersHalt earlier x r) e a) (λ plan n. runs.no_directory n refl s)
    by_halt r h (halt.held d e s) a = by_lock r (subst (λ (x : Halt). AnswersHalt earlier x r) e a) s
    by_halt r h (halt.not_begun d e t) a = by_faults r _ (subst (λ (x : Halt). AnswersHalt earlier x r) e a) (λ plan n. runs.not_begun n refl t)
    by_halt r h (halt.unknown f e i) a = by_faults r _ (subst (λ (x : Halt). AnswersHalt earlier x r) e a)
        (λ plan n. runs.began (inside_as (LacksState state f) (Works state rules.sets clock asked plan (f ∷ [])) ts (λ us l. runs.not_known l.sights f l.known n refl l.shown) i))
    by_halt r h (halt.too_big saw e o) a = by_faults r _ (subst (λ (x : Halt). AnswersHalt earlier x r) e a)
        (λ plan n. let s = text_shown state saw.text saw.stale o.dir o.reads o.seen.file in
        runs.began (within_of (Works state rules.sets clock asked plan (saw.faults ++ fault.State 0 kind.TooBig ∷ [])) o.dir o.reads o.looks [] ts s.0 o.entries
        (too_big_of state rules.sets clock asked saw o.reads o.looks (o.reads ++ (o.looks ++ [])) plan (ap (λ us. o.reads ++ us) (append-nil o.looks)) s.1 o.seen.says o.seen.sets o.big n)))
    by_halt r h (halt.no_memory e none) a = by_memory r (subst (λ (x : Halt). AnswersHalt earlier x r) e a) (runs.at_first none)
    by_halt r h (halt.short e i) a = by_memory r (subst (λ (x : Halt). AnswersHalt earlier x r) e a) (runs.in_looks i)
    by_halt r h (halt.short_anew d e t) a = absurd (cc)

    pub by_work : (r : Result Ran RunStop) (work : Option Work) → RunEnds false state rules clock asked earlier r work ts → Answers state false asked clock rules earlier r ts
    by_work r work (halted h none hs a) = by_halt r h hs a
    by_work (Ok ran) work (came w same shows a e) = (
      faults_of w,
      a.0.faults,
      runs.began (within_of (Works state rules.sets clock asked ran.plan (faults_of w)) w.dir w.reads w.looks w.did ts (text_shown state w.saw.text w.saw.stale w.dir w.reads shows.seen.file).0 e
          (runs.worked (worked_of w shows a.1) (a.0.plan ∙ ap Some shows.plan.is))),
    )
    by_work (Err stop.Memory) work (came w same shows a e) = runs.in_acts (within_of (BrokeOff state rules.sets clock asked) w.dir w.reads w.looks w.did ts (text_shown state w.saw.text w.saw.stale w.dir w.reads shows.seen.file).0 e (broken_of w shows a))
    by_work (Err stop.Held) work (came w same shows a e) = absurd a

-- its entries and its answer
pub answers_of : (state : Path) (asked : Asked) (clock : Clock) (rules : Rules) (earlier : List Fault) (r : Result Ran RunStop) {o n : Option Journal} → RanSo false state rules clock asked earlier r o n → Left (Answers state false asked clock rules earlier r) o n
answers_of state asked clock rules earlier r h = left_as h.shows (λ ts e. by_work state rules clock asked earlier ts r h.work e)
