-- What a run came to, by values, from part to part.
use Rattle.std.proofs.Common.{◌≡◌, ◌≤◌, ◌<◌, refl, sym, ap, ◌∙◌, subst, ℕ, List, [], ◌∷◌, ◌++◌, length, reverse, Option, Some, None, Result, Ok, Err, append_assoc}
use Rattle.std.specs.Prelude.{OnOk}
use Rattle.std.proofs.lemmas.List.{append-nil, reverse-append}
use Rattle.std.proofs.lemmas.Option.{none-some, same_Some}
use Rattle.lr_rules.specs.declared.clock.Clock.{Clock}
use Rattle.lr_rules.specs.declared.fault.Fault.{Fault}
use Rattle.lr_rules.specs.declared.fault.Fault.TheVariants as fault
use Rattle.lr_rules.specs.declared.fault.StateKind.TheVariants as kind
use Rattle.lr_rules.specs.declared.path.Path.{Path}
use Rattle.lr_rules.specs.declared.rule.Rule.{Rule}
use Rattle.lr_rules.specs.declared.rules.Rules.{Rules}
use Rattle.lr_host.specs.declared.entry.Entry.{Entry}
use Rattle.lr_host.specs.declared.entry.Entry.TheVariants.{Starts, Ends}
use Rattle.lr_host.specs.declared.journal.Journal.{Journal}
use Rattle.lr_host.specs.Told.{Are, Each, Left, Made, Then, not_told, is_told}
use Rattle.lr_host.specs.World.{past}
use Rattle.lr_host.proofs.Left.{left_as, left_both, left_then}
use Rattle.lr_host.proofs.Made.{made_on}
use Rattle.lr_plan.specs.Asked.{Asked}
use Rattle.lr_plan.specs.declared.looks.Looks.{Looks}
use Rattle.lr_plan.specs.declared.mark.Mark.{Mark}
use Rattle.lr_plan.specs.declared.plan.Plan.{Plan}
use Rattle.lr_plan.specs.declared.step.Step.{Step}
use Rattle.lr_plan.specs.Course.{Course}
use Rattle.lr_plan.specs.Done.{SetsDone, rotated_logs}
use Rattle.lr_plan.specs.Steps.{steps_of_plan, state_steps}
use Rattle.lr_acts.specs.Making.{all_of_sets}
use Rattle.lr_acts.specs.Taken.{SparesPath}
use Rattle.lr_acts.proofs.Taking.{taken_later, taken_before}
use Rattle.lr_looks.specs.Shown.{LooksAtAll}
use Rattle.lr_state.specs.declared.remembered.Remembered.{Remembered}
use Rattle.lr_state.specs.Known.{ReadsState, TextSaysOnly}
use Rattle.lr_state.specs.After.{after}
use Rattle.lr_state.specs.Measured.{measured_text}
use Rattle.lr_state.specs.Table.{StateEntry as Row}
use Rattle.lr_state.specs.Written.{table_text}
use Rattle.lr_looks.specs.Reserved.{reserved_by}
use Rattle.lr_writing.specs.Synced.{AreSynced}
use Rattle.lr_run.specs.Internal.{plan_for, steps_of_writing, ActsBy, outgrew, acted, Carries, CameTo, WorksTo, SeesTooBig, LooksAndActs, saw_too_big, came_to, IsKnownBefore, KnowsText, WorksOn, knows_none, knows, EndsWork, Begun, Goes, begun}
use Rattle.lr_run.specs.Ran.{TellsNames, TellsNamesOf}
use Rattle.lr_run.specs.Paths.{logs_in}
use Rattle.lr_run.specs.Saw.{Saw, ShowsSets, ShowsStateText}
use Rattle.lr_run.specs.Work.{Acts, Work, act_faults}
use Rattle.lr_run.proofs.Keeping.{end_keeps}
use Rattle.lr_run.proofs.Knowing.{KnownText, known_text}

-- ---- of what is told

-- first these entries, and then those
pub both_told : (P : List Entry → Type 0) (i j k : Journal) {es fs : List Entry} → Made (past i) es (past j) → Made (past j) fs (past k) → P (reverse es ++ reverse fs) → Left P (Some i) (Some k)
both_told P i j k {es} {fs} m m' h = is_told (made_on (past i) (past j) (past k) es fs m m') (subst P (sym (reverse-append fs es)) h)

-- the names behind other calls
pub tells_later : {P : List Entry → Type 0} {ms : List Mark} {ss : List Step} {fs : List Fault} {o m n : Option Journal} → Left P o m → TellsNames ms ss fs m n → TellsNames ms ss fs o n
tells_later left t = record { named = t.named; taken = λ x last i. taken_later x left (t.taken x last i) }

-- nothing is told
pub none_told : {P : List Entry → Type 0} (Q : Option Work → List Entry → Type 0) (state : Path) (clock : Clock) {n : Option Journal} → Left P None n → CameTo Q state clock None n
none_told Q state clock not_told = record { work = None; shows = not_told; names = λ w e. absurd (none-some w e) }

-- ---- behind the looks

module _ (state : Path) (rules : Rules) (looks : Looks) (remembered : Remembered) (clock : Clock) (asked : Asked) (plan : Option Plan) (a b c : List Fault) where
  abbrev planned : Plan
  planned = plan_for rules looks remembered clock asked

  abbrev Looked : Option Work → List Entry → Type 0
  Looked = LooksAndActs (IsKnownBefore remembered) state rules.sets clock asked plan a c

  module _ (seen did : List Entry) (g : LooksAtAll (reserved_by state) rules.sets looks a b seen) where
    abbrev sees : Saw
    sees = record { text = []; table = remembered.table; stale = remembered.stale; words = g.shown.entries.first.sights; kept = g.shown.kept; sets = looks.sets; faults = g.own }

    abbrev work_of : Acts → Work
    work_of acts = record { saw = sees; plan = planned; acts = acts; dir = []; reads = []; looks = seen; did = did }

    abbrev measured : List Path → List ℕ
    measured kept = measured_text (logs_in planned) clock.now.civil (after remembered.table [] kept clock.now.civil)

    later : (own : List Fault) → c ≡ b ++ own → c ≡ a ++ (g.own ++ own)
    later own e = e ∙ (ap (λ (fs : List Fault). fs ++ own) g.faults_are ∙ append_assoc a g.own own)

    looked_too_big : plan ≡ None → c ≡ b ++ fault.State 0 kind.TooBig ∷ [] → 67_108_864 < length (measured looks.kept) → did ≡ [] → Looked None (seen ++ did)
    looked_too_big none e big nothing = saw_too_big sees none refl (later (fault.State 0 kind.TooBig ∷ []) e) (record {
      reads = [];
      looks = seen ++ did;
      entries = refl;
      read = (refl, refl, refl);
      sets = subst (λ (ts : List Entry). ShowsSets state rules.sets sees ts) (sym (ap (λ ts. seen ++ ts) nothing ∙ append-nil seen)) (record { shown = g.shown; words_are = refl; kept_are = refl });
      big = subst (λ (ks : List Path). 67_108_864 < length (measured ks)) g.kept_are big;
    })

    looked_worked : (acts : Acts) → plan ≡ Some planned → c ≡ b ++ (planned.faults ++ act_faults acts) → length (measured looks.kept) ≤ 67_108_864 → AreSynced planned.sets acts.marks acts.dirs
        → Then (SetsDone (steps_of_plan planned) acts.marks acts.of_logs) (Course (steps_of_writing state looks remembered clock acts) [] acts.of_state) did → Looked (Some (work_of acts)) (seen ++ did)
    looked_worked acts is e small dirs t = came_to (work_of acts) refl (record {
      plan_is = is;
      faults_are = later (planned.faults ++ act_faults acts) e;
      entries = refl;
      read = (refl, refl, refl);
      sets = record { shown = g.shown; words_are = refl; kept_are = refl };
      planned = record { is = refl; small = subst (λ (ks : List Path). length (measured ks) ≤ 67_108_864) g.kept_are small };
      done = record {
        dirs = dirs;
        entries = subst (λ (ks : List Path). Then (SetsDone (steps_of_plan planned) acts.marks acts.of_logs) (Course (state_steps state remembered.stale acts.dirs (table_text (after remembered.table (rotated_logs acts.marks) ks clock.now.civil))) [] acts.of_state) did) g.kept_are t;
      };
    })

    names_of : (acts : Acts) {m n : Option Journal} → TellsNames acts.marks (all_of_sets (steps_of_plan planned) ++ steps_of_writing state looks remembered clock acts) (planned.faults ++ act_faults acts) m n → TellsNamesOf state clock (work_of acts) m n
    names_of acts {m} {n} t = subst (λ (ks : List Path). TellsNames acts.marks (all_of_sets (steps_of_plan planned) ++ state_steps state remembered.stale acts.dirs (table_text (after remembered.table (rotated_logs acts.marks) ks clock.now.civil))) (planned.faults ++ act_faults acts) m n) g.kept_are t

  looked_so : {o m n : Option Journal} → Left (LooksAtAll (reserved_by state) rules.sets looks a b) o m → Carries state rules looks remembered clock asked plan b c m n → CameTo Looked state clock o n
  looked_so not_told h = none_told Looked state clock h.shows
  looked_so (is_told {j = i} {k = j} {es = es} made g) h = go h.acts h.shows h.names
    where
      go : (acts : Option Acts) {n : Option Journal} → Left (ActsBy state rules looks remembered clock asked plan b c acts) (Some j) n
          → ((v : Acts) → acts ≡ Some v → TellsNames v.marks (all_of_sets (steps_of_plan planned) ++ steps_of_writing state looks remembered clock v) (planned.faults ++ act_faults v) (Some j) n) → CameTo Looked state clock (Some i) n
      go acts (is_told {k = k} {es = fs} made' (outgrew none gone e big nothing)) names = record {
        work = None;
        shows = both_told (Looked None) i j k made made' (looked_too_big (reverse es) (reverse fs) g none e big nothing);
        names = λ w bad. absurd (none-some w bad);
      }
      go acts (is_told {k = k} {es = fs} made' (acted v is same e small dirs t)) names = record {
        work = Some (work_of (reverse es) (reverse fs) g v);
        shows = both_told (Looked (Some (work_of (reverse es) (reverse fs) g v))) i j k made made' (looked_worked (reverse es) (reverse fs) g v is e small dirs t);
        names = λ w that. subst (λ (x : Work). TellsNamesOf state clock x (Some i) (Some k)) (same_Some (work_of (reverse es) (reverse fs) g v) w that)
            (tells_later {P = λ ts. Unit {0}} (is_told {j = i} {k = j} made tt) (names_of (reverse es) (reverse fs) g v (names v same)));
      }

pub looked_done : {T E : Type 0} (r : Result T E) (state : Path) (rules : Rules) (looks : Looks) (remembered : Remembered) (clock : Clock) (asked : Asked) (plan : Option Plan) (a b c : List Fault) {o m : Option Journal} (n : Option Journal) → Left (LooksAtAll (reserved_by state) rules.sets looks a b) o m
    → OnOk r (Carries state rules looks remembered clock asked plan b c m n) → OnOk r (CameTo (LooksAndActs (IsKnownBefore remembered) state rules.sets clock asked plan a c) state clock o n)
looked_done (Ok u) state rules looks remembered clock asked plan a b c n l h = looked_so state rules looks remembered clock asked plan a b c l h
looked_done (Err u) state rules looks remembered clock asked plan a b c n l h = tt

-- ---- behind the reading

-- with the text that was read
abbrev with_text : List ℕ → Saw → Saw
with_text text saw = record { text = text; table = saw.table; stale = saw.stale; words = saw.words; kept = saw.kept; sets = saw.sets; faults = saw.faults }

abbrev with_reads : List ℕ → List Entry → Work → Work
with_reads text reads w = record { saw = with_text text w.saw; plan = w.plan; acts = w.acts; dir = w.dir; reads = reads; looks = w.looks; did = w.did }

module _ (state : Path) (rules : List Rule) (clock : Clock) (asked : Asked) (remembered : Remembered) (plan : Option Plan) (a b : List Fault) where
  abbrev Worked : Option Work → List Entry → Type 0
  Worked = WorksOn state rules clock asked plan a b

  module _ (reads ts : List Entry) (t : KnownText state remembered reads) where
    read_so : (saw : Saw) (before : List Entry) → IsKnownBefore remembered saw before → KnowsText state (with_text t.text saw) reads
    read_so saw before h = record {
      shown = subst (λ stale. ShowsStateText state t.text stale reads) (sym h.1) t.shown;
      says = subst (λ (table : List Row). TextSaysOnly t.text (Ok table)) (sym h.0) t.says;
    }

    -- no reads stand before
    without : (before rest : List Entry) → before ≡ [] → ts ≡ before ++ rest → reads ++ ts ≡ reads ++ rest
    without before rest none e = ap (λ us. reads ++ us) (e ∙ ap (λ us. us ++ rest) none)

    read_too_big : (saw : Saw) → plan ≡ None → b ≡ a ++ (saw.faults ++ fault.State 0 kind.TooBig ∷ []) → SeesTooBig (IsKnownBefore remembered) state rules clock asked saw ts → Worked None (reads ++ ts)
    read_too_big saw none e s = knows (saw_too_big (with_text t.text saw) none refl e (record {
      reads = reads;
      looks = s.looks;
      entries = without s.reads s.looks s.read.2 s.entries;
      read = read_so saw s.reads s.read;
      sets = record { shown = s.sets.shown; words_are = s.sets.words_are; kept_are = s.sets.kept_are };
      big = s.big;
    }))

    read_worked : (w : Work) → WorksTo (IsKnownBefore remembered) state rules clock asked plan a b w ts → Worked (Some (with_reads t.text reads w)) (reads ++ ts)
    read_worked w h = knows (came_to (with_reads t.text reads w) refl (record {
      plan_is = h.plan_is;
      faults_are = h.faults_are;
      entries = without w.reads (w.looks ++ w.did) h.read.2 h.entries;
      read = read_so w.saw w.reads h.read;
      sets = record { shown = h.sets.shown; words_are = h.sets.words_are; kept_are = h.sets.kept_are };
      planned = record { is = h.planned.is; small = h.planned.small };
      done = record { dirs = h.done.dirs; entries = h.done.entries };
    }))

  known_so : {o m n : Option Journal} → Left (ReadsState state 65_536 (Ok (Ok remembered))) o m → CameTo (LooksAndActs (IsKnownBefore remembered) state rules clock asked plan a b) state clock m n → CameTo Worked state clock o n
  known_so not_told h = none_told Worked state clock h.shows
  known_so (is_told {j = i} {k = j} {es = es} made p) h = go h.work h.shows h.names
    where
      t : KnownText state remembered (reverse es)
      t = known_text state remembered p.sights (reverse es) p.known p.shown

      go : (work : Option Work) {n : Option Journal} → Left (LooksAndActs (IsKnownBefore remembered) state rules clock asked plan a b work) (Some j) n → ((w : Work) → work ≡ Some w → TellsNamesOf state clock w (Some j) n) → CameTo Worked state clock (Some i) n
      go work (is_told {k = k} {es = fs} made' (saw_too_big was none gone e s)) names = record {
        work = None;
        shows = both_told (Worked None) i j k made made' (read_too_big (reverse es) (reverse fs) t was none e s);
        names = λ w bad. absurd (none-some w bad);
      }
      go work (is_told {k = k} {es = fs} made' (came_to w same q)) names = record {
        work = Some (with_reads t.text (reverse es) w);
        shows = both_told (Worked (Some (with_reads t.text (reverse es) w))) i j k made made' (read_worked (reverse es) (reverse fs) t w q);
        names = λ v that. subst (λ (x : Work). TellsNamesOf state clock x (Some i) (Some k)) (same_Some (with_reads t.text (reverse es) w) v that)
            (tells_later {P = λ ts. Unit {0}} (is_told {j = i} {k = j} made tt) (names w same));
      }

pub known_done : {T E : Type 0} (r : Result T E) (state : Path) (rules : List Rule) (clock : Clock) (asked : Asked) (remembered : Remembered) (plan : Option Plan) (a b : List Fault) {o m : Option Journal} (n : Option Journal) → Left (ReadsState state 65_536 (Ok (Ok remembered))) o m
    → OnOk r (CameTo (LooksAndActs (IsKnownBefore remembered) state rules clock asked plan a b) state clock m n) → OnOk r (CameTo (WorksOn state rules clock asked plan a b) state clock o n)
known_done (Ok u) state rules clock asked remembered plan a b n l h = known_so state rules clock asked remembered plan a b l h
known_done (Err u) state rules clock asked remembered plan a b n l h = tt

pub unknown_done : (state : Path) (rules : List Rule) (clock : Clock) (asked : Asked) (plan : Option Plan) (f : Fault) (a b : List Fault) {o n : Option Journal} → plan ≡ None → Left (ReadsState state 65_536 (Ok (Err f))) o n → b ≡ a ++ f ∷ [] → CameTo (WorksOn state rules clock asked plan a b) state clock o n
unknown_done state rules clock asked plan f a b none l e = record {
  work = None;
  shows = left_as l (λ ts p. knows_none f none refl e (record { sights = p.sights; known = p.known; shown = p.shown }));
  names = λ w bad. absurd (none-some w bad);
}

-- ---- the end, and the begin

pub work_ended : {T E : Type 0} (r : Result T E) (state : Path) (rules : List Rule) (clock : Clock) (asked : Asked) (plan : Option Plan) (a b : List Fault) (o : Option Journal) {m n : Option Journal} → OnOk r (CameTo (WorksOn state rules clock asked plan a b) state clock o m) → Left (Are (Ends ∷ [])) m n
    → OnOk r (CameTo (EndsWork state rules clock asked plan a b) state clock o n)
work_ended (Ok x) state rules clock asked plan a b o h k = record {
  work = h.work;
  shows = left_as (left_both h.shows k) (λ ts t. t);
  names = λ w is. record {
    named = λ x i. end_keeps x k ((h.names w is).named x i);
    taken = λ x last i. taken_before x ((h.names w is).taken x last i) (left_as k (λ ts e. subst (Each (SparesPath x)) (sym e) (tt, tt)));
  };
}
work_ended (Err x) state rules clock asked plan a b o h k = tt

pub begins : (state : Path) (clock : Clock) (rules : Rules) (P : List Entry → Type 0) (ts us vs : List Entry) → ts ≡ Starts state clock.now rules ∷ [] → P us → vs ≡ Ends ∷ [] → Begun state clock rules P (ts ++ (us ++ vs))
begins state clock rules P ts us vs a p b = record { between = us; entries = ap (λ xs. xs ++ (us ++ vs)) a ∙ ap (λ xs. Starts state clock.now rules ∷ (us ++ xs)) b; within = p }

pub goes : (state : Path) (asked : Asked) (clock : Clock) (rules : Rules) (plan : Option Plan) (a b : List Fault) {o m n : Option Journal} → Left (Are (Starts state clock.now rules ∷ [])) o m → CameTo (EndsWork state rules.sets clock asked plan a b) state clock m n → CameTo (Goes state asked clock rules plan a b) state clock o n
goes state asked clock rules plan a b l h = record {
  work = h.work;
  shows = left_then l h.shows (λ ts us p q. begun (subst (λ (xs : List Entry). Begun state clock rules (WorksOn state rules.sets clock asked plan a b h.work) (ts ++ xs)) (sym q.joined) (begins state clock rules (WorksOn state rules.sets clock asked plan a b h.work) ts q.front q.back p q.first q.second)));
  names = λ w is. tells_later l (h.names w is);
}
