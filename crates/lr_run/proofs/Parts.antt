-- A run, put together of its parts.
use Rattle.std.proofs.Common.{◌≡◌, ◌⊎◌, Bool, false, List, [], ◌∷◌, ◌++◌, reverse, Option, Some, None, Result, Ok, Err, refl, sym, ap, ◌∙◌, subst, append_assoc}
use Rattle.std.specs.Prelude.{OnOk, IfErr}
use Rattle.std.proofs.lemmas.List.{append-nil}
use Rattle.std.proofs.lemmas.Option.{none-some, same_Some}
use Rattle.lr_rules.specs.declared.clock.Clock.{Clock}
use Rattle.lr_rules.specs.declared.fault.CallKind.TheVariants as call
use Rattle.lr_rules.specs.declared.fault.Fault.{Fault}
use Rattle.lr_rules.specs.declared.fault.Fault.TheVariants as fault
use Rattle.lr_rules.specs.declared.fault.StateKind.TheVariants as kind
use Rattle.lr_rules.specs.declared.path.Path.{Path}
use Rattle.lr_rules.specs.declared.rules.Rules.{Rules}
use Rattle.lr_rules.specs.Path.{parent_of}
use Rattle.lr_host.specs.declared.entry.Entry.{Entry}
use Rattle.lr_host.specs.declared.entry.Entry.TheVariants.{Starts, Ends}
use Rattle.lr_host.specs.declared.host.CallFault.{CallFault}
use Rattle.lr_host.specs.declared.journal.Journal.{Journal}
use Rattle.lr_host.specs.declared.thing.Seen.{Seen}
use Rattle.lr_host.specs.Looks.{Sees, IsDir, IsNoDir, IsNothing, IsNotDir}
use Rattle.lr_host.specs.Told.{DidWhere, Left, Made, Then, Are, not_told, is_told}
use Rattle.lr_host.specs.World.{past}
use Rattle.lr_host.proofs.Left.{left_as, left_first, left_then}
use Rattle.lr_plan.specs.Asked.{Asked}
use Rattle.lr_plan.specs.declared.plan.Plan.{Plan}
use Rattle.lr_run.specs.declared.answer.Ran.{Ran}
use Rattle.lr_run.specs.declared.answer.RunStop.{RunStop}
use Rattle.lr_run.specs.declared.answer.RunStop.TheVariants as stop
use Rattle.lr_family.specs.declared.directory.DirStop.{DirStop}
use Rattle.lr_family.specs.declared.directory.DirStop.TheVariants as dir
use Rattle.lr_family.specs.Directory.{DirSeen, DirLookStopped, dir_fault_of}
use Rattle.lr_run.specs.Halt as halt
use Rattle.lr_run.specs.Halt.{Halts, LacksState, OfFaults, OfLock, OfMemory, SomeSeen}
use Rattle.lr_run.specs.Internal.{CameTo, WorksTo, SeesTooBig, saw_too_big, came_to, KnowsText, WorksOn, knows_none, knows, SomeWork, some_seen, some_done, Begun, Goes, begun, not_begun, RunStopped, StopsSo}
use Rattle.lr_run.specs.Ran.{RanSo, RunEnds, halted, came, TellsNamesOf}
use Rattle.lr_looks.specs.Inside.{Inside}
use Rattle.lr_run.specs.InternalRuns as runs
use Rattle.lr_run.specs.Saw.{Saw, by_dir}
use Rattle.lr_run.specs.Work.{Work, entries_of}
use Rattle.lr_run.proofs.Coming.{begins, both_told, tells_later}
use Rattle.lr_run.proofs.Knowing.{KnownText, known_text}

pub locked : (state : Path) (asked : Asked) (clock : Clock) (rules : Rules) (b : Bool) {o n : Option Journal} → b ≡ false → Left (DidWhere {E = CallFault} (Ok b) (Starts state clock.now rules)) o n → Left (RunStopped state asked clock rules stop.Held) o n
locked state asked clock rules b e l = left_as l (λ ts h. subst (λ (x : Bool). DidWhere {E = CallFault} (Ok x) (Starts state clock.now rules) ts) e h)

-- ---- between the begin and the end

pub lacks : (state : Path) (asked : Asked) (clock : Clock) (rules : Rules) {o m n : Option Journal} → Left (Are (Starts state clock.now rules ∷ [])) o m → Left (Then (SomeWork state rules.sets clock asked) (Are (Ends ∷ []))) m n → Left (RunStopped state asked clock rules stop.Memory) o n
lacks state asked clock rules l k = left_then l k (λ ts us p q. subst (λ (xs : List Entry). Begun state clock rules (SomeWork state rules.sets clock asked) (ts ++ xs)) (sym q.joined) (begins state clock rules (SomeWork state rules.sets clock asked) ts q.front q.back p q.first q.second))

pub goes_not : (state : Path) (asked : Asked) (clock : Clock) (rules : Rules) (plan : Option Plan) (name : Path) (a b : List Fault) {o n : Option Journal} → plan ≡ None → name ≡ state → b ≡ a ++ fault.Call call.Begin name ∷ [] → Left (λ ts. (ts ≡ []) ⊎ (ts ≡ Starts state clock.now rules ∷ [])) o n
    → CameTo (Goes state asked clock rules plan a b) state clock o n
goes_not state asked clock rules plan name a b none e f l = record {
  work = None;
  shows = left_as l (λ ts h. not_begun none refl (f ∙ ap (λ (x : Path). a ++ fault.Call call.Begin x ∷ []) e) h);
  names = λ w bad. absurd (none-some w bad);
}

-- ---- behind the look at the state's directory

abbrev inside : (state : Path) (clock : Clock) (rules : Rules) (P : List Entry → Type 0) (ts us : List Entry) → Sees (parent_of state) IsDir ts → Begun state clock rules P us → Inside state clock rules P (ts ++ us)
inside state clock rules P ts us s b = record { before = ts; between = b.between; entries = ap (λ xs. ts ++ xs) b.entries; directory = s; within = b.within }

inside_as : (state : Path) (clock : Clock) (rules : Rules) (P Q : List Entry → Type 0) (ts : List Entry) → (i : Inside state clock rules P ts) → Q i.between → Inside state clock rules Q ts
inside_as state clock rules P Q ts i q = record { before = i.before; between = i.between; entries = i.entries; directory = i.directory; within = q }

-- what it came to, with the entries of that look
abbrev with_dir : List Entry → Work → Work
with_dir dir w = record { saw = w.saw; plan = w.plan; acts = w.acts; dir = dir; reads = w.reads; looks = w.looks; did = w.did }

module _ (state : Path) (asked : Asked) (clock : Clock) (rules : Rules) (earlier : List Fault) (ran : Ran) where
  abbrev Ended : Option Work → List Entry → Type 0
  Ended = RunEnds false state rules clock asked earlier (Ok ran)

  -- all entries, where those between the begin and the end are reads, looks and acts
  entries_are : (ts us between reads looks did : List Entry) → us ≡ Starts state clock.now rules ∷ (between ++ Ends ∷ []) → between ≡ reads ++ (looks ++ did) → ts ++ us ≡ entries_of false state clock rules ts reads looks did
  entries_are ts us between reads looks did e f = ap (λ xs. ts ++ xs) (e ∙ ap (λ xs. Starts state clock.now rules ∷ xs)
      (ap (λ xs. xs ++ Ends ∷ []) f ∙ (append_assoc reads (looks ++ did) (Ends ∷ []) ∙ ap (λ xs. reads ++ xs) (append_assoc looks did (Ends ∷ [])))))

  ends_too_big : (ts us : List Entry) (saw : Saw) → ran.plan ≡ None → ran.faults.items ≡ earlier ++ (saw.faults ++ fault.State 0 kind.TooBig ∷ []) → Sees (parent_of state) IsDir ts → (b : Begun state clock rules (SeesTooBig (KnowsText state) state rules.sets clock asked saw) us) → Ended None (ts ++ us)
  ends_too_big ts us saw none e s b = halted (OfFaults (saw.faults ++ fault.State 0 kind.TooBig ∷ [])) refl (halt.too_big saw refl (record {
    dir = ts;
    reads = b.within.reads;
    looks = b.within.looks;
    entries = entries_are ts us b.between b.within.reads b.within.looks [] b.entries (b.within.entries ∙ ap (λ xs. b.within.reads ++ xs) (sym (append-nil b.within.looks)));
    seen = record { file = by_dir s b.within.read.shown; says = b.within.read.says; sets = b.within.sets };
    big = b.within.big;
  })) (none, e)

  ends_worked : (ts us : List Entry) (w : Work) → Sees (parent_of state) IsDir ts → (b : Begun state clock rules (WorksTo (KnowsText state) state rules.sets clock asked ran.plan earlier ran.faults.items w) us) → Ended (Some (with_dir ts w)) (ts ++ us)
  ends_worked ts us w s b = came (with_dir ts w) refl
      (record { seen = record { file = by_dir s b.within.read.shown; says = b.within.read.says; sets = b.within.sets }; plan = record { is = b.within.planned.is; small = b.within.planned.small } })
      (record { plan = b.within.plan_is; faults = b.within.faults_are }, record { dirs = b.within.done.dirs; entries = b.within.done.entries })
      (entries_are ts us b.between w.reads w.looks w.did b.entries b.within.entries)

  -- what came to no plan
  abbrev Without : Option Journal → Option Journal → Type 0
  Without told later = Left (Ended None) told later

  none_came : {o n : Option Journal} → Without o n → RanSo false state rules clock asked earlier (Ok ran) o n
  none_came l = record { work = None; shows = l; names = λ w r bad. absurd (none-some w bad) }

  dir_so : {o m n : Option Journal} → Left (Sees (parent_of state) IsDir) o m → CameTo (Goes state asked clock rules ran.plan earlier ran.faults.items) state clock m n → RanSo false state rules clock asked earlier (Ok ran) o n
  dir_so not_told h = go h.shows
    where
      go : {P : List Entry → Type 0} {n : Option Journal} → Left P None n → RanSo false state rules clock asked earlier (Ok ran) None n
      go not_told = none_came not_told
  dir_so (is_told {j = i} {k = j} {es = es} made s) h = go h.work h.shows h.names
    where
      begun_so : (work : Option Work) {k : Journal} {fs : List Entry} → Made (past j) fs (past k) → ((w : Work) → work ≡ Some w → TellsNamesOf state clock w (Some j) (Some k))
          → (b : Begun state clock rules (WorksOn state rules.sets clock asked ran.plan earlier ran.faults.items work) (reverse fs)) → WorksOn state rules.sets clock asked ran.plan earlier ran.faults.items work b.between → RanSo false state rules clock asked earlier (Ok ran) (Some i) (Some k)
      begun_so work {k = k} {fs = fs} made' names b (knows_none f none gone e lacks) = none_came (both_told (Ended None) i j k made made' (halted (OfFaults (f ∷ [])) refl (halt.unknown f refl (inside state clock rules (LacksState state f) (reverse es) (reverse fs) s (record { between = b.between; entries = b.entries; within = lacks }))) (none, e)))
      begun_so work {k = k} {fs = fs} made' names b (knows (saw_too_big saw none gone e big)) = none_came (both_told (Ended None) i j k made made' (ends_too_big (reverse es) (reverse fs) saw none e s (record { between = b.between; entries = b.entries; within = big })))
      begun_so work {k = k} {fs = fs} made' names b (knows (came_to w same t)) = record {
        work = Some (with_dir (reverse es) w);
        shows = both_told (Ended (Some (with_dir (reverse es) w))) i j k made made' (ends_worked (reverse es) (reverse fs) w s (record { between = b.between; entries = b.entries; within = t }));
        names = λ v r that ok acts. subst (λ (x : Work). TellsNamesOf state clock x (Some i) (Some k)) (same_Some (with_dir (reverse es) w) v that) (tells_later {P = λ ts. Unit {0}} (is_told {j = i} {k = j} made tt) (names w same));
      }

      go : (work : Option Work) {n : Option Journal} → Left (Goes state asked clock rules ran.plan earlier ran.faults.items work) (Some j) n → ((w : Work) → work ≡ Some w → TellsNamesOf state clock w (Some j) n) → RanSo false state rules clock asked earlier (Ok ran) (Some i) n
      go work (is_told {k = k} {es = fs} made' (begun b)) names = begun_so work {k = k} {fs = fs} made' names b b.within
      go work (is_told {k = k} {es = fs} made' (not_begun none gone e m)) names =
          none_came (both_told (Ended None) i j k made made' (halted (OfFaults (fault.Call call.Begin state ∷ [])) refl (halt.not_begun refl refl (record { front = reverse es; back = reverse fs; joined = refl; first = s; second = m })) (none, e)))

pub behind_dir : (state : Path) (asked : Asked) (clock : Clock) (rules : Rules) (earlier : List Fault) (ran : Ran) (dir : Path) {T E : Type 0} (r : Result T E) {o m : Option Journal} (n : Option Journal) → dir ≡ parent_of state → Left (Sees dir IsDir) o m
    → OnOk r (CameTo (Goes state asked clock rules ran.plan earlier ran.faults.items) state clock m n) → OnOk r (RanSo false state rules clock asked earlier (Ok ran) o n)
behind_dir state asked clock rules earlier ran dir (Ok x) {o} {m} n e l h = dir_so state asked clock rules earlier ran (subst (λ (x : Path). Left (Sees x IsDir) o m) e l) h
behind_dir state asked clock rules earlier ran dir (Err x) n e l h = tt

lacked : (state : Path) (asked : Asked) (clock : Clock) (rules : Rules) (ts : List Entry) → (i : Inside state clock rules (SomeWork state rules.sets clock asked) ts) → SomeWork state rules.sets clock asked i.between → runs.LacksMemory state asked clock rules ts
lacked state asked clock rules ts i (some_seen s) = runs.in_looks (inside_as state clock rules (SomeWork state rules.sets clock asked) (SomeSeen state rules.sets) ts i s)
lacked state asked clock rules ts i (some_done b) = runs.in_acts (inside_as state clock rules (SomeWork state rules.sets clock asked) (runs.BrokeOff state rules.sets clock asked) ts i b)

stops : (state : Path) (asked : Asked) (clock : Clock) (rules : Rules) (why : RunStop) (ts us : List Entry) → Sees (parent_of state) IsDir ts → RunStopped state asked clock rules why us → StopsSo state asked clock rules why (ts ++ us)
stops state asked clock rules stop.Held ts us s h = subst (Sees (parent_of state) IsDir) (sym (ap (λ xs. ts ++ xs) h ∙ append-nil ts)) s
stops state asked clock rules stop.Memory ts us s h = let i = inside state clock rules (SomeWork state rules.sets clock asked) ts us s h in lacked state asked clock rules (ts ++ us) i i.within

pub stopped_behind : (state : Path) (asked : Asked) (clock : Clock) (rules : Rules) (dir : Path) {T : Type 0} (r : Result T RunStop) {o m : Option Journal} (n : Option Journal) → dir ≡ parent_of state → Left (Sees dir IsDir) o m → IfErr r (λ why. Left (RunStopped state asked clock rules why) m n) → IfErr r (λ why. Left (StopsSo state asked clock rules why) o n)
stopped_behind state asked clock rules dir (Ok x) n e l k = tt
stopped_behind state asked clock rules dir (Err why) n e l k = left_then l k (λ ts us p q. stops state asked clock rules why ts us (subst (λ (x : Path). Sees x IsDir ts) e p) q)

-- the directory wasn't seen as one
other_seen : (look : Option Seen) → IsNoDir look → IsNotDir look
other_seen None h = absurd h
other_seen (Some seen) h = h

no_directory_at : (state x : Path) (P : Option Seen → Type 0) (ts : List Entry) → x ≡ parent_of state → ((look : Option Seen) → P look → IsNotDir look) → Sees x P ts → Sees (parent_of state) IsNotDir ts
no_directory_at state x P ts e f h = subst (λ (y : Path). Sees y IsNotDir ts) e (record { seen = h.seen; is = f h.seen h.is; look = h.look })

module _ (state : Path) (asked : Asked) (clock : Clock) (rules : Rules) (earlier : List Fault) (ran : Ran) (x : Path) where
  dir_told : (own : List Fault) (ts : List Entry) → ran.plan ≡ None → ran.faults.items ≡ earlier ++ own → Halts false state rules clock asked (OfFaults own) ts → Ended state asked clock rules earlier ran None ts
  dir_told own ts none is h = halted (OfFaults own) refl h (none, is)

  at_dir : (P : Option Seen → Type 0) (ts : List Entry) → ran.plan ≡ None → x ≡ parent_of state → ran.faults.items ≡ earlier ++ fault.NoDir x ∷ [] → ((look : Option Seen) → P look → IsNotDir look) → Sees x P ts → Ended state asked clock rules earlier ran None ts
  at_dir P ts none e is f h = dir_told (fault.NoDir (parent_of state) ∷ []) ts none (is ∙ ap (λ (y : Path). earlier ++ fault.NoDir y ∷ []) e) (halt.no_directory refl (no_directory_at state x P ts e f h))

  pub nothing_there : {o n : Option Journal} → ran.plan ≡ None → x ≡ parent_of state → ran.faults.items ≡ earlier ++ fault.NoDir x ∷ [] → Left (DirSeen x false) o n → RanSo false state rules clock asked earlier (Ok ran) o n
  nothing_there none e is l = none_came state asked clock rules earlier ran (left_as l (λ ts h. at_dir IsNothing ts none e is (λ look g. subst IsNotDir (sym g) tt) h))

  pub no_dir : (why : DirStop) {o n : Option Journal} → ran.plan ≡ None → x ≡ parent_of state → ran.faults.items ≡ earlier ++ dir_fault_of why x ∷ [] → Left (DirLookStopped x why) o n → RanSo false state rules clock asked earlier (Ok ran) o n
  no_dir dir.Call none e is l = none_came state asked clock rules earlier ran (left_as l (λ ts h. dir_told (fault.Call call.Look (parent_of state) ∷ []) ts none (is ∙ ap (λ (y : Path). earlier ++ fault.Call call.Look y ∷ []) e) (halt.not_seen refl h)))
  no_dir dir.NotDir none e is l = none_came state asked clock rules earlier ran (left_as l (λ ts h. at_dir IsNoDir ts none e is other_seen h))

-- ---- the whole run

-- where it broke off
module _ (state : Path) (asked : Asked) (clock : Clock) (rules : Rules) (earlier : List Fault) where
  abbrev Stops : RunStop → Option Work → List Entry → Type 0
  Stops why = RunEnds false state rules clock asked earlier (Err why)

  none_left : {why : RunStop} {o n : Option Journal} → Left (Stops why None) o n → RanSo false state rules clock asked earlier (Err why) o n
  none_left l = record { work = None; shows = l; names = λ w r bad. absurd (none-some w bad) }

  broken : (ts : List Entry) → (i : Inside state clock rules (runs.BrokeOff state rules.sets clock asked) ts) → (w : Work) × Stops stop.Memory (Some w) ts
  broken ts i = (
    w,
    came w refl
        (record { seen = record { file = by_dir i.directory t.shown; says = t.says; sets = record { shown = l.shown; words_are = refl; kept_are = refl } }; plan = record { is = refl; small = i.within.small } })
        (record { program = i.within.program; part = i.within.part; no_dirs = refl; no_state = refl })
        (i.entries ∙ ap (λ xs. i.before ++ xs) (ap (λ xs. Starts state clock.now rules ∷ (xs ++ Ends ∷ [])) l.joined ∙ ap (λ xs. Starts state clock.now rules ∷ xs) (append_assoc l.reads (l.looks ++ l.acts) (Ends ∷ []) ∙ ap (λ xs. l.reads ++ xs) (append_assoc l.looks l.acts (Ends ∷ []))))),
  )
    where
      l : runs.Looked state rules.sets i.between
      l = i.within.looked

      t : KnownText state l.remembered l.reads
      t = known_text state l.remembered l.sights l.reads l.known l.read

      w : Work
      w = record {
        saw = record { text = t.text; table = l.remembered.table; stale = l.remembered.stale; words = l.shown.entries.first.sights; kept = l.shown.kept; sets = l.sets; faults = l.of_looks };
        plan = runs.plan_in state rules.sets i.between l clock asked;
        acts = record { marks = i.within.marks; dirs = []; of_logs = i.within.of_acts; of_state = [] };
        dir = i.before;
        reads = l.reads;
        looks = l.looks;
        did = l.acts;
      }

  lacking : {o n : Option Journal} → Left (runs.LacksMemory state asked clock rules) o n → RanSo false state rules clock asked earlier (Err stop.Memory) o n
  lacking not_told = none_left not_told
  lacking (is_told made (runs.at_first none)) = none_left (is_told made (halted OfMemory refl (halt.no_memory refl none) tt))
  lacking (is_told made (runs.in_looks i)) = none_left (is_told made (halted OfMemory refl (halt.short refl i) tt))
  lacking (is_told {es = es} made (runs.in_acts i)) = let b = broken (reverse es) i in record { work = Some b.0; shows = is_told made b.1; names = λ w r that ok. absurd (cc) }

pub none_made : (state : Path) (asked : Asked) (clock : Clock) (rules : Rules) (earlier : List Fault) (o : Option Journal) → RanSo false state rules clock asked earlier (Err stop.Memory) o o
none_made state asked clock rules earlier o = none_left state asked clock rules earlier (left_first (Stops state asked clock rules earlier stop.Memory None) o (halted OfMemory refl (halt.no_memory refl refl) tt))

pub ran_so : (state : Path) (asked : Asked) (clock : Clock) (rules : Rules) (earlier first : List Fault) (r : Result Ran RunStop) {o n : Option Journal} → first ≡ earlier → RanSo false state rules clock asked first r o n → RanSo false state rules clock asked earlier r o n
ran_so state asked clock rules earlier first r {o} {n} e h = subst (λ (fs : List Fault). RanSo false state rules clock asked fs r o n) e h

pub stopped_so : (state : Path) (asked : Asked) (clock : Clock) (rules : Rules) (earlier : List Fault) (why : RunStop) {o n : Option Journal} → Left (StopsSo state asked clock rules why) o n → RanSo false state rules clock asked earlier (Err why) o n
stopped_so state asked clock rules earlier stop.Held l = none_left state asked clock rules earlier (left_as l (λ ts h. halted OfLock refl (halt.held refl refl h) tt))
stopped_so state asked clock rules earlier stop.Memory l = lacking state asked clock rules earlier l
