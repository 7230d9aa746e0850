-- A dry run, put together of its parts.
use Rattle.std.proofs.Common.{Vec, Global, ◌≡◌, ℕ, Bool, true, false, List, [], ◌∷◌, ◌++◌, length, Option, Some, None, Result, Ok, Err, OnOk, OnErr, IfOk, refl, sym, ap, ◌∙◌, subst, append_assoc}
use Rattle.std.specs.Prelude.{nat_le}
use Rattle.std.proofs.lemmas.Bool.{leb-true, leb-false}
use Rattle.std.proofs.lemmas.List.{append-nil}
use Rattle.lr_rules.specs.declared.path.Path.{Path}
use Rattle.lr_rules.specs.declared.clock.Clock.{Clock}
use Rattle.lr_rules.specs.declared.fault.CallKind.TheVariants as call
use Rattle.lr_rules.specs.declared.fault.Fault.{Fault}
use Rattle.lr_rules.specs.declared.fault.Fault.TheVariants as fault
use Rattle.lr_rules.specs.declared.fault.StateKind.TheVariants as kind
use Rattle.lr_rules.specs.declared.memory.Memory.{Memory}
use Rattle.lr_rules.specs.declared.rule.Rule.{Rule}
use Rattle.lr_rules.specs.declared.rules.Rules.{Rules}
use Rattle.lr_rules.specs.Path.{parent_of}
use Rattle.lr_host.specs.declared.entry.Entry.{Entry}
use Rattle.lr_host.specs.declared.journal.Journal.{Journal}
use Rattle.lr_host.specs.Counted.{AddsFaults, Went, WentBy}
use Rattle.lr_host.specs.Looks.{Sees, IsDir, IsNoDir, IsNothing}
use Rattle.lr_host.specs.Told.{Counts, Left, not_told, is_told}
use Rattle.lr_host.proofs.Counts.{AreFree, adds_on, adds_free}
use Rattle.lr_host.proofs.Left.{left_as, left_first, left_then}
use Rattle.lr_family.specs.declared.directory.DirStop.{DirStop}
use Rattle.lr_family.specs.declared.directory.DirStop.TheVariants as dir
use Rattle.lr_family.specs.Directory.{DirSeen, DirLookStopped, dir_fault_of}
use Rattle.lr_state.specs.Table.{StateEntry as Row}
use Rattle.lr_looks.specs.Found.{paths_of}
use Rattle.lr_looks.specs.Shown.{LooksAtAll, ShowsSomeLooks}
use Rattle.lr_plan.specs.Asked.{Asked}
use Rattle.lr_plan.specs.declared.looks.Looks.{Looks}
use Rattle.lr_plan.specs.declared.looks.SetLooks.{SetLooks}
use Rattle.lr_plan.specs.declared.plan.Plan.{Plan}
use Rattle.lr_plan.specs.Planned.{decision, plan_of}
use Rattle.lr_state.specs.declared.remembered.Remembered.{Remembered}
use Rattle.lr_state.specs.Known.{ReadsState, TextSaysOnly}
use Rattle.lr_looks.specs.Reserved.{reserved_by}
use Rattle.lr_run.specs.declared.answer.Ran.{Ran}
use Rattle.lr_run.specs.declared.answer.RunStop.{RunStop}
use Rattle.lr_run.specs.declared.answer.RunStop.TheVariants as stop
use Rattle.lr_run.specs.InternalDry.{PlanFollows}
use Rattle.lr_run.specs.Halt.{OfFaults, OfMemory, Halts, not_seen, no_directory, unknown, too_big, short, short_anew, SomeSeen, of_state, of_looks}
use Rattle.lr_run.specs.Internal.{plan_if, faults_if}
use Rattle.lr_run.specs.Ran.{halted, came, RanSo}
use Rattle.lr_run.specs.Paths.{measured_of}
use Rattle.lr_run.specs.Saw.{Saw, ShowsStateFile, by_dir, by_none, ShowsSaw}
use Rattle.lr_run.specs.InternalTrying.{PlansOn, PlansByOn, not_known, by_text, TriesOn}
use Rattle.lr_run.specs.Work.{Work, no_acts}
use Rattle.lr_run.proofs.Knowing.{known_text}
use Rattle.lr_run.proofs.Works.{plan_free, none_fell, some_of_whole, none_sights, none_shown}

-- ---- the plan

-- what is told of a plan that was measured
pub measured : (b : Bool) (rules : List Rule) (sets : List SetLooks) (kept : List Path) (table : List Row) (clock : Clock) (asked : Asked) → b ≡ nat_le (length (measured_of (plan_of rules sets table clock asked) table kept clock.now.civil)) 67_108_864
    → PlanFollows rules sets kept table clock asked (plan_if b (plan_of rules sets table clock asked)) (faults_if b (plan_of rules sets table clock asked))
measured true rules sets kept table clock asked e = (leb-true (length (measured_of (plan_of rules sets table clock asked) table kept clock.now.civil)) 67_108_864 (sym e), refl, refl)
measured false rules sets kept table clock asked e = (leb-false (length (measured_of (plan_of rules sets table clock asked) table kept clock.now.civil)) 67_108_864 (sym e), refl)

-- so it is for the plan that was told
pub follows : {E : Type 0} (r : Result (Option Plan) E) (b : Bool) (plan : Plan) (rules : List Rule) (sets : List SetLooks) (kept logs : List Path) (table : List Row) (clock : Clock) (asked : Asked) (x y : List Fault) → plan ≡ plan_of rules sets table clock asked → kept ≡ logs
    → b ≡ nat_le (length (measured_of plan table kept clock.now.civil)) 67_108_864 → IfOk r (λ told. told ≡ plan_if b plan) → OnOk r (y ≡ x ++ faults_if b plan)
    → IfOk r (λ told. (own : List Fault) × (y ≡ x ++ own) × PlanFollows rules sets logs table clock asked told own)
follows (Err e) b plan rules sets kept logs table clock asked x y is k m h g = tt
follows (Ok told) b plan rules sets kept logs table clock asked x y is k m h g = (
  faults_if b plan,
  g,
  subst (λ (p : Option Plan). PlanFollows rules sets logs table clock asked p (faults_if b plan)) (sym h)
      (subst (λ (p : Plan). PlanFollows rules sets logs table clock asked (plan_if b p) (faults_if b p)) (sym is)
      (measured b rules sets logs table clock asked (m ∙ (ap (λ (p : Plan). nat_le (length (measured_of p table kept clock.now.civil)) 67_108_864) is ∙ ap (λ (ks : List Path). nat_le (length (measured_of (plan_of rules sets table clock asked) table ks clock.now.civil)) 67_108_864) k)))),
)

-- its faults tell of no call and of no program
follows_free : (rules : List Rule) (sets : List SetLooks) (kept : List Path) (table : List Row) (clock : Clock) (asked : Asked) (told : Option Plan) (own x y : List Fault) (k : Counts) → PlanFollows rules sets kept table clock asked told own → y ≡ x ++ own → AddsFaults x y k k
follows_free rules sets kept table clock asked (Some plan) own x y k f e = adds_free x y own k k e
    (subst (λ fs. AreFree fs) (sym (f.2 ∙ ap (λ (p : Plan). p.faults) f.1)) (plan_free clock (decision table clock.now asked.force) rules sets)) (none_fell k)
follows_free rules sets kept table clock asked None own x y k f e = adds_free x y own k k e
    (subst (λ fs. AreFree fs) (sym f.1) (record { calls = refl; scripts = refl; none_around = ((λ h. h), tt) })) (none_fell k)

-- ---- the looks

pub planned : {E : Type 0} (r : Result (Option Plan) E) (state : Path) (rules : List Rule) (looks : Looks) (table : List Row) (clock : Clock) (asked : Asked) (x y z : List Fault) {o n : Option Journal} → Left (LooksAtAll (reserved_by state) rules looks x y) o n
    → IfOk r (λ told. (own : List Fault) × (z ≡ y ++ own) × PlanFollows rules looks.sets looks.kept table clock asked told own)
    → IfOk r (λ told. Left (PlansOn state rules table clock asked told x z) o n)
planned (Err e) state rules looks table clock asked x y z l h = tt
planned (Ok told) state rules looks table clock asked x y z l h = left_as l (λ ts g.
    let saw : Saw = record { text = []; table = table; stale = false; words = g.shown.entries.first.sights; kept = g.shown.kept; sets = looks.sets; faults = g.own } in record {
      saw = saw;
      table_is = refl;
      sets = record { shown = g.shown; words_are = refl; kept_are = refl };
      own = h.0;
      faults_are = h.1 ∙ (ap (λ fs. fs ++ h.0) g.faults_are ∙ append_assoc x g.own h.0);
      follows = subst (λ (ks : List Path). PlanFollows rules looks.sets ks table clock asked told h.0) g.kept_are h.2;
    })

pub planned_went : {E : Type 0} (r : Result (Option Plan) E) (rules : List Rule) (sets : List SetLooks) (kept : List Path) (table : List Row) (clock : Clock) (asked : Asked) (x y z : List Fault) (k l : Counts) → Went x y k l
    → IfOk r (λ told. (own : List Fault) × (z ≡ y ++ own) × PlanFollows rules sets kept table clock asked told own) → WentBy r x z k l
planned_went (Err e) rules sets kept table clock asked x y z k l w h = w.onward
planned_went (Ok told) rules sets kept table clock asked x y z k l w h = record { adds = adds_on x y z k l l w.adds (follows_free rules sets kept table clock asked told h.0 y z l h.2 h.1); onward = w.onward }

-- all of them
pub all_looked : {T E : Type 0} (r : Result T E) (state : Path) (rules : List Rule) (looks : Looks) (a b : List Fault) {o n : Option Journal} → Left (LooksAtAll (reserved_by state) rules looks a b) o n → OnErr r (Left (ShowsSomeLooks (reserved_by state) rules) o n)
all_looked (Ok x) state rules looks a b l = tt
all_looked (Err x) state rules looks a b l = left_as l (λ ts g. some_of_whole (reserved_by state) rules looks.sets g.own ts g.shown)

-- ---- behind the reading

pub planned_by : {E : Type 0} (r : Result (Option Plan) E) (state : Path) (rules : List Rule) (remembered : Remembered) (clock : Clock) (asked : Asked) (a b : List Fault) {o m : Option Journal} (n : Option Journal) → Left (ReadsState state 65_536 (Ok (Ok remembered))) o m
    → IfOk r (λ told. Left (PlansOn state rules remembered.table clock asked told a b) m n) → IfOk r (λ told. Left (PlansByOn state rules clock asked told a b) o n)
planned_by (Err e) state rules remembered clock asked a b n l h = tt
planned_by (Ok told) state rules remembered clock asked a b n l h = left_then l h (λ ts us p q. let t = known_text state remembered p.sights ts p.known p.shown in by_text t.text remembered t.says (record { front = ts; back = us; joined = refl; first = t.shown; second = q }))

pub not_planned : (state : Path) (rules : List Rule) (clock : Clock) (asked : Asked) (f : Fault) (a b : List Fault) {o n : Option Journal} → Left (ReadsState state 65_536 (Ok (Err f))) o n → b ≡ a ++ f ∷ [] → Left (PlansByOn state rules clock asked None a b) o n
not_planned state rules clock asked f a b l e = left_as l (λ ts p. not_known f refl e (record { sights = p.sights; known = p.known; shown = p.shown }))

pub some_planned : {T E : Type 0} (r : Result T E) (state : Path) (rules : List Rule) (remembered : Remembered) {o m : Option Journal} (n : Option Journal) → Left (ReadsState state 65_536 (Ok (Ok remembered))) o m → OnErr r (Left (ShowsSomeLooks (reserved_by state) rules) m n) → OnErr r (Left (SomeSeen state rules) o n)
some_planned (Ok x) state rules remembered n l h = tt
some_planned (Err x) state rules remembered n l h = left_then l h (λ ts us p q. of_looks p.sights remembered p.known (record { front = ts; back = us; joined = refl; first = p.shown; second = q }))

pub none_read : {T E : Type 0} (r : Result T E) (state : Path) (rules : List Rule) (o : Option Journal) → OnErr r (Left (SomeSeen state rules) o o)
none_read (Ok x) state rules o = tt
none_read (Err x) state rules o = left_first (SomeSeen state rules) o (of_state none_sights (none_shown state))

pub some_read : {T E : Type 0} (r : Result T E) (state : Path) (rules : List Rule) (m : Memory) {o n : Option Journal} → Left (ReadsState state 65_536 (Err m)) o n → OnErr r (Left (SomeSeen state rules) o n)
some_read (Ok x) state rules m l = tt
some_read (Err x) state rules m l = left_as l (λ ts p. of_state p.sights p.shown)

-- ---- behind the look at the state's directory

-- an empty text says an empty table, and nothing else
nothing_said : TextSaysOnly [] (Ok [])
nothing_said = (refl, λ other said. said)

-- what follows from what was seen, behind the text of the state
planned_so : (state : Path) (rules : Rules) (clock : Clock) (asked : Asked) (told : Option Plan) (a : List Fault) (later : Vec Fault Global) (text : List ℕ) (table : List Row) (stale : Bool) (dir reads looks : List Entry) → ShowsStateFile true state text stale dir reads → TextSaysOnly text (Ok table)
    → PlansOn state rules.sets table clock asked told a later.items looks → TriesOn state rules clock asked a (Ok (record { plan = told; faults = later })) (dir ++ (reads ++ looks))
planned_so state rules clock asked told a later text table stale dir reads looks file says p = go told p.follows
  where
    saw : Saw
    saw = record { text = text; table = p.saw.table; stale = stale; words = p.saw.words; kept = p.saw.kept; sets = p.saw.sets; faults = p.saw.faults }

    seen : ShowsSaw true state rules.sets saw dir reads looks
    seen = record {
      file = file;
      says = subst (λ (rows : List Row). TextSaysOnly text (Ok rows)) (sym p.table_is) says;
      sets = record { shown = p.sets.shown; words_are = p.sets.words_are; kept_are = p.sets.kept_are };
    }

    go : (told : Option Plan) → PlanFollows rules.sets p.saw.sets (paths_of p.saw.kept) p.saw.table clock asked told p.own → TriesOn state rules clock asked a (Ok (record { plan = told; faults = later })) (dir ++ (reads ++ looks))
    go (Some plan) f =
        let w : Work = record { saw = saw; plan = plan; acts = no_acts; dir = dir; reads = reads; looks = looks; did = [] } in (
          Some w,
          came w refl (record { seen = seen; plan = record { is = f.1; small = f.0 } })
              (record { plan = refl; faults = p.faults_are ∙ ap (λ (fs : List Fault). a ++ (p.saw.faults ++ fs)) (f.2 ∙ sym (append-nil plan.faults)) }, record { acts = refl; did = refl }) refl,
        )
    go None f = (
      None,
      halted (OfFaults (p.saw.faults ++ fault.State 0 kind.TooBig ∷ [])) refl (too_big saw refl (record { dir = dir; reads = reads; looks = looks; entries = refl; seen = seen; big = f.0 }))
          (refl, p.faults_are ∙ ap (λ (fs : List Fault). a ++ (p.saw.faults ++ fs)) f.1),
    )

tried_so : (state : Path) (rules : Rules) (clock : Clock) (asked : Asked) (told : Option Plan) (a : List Fault) (later : Vec Fault Global) (ts us : List Entry) → Sees (parent_of state) IsDir ts → PlansByOn state rules.sets clock asked told a later.items us → TriesOn state rules clock asked a (Ok (record { plan = told; faults = later })) (ts ++ us)
tried_so state rules clock asked told a later ts us s (not_known f none is lacks) = (None, halted (OfFaults (f ∷ [])) refl (unknown f refl (record { front = ts; back = us; joined = refl; first = s; second = lacks })) (none, is))
tried_so state rules clock asked told a later ts us s (by_text text remembered says t) = subst (λ (vs : List Entry). TriesOn state rules clock asked a (Ok (record { plan = told; faults = later })) (ts ++ vs)) (sym t.joined)
    (planned_so state rules clock asked told a later text remembered.table remembered.stale ts t.front t.back (by_dir s t.first) says t.second)

pub tried_by : {E : Type 0} (r : Result (Option Plan) E) (state : Path) (rules : Rules) (clock : Clock) (asked : Asked) (x : Path) (a : List Fault) (later : Vec Fault Global) {o m : Option Journal} (n : Option Journal) → x ≡ parent_of state → Left (Sees x IsDir) o m
    → IfOk r (λ told. Left (PlansByOn state rules.sets clock asked told a later.items) m n) → IfOk r (λ told. Left (TriesOn state rules clock asked a (Ok (record { plan = told; faults = later }))) o n)
tried_by (Err e) state rules clock asked x a later n is l h = tt
tried_by (Ok told) state rules clock asked x a later n is l h = left_then l h (λ ts us p q. tried_so state rules clock asked told a later ts us (subst (λ (y : Path). Sees y IsDir ts) is p) q)

pub tried_by_none : {E : Type 0} (r : Result (Option Plan) E) (state : Path) (rules : Rules) (table : List Row) (clock : Clock) (asked : Asked) (x : Path) (a : List Fault) (later : Vec Fault Global) {o m : Option Journal} (n : Option Journal) → x ≡ parent_of state → table ≡ [] → Left (DirSeen x false) o m
    → IfOk r (λ told. Left (PlansOn state rules.sets table clock asked told a later.items) m n) → IfOk r (λ told. Left (TriesOn state rules clock asked a (Ok (record { plan = told; faults = later }))) o n)
tried_by_none (Err e) state rules table clock asked x a later n is t l h = tt
tried_by_none (Ok told) state rules table clock asked x a later n is t l h = left_then l h (λ ts us p q. planned_so state rules clock asked told a later [] table false ts [] us
    (by_none refl (subst (λ (y : Path). Sees y IsNothing ts) is p) refl refl) (subst (λ (rows : List Row). TextSaysOnly [] (Ok rows)) (sym t) nothing_said) q)

-- it wasn't seen
pub not_tried : (state : Path) (rules : Rules) (clock : Clock) (asked : Asked) (why : DirStop) (x : Path) (a : List Fault) (later : Vec Fault Global) {o n : Option Journal} → x ≡ parent_of state → later.items ≡ a ++ dir_fault_of why x ∷ [] → Left (DirLookStopped x why) o n
    → Left (TriesOn state rules clock asked a (Ok (record { plan = None; faults = later }))) o n
not_tried state rules clock asked dir.NotDir x a later e is l = left_as l (λ ts h. (
  None,
  halted (OfFaults (fault.NoDir (parent_of state) ∷ [])) refl
      (no_directory refl (let s : Sees (parent_of state) IsNoDir ts = subst (λ (y : Path). Sees y IsNoDir ts) e h in record { seen = s.seen; is = s.is; look = s.look })) (refl, is ∙ ap (λ (y : Path). a ++ fault.NoDir y ∷ []) e),
))
not_tried state rules clock asked dir.Call x a later e is l = left_as l (λ ts h. (None, halted (OfFaults (fault.Call call.Look (parent_of state) ∷ [])) refl (not_seen refl h) (refl, is ∙ ap (λ (y : Path). a ++ fault.Call call.Look y ∷ []) e)))

pub lacks_state : {T E : Type 0} (r : Result T E) (state : Path) (rules : Rules) (clock : Clock) (asked : Asked) (x : Path) {o m : Option Journal} (n : Option Journal) → x ≡ parent_of state → Left (Sees x IsDir) o m → OnErr r (Left (SomeSeen state rules.sets) m n) → OnErr r (Left (Halts true state rules clock asked OfMemory) o n)
lacks_state (Ok y) state rules clock asked x n is l h = tt
lacks_state (Err y) state rules clock asked x n is l h = left_then l h (λ ts us p q. short refl (record { front = ts; back = us; joined = refl; first = subst (λ (y : Path). Sees y IsDir ts) is p; second = q }))

pub lacks_looks : {T E : Type 0} (r : Result T E) (state : Path) (rules : Rules) (clock : Clock) (asked : Asked) (x : Path) {o m : Option Journal} (n : Option Journal) → x ≡ parent_of state → Left (DirSeen x false) o m → OnErr r (Left (ShowsSomeLooks (reserved_by state) rules.sets) m n)
    → OnErr r (Left (Halts true state rules clock asked OfMemory) o n)
lacks_looks (Ok y) state rules clock asked x n is l h = tt
lacks_looks (Err y) state rules clock asked x n is l h = left_then l h (λ ts us p q. short_anew refl refl (record { front = ts; back = us; joined = refl; first = subst (λ (y : Path). Sees y IsNothing ts) is p; second = q }))

-- ---- the answer

pub tells_so : (state : Path) (asked : Asked) (clock : Clock) (rules : Rules) (earlier first : List Fault) (r : Result Ran RunStop) {o n : Option Journal} → first ≡ earlier → Left (TriesOn state rules clock asked first r) o n → RanSo true state rules clock asked earlier r o n
tells_so state asked clock rules earlier first r {o} {n} e l = go (subst (λ (fs : List Fault). Left (TriesOn state rules clock asked fs r) o n) e l)
  where
    go : {o n : Option Journal} → Left (TriesOn state rules clock asked earlier r) o n → RanSo true state rules clock asked earlier r o n
    go not_told = record { work = None; shows = not_told; names = λ w ran is done acts. absurd (cc) }
    go (is_told m h) = record { work = h.0; shows = is_told m h.1; names = λ w ran is done acts. absurd (cc) }

-- there was no memory
pub lacks_memory : (state : Path) (asked : Asked) (clock : Clock) (rules : Rules) (earlier : List Fault) {o n : Option Journal} → Left (Halts true state rules clock asked OfMemory) o n → RanSo true state rules clock asked earlier (Err stop.Memory) o n
lacks_memory state asked clock rules earlier l = tells_so state asked clock rules earlier earlier (Err stop.Memory) refl (left_as l (λ ts h. (None, halted OfMemory refl h tt)))
