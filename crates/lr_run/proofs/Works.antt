-- The work of a run, put together of its parts.
use Rattle.std.proofs.Common.{◌≡◌, ◌≤◌, ◌<◌, List, [], ◌∷◌, ◌++◌, length, take, map, reverse, Option, Some, None, Result, Ok, Err, OnErr, refl, sym, ap, ◌∙◌, subst, arith, rules}
use Rattle.std.specs.Prelude.{OnOk}
use Rattle.std.specs.Result.{IsErr}
use Rattle.std.proofs.lemmas.Result.{IfOk-from_err}
use Rattle.std.proofs.lemmas.List.{append-nil}
use Rattle.std.proofs.Math.Seq.{take-length}
use Rattle.lr_rules.specs.declared.path.Path.{Path}
use Rattle.lr_rules.specs.declared.clock.Clock.{Clock}
use Rattle.lr_rules.specs.declared.fault.CallKind.{CallKind}
use Rattle.lr_rules.specs.declared.fault.Fault.{Fault}
use Rattle.lr_rules.specs.declared.fault.Fault.TheVariants as fault
use Rattle.lr_rules.specs.declared.memory.Memory.{Memory}
use Rattle.lr_rules.specs.declared.rule.Rule.{Rule}
use Rattle.lr_rules.specs.declared.rules.Rules.{Rules}
use Rattle.lr_host.specs.declared.entry.Entry.{Entry}
use Rattle.lr_host.specs.declared.journal.Journal.{Journal}
use Rattle.lr_host.specs.Opening.{IsJournal}
use Rattle.lr_host.specs.Told.{Counts, NoneFell, Rose, Left, not_told, is_told, WhereTold}
use Rattle.lr_host.specs.Steps.{CanAll}
use Rattle.lr_host.proofs.Left.{left_as, left_first, left_then}
use Rattle.lr_state.specs.Table.{StateEntry as Row}
use Rattle.lr_due.specs.declared.answer.Due.{Due}
use Rattle.lr_due.specs.declared.answer.Due.TheVariants as due
use Rattle.lr_plan.specs.Asked.{Asked}
use Rattle.lr_plan.specs.declared.looks.LogLook.{LogLook}
use Rattle.lr_plan.specs.declared.looks.Looks.{Looks}
use Rattle.lr_plan.specs.declared.looks.SetLooks.{SetLooks}
use Rattle.lr_plan.specs.declared.plan.Plan.{Plan}
use Rattle.lr_plan.specs.declared.step.SetSteps.{SetSteps}
use Rattle.lr_plan.specs.declared.step.Step.{Step}
use Rattle.lr_host.specs.Counted.{AddsFaults}
use Rattle.lr_plan.specs.Cut.{SetsCut}
use Rattle.lr_plan.specs.Asking.{asks, CanMake, CanEach, CanSet, CanSets}
use Rattle.lr_plan.specs.Planned.{decision, stand_for, due_faults, where_due, log_faults, all_plans, all_faults, plan_of}
use Rattle.lr_plan.specs.Steps.{steps_of_set, steps_of_plan}
use Rattle.lr_host.proofs.Counts.{AreFree, free_none, free_on, adds_on, adds_free, adds_call}
use Rattle.lr_acts.specs.declared.progress.Progress.{Progress}
use Rattle.lr_acts.specs.Making.{HasProgram, all_of_sets}
use Rattle.lr_looks.specs.Families.{ShowFamilies, LooksAtFamilies, LookedAtSomeFamilies}
use Rattle.lr_looks.specs.Found.{FoundLog}
use Rattle.lr_looks.specs.Shown.{ShowsLooks, LooksAtAll, ShowsSomeLooks, at_families}
use Rattle.lr_looks.proofs.Behind.{as_many_sights}
use Rattle.lr_state.specs.declared.remembered.Remembered.{Remembered}
use Rattle.lr_state.specs.Known.{ReadsState, IsStateFault}
use Rattle.lr_state.specs.ReadPieces.{Broken}
use Rattle.lr_state.specs.Sights.{Failed, StateSights, ShowsState}
use Rattle.lr_state.specs.After.{after}
use Rattle.lr_state.specs.Measured.{measured_text}
use Rattle.lr_laws_acts.proofs.Seen.{seen_fit}
use Rattle.lr_laws_acts.proofs.Sets.{can_sets}
use Rattle.lr_looks.specs.Reserved.{reserved_by}
use Rattle.lr_laws_looks.specs.Targets.{groups_of, all_targets}
use Rattle.lr_laws_looks.proofs.Apart.{targets_dont_meet}
use Rattle.lr_rules.specs.Names.{aside_path}
use Rattle.lr_laws_looks.proofs.Hindrances.{each_hindrance, faults_so}
use Rattle.lr_laws_looks.proofs.Quiet.{whole_quiet}
use Rattle.lr_laws_looks.proofs.Ready.{plans_have_logs, plans_read_own}
use Rattle.lr_laws_looks.proofs.Seen.{targets_seen, targets_have_names, targets_have_paths}
use Rattle.lr_run.specs.declared.ready.Ready.{Ready}
use Rattle.lr_run.specs.Internal.{ReadyFor, MayBeReady, ActsAndWrites, SomeActs, plan_for, SomeWork, some_seen, some_done, EndsBehindLooks, EndsBehindState}
use Rattle.lr_run.specs.Halt as halt
use Rattle.lr_run.specs.Paths.{logs_in}
use Rattle.lr_run.specs.Work.{act_faults}
use Rattle.lr_run.proofs.Simple.{AreSimple, plan_simple}

-- ---- the faults of a plan

no_dir_free : (dir : Path) → AreFree (fault.NoDir dir ∷ [])
no_dir_free dir = record { calls = refl; scripts = refl; none_around = ((λ h. h), tt) }

high_free : (path : Path) → AreFree (fault.TooHigh path ∷ [])
high_free path = record { calls = refl; scripts = refl; none_around = ((λ h. h), tt) }

taken_free : (path : Path) → AreFree (fault.Taken path ∷ [])
taken_free path = record { calls = refl; scripts = refl; none_around = ((λ h. h), tt) }

not_file_free : (path : Path) → AreFree (fault.NotFile path ∷ [])
not_file_free path = record { calls = refl; scripts = refl; none_around = ((λ h. h), tt) }

unfinished_free : (path : Path) → AreFree (fault.Unfinished path ∷ [])
unfinished_free path = record { calls = refl; scripts = refl; none_around = ((λ h. h), tt) }

look_free : (clock : Clock) (rule : Rule) (look : LogLook) → AreFree (due_faults clock rule look)
look_free clock rule look = faults_so AreFree clock rule look free_none (λ seen is. not_file_free (aside_path look.path)) (unfinished_free look.path)
    (each_hindrance AreFree free_none high_free taken_free look.family.naming rule.count clock (stand_for rule look) (λ none. no_dir_free look.family.naming.dir))

due_free : (d : Due) (fs : List Fault) → AreFree fs → AreFree (where_due d fs)
due_free (due.Yes why) fs h = h
due_free (due.No why) fs h = free_none

logs_free : (clock : Clock) (rule : Rule) (decide : LogLook → Due) (looks : List LogLook) → AreFree (log_faults clock rule decide looks)
logs_free clock rule decide [] = free_none
logs_free clock rule decide (l ∷ ls) = free_on (where_due (decide l) (due_faults clock rule l)) (log_faults clock rule decide ls) (due_free (decide l) (due_faults clock rule l) (look_free clock rule l)) (logs_free clock rule decide ls)

pub plan_free : (clock : Clock) (decide : Rule → LogLook → Due) (rules : List Rule) (sets : List SetLooks) → AreFree (all_faults clock decide rules sets)
plan_free clock decide [] [] = free_none
plan_free clock decide [] (s ∷ ss) = free_none
plan_free clock decide (r ∷ rs) [] = free_none
plan_free clock decide (r ∷ rs) (s ∷ ss) = free_on (log_faults clock r (decide r) s.logs) (all_faults clock decide rs ss) (logs_free clock r (decide r) s.logs) (plan_free clock decide rs ss)

pub none_fell : (k : Counts) → NoneFell k k
none_fell k = (omega arith, omega arith, omega arith)

-- ---- whole looks are first parts too

pub some_of_whole : (reserved : List Path) (rules : List Rule) (sets : List SetLooks) (faults : List Fault) (ts : List Entry) → ShowsLooks reserved rules sets faults ts → ShowsSomeLooks reserved rules ts
some_of_whole reserved rules sets faults ts h = at_families h.found h.of_words h.kept h.of_kept h.keeps (record { front = h.entries.front; back = h.entries.back; joined = h.entries.joined; first = h.entries.first; second = some h.entries.back h.entries.second })
  where
    some : (us : List Entry) → LooksAtFamilies h.kept h.of_kept faults h.looked us → LookedAtSomeFamilies [] h.kept us
    some us l = let many = as_many_sights [] l.listings h.kept l.families.sights us l.families.shown in record {
      sights = l.families.sights;
      few = omega (arith, many);
      after = l.listings;
      shown = subst (λ (fs : List FoundLog). ShowFamilies [] fs l.listings l.families.sights us) (sym (ap (λ n. take n h.kept) many ∙ take-length h.kept)) l.families.shown;
    }

-- ---- the steps fit

can_none : (es : List Entry) → CanAll None es
can_none es = record { can = tt }

pub make_at : (steps : List Step) {P : List Entry → Type 0} {now : Option Journal} → CanMake None steps → Left P None now → CanMake now steps
make_at steps c not_told = c

pub make_none : (steps : List Step) → CanMake None steps
make_none [] = tt
make_none (s ∷ ss) = (can_none (asks s), λ now l. make_at ss (make_none ss) l)

each_at : (each : List (List Step)) {P : List Entry → Type 0} {now : Option Journal} → CanEach None each → Left P None now → CanEach now each
each_at each c not_told = c

each_none : (each : List (List Step)) → CanEach None each
each_none [] = tt
each_none (s ∷ ss) = (make_none s, λ now l. each_at ss (each_none ss) l.2)

last_none : (last : List Step) {P Q : List Entry → Type 0} {now later : Option Journal} → Left P None now → Left Q now later → CanMake later last
last_none last not_told not_told = make_none last

set_none : (set : SetSteps) → CanSet None set
set_none set = record { first = make_none set.first; each = λ now l. each_at set.each (each_none set.each) l.2; last = λ now later l k. last_none set.last l.2 k.2 }

sets_at : (sets : List SetSteps) {P : List Entry → Type 0} {now : Option Journal} → CanSets None sets → Left P None now → CanSets now sets
sets_at sets c not_told = c

sets_none : (sets : List SetSteps) → CanSets None sets
sets_none [] = tt
sets_none (s ∷ ss) = (set_none s, λ now l. sets_at ss (sets_none ss) l.2)

pub fits_behind : (reserved : List Path) (rules : Rules) (looks : Looks) (a b : List Fault) (clock : Clock) (mailer : Path) (decide : Rule → LogLook → Due) {o n : Option Journal} → WhereTold o IsJournal → Left (LooksAtAll reserved rules.sets looks a b) o n → CanSets n (map steps_of_set (all_plans clock mailer decide rules.sets looks.sets))
fits_behind reserved rules looks a b clock mailer decide disk not_told = sets_none (map steps_of_set (all_plans clock mailer decide rules.sets looks.sets))
fits_behind reserved rules looks a b clock mailer decide disk (is_told {j = j} {k = k} {es = es} m h) =
    can_sets (Some k) (groups_of clock decide rules.sets looks.sets) (all_plans clock mailer decide rules.sets looks.sets) (plans_have_logs rules.sets looks.sets h.own (reverse es) clock mailer decide h.shown) (plans_read_own rules.sets looks.sets clock mailer decide)
    (seen_fit rules clock (all_targets clock decide rules.sets looks.sets) (Some j) (Some k) (targets_have_names rules looks.sets h.own (reverse es) clock decide h.shown)
    (targets_have_paths rules.sets looks.sets h.own (reverse es) clock decide h.shown) disk
    (is_told m (whole_quiet rules.sets looks.sets h.own (reverse es) h.shown, targets_seen rules looks.sets h.own (reverse es) clock decide h.shown)))
    (targets_dont_meet rules.sets looks.sets h.own (reverse es) clock decide h.shown)

-- ---- what is ready can be done

pub steps_simple : (rules : List Rule) (sets : List SetLooks) (table : List Row) (clock : Clock) (asked : Asked) → AreSimple (all_of_sets (steps_of_plan (plan_of rules sets table clock asked)))
steps_simple rules sets table clock asked = plan_simple clock asked.mailer (decision table clock.now asked.force) rules sets

-- the steps that are ready are those of the plan
pub ready_fit : (reserved : List Path) (rules : Rules) (looks : Looks) (state : Path) (remembered : Remembered) (clock : Clock) (asked : Asked) (ready : Ready) (x y : Progress) (a b : List Fault) {o n : Option Journal} → WhereTold o IsJournal
    → ReadyFor state clock.now remembered looks.kept (plan_for rules looks remembered clock asked) ready x y → Left (LooksAtAll reserved rules.sets looks a b) o n → CanSets n ready.steps
ready_fit reserved rules looks state remembered clock asked ready x y a b {n = n} disk r l = subst (CanSets n) (sym r.is.steps) (fits_behind reserved rules looks a b clock asked.mailer (decision remembered.table clock.now asked.force) disk l)

-- the text was small enough, and all was taken
pub ready_of : (state : Path) (clock : Clock) (remembered : Remembered) (kept logs : List Path) (plan for : Plan) (o : Option Ready) (ready : Ready) (x y : Progress) → kept ≡ logs → plan ≡ for → o ≡ Some ready → MayBeReady state clock.now remembered kept plan o x y
    → ReadyFor state clock.now remembered logs for ready x y
ready_of state clock remembered kept logs plan for o ready x y k e is h = subst (λ (ls : List Path). ReadyFor state clock.now remembered ls for ready x y) k (subst (λ (p : Plan). ReadyFor state clock.now remembered kept p ready x y) e (subst (λ (m : Option Ready). MayBeReady state clock.now remembered kept plan m x y) is h))

-- it wasn't
pub not_ready : (state : Path) (clock : Clock) (remembered : Remembered) (kept logs : List Path) (plan for : Plan) (o : Option Ready) (x y : Progress) → kept ≡ logs → plan ≡ for → o ≡ None → MayBeReady state clock.now remembered kept plan o x y
    → (67_108_864 < length (measured_text (logs_in for) clock.now.civil (after remembered.table [] logs clock.now.civil))) × (y ≡ x)
not_ready state clock remembered kept logs plan for o x y k e is h = subst (λ (ls : List Path). MayBeReady state clock.now remembered ls for None x y) k (subst (λ (p : Plan). MayBeReady state clock.now remembered kept p None x y) e (subst (λ (m : Option Ready). MayBeReady state clock.now remembered kept plan m x y) is h))

-- ---- the counts

pub carried_counted : {T : Type 0} (r : Result T Memory) (state : Path) (rules : Rules) (looks : Looks) (remembered : Remembered) (clock : Clock) (asked : Asked) (ready : Ready) (x y z : Progress) (m n : Option Journal) (k l : Counts)
    → ReadyFor state clock.now remembered looks.kept (plan_for rules looks remembered clock asked) ready x y → OnOk r (ActsAndWrites ready clock.now.civil y z m n k l) → OnOk r (AddsFaults x.faults.items z.faults.items k l)
carried_counted (Ok u) state rules looks remembered clock asked ready x y z m n k l r h =
    adds_on x.faults.items y.faults.items z.faults.items k k l (adds_free x.faults.items y.faults.items (plan_for rules looks remembered clock asked).faults k k r.is.faults (plan_free clock (decision remembered.table clock.now asked.force) rules.sets looks.sets) (none_fell k)) (record { added = act_faults h.acts; after_is = h.faults_are; are_counted = h.are_counted })
carried_counted (Err u) state rules looks remembered clock asked ready x y z m n k l r h = tt

-- ---- the reading

abbrev pub none_sights : StateSights
none_sights = record { state = Failed; part = Failed; reading = Broken [] }

pub none_shown : (state : Path) → ShowsState state 65_536 none_sights []
none_shown state = record { reading = (tt, omega arith); entries = refl }

-- the counts tell of the fault by which nothing is known
pub unknown_counted : (state : Path) (f : Fault) (a b : List Fault) (k l : Counts) → b ≡ a ++ f ∷ [] → IsStateFault state f → ((kind : CallKind) (path : Path) → f ≡ fault.Call kind path → Rose k.faults l.faults) → NoneFell k l → AddsFaults a b k l
unknown_counted state (fault.Call kind path) a b k l e i r le = adds_call a b kind path k l e (r kind path refl) le
unknown_counted state (fault.NotFile path) a b k l e i r le = adds_free a b (fault.NotFile path ∷ []) k l e (record { calls = refl; scripts = refl; none_around = ((λ h. h), tt) }) le
unknown_counted state (fault.State line why) a b k l e i r le = adds_free a b (fault.State line why ∷ []) k l e (record { calls = refl; scripts = refl; none_around = ((λ h. h), tt) }) le
unknown_counted state _ a b k l e i r le = absurd i

-- nothing was read
pub reads_none : (state : Path) (answer : Result (Result Remembered Fault) Memory) → IsErr answer → ReadsState state 65_536 answer []
reads_none state answer e = record { sights = none_sights; shown = none_shown state; known = IfOk-from_err answer _ e }

-- ---- where there was no memory

-- nothing was done behind the looks
pub none_acted : {T E : Type 0} (r : Result T E) (rules : Rules) (looks : Looks) (state : Path) (remembered : Remembered) (clock : Clock) (asked : Asked) (o : Option Journal) → OnErr r (Left (EndsBehindLooks rules looks state remembered clock asked) o o)
none_acted (Ok x) rules looks state remembered clock asked o = tt
none_acted (Err x) rules looks state remembered clock asked o = left_first (EndsBehindLooks rules looks state remembered clock asked) o (record {
  some = λ sights reads ls of_looks known read shown kept. some_seen (halt.of_looks sights remembered known (record {
    front = reads;
    back = ls ++ [];
    joined = refl;
    first = read;
    second = subst (ShowsSomeLooks (reserved_by state) rules.sets) (sym (append-nil ls)) (some_of_whole (reserved_by state) rules.sets looks.sets of_looks ls shown);
  }));
})

-- of the acts a first part was
pub some_acted : {T E : Type 0} (r : Result T E) (state : Path) (rules : Rules) (looks : Looks) (remembered : Remembered) (clock : Clock) (asked : Asked) (ready : Ready) (x y : Progress) (m n : Option Journal)
    → ReadyFor state clock.now remembered looks.kept (plan_for rules looks remembered clock asked) ready x y → OnErr r (HasProgram (all_of_sets ready.steps)) → OnErr r (Left (SomeActs ready.steps) m n) → OnErr r (Left (EndsBehindLooks rules looks state remembered clock asked) m n)
some_acted (Ok u) state rules looks remembered clock asked ready x y m n r p h = tt
some_acted (Err u) state rules looks remembered clock asked ready x y m n r p h = left_as h (λ us c. record {
  some = λ sights reads ls of_looks known read shown kept. some_done (record {
    looked = record { sights = sights; remembered = remembered; known = known; sets = looks.sets; of_looks = of_looks; reads = reads; looks = ls; acts = us; joined = refl; read = read; shown = shown };
    small = subst (λ (ks : List Path). length (measured_text (logs_in (plan_for rules looks remembered clock asked)) clock.now.civil (after remembered.table [] ks clock.now.civil)) ≤ 67_108_864) kept r.small;
    program = subst (λ (ss : List SetSteps). HasProgram (all_of_sets ss)) r.is.steps p;
    marks = c.marks;
    of_acts = c.faults;
    part = subst (λ (ss : List SetSteps). SetsCut ss c.marks c.faults us) r.is.steps c.part;
  });
})

-- a first part of the looks was made, or none
pub lacks_looks : {T E : Type 0} (r : Result T E) (state : Path) (rules : List Rule) (clock : Clock) (asked : Asked) (remembered : Remembered) {o n : Option Journal} → Left (ShowsSomeLooks (reserved_by state) rules) o n → OnErr r (Left (EndsBehindState state rules clock asked remembered) o n)
lacks_looks (Ok x) state rules clock asked remembered l = tt
lacks_looks (Err x) state rules clock asked remembered l = left_as l (λ us h. record {
  some = λ sights reads known read. some_seen (halt.of_looks sights remembered known (record { front = reads; back = us; joined = refl; first = read; second = h }));
})

-- it ended behind the looks
pub behind_looks : {T E : Type 0} (r : Result T E) (state : Path) (rules : Rules) (looks : Looks) (remembered : Remembered) (clock : Clock) (asked : Asked) (a b : List Fault) {o m : Option Journal} (n : Option Journal) → Left (LooksAtAll (reserved_by state) rules.sets looks a b) o m
    → OnErr r (Left (EndsBehindLooks rules looks state remembered clock asked) m n) → OnErr r (Left (EndsBehindState state rules.sets clock asked remembered) o n)
behind_looks (Ok x) state rules looks remembered clock asked a b n l h = tt
behind_looks (Err x) state rules looks remembered clock asked a b n l h = left_then l h (λ ts us g q. record { some = λ sights reads known read. q.some sights reads ts g.own known read g.shown g.kept_are })

-- nothing was read of the state
pub none_seen : {T E : Type 0} (r : Result T E) (state : Path) (rules : List Rule) (clock : Clock) (asked : Asked) (o : Option Journal) → OnErr r (Left (SomeWork state rules clock asked) o o)
none_seen (Ok u) state rules clock asked o = tt
none_seen (Err u) state rules clock asked o = left_first (SomeWork state rules clock asked) o (some_seen (halt.of_state none_sights (none_shown state)))

-- a first part of it was read
pub some_read : {T E : Type 0} (r : Result T E) (state : Path) (rules : List Rule) (clock : Clock) (asked : Asked) (m : Memory) {o n : Option Journal} → Left (ReadsState state 65_536 (Err m)) o n → OnErr r (Left (SomeWork state rules clock asked) o n)
some_read (Ok u) state rules clock asked m l = tt
some_read (Err u) state rules clock asked m l = left_as l (λ ts p. some_seen (halt.of_state p.sights p.shown))

-- it ended behind the reading
pub behind_state : {T E : Type 0} (r : Result T E) (state : Path) (rules : List Rule) (clock : Clock) (asked : Asked) (remembered : Remembered) {o m : Option Journal} (n : Option Journal) → Left (ReadsState state 65_536 (Ok (Ok remembered))) o m
    → OnErr r (Left (EndsBehindState state rules clock asked remembered) m n) → OnErr r (Left (SomeWork state rules clock asked) o n)
behind_state (Ok u) state rules clock asked remembered n l h = tt
behind_state (Err u) state rules clock asked remembered n l h = left_then l h (λ ts us p q. q.some p.sights ts p.known p.shown)
