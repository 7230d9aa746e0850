-- The entries of a run are those of one that looks first, and rotates then.
use Rattle.std.proofs.Common.{◌≡◌, ◌⊎◌, inl, inr, ℕ, Option, Some, None, false, List, [], ◌∷◌, ◌++◌, Result, Ok, Err, refl, sym, ap, ◌∙◌, subst, append_assoc}
use Rattle.std.specs.Prelude.{filter}
use Rattle.std.proofs.lemmas.List.{append-nil}
use Rattle.std.proofs.lemmas.List.Elements.{filter-append}
use Rattle.lr_rules.specs.declared.clock.Clock.{Clock}
use Rattle.lr_rules.specs.declared.fault.Fault.{Fault}
use Rattle.lr_rules.specs.declared.path.Path.{Path}
use Rattle.lr_rules.specs.declared.rule.Naming.{Naming}
use Rattle.lr_rules.specs.declared.rule.Rule.{Rule}
use Rattle.lr_rules.specs.declared.rules.Rules.{Rules}
use Rattle.lr_rules.specs.Path.{parent_of}
use Rattle.lr_host.specs.declared.entry.Entry.{Entry}
use Rattle.lr_host.specs.declared.entry.Entry.TheVariants as entry
use Rattle.lr_host.specs.Looks.{Sees, IsDir, IsFile}
use Rattle.lr_host.specs.declared.thing.Seen.{Seen}
use Rattle.lr_host.specs.Quiet.{AreQuiet}
use Rattle.lr_host.specs.Steps.{is_change}
use Rattle.lr_host.specs.Told.{Each}
use Rattle.lr_host.proofs.Each.{each_append, each_as}
use Rattle.lr_host.proofs.Lists.{in_back}
use Rattle.lr_host.proofs.Quiet.{quiet_both}
use Rattle.lr_family.specs.declared.stand.Member.{Member}
use Rattle.lr_copy.specs.declared.job.Job.{Job}
use Rattle.lr_due.specs.declared.answer.Due.{Due}
use Rattle.lr_plan.specs.Asked.{Asked}
use Rattle.lr_plan.specs.declared.looks.LogLook.{LogLook}
use Rattle.lr_plan.specs.Planned.{decision}
use Rattle.lr_laws_rotations.specs.AllTurns.{IsOfSome, IsOfState, StandsBetween}
use Rattle.lr_state.proofs.Quiet.{state_quiet}
use Rattle.lr_laws_rotations.specs.Target.{Target, target_entries, IsGiven, IsDirSeenBy, IsTargetJob}
use Rattle.lr_laws_family.specs.Weave.{Weave, FirstWoven, Among}
use Rattle.lr_laws_family.proofs.Weaving.{weave_on, weave_others}
use Rattle.lr_laws_rotations.specs.Runs.{AllTurnsBy, AllTurnedBy, started, IsWholeRunBy}
use Rattle.lr_laws_rotations.specs.Seen.{AreLogsSeen}
use Rattle.lr_laws_acts.proofs.Parting.{done_turns, cut_turns, others_behind}
use Rattle.lr_laws_acts.proofs.Planning.{ready_planned}
use Rattle.lr_laws_looks.specs.Targets.{groups_of, all_targets}
use Rattle.lr_laws_rotations.proofs.Shapes.{quiet_run_by, looks_turn_by}
use Rattle.lr_laws_rotations.proofs.Whole.{shown_more}
use Rattle.lr_run.specs.declared.answer.Ran.{Ran}
use Rattle.lr_run.specs.declared.answer.RunStop.{RunStop}
use Rattle.lr_plan.specs.declared.plan.Plan.{Plan}
use Rattle.lr_run.specs.declared.answer.RunStop.TheVariants as stop
use Rattle.lr_run.specs.InternalAnswers.{Answers}
use Rattle.lr_run.specs.InternalRuns as runs
use Rattle.lr_run.specs.Halt.{SomeSeen, of_state, of_looks}
use Rattle.lr_run.specs.InternalRuns.{Looked, Worked, Works, not_known, too_big, worked, Runs, no_directory, not_seen, not_begun, BrokeOff, at_first, in_looks, in_acts}
use Rattle.lr_run.proofs.Stating.{state_writing, changes_of_state}
use Rattle.lr_laws_looks.proofs.Apart.{targets_apart}
use Rattle.lr_laws_looks.proofs.Quiet.{whole_quiet, part_quiet}
use Rattle.lr_laws_looks.proofs.Ready.{plans_have_logs}
use Rattle.lr_laws_looks.proofs.Seen.{targets_seen}

-- ---- quiet entries alone

pub sees_quiet : (x : Path) (P : Option Seen → Type 0) (ts : List Entry) → Sees x P ts → AreQuiet ts
sees_quiet x P ts s = subst AreQuiet (sym s.look) ((tt, refl), tt)

no_turns : (state : Path) (clock : Clock) (rules : Rules) (looks : List Entry) → AreQuiet looks → AllTurnsBy state clock rules (looks ++ [])
no_turns state clock rules looks q = record { looks = looks; acts = []; joined = refl; quiet = q; targets = []; seen = tt; all = tt; each = λ t h. absurd h }

pub none_run : (clock : Clock) (ts : List Entry) → ts ≡ [] → IsWholeRunBy clock ts
none_run clock ts e = quiet_run_by clock ts (subst AreQuiet (sym e) tt)

begun_run : (state : Path) (clock : Clock) (rules : Rules) (before tail ts : List Entry) → Sees (parent_of state) IsDir before → ts ≡ before ++ entry.Starts state clock.now rules ∷ tail → AllTurnsBy state clock rules tail → IsWholeRunBy clock ts
begun_run state clock rules before tail ts s e t = record { front = before; rest = entry.Starts state clock.now rules ∷ tail; joined = e; quiet = sees_quiet (parent_of state) IsDir before s; goes_on = started state rules tail refl t }

-- ---- the end of a run behind it

pub ended_changes : (acts : List Entry) → filter is_change (acts ++ entry.Ends ∷ []) ≡ filter is_change acts
ended_changes acts = filter-append is_change acts (entry.Ends ∷ []) ∙ append-nil (filter is_change acts)

abbrev pub ended : (state : Path) (clock : Clock) (rules : Rules) (ts : List Entry) → AllTurnsBy state clock rules ts → AllTurnsBy state clock rules (ts ++ entry.Ends ∷ [])
ended state clock rules ts t = record {
  looks = t.looks;
  acts = t.acts ++ entry.Ends ∷ [];
  joined = ap (λ es. es ++ entry.Ends ∷ []) t.joined ∙ append_assoc t.looks t.acts (entry.Ends ∷ []);
  quiet = t.quiet;
  targets = t.targets;
  seen = t.seen;
  all = subst (Each (λ e. IsOfSome t.targets e ⊎ IsOfState state e)) (sym (ended_changes t.acts)) t.all;
  each = λ x h. subst (FirstWoven (StandsBetween state x t.targets) (target_entries x)) (sym (ended_changes t.acts)) (t.each x h);
}

abbrev pub ended_whole : (state : Path) (clock : Clock) (rules : Rules) (ts : List Entry) → AllTurnedBy state clock rules ts → AllTurnedBy state clock rules (ts ++ entry.Ends ∷ [])
ended_whole state clock rules ts t = record {
  turns = ended state clock rules ts t.turns;
  whole = λ x h. subst (Weave (StandsBetween state x t.turns.targets) (target_entries x)) (sym (ended_changes t.turns.acts)) (t.whole x h);
}

-- ---- the state's writing behind the rotations

pub woven_behind : (P : Entry → Type 0) (steps xs ys : List Entry) → Weave P steps xs → Each P ys → Weave P steps (xs ++ ys)
woven_behind P steps xs ys w a = subst (λ (zs : List Entry). Weave P zs (xs ++ ys)) (append-nil steps) (weave_on P steps xs [] ys w (weave_others P ys a))

abbrev pub written : (state : Path) (clock : Clock) (rules : Rules) (ts us : List Entry) → AllTurnsBy state clock rules ts → Each (IsOfState state) (filter is_change us) → AllTurnsBy state clock rules (ts ++ us)
written state clock rules ts us t a = record {
  looks = t.looks;
  acts = t.acts ++ us;
  joined = ap (λ es. es ++ us) t.joined ∙ append_assoc t.looks t.acts us;
  quiet = t.quiet;
  targets = t.targets;
  seen = t.seen;
  all = subst (Each (λ e. IsOfSome t.targets e ⊎ IsOfState state e)) (sym (filter-append is_change t.acts us))
      (each_append (λ e. IsOfSome t.targets e ⊎ IsOfState state e) (filter is_change t.acts) (filter is_change us) t.all (each_as (IsOfState state) (λ e. IsOfSome t.targets e ⊎ IsOfState state e) (filter is_change us) (λ e h. inr h) a));
  each = λ x h. subst (FirstWoven (StandsBetween state x t.targets) (target_entries x)) (sym (filter-append is_change t.acts us))
      (others_behind (StandsBetween state x t.targets) (target_entries x) (filter is_change t.acts) (filter is_change us) (t.each x h) (each_as (IsOfState state) (StandsBetween state x t.targets) (filter is_change us) (λ e h. inr (inl h)) a));
}

abbrev pub written_whole : (state : Path) (clock : Clock) (rules : Rules) (ts us : List Entry) → AllTurnedBy state clock rules ts → Each (IsOfState state) (filter is_change us) → AllTurnedBy state clock rules (ts ++ us)
written_whole state clock rules ts us t a = record {
  turns = written state clock rules ts us t.turns a;
  whole = λ x h. subst (Weave (StandsBetween state x t.turns.targets) (target_entries x)) (sym (filter-append is_change t.turns.acts us))
      (woven_behind (StandsBetween state x t.turns.targets) (target_entries x) (filter is_change t.turns.acts) (filter is_change us) (t.whole x h) (each_as (IsOfState state) (StandsBetween state x t.turns.targets) (filter is_change us) (λ e h. inr (inl h)) a));
}

-- ---- what was seen behind a reading

among_later : (P : List Entry → Type 0) (xs ys : List Entry) → Among P ys → Among P (xs ++ ys)
among_later P xs ys a = record { before = xs ++ a.before; part = a.part; after = a.after; joined = ap (λ zs. xs ++ zs) a.joined ∙ sym (append_assoc xs a.before (a.part ++ a.after)); is = a.is }

given_later : {rules : List Rule} {t : Target} (xs looks : List Entry) → IsGiven rules looks t → IsGiven rules (xs ++ looks) t
given_later xs looks g = record {
  rule = g.rule;
  word = g.word;
  among = g.among;
  has = g.has;
  given = among_later _ xs looks g.given;
  naming_is = g.naming_is;
  count_is = g.count_is;
  maxage_is = g.maxage_is;
  way_is = g.way_is;
}

-- the directory was seen, or was missing
dir_later : (log : Path) (n : Naming) (members : List Member) (job : Option Job) (xs looks : List Entry) (d : Option (Path × Option ℕ)) → IsDirSeenBy d log n members job looks → IsDirSeenBy d log n members job (xs ++ looks)
dir_later log n members job xs looks None s = (s.0, s.1, in_back _ xs looks s.2)
dir_later log n members job xs looks (Some (dir, mode)) s = record {
  dir_is = s.dir_is;
  apart = s.apart;
  gone = in_back _ xs looks s.gone;
  parent = (s.parent.0, s.parent.1, in_back _ xs looks s.parent.2);
  no_members = s.no_members;
  not_stale = s.not_stale;
}

pub seen_later : (rules : Rules) (clock : Clock) (xs looks : List Entry) (ts : List Target) → AreLogsSeen rules clock looks ts → AreLogsSeen rules clock (xs ++ looks) ts
seen_later rules clock xs looks [] s = tt
seen_later rules clock xs looks (t ∷ ts) s = (
  record {
    path = s.0.path;
    given = given_later xs looks s.0.given;
    family = s.0.family;
    log_seen = among_later (Sees t.log IsFile) xs looks s.0.log_seen;
    way_seen = record {
      first = among_later (Sees t.ready.log IsFile) xs looks s.0.way_seen.first;
      free = λ path is. in_back _ xs looks (s.0.way_seen.free path is);
    };
    seen = shown_more t.naming t.stand.members looks (xs ++ looks) (λ e i. in_back e xs looks i) s.0.seen;
    free = s.0.free;
    ready = s.0.ready;
    dir = dir_later t.log t.naming t.stand.members t.job xs looks t.ready.dir s.0.dir;
    job = job_later s.0.job;
  },
  seen_later rules clock xs looks ts s.1,
)
  where
    job_later : IsTargetJob t looks → IsTargetJob t (xs ++ looks)
    job_later f = λ job is. let h = f job is in (h.0, λ stale. among_later (Sees job.part IsFile) xs looks (h.1 stale))

-- ---- the work

-- what was read and looked at
pub seen_quiet : (state : Path) (rules : List Rule) (ts : List Entry) → (l : Looked state rules ts) → AreQuiet (l.reads ++ l.looks)
seen_quiet state rules ts l = quiet_both l.reads l.looks (state_quiet state 65_536 l.sights l.reads l.read) (whole_quiet rules l.sets l.of_looks l.looks l.shown)

-- all of a run that looked, what was done behind that as one part
pub looked_parts : (state : Path) (rules : List Rule) (ts : List Entry) → (l : Looked state rules ts) → ts ≡ (l.reads ++ l.looks) ++ l.acts
looked_parts state rules ts l = l.joined ∙ sym (append_assoc l.reads l.looks l.acts)

-- all of a run that worked, in three parts
pub in_parts : (state : Path) (rules : List Rule) (clock : Clock) (asked : Asked) (own : List Fault) (ts : List Entry) → (w : Worked state rules clock asked own ts) → ts ≡ ((w.looked.reads ++ w.looked.looks) ++ w.acted.entries.entries.front) ++ w.acted.entries.entries.back
in_parts state rules clock asked own ts w =
    let l = w.looked in let e = w.acted.entries.entries in
    looked_parts state rules ts l ∙ (ap (λ xs. (l.reads ++ l.looks) ++ xs) e.joined ∙ sym (append_assoc (l.reads ++ l.looks) e.front e.back))

-- the changes behind the rotations are the state's
pub all_of_state : (state : Path) (rules : List Rule) (clock : Clock) (asked : Asked) (own : List Fault) (ts : List Entry) → (w : Worked state rules clock asked own ts) → Each (IsOfState state) (filter is_change w.acted.entries.entries.back)
all_of_state state rules clock asked own ts w = changes_of_state state w.acted.entries.entries.back (state_writing state w.looked.remembered.stale w.acted.dirs _ w.acted.entries.of_state w.acted.entries.entries.back w.acted.entries.entries.second)

worked_turn : (state : Path) (rules : Rules) (clock : Clock) (asked : Asked) (own : List Fault) (ts : List Entry) → Worked state rules.sets clock asked own ts → AllTurnsBy state clock rules ts
worked_turn state rules clock asked own ts w = subst (AllTurnsBy state clock rules) (sym (in_parts state rules.sets clock asked own ts w))
    (written state clock rules ((l.reads ++ l.looks) ++ w.acted.entries.entries.front) w.acted.entries.entries.back
    (done_turns state clock rules (l.reads ++ l.looks) (all_targets clock decide rules.sets l.sets) _ w.acted.marks w.acted.entries.of_plan w.acted.entries.entries.front
    (seen_quiet state rules.sets ts l) (seen_later rules clock l.reads l.looks (all_targets clock decide rules.sets l.sets) (targets_seen rules l.sets l.of_looks l.looks clock decide l.shown))
    (ready_planned (groups_of clock decide rules.sets l.sets) _ (plans_have_logs rules.sets l.sets l.of_looks l.looks clock asked.mailer decide l.shown) (targets_apart rules.sets l.sets l.of_looks l.looks clock decide l.shown))
    w.acted.entries.entries.first)
    (all_of_state state rules.sets clock asked own ts w))
  where
    l : Looked state rules.sets ts
    l = w.looked

    decide : Rule → LogLook → Due
    decide = decision l.remembered.table clock.now asked.force

works_turn : (state : Path) (rules : Rules) (clock : Clock) (asked : Asked) (plan : Option Plan) (own : List Fault) (ts : List Entry) → Works state rules.sets clock asked plan own ts → AllTurnsBy state clock rules ts
works_turn state rules clock asked plan own ts (not_known sights f known lost is shown) = looks_turn_by state clock rules ts (state_quiet state 65_536 sights ts shown)
works_turn state rules clock asked plan own ts (too_big l big lost is none) = looks_turn_by state clock rules ts (subst AreQuiet (sym (l.joined ∙ (ap (λ xs. l.reads ++ (l.looks ++ xs)) none ∙ ap (λ xs. l.reads ++ xs) (append-nil l.looks)))) (seen_quiet state rules.sets ts l))
works_turn state rules clock asked plan own ts (worked w is) = worked_turn state rules clock asked own ts w

pub some_quiet : (state : Path) (rules : List Rule) (ts : List Entry) → SomeSeen state rules ts → AreQuiet ts
some_quiet state rules ts (of_state sights shown) = state_quiet state 65_536 sights ts shown
some_quiet state rules ts (of_looks sights remembered known t) = subst AreQuiet (sym t.joined) (quiet_both t.front t.back (state_quiet state 65_536 sights t.front t.first) (part_quiet rules t.back t.second))

-- ---- the run

runs_shape : (state : Path) (asked : Asked) (clock : Clock) (rules : Rules) (plan : Option Plan) (own : List Fault) (ts : List Entry) → Runs state asked clock rules plan own ts → IsWholeRunBy clock ts
runs_shape state asked clock rules plan own ts (no_directory lost e s) = quiet_run_by clock ts (sees_quiet (parent_of state) _ ts s)
runs_shape state asked clock rules plan own ts (not_seen lost e s) = none_run clock ts s
runs_shape state asked clock rules plan own ts (not_begun lost e t) = go t.second
  where
    go : (t.back ≡ []) ⊎ (t.back ≡ entry.Starts state clock.now rules ∷ []) → IsWholeRunBy clock ts
    go (inl none) = quiet_run_by clock ts (subst AreQuiet (sym (t.joined ∙ (ap (λ es. t.front ++ es) none ∙ append-nil t.front))) (sees_quiet (parent_of state) IsDir t.front t.first))
    go (inr one) = begun_run state clock rules t.front [] ts t.first (t.joined ∙ ap (λ es. t.front ++ es) one) (no_turns state clock rules [] tt)
runs_shape state asked clock rules plan own ts (runs.began i) = begun_run state clock rules i.before (i.between ++ entry.Ends ∷ []) ts i.directory i.entries (ended state clock rules i.between (works_turn state rules clock asked plan own i.between i.within))

-- of acts that broke off
broke_turn : (state : Path) (rules : Rules) (clock : Clock) (asked : Asked) (ts : List Entry) → BrokeOff state rules.sets clock asked ts → AllTurnsBy state clock rules ts
broke_turn state rules clock asked ts b = subst (AllTurnsBy state clock rules) (sym (looked_parts state rules.sets ts l))
    (cut_turns state clock rules (l.reads ++ l.looks) (all_targets clock decide rules.sets l.sets) _ b.marks b.of_acts l.acts
    (seen_quiet state rules.sets ts l) (seen_later rules clock l.reads l.looks (all_targets clock decide rules.sets l.sets) (targets_seen rules l.sets l.of_looks l.looks clock decide l.shown))
    (ready_planned (groups_of clock decide rules.sets l.sets) _ (plans_have_logs rules.sets l.sets l.of_looks l.looks clock asked.mailer decide l.shown) (targets_apart rules.sets l.sets l.of_looks l.looks clock decide l.shown))
    b.part)
  where
    l : Looked state rules.sets ts
    l = b.looked

    decide : Rule → LogLook → Due
    decide = decision l.remembered.table clock.now asked.force

pub whole_run : (state : Path) (asked : Asked) (clock : Clock) (rules : Rules) (earlier : List Fault) (r : Result Ran RunStop) (ts : List Entry) → Answers state false asked clock rules earlier r ts → IsWholeRunBy clock ts
whole_run state asked clock rules earlier (Ok ran) ts h = runs_shape state asked clock rules ran.plan h.0 ts h.2
whole_run state asked clock rules earlier (Err stop.Held) ts h = quiet_run_by clock ts (sees_quiet (parent_of state) IsDir ts h)
whole_run state asked clock rules earlier (Err stop.Memory) ts (at_first e) = none_run clock ts e
whole_run state asked clock rules earlier (Err stop.Memory) ts (in_looks i) = begun_run state clock rules i.before (i.between ++ entry.Ends ∷ []) ts i.directory i.entries
    (ended state clock rules i.between (looks_turn_by state clock rules i.between (some_quiet state rules.sets i.between i.within)))
whole_run state asked clock rules earlier (Err stop.Memory) ts (in_acts i) = begun_run state clock rules i.before (i.between ++ entry.Ends ∷ []) ts i.directory i.entries (ended state clock rules i.between (broke_turn state rules clock asked i.between i.within))
