-- Each log that a run empties it copied whole just before, by a copy that one of its rules asks for.
use Rattle.std.proofs.Common.{◌≡◌, ◌⊎◌, inl, inr, ⊎_elim, ℕ, ◌+◌, arith, true, false, List, [], ◌∷◌, ◌++◌, Option, Some, None, Result, Ok, Err, slice_get, reverse, refl, sym, ap, ◌∙◌, subst}
use Rattle.std.specs.Prelude.{Contains, option_to_list}
use Rattle.std.specs.List.{flat_map}
use Rattle.std.proofs.lemmas.List.{append-nil, reverse-reverse}
use Rattle.lr_rules.specs.declared.clock.Clock.{Clock}
use Rattle.lr_rules.specs.declared.fault.Fault.{Fault}
use Rattle.lr_rules.specs.declared.path.Path.{Path}
use Rattle.lr_rules.specs.declared.rule.Naming.{Naming}
use Rattle.lr_rules.specs.declared.rule.Rule.{Rule}
use Rattle.lr_rules.specs.declared.rules.Rules.{Rules}
use Rattle.lr_rules.specs.Match.{WordGives, RuleGives}
use Rattle.lr_rules.specs.Names.{naming_of}
use Rattle.lr_rules.specs.Path.{parent_of}
use Rattle.lr_host.specs.declared.entry.Entry.{Entry}
use Rattle.lr_host.specs.declared.entry.Entry.TheVariants as entry
use Rattle.lr_host.specs.declared.journal.Journal.{Journal}
use Rattle.lr_host.specs.Lists.{IsIn}
use Rattle.lr_host.specs.Looks.{IsDir}
use Rattle.lr_host.specs.Quiet.{AreQuiet}
use Rattle.lr_host.specs.Told.{Left, not_told, is_told}
use Rattle.lr_host.specs.World.{past}
use Rattle.lr_host.proofs.Lists.{in_append, in_front, in_back, in_to}
use Rattle.lr_state.proofs.Quiet.{state_quiet}
use Rattle.lr_kept.specs.declared.choice.Choice.TheVariants.{Kept}
use Rattle.lr_kept.proofs.Elements.{same_read}
use Rattle.lr_due.specs.declared.answer.Due.{Due}
use Rattle.lr_copy.specs.declared.job.Job.{Job}
use Rattle.lr_plan.specs.Asked.{Asked}
use Rattle.lr_plan.specs.declared.looks.LogLook.{LogLook}
use Rattle.lr_plan.specs.declared.looks.SetLooks.{SetLooks}
use Rattle.lr_plan.specs.declared.plan.LogPlan.{LogPlan}
use Rattle.lr_plan.specs.declared.plan.Plan.{Plan}
use Rattle.lr_plan.specs.declared.plan.SetPlan.{SetPlan}
use Rattle.lr_plan.specs.Planned.{standing, job_by, decision, all_plans}
use Rattle.lr_plan.specs.Steps.{steps_of_plan}
use Rattle.lr_laws_acts.specs.Emptied.{IsJobIn, EmptiesCopied, EmptiesWhole}
use Rattle.lr_laws_acts.specs.Jobs.{jobs_in, jobs_of}
use Rattle.lr_laws_acts.proofs.Acts.{sets_copying, sets_cut_copying, state_copying}
use Rattle.lr_laws_acts.proofs.Entries.{none_empties, quiet_empties, both_empty, same_empties}
use Rattle.lr_laws_acts.proofs.Jobs.{cut_way}
use Rattle.lr_laws_acts.proofs.Steps.{plan_copied}
use Rattle.lr_laws_acts.proofs.CopiesWhole.{empties_whole}
use Rattle.lr_looks.specs.Families.{LookedLog}
use Rattle.lr_looks.specs.Choices.{kept_of}
use Rattle.lr_looks.specs.Sets.{looked_in}
use Rattle.lr_looks.specs.Shown.{ShowsLooks}
use Rattle.lr_laws_rotations.specs.Target.{Target, IsJob, HasWay, source_by, source_of}
use Rattle.lr_laws_rotations.specs.Seen.{IsLogSeen, AreLogsSeen}
use Rattle.lr_laws_rotations.proofs.CallsFit.{log_paths}
use Rattle.lr_laws_rotations.proofs.LogSeen.{any_names}
use Rattle.lr_laws_acts.specs.Planned.{AreReadyFor, HaveLogs}
use Rattle.lr_laws_acts.proofs.Stands.{job_has}
use Rattle.lr_laws_looks.specs.Targets.{groups_of, all_targets}
use Rattle.lr_laws_looks.proofs.Apart.{kept_at}
use Rattle.lr_laws_looks.proofs.Coming.{Comes, comes_from, was_looked, IsFrom, came_from}
use Rattle.lr_laws_looks.proofs.Elements.{in_list}
use Rattle.lr_laws_looks.proofs.Gives.{gives_kept}
use Rattle.lr_laws_looks.proofs.Ready.{plans_have_logs}
use Rattle.lr_laws_looks.proofs.Seen.{targets_seen}
use Rattle.lr_run.specs.declared.answer.Ran.{Ran}
use Rattle.lr_run.specs.declared.answer.RunStop.{RunStop}
use Rattle.lr_run.specs.declared.answer.RunStop.TheVariants as stop
use Rattle.lr_run.specs.InternalAnswers.{Answers}
use Rattle.lr_run.specs.Copied.{IsNewest, IsCopyBy}
use Rattle.lr_run.specs.InternalRuns as runs
use Rattle.lr_run.specs.InternalRuns.{Looked, plan_in, Worked, Works, not_known, too_big, worked, Runs, no_directory, not_seen, not_begun, BrokeOff, at_first, in_looks, in_acts}
use Rattle.lr_run.proofs.Newest.{target_newest}
use Rattle.lr_run.proofs.Made.{AreMade, are_made, made_first, made_later}
use Rattle.lr_run.proofs.Renewing.{between_made}
use Rattle.lr_run.proofs.Shape.{sees_quiet, some_quiet, seen_quiet, looked_parts, in_parts}

-- ---- the copies of a plan are those of its logs

-- the copy is that of one of these logs
record IsOfTarget (ts : List Target) (job : Job) : Type 0 where
  target : Target
  one : IsIn target ts
  is : target.job ≡ Some job

of_logs : (ts : List Target) (logs : List LogPlan) (job : Job) → AreReadyFor ts logs → IsIn job (jobs_in logs) → IsOfTarget ts job
of_logs [] [] job r i = absurd i
of_logs [] (l ∷ ls) job r i = absurd r
of_logs (t ∷ ts) [] job r i = absurd r
of_logs (t ∷ ts) (l ∷ ls) job r i = ⊎_elim (λ a. record { target = t; one = inl refl; is = sym r.0.job_is ∙ job_has l.job job a }) (λ b. further (of_logs ts ls job r.1 b)) (in_append job (option_to_list l.job) (jobs_in ls) i)
  where
    further : IsOfTarget ts job → IsOfTarget (t ∷ ts) job
    further o = record { target = o.target; one = inr o.one; is = o.is }

of_groups : (groups : List (List Target)) (sets : List SetPlan) (job : Job) → HaveLogs groups sets → IsIn job (jobs_of sets) → IsOfTarget (flat_map (λ ts. ts) groups) job
of_groups [] [] job h i = absurd i
of_groups [] (s ∷ ss) job h i = absurd h
of_groups (ts ∷ groups) [] job h i = absurd h
of_groups (ts ∷ groups) (s ∷ ss) job h i = ⊎_elim (λ a. here (of_logs ts s.logs job h.0 a)) (λ b. there (of_groups groups ss job h.1 b)) (in_append job (jobs_in s.logs) (jobs_of ss) i)
  where
    here : IsOfTarget ts job → IsOfTarget (flat_map (λ us. us) (ts ∷ groups)) job
    here o = record { target = o.target; one = in_front o.target ts (flat_map (λ us. us) groups) o.one; is = o.is }

    there : IsOfTarget (flat_map (λ us. us) groups) job → IsOfTarget (flat_map (λ us. us) (ts ∷ groups)) job
    there o = record { target = o.target; one = in_back o.target ts (flat_map (λ us. us) groups) o.one; is = o.is }

-- ---- the rule of a log

-- One of the rules gives the log, names its members, and says by which copy to its path.
record HasRule (rules : List Rule) (t : Target) : Type 0 where
  rule : Rule
  among : Contains rules rule
  given : RuleGives rule t.log
  naming_is : naming_of rule t.log ≡ t.naming
  look : LogLook
  job_is : job_by rule.way look t.ready.target ≡ t.job

has_rule : {reserved : List Path} (rules : Rules) (sets : List SetLooks) (faults : List Fault) (ts : List Entry) (clock : Clock) (t : Target) → AreMade ts → ShowsLooks reserved rules.sets sets faults ts → Comes clock rules.sets sets t → HasRule rules.sets t
has_rule rules sets faults ts clock t made s c = subst (HasRule rules.sets) (sym c.is) (record {
  rule = c.rule;
  among = in_to c.rule rules.sets (in_list rules.sets c.place c.rule c.at_rule);
  given = subst (λ (r : Rule). RuleGives r x.path) (sym same) (has.0, o.by_word.word.text, has.1, has.2, gives);
  naming_is = ap (λ (r : Rule). naming_of r x.path) same ∙ (ap (naming_of o.by_word.word.rule) (sym o.path_is) ∙ (naming ∙ o.naming_is));
  look = standing c.rule c.look;
  job_is = refl;
})
  where
    x : LookedLog
    x = looked_in (0 + c.place) c.look

    came : (o : IsFrom rules.sets s.entries.front s.found x) × IsIn o.found (kept_of s.found s.keeps.choices)
    came = came_from rules.sets sets faults ts s x (was_looked 0 c.place s.looked sets c.set c.look s.by_sets c.at_set c.among)

    o : IsFrom rules.sets s.entries.front s.found x
    o = came.0

    -- the word of the rule by which the log was found gives it
    has : Contains o.by_word.word.rule.words o.by_word.word.text
    has = in_to o.by_word.word.text o.by_word.word.rule.words o.has

    at : (k : ℕ) × (slice_get s.found k ≡ Some o.found) × (slice_get s.keeps.choices k ≡ Some Kept)
    at = kept_at s.found s.keeps.choices o.found came.1

    words : AreMade s.entries.front
    words = made_first s.entries.front s.entries.back (subst AreMade s.entries.joined made)

    gives : WordGives o.by_word.word.text x.path
    gives = subst (WordGives o.by_word.word.text) o.path_is
        ((gives_kept rules sets faults ts s at.0 o.found at.1 at.2 o.by_word).gives words.before words.after (reverse s.entries.front) words.made (sym (reverse-reverse s.entries.front)))

    none_more : (n : ℕ) → 0 + n ≡ n
    none_more n = omega arith

    same : c.rule ≡ o.by_word.word.rule
    same = same_read rules.sets c.place c.rule o.by_word.word.rule c.at_rule (subst (λ (n : ℕ). slice_get rules.sets n ≡ Some o.by_word.word.rule) (none_more c.place) o.at)

    naming : naming_of o.by_word.word.rule o.found.log.path ≡ o.found.log.naming
    naming = subst (λ (f : _). naming_of o.by_word.word.rule f.log.path ≡ f.log.naming) (sym o.by_word.is) refl

seen_one : (rules : Rules) (clock : Clock) (looks : List Entry) (t : Target) (ts : List Target) → AreLogsSeen rules clock looks ts → IsIn t ts → IsLogSeen rules clock looks t
seen_one rules clock looks t [] s i = absurd i
seen_one rules clock looks t (u ∷ us) s (inl e) = subst (IsLogSeen rules clock looks) e s.0
seen_one rules clock looks t (u ∷ us) s (inr i) = seen_one rules clock looks t us s.1 i

-- a log that is emptied behind its copy was copied where it stands
cut_source : (t : Target) (job : Job) → HasWay t → t.job ≡ Some job → job.cut ≡ true → source_of t ≡ t.log
cut_source t job (inl stays) is cut = ap (λ (a : Option Path). source_by a t.ready.log) stays.aside_is ∙ stays.first_is
cut_source t job (inr (asked, inl aside)) is cut = absurd (let same : Some aside.job ≡ Some job = sym aside.job_is ∙ is in clash aside.job job same aside.uncut cut)
  where
    clash : (a b : Job) → Some a ≡ Some b → a.cut ≡ false → b.cut ≡ true → ⊥
    clash a b same p q = cc
cut_source t job (inr (asked, inr taken)) is cut = absurd (let none : None ≡ Some job = sym taken.no_job ∙ is in cc)

-- a copy of a plan that empties its log is one that a rule asks for
is_copy : {reserved : List Path} (rules : Rules) (sets : List SetLooks) (faults : List Fault) (ts : List Entry) (clock : Clock) (mailer : Path) (decide : Rule → LogLook → Due) → AreMade ts → ShowsLooks reserved rules.sets sets faults ts
    → (job : Job) → IsIn job (jobs_of (all_plans clock mailer decide rules.sets sets)) → job.cut ≡ true → IsCopyBy rules.sets clock job
is_copy rules sets faults ts clock mailer decide made s job i cut = record {
  rule = r.rule;
  among = r.among;
  given = subst (RuleGives r.rule) (sym from_log) r.given;
  way_is = cut_way r.rule r.look t.ready.target job (r.job_is ∙ o.is) cut;
  newest = subst (λ (log : Path). IsNewest (naming_of r.rule log) clock job.to) (sym from_log) (subst (λ (n : Naming). IsNewest n clock job.to) (sym r.naming_is) newest);
  part_is = j.part_is;
  paths = log_paths rules clock ts t seen job o.is;
  cut = cut;
}
  where
    o : IsOfTarget (all_targets clock decide rules.sets sets) job
    o = of_groups (groups_of clock decide rules.sets sets) (all_plans clock mailer decide rules.sets sets) job (plans_have_logs rules.sets sets faults ts clock mailer decide s) i

    t : Target
    t = o.target

    r : HasRule rules.sets t
    r = has_rule rules sets faults ts clock t made s (comes_from clock decide rules.sets sets t o.one)

    seen : IsLogSeen rules clock ts t
    seen = seen_one rules clock ts t (all_targets clock decide rules.sets sets) (targets_seen rules sets faults ts clock decide s) o.one

    j : IsJob t job
    j = (seen.job job o.is).0

    -- and what is emptied behind it is the log
    from_log : job.from ≡ t.log
    from_log = j.from_is ∙ cut_source t job (any_names rules clock ts t seen).way o.is cut

    -- the copy goes where the log would go
    newest : IsNewest t.naming clock job.to
    newest = subst (IsNewest t.naming clock) (sym j.to_is) (target_newest clock t (any_names rules clock ts t seen) seen.free seen.ready)

-- ---- what a run leaves

-- by other jobs, of which each that empties its log is one of these
copied_as : (P Q : Job → Type 0) → ((job : Job) → P job → job.cut ≡ true → Q job) → (ts : List Entry) → EmptiesCopied P ts → EmptiesCopied Q ts
copied_as P Q f ts e = λ before log after is. let c = e before log after is in record {
  job = c.job;
  is = f c.job c.is c.cut;
  from_is = c.from_is;
  cut = c.cut;
  count = c.count;
  front = c.front;
  named = c.named;
  joined = c.joined;
  is_named = c.is_named;
}

module _ (state : Path) (rules : Rules) (clock : Clock) (asked : Asked) where
  abbrev P : Job → Type 0
  P = IsCopyBy rules.sets clock

  quiet_none : (ts : List Entry) → AreQuiet ts → EmptiesCopied P ts
  quiet_none ts q = quiet_empties P ts q

  module _ (ts : List Entry) (made : AreMade ts) (l : Looked state rules.sets ts) where
    abbrev planned : Plan
    planned = plan_in state rules.sets ts l clock asked

    abbrev Planned : Job → Type 0
    Planned = IsJobIn (jobs_of planned.sets)

    looks_made : AreMade l.looks
    looks_made = made_first l.looks l.acts (made_later l.reads (l.looks ++ l.acts) (subst AreMade l.joined made))

    acts_copied : (acts : List Entry) → EmptiesCopied Planned acts → EmptiesCopied P ((l.reads ++ l.looks) ++ acts)
    acts_copied acts e = both_empty P (l.reads ++ l.looks) acts (quiet_none (l.reads ++ l.looks) (seen_quiet state rules.sets ts l))
        (copied_as Planned P (λ job i cut. is_copy rules l.sets l.of_looks l.looks clock asked.mailer (decision l.remembered.table clock.now asked.force) looks_made l.shown job i cut) acts e)

  worked_copied : (own : List Fault) (ts : List Entry) → AreMade ts → Worked state rules.sets clock asked own ts → EmptiesCopied P ts
  worked_copied own ts made w = same_empties P (((w.looked.reads ++ w.looked.looks) ++ w.acted.entries.entries.front) ++ w.acted.entries.entries.back) ts (in_parts state rules.sets clock asked own ts w)
      (both_empty P ((w.looked.reads ++ w.looked.looks) ++ w.acted.entries.entries.front) w.acted.entries.entries.back
      (acts_copied ts made w.looked w.acted.entries.entries.front (sets_copying (Planned ts made w.looked) (steps_of_plan (planned ts made w.looked)) (plan_copied (Planned ts made w.looked) (planned ts made w.looked).sets (λ job i. i)) w.acted.marks w.acted.entries.of_plan w.acted.entries.entries.front w.acted.entries.entries.first))
      (state_copying P state w.looked.remembered.stale w.acted.dirs _ [] w.acted.entries.of_state w.acted.entries.entries.back w.acted.entries.entries.second))

  works_copied : (plan : Option Plan) (own : List Fault) (ts : List Entry) → AreMade ts → Works state rules.sets clock asked plan own ts → EmptiesCopied P ts
  works_copied plan own ts made (not_known sights f known lost is shown) = quiet_none ts (state_quiet state 65_536 sights ts shown)
  works_copied plan own ts made (too_big l big lost is none) = quiet_none ts (subst AreQuiet (sym (l.joined ∙ (ap (λ xs. l.reads ++ (l.looks ++ xs)) none ∙ ap (λ xs. l.reads ++ xs) (append-nil l.looks)))) (seen_quiet state rules.sets ts l))
  works_copied plan own ts made (worked w is) = worked_copied own ts made w

  broke_copied : (ts : List Entry) → AreMade ts → BrokeOff state rules.sets clock asked ts → EmptiesCopied P ts
  broke_copied ts made b = same_empties P ((b.looked.reads ++ b.looked.looks) ++ b.looked.acts) ts (looked_parts state rules.sets ts b.looked)
      (acts_copied ts made b.looked b.looked.acts (sets_cut_copying (Planned ts made b.looked) (steps_of_plan (planned ts made b.looked)) (plan_copied (Planned ts made b.looked) (planned ts made b.looked).sets (λ job i. i)) b.marks b.of_acts b.looked.acts b.part))

  -- between the begin and the end
  within : (before between ts : List Entry) → ts ≡ before ++ (entry.Starts state clock.now rules ∷ (between ++ entry.Ends ∷ [])) → AreQuiet before → EmptiesCopied P between → EmptiesCopied P ts
  within before between ts e q c = same_empties P (before ++ (entry.Starts state clock.now rules ∷ (between ++ entry.Ends ∷ []))) ts e
      (both_empty P before (entry.Starts state clock.now rules ∷ (between ++ entry.Ends ∷ [])) (quiet_none before q)
      (both_empty P (entry.Starts state clock.now rules ∷ []) (between ++ entry.Ends ∷ []) (none_empties P (entry.Starts state clock.now rules ∷ []) (tt, tt))
      (both_empty P between (entry.Ends ∷ []) c (none_empties P (entry.Ends ∷ []) (tt, tt)))))

  pub runs_copied : (plan : Option Plan) (own : List Fault) (ts : List Entry) → AreMade ts → Runs state asked clock rules plan own ts → EmptiesCopied P ts
  runs_copied plan own ts made (no_directory lost e s) = quiet_none ts (sees_quiet (parent_of state) _ ts s)
  runs_copied plan own ts made (not_seen lost e s) = quiet_none ts (subst AreQuiet (sym s) tt)
  runs_copied plan own ts made (not_begun lost e t) = same_empties P (t.front ++ t.back) ts t.joined (both_empty P t.front t.back (quiet_none t.front (sees_quiet (parent_of state) IsDir t.front t.first)) (go t.second))
    where
      go : (t.back ≡ []) ⊎ (t.back ≡ entry.Starts state clock.now rules ∷ []) → EmptiesCopied P t.back
      go (inl none) = same_empties P [] t.back none (none_empties P [] tt)
      go (inr one) = same_empties P (entry.Starts state clock.now rules ∷ []) t.back one (none_empties P (entry.Starts state clock.now rules ∷ []) (tt, tt))
  runs_copied plan own ts made (runs.began i) = within i.before i.between ts i.entries (sees_quiet (parent_of state) IsDir i.before i.directory) (works_copied plan own i.between (between_made state rules clock asked i.before i.between ts i.entries made) i.within)

  pub answers_copied : (earlier : List Fault) (r : Result Ran RunStop) (ts : List Entry) → AreMade ts → Answers state false asked clock rules earlier r ts → EmptiesCopied P ts
  answers_copied earlier (Ok ran) ts made h = runs_copied ran.plan h.0 ts made h.2
  answers_copied earlier (Err stop.Held) ts made h = quiet_none ts (sees_quiet (parent_of state) IsDir ts h)
  answers_copied earlier (Err stop.Memory) ts made (at_first e) = quiet_none ts (subst AreQuiet (sym e) tt)
  answers_copied earlier (Err stop.Memory) ts made (in_looks i) = within i.before i.between ts i.entries (sees_quiet (parent_of state) IsDir i.before i.directory) (quiet_none i.between (some_quiet state rules.sets i.between i.within))
  answers_copied earlier (Err stop.Memory) ts made (in_acts i) = within i.before i.between ts i.entries (sees_quiet (parent_of state) IsDir i.before i.directory) (broke_copied i.between (between_made state rules clock asked i.before i.between ts i.entries made) i.within)

-- ---- a call

-- on a disk each is whole
pub left_copied : (rules : List Rule) (clock : Clock) (R : List Entry → Type 0) {o n : Option Journal} → Left R o n → ((ts : List Entry) → AreMade ts → R ts → EmptiesCopied (IsCopyBy rules clock) ts) → EmptiesWhole (IsCopyBy rules clock) o n
left_copied rules clock R not_told f = tt
left_copied rules clock R (is_told {j = j} {k = k} {es = es} m h) f =
    λ disk. empties_whole (IsCopyBy rules clock) (λ job copy. copy.paths) (is_told {j = j} {k = k} {es = es} m (f (reverse es) (are_made (past j) (past k) es m disk) h)) disk

pub run_copied : (state : Path) (asked : Asked) (clock : Clock) (rules : Rules) (earlier : List Fault) (r : Result Ran RunStop) {o n : Option Journal} → Left (Answers state false asked clock rules earlier r) o n → EmptiesWhole (IsCopyBy rules.sets clock) o n
run_copied state asked clock rules earlier r l = left_copied rules.sets clock (Answers state false asked clock rules earlier r) l (λ ts made h. answers_copied state rules clock asked earlier r ts made h)
