-- Where nothing is in the way of a run and no count of failures rose, nothing failed.
use Rattle.std.proofs.Common.{◌≡◌, ◌≢◌, ◌⊎◌, inl, inr, ⊎_elim, ◌≤◌, ℕ, suc, zero, Bool, true, false, refl, sym, ◌∙◌, ap, subst, arith, List, [], ◌∷◌, ◌++◌, map, reverse, append_assoc, length, Option, Some, None}
use Rattle.std.specs.Prelude.{filter}
use Rattle.std.proofs.lemmas.List.{reverse-append, reverse-reverse}
use Rattle.std.specs.List.{flat_map}
use Rattle.lr_rules.specs.declared.clock.Clock.{Clock}
use Rattle.lr_rules.specs.declared.fault.Fault.{Fault}
use Rattle.lr_rules.specs.declared.fault.Fault.TheVariants as fault
use Rattle.lr_rules.specs.declared.fault.Phase.{Phase}
use Rattle.lr_rules.specs.declared.path.Path.{Path}
use Rattle.lr_rules.specs.declared.rule.Rule.{Rule}
use Rattle.lr_rules.specs.declared.rules.Rules.{Rules}
use Rattle.lr_rules.specs.Names.{IsOwnName, IsName}
use Rattle.lr_rules.specs.Path.{parent_of}
use Rattle.lr_rules.specs.StatePath.{state_part}
use Rattle.lr_due.specs.declared.answer.Due.{Due}
use Rattle.lr_host.specs.declared.entry.Entry.{Entry}
use Rattle.lr_host.specs.declared.entry.Entry.TheVariants as entry
use Rattle.lr_host.specs.declared.journal.Journal.{Journal}
use Rattle.lr_host.specs.declared.thing.Seen.{Seen}
use Rattle.lr_host.specs.declared.thing.Thing.{Thing}
use Rattle.lr_host.specs.declared.thing.Thing.TheVariants as thing
use Rattle.lr_host.specs.Counted.{calls_in, bad_scripts_in, RoseBy}
use Rattle.lr_host.specs.Fits.{IsFileAt, SeesThing}
use Rattle.lr_host.specs.Lists.{IsIn}
use Rattle.lr_host.specs.Looks.{IsDir}
use Rattle.lr_host.specs.Opening.{IsJournal}
use Rattle.lr_host.specs.Quiet.{IsQuiet, AreQuiet, ChangeNothing}
use Rattle.lr_host.specs.Steps.{is_change}
use Rattle.lr_host.specs.Told.{Each, Made, Rose}
use Rattle.lr_host.specs.World.{Past, past, World, world, names}
use Rattle.lr_host.proofs.Each.{each_append, each_as, each_in_order}
use Rattle.lr_host.proofs.Lists.{in_front, in_back, in_reverse, from_reverse}
use Rattle.lr_host.proofs.Looked.{seen_none}
use Rattle.lr_host.proofs.Made.{made_journal, made_on}
use Rattle.lr_host.proofs.More.{file_more}
use Rattle.lr_host.proofs.Quiet.{IsAny, Moment as Look, moment, made_quiet, quiet_both, quiet_more, quiet_same, quiet_still, since_any, since_as, since_before, still_both, still_reverse}
use Rattle.lr_host.proofs.Closed.{same_or_not}
use Rattle.lr_scripts.specs.declared.command.Command.{Command}
use Rattle.lr_copy.specs.declared.job.Job.{Job}
use Rattle.lr_laws_acts.specs.Jobs.{jobs_of}
use Rattle.lr_plan.specs.Asked.{Asked}
use Rattle.lr_plan.specs.declared.looks.LogLook.{LogLook}
use Rattle.lr_plan.specs.declared.mark.Mark.{Mark}
use Rattle.lr_plan.specs.declared.plan.Plan.{Plan}
use Rattle.lr_plan.specs.declared.plan.SetPlan.{SetPlan}
use Rattle.lr_plan.specs.declared.step.Step.{Step}
use Rattle.lr_plan.specs.declared.step.Step.TheVariants.{Runs}
use Rattle.lr_plan.specs.Course.{Course}
use Rattle.lr_plan.specs.Done.{ActsDone, rotated_logs}
use Rattle.lr_plan.specs.Planned.{decision}
use Rattle.lr_plan.specs.Steps.{steps_of_plan, steps_of_set, state_steps}
use Rattle.lr_acts.specs.Making.{all_of_sets}
use Rattle.lr_acts.specs.Taken.{LastTaken, OneTakes, WasTaken}
use Rattle.lr_state.specs.Sights.{state_entries}
use Rattle.lr_state.proofs.Quiet.{state_quiet}
use Rattle.lr_laws.proofs.Lists.{made_prefix}
use Rattle.lr_laws_rotations.specs.AllTurns.{IsOfSome, IsOfState}
use Rattle.lr_laws_rotations.specs.Target.{Target, IsMissingDir, IsDirSeenBy}
use Rattle.lr_laws_rotations.specs.Seen.{AreLogsSeen}
use Rattle.lr_laws_rotations.proofs.LogSeen.{log_among}
use Rattle.lr_laws_acts.specs.Fitting.{DontMeet}
use Rattle.lr_laws_acts.specs.Planned.{AreReadyFor}
use Rattle.lr_laws_acts.proofs.Parting.{done_some}
use Rattle.lr_laws_acts.proofs.Planning.{ready_planned}
use Rattle.lr_looks.specs.Reserved.{reserved_by}
use Rattle.lr_laws_looks.specs.Free.{IsFreeOf}
use Rattle.lr_laws_looks.specs.Targets.{groups_of, all_targets}
use Rattle.lr_laws_looks.proofs.Apart.{targets_apart, targets_dont_meet}
use Rattle.lr_laws_looks.proofs.Coming.{Comes, comes_from}
use Rattle.lr_laws_looks.proofs.Elements.{each_in, in_each}
use Rattle.lr_laws_looks.proofs.Free.{targets_free}
use Rattle.lr_laws_looks.proofs.Ready.{plans_have_logs}
use Rattle.lr_laws_looks.proofs.Seen.{targets_have_names, targets_seen}
use Rattle.lr_laws_looks.specs.True.{AreTrue}
use Rattle.lr_laws_looks.proofs.All.{looks_true}
use Rattle.lr_run.specs.Copied.{IsOfCopy}
use Rattle.lr_looks.specs.Inside.{Inside}
use Rattle.lr_run.specs.InternalRuns.{Looked, Worked, plan_in, state_text}
use Rattle.lr_run.specs.Paths.{dirs_in}
use Rattle.lr_run.proofs.Shape.{sees_quiet, seen_quiet, looked_parts, all_of_state}
use Rattle.lr_laws_plan.specs.Fulfilled.{NothingFailed}
use Rattle.lr_laws_plan.proofs.Looking.{Looking, looking}
use Rattle.lr_laws_plan.specs.Smooth.{IsSmooth}
use Rattle.lr_laws_plan.proofs.Clearing.{ClearsFirst, clears_on, clears_log, course_clears}
use Rattle.lr_run.proofs.Courses.{OfLog, sets_done, either, sets_so, all_sets}
use Rattle.lr_laws_plan.proofs.Dirs.{made_by_one, dir_apart, some_give, state_gives, calm_gives, of_changes, course_saw}
use Rattle.lr_laws_plan.proofs.Long.{FitCopies, fit_on, fit_log, ReadsOver, over_in, over_back, course_over, never_over}
use Rattle.lr_laws_plan.proofs.Making.{GivesNoFile, SawOther, other_front, other_back, never_other}
use Rattle.lr_run.proofs.Members.{HaveMembers, seen_members, part_own, all_ready}
use Rattle.lr_run.proofs.Guarding.{IsOfOne}
use Rattle.lr_laws_plan.proofs.Naming.{Avoids, Spared}
use Rattle.lr_laws_plan.proofs.Once.{each_ready, logs_aside, logs_at_most, sets_aside, sets_once}
use Rattle.lr_laws_plan.proofs.Jobs.{job_in_logs, job_in_sets}
use Rattle.lr_laws_plan.proofs.Stale.{part_seen, part_known}
use Rattle.lr_laws_plan.proofs.Steps.{OnceNamed, once_first, once_last, once_later, one_split, Tells, course_tells, sets_tell, tells_on}
use Rattle.lr_laws_plan.proofs.Taken.{never_taken}
use Rattle.lr_laws_plan.proofs.Writing.{state_none, state_clears, state_takes, state_once, state_fits, log_takes}

-- ---- counts

pub none_rose : (n before now : ℕ) → RoseBy n before now → (Rose before now → ⊥) → n ≡ 0
none_rose zero before now r none = refl
none_rose (suc n) before now r none = absurd (none (omega (arith, r)))

-- ---- quiet entries

quiet_avoids : (x : Path) (e : Entry) → IsQuiet e → Avoids x e
quiet_avoids x (entry.Renames from to) i = let h : is_change (entry.Renames from to) ≡ false = i.1 in absurd (cc)
quiet_avoids x (entry.Makes y mode) i = let h : is_change (entry.Makes y mode) ≡ false = i.1 in absurd (cc)
quiet_avoids x (entry.MakesDir y mode) i = let h : is_change (entry.MakesDir y mode) ≡ false = i.1 in absurd (cc)
quiet_avoids x _ i = tt

-- ---- what is told as taken

-- Each path that one of these faults tells as taken, and that, however the state is written, no step of the plan or of the writing unlinks behind the one that needs it, was named at a moment from which on the tool unlinked it no more.
abbrev pub WereTaken : Path → Plan → List Fault → Journal → Journal → Type 0
WereTaken state plan faults before after =
    (x : Path) → ((stale : Bool) (dirs : List Path) (text : List ℕ) → LastTaken x (all_of_sets (steps_of_plan plan) ++ state_steps state stale dirs text)) → IsIn (fault.Taken x) faults → WasTaken x (Some before) (Some after)

-- ---- the run

module _ (state : Path) (asked : Asked) (clock : Clock) (rules : Rules) (own : List Fault) (j k : Journal) (es reads acts : List Entry) (made : Made (past j) es (past k)) (journal : IsJournal (past j)) (joined : reverse es ≡ reads ++ acts) (quiet : AreQuiet reads)
    (i : Inside state clock rules (Worked state rules.sets clock asked own) acts)
    (smooth : IsSmooth state (jobs_of (plan_in state rules.sets i.between i.within.looked clock asked).sets) (dirs_in (plan_in state rules.sets i.between i.within.looked clock asked)) (past j) (past k)) where
  abbrev p : Past
  p = past j

  abbrev q : Past
  q = past k

  abbrev w : Worked state rules.sets clock asked own i.between
  w = i.within

  abbrev l : Looked state rules.sets i.between
  l = w.looked

  abbrev plan : Plan
  plan = plan_in state rules.sets i.between l clock asked

  abbrev start : Entry
  start = entry.Starts state clock.now rules

  abbrev front : List Entry
  front = reads ++ i.before

  abbrev seen : List Entry
  seen = l.reads ++ l.looks

  abbrev later : List Entry
  later = l.acts ++ entry.Ends ∷ []

  abbrev decide : Rule → LogLook → Due
  decide = decision l.remembered.table clock.now asked.force

  abbrev targets : List Target
  targets = all_targets clock decide rules.sets l.sets

  abbrev text : List ℕ
  text = state_text state rules.sets i.between l clock (rotated_logs w.acted.marks)

  -- ---- its logs

  logs_seen : AreLogsSeen rules clock l.looks targets
  logs_seen = targets_seen rules l.sets l.of_looks l.looks clock decide l.shown

  members : HaveMembers targets
  members t one = seen_members rules clock l.looks t (log_among rules clock l.looks targets logs_seen t one)

  apart : DontMeet targets
  apart = targets_dont_meet rules.sets l.sets l.of_looks l.looks clock decide l.shown

  ready : AreReadyFor targets (flat_map (λ (set : SetPlan). set.logs) plan.sets)
  ready = all_ready (groups_of clock decide rules.sets l.sets) plan.sets (plans_have_logs rules.sets l.sets l.of_looks l.looks clock asked.mailer decide l.shown)

  comes : (t : Target) → IsIn t targets → Comes clock rules.sets l.sets t
  comes t one = comes_from clock decide rules.sets l.sets t one

  free : (t : Target) → IsIn t targets → IsFreeOf (reserved_by state) t
  free t one = in_each (IsFreeOf (reserved_by state)) targets t (targets_free rules.sets l.sets l.of_looks l.looks clock decide l.shown) one

  no_state : (t : Target) → IsIn t targets → (x : Path) → IsName t.log t.naming x → state ≡ x → ⊥
  no_state t one x named same = free t one x (inl same) named

  no_part : (t : Target) → IsIn t targets → (x : Path) → IsName t.log t.naming x → state_part state ≡ x → ⊥
  no_part t one x named same = free t one x (inr (inl same)) named

  -- ---- its moments

  by_looks : reverse es ≡ (front ++ start ∷ []) ++ (seen ++ later)
  by_looks = joined ∙ (ap (λ (xs : List Entry). reads ++ xs) i.entries ∙ (sym (append_assoc reads i.before (start ∷ (i.between ++ entry.Ends ∷ [])))
      ∙ (sym (append_assoc front (start ∷ []) (i.between ++ entry.Ends ∷ []))
      ∙ ap (λ (xs : List Entry). (front ++ start ∷ []) ++ xs) (ap (λ (xs : List Entry). xs ++ entry.Ends ∷ []) (looked_parts state rules.sets i.between l) ∙ append_assoc seen l.acts (entry.Ends ∷ [])))))

  abbrev at : Looking p q (front ++ start ∷ []) seen later
  at = looking p q es (front ++ start ∷ []) seen later made by_looks

  are_true : AreTrue rules.sets l.shown.entries.first.sights l.sets at.at at.looked
  are_true = looks_true rules l.sets l.of_looks l.reads l.looks (reverse seen) at.at at.looked l.shown (made_journal p at.at (reverse (front ++ start ∷ [])) at.since journal) at.between (reverse-reverse seen) (state_quiet state 65_536 l.sights l.reads l.read)

  front_quiet : AreQuiet front
  front_quiet = quiet_both reads i.before quiet (sees_quiet (parent_of state) IsDir i.before i.directory)

  began : Made p (start ∷ reverse front) at.at
  began = subst (λ (us : List Entry). Made p us at.at) (reverse-append front (start ∷ [])) at.since

  began_still : ChangeNothing (start ∷ reverse front)
  began_still = still_reverse front (quiet_still front front_quiet)

  file_stands : (x : Path) → IsFileAt (names (world p)) x → IsFileAt (names (world at.at)) x
  file_stands x file = file_more (names (world p)) (names (world at.at)) x (quiet_more IsAny p at.at (made_quiet IsAny p at.at (start ∷ reverse front) (since_any p at.at (start ∷ reverse front) began) began began_still)) file

  looked : Made p (reverse seen ++ (start ∷ reverse front)) at.looked
  looked = made_on p at.at at.looked (start ∷ reverse front) (reverse seen) began at.between

  looked_still : ChangeNothing (reverse seen ++ (start ∷ reverse front))
  looked_still = still_both (reverse seen) (start ∷ reverse front) (still_reverse seen (quiet_still seen (seen_quiet state rules.sets i.between l))) began_still

  -- ---- what the looks saw

  -- the path is that of no file that is written first, and of no directory that is made
  abbrev IsBeside : Path → Type 0
  IsBeside y = (y ≢ state_part state) × (((job : Job) → IsIn job (jobs_of plan.sets) → job.part ≢ y) × (IsIn y (dirs_in plan) → ⊥))

  -- no writer was attached to another
  spared_at : (x : Path) → ((y : Path) → IsBeside y → y ≡ x → ⊥) → Spared x p q
  spared_at x other = since_as IsBeside (λ y. y ≢ x) p q other smooth.spared

  -- the copy of a log of the plan is one of the plan's
  planned : (t : Target) → IsIn t targets → (job : Job) → t.job ≡ Some job → IsIn job (jobs_of plan.sets)
  planned t one job is = job_in_sets plan.sets job (job_in_logs targets (flat_map (λ (set : SetPlan). set.logs) plan.sets) ready t one job is)

  -- so a look at it saw what stood there at first
  seen_at_first : (x : Path) (o : Option Seen) → Spared x p q → IsIn (entry.Look x o) seen → (w : World) × SeesThing w (names (world p) x) o
  seen_at_first x o spared i = (world t.at, subst (λ (there : Thing). SeesThing (world t.at) there o) (quiet_same (λ y. y ≢ x) p t.at x t.since (λ no. no refl)) t.fits)
    where
      t : Look (λ y. y ≢ x) p at.looked (entry.Look x o)
      t = moment (λ y. y ≢ x) p at.looked (entry.Look x o) (reverse seen ++ (start ∷ reverse front))
          (since_before (λ y. y ≢ x) p at.looked q (reverse seen ++ (start ∷ reverse front)) (reverse later) looked at.until spared) looked looked_still
          (in_front (entry.Look x o) (reverse seen) (start ∷ reverse front) (in_reverse (entry.Look x o) seen i))

  none_at_first : (x : Path) → Spared x p q → IsIn (entry.Look x None) seen → names (world p) x ≡ thing.Nothing
  none_at_first x spared i = let s = seen_at_first x None spared i in seen_none s.0 (names (world p) x) s.1

  -- ---- old part files

  seen_stale : (t : Target) → IsIn t targets → (job : Job) → t.job ≡ Some job → IsFileAt (names (world p)) job.part → job.stale ≡ true
  seen_stale t one job is file = part_seen rules.sets l.sets l.of_looks l.looks l.shown t (comes t one) l.shown.entries.first.sights at.at at.looked are_true (members t one) job is (file_stands job.part file)

  state_spared : Spared (state_part state) p q
  state_spared = spared_at (state_part state) (λ y beside same. beside.0 same)

  state_stale : (names (world p) (state_part state) ≡ thing.Nothing) ⊎ (l.remembered.stale ≡ true)
  state_stale = ⊎_elim (λ stale. inr stale) (λ none. inl (nothing none)) (part_known state l.remembered l.sights l.known)
    where
      nothing : IsIn (entry.Look (state_part state) None) (state_entries state l.sights) → names (world p) (state_part state) ≡ thing.Nothing
      nothing h = none_at_first (state_part state) state_spared (in_front (entry.Look (state_part state) None) l.reads l.looks (subst (IsIn (entry.Look (state_part state) None)) (sym l.read.entries) h))

  -- ---- all entries

  whole : reverse es ≡ front ++ (start ∷ (i.between ++ entry.Ends ∷ []))
  whole = joined ∙ (ap (λ (xs : List Entry). reads ++ xs) i.entries ∙ sym (append_assoc reads i.before (start ∷ (i.between ++ entry.Ends ∷ []))))

  in_all : (e : Entry) → IsIn e l.acts → IsIn e es
  in_all e h = from_reverse e es (subst (IsIn e) (sym whole) (in_back e front _ (inr (in_front e i.between (entry.Ends ∷ []) (subst (IsIn e) (sym (looked_parts state rules.sets i.between l)) (in_back e seen l.acts h))))))

  -- what holds of each quiet one, of the start and of the end, holds of all where it holds of the acts
  all_are : (P : Entry → Type 0) → ((e : Entry) → IsQuiet e → P e) → P start → P entry.Ends → Each P l.acts → Each P es
  all_are P quiets starts ends a = each_in_order P es (subst (Each P) (sym whole)
      (each_append P front _ (each_as IsQuiet P front quiets front_quiet)
      (starts, each_append P i.between (entry.Ends ∷ []) (subst (Each P) (sym (looked_parts state rules.sets i.between l)) (each_append P seen l.acts (each_as IsQuiet P seen quiets (seen_quiet state rules.sets i.between l)) a)) (ends, tt))))

  -- ---- its acts

  abbrev a : ActsDone plan state l.remembered.stale (λ made. w.acted.dirs) (state_text state rules.sets i.between l clock) w.acted.marks w.acted.of_acts l.acts
  a = w.acted.entries

  tells : (x : Path) → Tells x (all_of_sets (steps_of_plan plan) ++ state_steps state l.remembered.stale w.acted.dirs text) w.acted.of_acts l.acts
  tells x = tells_on x (all_of_sets (steps_of_plan plan)) (state_steps state l.remembered.stale w.acted.dirs text) w.acted.of_acts a.of_plan a.of_state l.acts a.entries.front a.entries.back a.faults_are a.entries.joined
      (sets_tell x (steps_of_plan plan) w.acted.marks a.of_plan a.entries.front a.entries.first) (course_tells x (state_steps state l.remembered.stale w.acted.dirs text) [] a.of_state a.entries.back a.entries.second)

  -- where an old file at the path was seen, it was unlinked
  cleared : (x : Path) → ((t : Target) → IsIn t targets → (job : Job) → t.job ≡ Some job → job.part ≡ x → job.stale ≡ true) → (state_part state ≡ x → l.remembered.stale ≡ true) → IsIn (fault.Taken x) w.acted.of_acts → IsIn (entry.Unlinks x) l.acts
  cleared x logs own_stale h = either (ClearsFirst x) (fault.Taken x) (IsIn (entry.Unlinks x)) (in_front (entry.Unlinks x)) (in_back (entry.Unlinks x)) (course_clears x) w.acted.of_acts a.of_plan a.of_state l.acts a.entries.front a.entries.back a.faults_are a.entries.joined
      (sets_done (ClearsFirst x) (fault.Taken x) (IsIn (entry.Unlinks x)) (in_front (entry.Unlinks x)) (in_back (entry.Unlinks x)) (course_clears x) (steps_of_plan plan) w.acted.marks a.of_plan a.entries.front
      (sets_so (ClearsFirst x) tt (clears_on x) (λ phase about c. inr (λ none. none, tt)) plan.sets
      (each_ready (OfLog (ClearsFirst x) tt (clears_on x) (λ phase about c. inr (λ none. none, tt))) targets plan.sets ready (λ t log one r. clears_log x log (λ job is same. logs t one job (sym r.job_is ∙ is) same))))
      a.entries.first)
      (course_clears x (state_steps state l.remembered.stale w.acted.dirs text) [] a.of_state a.entries.back (state_clears state l.remembered.stale w.acted.dirs text x own_stale (same_or_not (state_part state) x)) a.entries.second)
      h

  -- ---- who needed the path

  record IsPartOf (x : Path) : Type 0 where
    target : Target
    one : IsIn target targets
    job : Job
    is : target.job ≡ Some job
    part : job.part ≡ x

  needed : (x : Path) → OneTakes x (all_of_sets (steps_of_plan plan) ++ state_steps state l.remembered.stale w.acted.dirs text) → (state_part state ≡ x) ⊎ IsPartOf x
  needed x t = ⊎_elim (λ b. inr (of_logs b)) (λ b. inl (state_takes state l.remembered.stale w.acted.dirs text x b)) (one_split x (all_of_sets (steps_of_plan plan)) (state_steps state l.remembered.stale w.acted.dirs text) t)
    where
      Q : List Step → Type 0
      Q ss = OneTakes x ss → IsPartOf x

      none : Q []
      none h = absurd h

      on : (xs ys : List Step) → Q xs → Q ys → Q (xs ++ ys)
      on xs ys b c h = ⊎_elim b c (one_split x xs ys h)

      runs : (phase : Phase) (about : List ℕ) (c : Command) → Q (Runs phase about c ∷ [])
      runs phase about c h = ⊎_elim (λ none. absurd none) (λ none. absurd none) h

      of_logs : Q (all_of_sets (steps_of_plan plan))
      of_logs = all_sets Q none on runs (steps_of_plan plan) (sets_so Q none on runs plan.sets
          (each_ready (OfLog Q none on runs) targets plan.sets ready (λ t log one r. log_takes (IsPartOf x) x log (λ job is same. record { target = t; one = one; job = job; is = sym r.job_is ∙ is; part = same }))))

  -- ---- no path was taken

  module _ (taken : WereTaken state plan w.acted.of_acts j k) where
    -- nothing stood there, or what stood was unlinked; and the path is named once
    not_so : (x : Path) → Spared x p q → ((stale : Bool) (dirs : List Path) (bytes : List ℕ) → OnceNamed x (all_of_sets (steps_of_plan plan) ++ state_steps state stale dirs bytes))
        → (names (world p) x ≡ thing.Nothing) ⊎ IsIn (entry.Unlinks x) l.acts → IsIn (fault.Taken x) w.acted.of_acts → ⊥
    not_so x spared once at_first h = never_taken x j k es made spared
        (all_are (Avoids x) (quiet_avoids x) tt tt ((tells x).once (once l.remembered.stale w.acted.dirs text) h))
        (⊎_elim (λ nothing. inl nothing) (λ gone. inr (in_all (entry.Unlinks x) gone)) at_first)
        (taken x (λ stale dirs bytes. once_last x _ (once stale dirs bytes)) h)

    state_not : IsIn (fault.Taken (state_part state)) w.acted.of_acts → ⊥
    state_not h = not_so (state_part state) state_spared
        (λ stale dirs bytes. once_later (state_part state) (all_of_sets (steps_of_plan plan)) (state_steps state stale dirs bytes)
        (sets_aside (state_part state) plan.sets (logs_aside (state_part state) targets _ ready members (λ t one named. no_part t one (state_part state) named refl))) (state_once state stale dirs bytes))
        (⊎_elim (λ nothing. inl nothing) (λ stale. inr (cleared (state_part state)
        (λ t one job is same. absurd (no_part t one (state_part state) (inl (subst (IsOwnName t.log t.naming) same (part_own t (members t one) job is))) refl)) (λ same. stale) h))
        state_stale) h

    part_not : (x : Path) → IsPartOf x → IsIn (fault.Taken x) w.acted.of_acts → ⊥
    part_not x o h = not_so x spared
        (λ stale dirs bytes. once_first x (all_of_sets (steps_of_plan plan)) (state_steps state stale dirs bytes)
        (sets_once x plan.sets (logs_at_most x targets _ ready members apart o.target o.one o.job o.is o.part))
        (state_none state stale dirs bytes x (no_state o.target o.one x (inl mine)) (no_part o.target o.one x (inl mine))))
        (⊎_elim (λ nothing. inl (subst (λ (y : Path). names (world p) y ≡ thing.Nothing) o.part nothing))
        (λ file. inr (cleared x (λ t one job is same. seen_stale t one job is (subst (IsFileAt (names (world p))) (o.part ∙ sym same) file)) (λ same. absurd (no_part o.target o.one x (inl mine) same)) h))
        (smooth.free o.job (planned o.target o.one o.job o.is))) h
      where
        mine : IsOwnName o.target.log o.target.naming x
        mine = subst (IsOwnName o.target.log o.target.naming) o.part (part_own o.target (members o.target o.one) o.job o.is)

        spared : Spared x p q
        spared = spared_at x (λ y beside same. beside.1.0 o.job (planned o.target o.one o.job o.is) (o.part ∙ sym same))

    -- by the acts
    acts_take_none : (x : Path) → IsIn (fault.Taken x) w.acted.of_acts → ⊥
    acts_take_none x h = ⊎_elim (λ same. state_not (subst (λ (y : Path). IsIn (fault.Taken y) w.acted.of_acts) (sym same) h)) (λ o. part_not x o h) (needed x ((tells x).planned h))

  -- ---- no file was too long

  -- a copy of the plan is of this file, with this limit
  abbrev IsLimited : Path → ℕ → Type 0
  IsLimited from limit = (job : Job) × IsIn job (jobs_of plan.sets) × (job.from ≡ from) × (job.limit ≡ limit)

  limited : (t : Target) → IsIn t targets → (job : Job) → t.job ≡ Some job → IsLimited job.from job.limit
  limited t one job is = (job, planned t one job is, refl, refl)

  read_over : (x : Path) → IsIn (fault.TooLong x) w.acted.of_acts → ReadsOver IsLimited x l.acts
  read_over x h = either (FitCopies IsLimited) (fault.TooLong x) (ReadsOver IsLimited x) (over_in IsLimited x) (over_back IsLimited x) (course_over IsLimited x) w.acted.of_acts a.of_plan a.of_state l.acts a.entries.front a.entries.back a.faults_are a.entries.joined
      (sets_done (FitCopies IsLimited) (fault.TooLong x) (ReadsOver IsLimited x) (over_in IsLimited x) (over_back IsLimited x) (course_over IsLimited x) (steps_of_plan plan) w.acted.marks a.of_plan a.entries.front
      (sets_so (FitCopies IsLimited) tt (fit_on IsLimited) (λ phase about c. (tt, tt)) plan.sets
      (each_ready (OfLog (FitCopies IsLimited) tt (fit_on IsLimited) (λ phase about c. (tt, tt))) targets plan.sets ready (λ t log one r. fit_log IsLimited log (λ job is. limited t one job (sym r.job_is ∙ is)))))
      a.entries.first)
      (course_over IsLimited x (state_steps state l.remembered.stale w.acted.dirs text) [] a.of_state a.entries.back (state_fits state l.remembered.stale w.acted.dirs text IsLimited) a.entries.second)
      h

  not_long : (x : Path) → IsIn (fault.TooLong x) w.acted.of_acts → ⊥
  not_long x h = never_over IsLimited x p q es made
      (record { limit = r.limit; fits = r.fits; place = r.place; piece = r.piece; some = r.some; over = r.over; read = in_all (entry.Reads x r.place r.piece) r.read })
      (λ limit c m old new first second g is. subst (λ (n : ℕ). length ((world m).files g).bytes ≤ n) c.3 (smooth.short c.0 c.1 m (made_prefix p m old first) (made_prefix m q new second) g (subst (λ (y : Path). names (world m) y ≡ thing.File g) (sym c.2) is)))
    where
      r : ReadsOver IsLimited x l.acts
      r = read_over x h

  -- ---- nothing else stood at the path of a directory that is made

  module _ (dir : Path) (making : IsIn dir (dirs_in plan)) where
    -- the looks saw nothing there
    abbrev m : IsOfOne targets dir
    m = made_by_one targets plan.sets dir ready making

    abbrev t : Target
    t = m.target

    missing : IsMissingDir t.log t.naming t.stand.members t.job l.looks dir
    missing = subst (λ (d : Option (Path × Option ℕ)). IsDirSeenBy d t.log t.naming t.stand.members t.job l.looks) m.its.1 (log_among rules clock l.looks targets logs_seen t m.one).dir

    spared : Spared dir p q
    spared = spared_at dir (λ y beside same. beside.1.1 (subst (λ (z : Path). IsIn z (dirs_in plan)) (sym same) making))

    nothing : names (world p) dir ≡ thing.Nothing
    nothing = none_at_first dir spared (in_back (entry.Look dir None) l.reads l.looks missing.gone)

    -- none of the acts gives it a file
    no_own : (u : Target) → IsIn u targets → IsOwnName u.log u.naming dir → ⊥
    no_own u one = dir_apart targets apart t u dir m.one one (members t m.one).dir m.its

    of_plan : Each (GivesNoFile dir) a.entries.front
    of_plan = of_changes dir a.entries.front (each_as (IsOfSome targets) (GivesNoFile dir) (filter is_change a.entries.front)
        (some_give dir targets (targets_have_names rules l.sets l.of_looks l.looks clock decide l.shown) members no_own)
        (done_some targets (map steps_of_set plan.sets) w.acted.marks a.of_plan a.entries.front
        (ready_planned (groups_of clock decide rules.sets l.sets) plan.sets (plans_have_logs rules.sets l.sets l.of_looks l.looks clock asked.mailer decide l.shown) (targets_apart rules.sets l.sets l.of_looks l.looks clock decide l.shown)) a.entries.first))

    of_writing : Each (GivesNoFile dir) a.entries.back
    of_writing = of_changes dir a.entries.back (each_as (IsOfState state) (GivesNoFile dir) (filter is_change a.entries.back)
        (state_gives dir state (no_state t m.one dir (inr missing.dir_is)) (no_part t m.one dir (inr missing.dir_is)))
        (all_of_state state rules.sets clock asked own i.between w))

    given : Each (GivesNoFile dir) es
    given = all_are (GivesNoFile dir) (λ e quiet. calm_gives dir e quiet.1) tt tt (subst (Each (GivesNoFile dir)) (sym a.entries.joined) (each_append (GivesNoFile dir) a.entries.front a.entries.back of_plan of_writing))

    -- so none of the looks of the acts saw another kind of thing there
    abbrev Any : List Step → Type 0
    Any steps = Unit {0}

    course : (steps : List Step) (ms : List Mark) (fs : List Fault) (ts : List Entry) → Any steps → Course steps ms fs ts → IsIn (fault.NotFile dir) fs → SawOther dir ts
    course steps ms fs ts any c = course_saw dir steps ms fs ts c

    by_acts : IsIn (fault.NotFile dir) w.acted.of_acts → ⊥
    by_acts b = never_other dir p q es made spared given nothing (record { seen = s.seen; other = s.other; look = in_all (entry.Look dir (Some s.seen)) s.look })
      where
        s : SawOther dir l.acts
        s = either Any (fault.NotFile dir) (SawOther dir) (other_front dir) (other_back dir) course w.acted.of_acts a.of_plan a.of_state l.acts a.entries.front a.entries.back a.faults_are a.entries.joined
            (sets_done Any (fault.NotFile dir) (SawOther dir) (other_front dir) (other_back dir) course (steps_of_plan plan) w.acted.marks a.of_plan a.entries.front
            (sets_so Any tt (λ xs ys h k. tt) (λ phase about c. tt) plan.sets (each_ready (OfLog Any tt (λ xs ys h k. tt) (λ phase about c. tt)) targets plan.sets ready (λ u log one r. (tt, tt))))
            a.entries.first)
            (course_saw dir (state_steps state l.remembered.stale w.acted.dirs text) [] a.of_state a.entries.back a.entries.second)
            b

  -- ---- nothing failed

  pub acts_fail_nothing : WereTaken state plan w.acted.of_acts j k → calls_in w.acted.of_acts ≡ 0 → bad_scripts_in w.acted.of_acts ≡ 0 → NothingFailed state (dirs_in plan) w.acted.of_acts
  acts_fail_nothing taken no_call no_end = record {
    met = record { no_call = no_call; no_end = no_end; no_copy = each_in (λ f. IsOfCopy f → ⊥) w.acted.of_acts no_copy; no_other = λ dir making told. by_acts dir making told };
    not_taken = acts_take_none taken (state_part state);
  }
    where
      no_copy : (f : Fault) → IsIn f w.acted.of_acts → IsOfCopy f → ⊥
      no_copy (fault.TooLong x) h c = not_long x h
      no_copy (fault.Taken x) h c = acts_take_none taken x h
      no_copy _ h c = c
