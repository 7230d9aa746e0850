-- A set whose log is set aside: where each unlink of the path where it waits is behind a copy from there, the log is let go whole.
use Rattle.std.proofs.Common.{◌≡◌, ◌≢◌, ◌⊎◌, inl, inr, ⊎_elim, Bool, true, false, ◌&&◌, is_some, bytes_eq, refl, sym, ◌∙◌, ap, subst, List, [], ◌∷◌, ◌++◌, map, reverse, append_assoc, append-nil, Option, Some, None, Result, Ok, Err}
use Rattle.std.specs.Prelude.{All}
use Rattle.std.specs.List.{flat_map}
use Rattle.std.proofs.lemmas.List.{reverse-append, reverse-reverse}
use Rattle.std.proofs.lemmas.List.Elements.{All-nil, All-cons, All-head, All-tail}
use Rattle.std.proofs.lemmas.Bool.{or_left, or_right}
use Rattle.std.proofs.lemmas.Slice.Eq.{bytes_eq-Decides}
use Rattle.lr_rules.specs.declared.clock.Clock.{Clock}
use Rattle.lr_rules.specs.declared.fault.Fault.{Fault}
use Rattle.lr_rules.specs.declared.rule.Rule.{Rule}
use Rattle.lr_rules.specs.declared.rule.Way.TheVariants.{RenameCopy}
use Rattle.lr_rules.specs.declared.rules.Rules.{Rules}
use Rattle.lr_rules.specs.declared.path.Path.{Path}
use Rattle.lr_rules.specs.declared.rule.Naming.{Naming}
use Rattle.lr_rules.specs.Path.{parent_of}
use Rattle.lr_rules.specs.Names.{aside_path, IsOwnName, set_aside}
use Rattle.lr_rules.specs.StatePath.{state_part}
use Rattle.lr_rules.proofs.Bools.{not_both}
use Rattle.lr_host.specs.declared.journal.Journal.{Journal}
use Rattle.lr_host.specs.declared.entry.Entry.{Entry}
use Rattle.lr_host.specs.declared.entry.Entry.TheVariants.{Starts, Ends, Unlinks}
use Rattle.lr_host.specs.Looks.{IsDir}
use Rattle.lr_host.specs.Steady.{IsSteadyBy}
use Rattle.lr_host.specs.Lists.{IsIn}
use Rattle.lr_host.specs.Opening.{IsJournal}
use Rattle.lr_host.specs.Quiet.{IsQuiet, AreQuiet}
use Rattle.lr_host.specs.Safe.{IsPrefix, shorter, IsSafe}
use Rattle.lr_host.specs.Sets.{LogSet, IsAsideOf, is_unplaced, in_reach}
use Rattle.lr_host.specs.Told.{Made, at_first, by_tool, Left, not_told, is_told}
use Rattle.lr_host.specs.World.{Past, ◌▸◌, past}
use Rattle.lr_host.proofs.Each.{each_as}
use Rattle.lr_host.proofs.Lists.{in_front, in_back}
use Rattle.lr_host.proofs.Made.{Cut, cut, made_journal, made_on}
use Rattle.lr_host.proofs.Quiet.{since_as, since_before, since_behind}
use Rattle.lr_laws.proofs.Outside.{apart_outside}
use Rattle.lr_laws.proofs.Lists.{IsOnWay, on_way, made_prefix}
use Rattle.lr_family.specs.Parts.{part_of, IsMember, IsMembersPart}
use Rattle.lr_scripts.specs.declared.removal.Removal.{Removal}
use Rattle.lr_copy.specs.declared.job.Job.{Job}
use Rattle.lr_copy.specs.Fits.{ArePaths}
use Rattle.lr_laws_family.specs.Whole.{Named, WritersSpareCopy}
use Rattle.lr_laws_family.proofs.Moments.{IsLast, is_last}
use Rattle.lr_chain.specs.declared.ready.Ready.{Ready}
use Rattle.lr_move.specs.Moved.{CopiesAside, IsLetGo, LetsGoWhole, WritersSpareCopies, KeepsMovedWhere}
use Rattle.lr_move.proofs.LettingGo.{may_go}
use Rattle.lr_due.specs.declared.answer.Due.{Due}
use Rattle.lr_state.proofs.Quiet.{state_quiet}
use Rattle.lr_family.proofs.Names.{member_own}
use Rattle.lr_plan.specs.declared.looks.LogLook.{LogLook}
use Rattle.lr_plan.specs.declared.plan.Plan.{Plan}
use Rattle.lr_plan.specs.declared.plan.LogPlan.{LogPlan}
use Rattle.lr_plan.specs.declared.plan.SetPlan.{SetPlan}
use Rattle.lr_plan.specs.Asked.{Asked}
use Rattle.lr_plan.specs.Planned.{decision}
use Rattle.lr_plan.specs.Steps.{steps_of_plan}
use Rattle.lr_laws_acts.specs.LetGo.{CopiedFrom, UnlinksCopied, AreElsewhere, MayLetGo, MayAllLetGo}
use Rattle.lr_laws_acts.proofs.Letting.{Spares, both_copied, same_copied, spared_copied, plan_lets, sets_letting, sets_cut_letting, state_letting}
use Rattle.lr_laws_acts.proofs.CopiesWhole.{whole_since}
use Rattle.lr_laws_rotations.proofs.SetMembers.{keyless_no_member}
use Rattle.lr_laws_rotations.specs.Rotation.{removal_paths}
use Rattle.lr_laws_rotations.specs.Target.{Target, IsJob, HasWay, source_by}
use Rattle.lr_laws_rotations.proofs.Reached.{IsKnownFor, waits_at}
use Rattle.lr_laws_rotations.proofs.RunSafety.{known_targets, part_apart}
use Rattle.lr_laws_rotations.proofs.Safety.{quiet_call_safe_by}
use Rattle.lr_laws_rotations.proofs.Own.{family_members, target_member, named_own}
use Rattle.lr_laws_rotations.proofs.PartFile.{part_no_waiting, job_part}
use Rattle.lr_laws_rotations.proofs.Way.{aside_own}
use Rattle.lr_laws_acts.specs.Planned.{bare_removal, IsReadyFor, AreReadyFor, HaveLogs}
use Rattle.lr_laws_looks.specs.Targets.{groups_of, all_targets}
use Rattle.lr_laws_looks.proofs.Ready.{plans_have_logs}
use Rattle.lr_laws_looks.proofs.Seen.{targets_seen}
use Rattle.lr_run.specs.declared.answer.Ran.{Ran}
use Rattle.lr_run.specs.declared.answer.RunStop.{RunStop}
use Rattle.lr_run.specs.declared.answer.RunStop.TheVariants as stop
use Rattle.lr_run.specs.InternalAnswers.{Answers}
use Rattle.lr_run.specs.InternalRuns as runs
use Rattle.lr_run.specs.InternalRuns.{Looked, plan_in, Worked, Works, not_known, too_big, worked, Runs, no_directory, not_seen, not_begun, BrokeOff, at_first as at_none, in_looks, in_acts}
use Rattle.lr_run.proofs.Shape.{sees_quiet, some_quiet, seen_later, seen_quiet, looked_parts, in_parts}

-- The job copies the log of the set from where it waits to a member, by the part file of that.
pub record IsOwnCopy (s : LogSet) (job : Job) : Type 0 where
  pub aside : CopiesAside s job
  pub to_is : IsMember s.naming job.to
  pub part_is : job.part ≡ part_of job.to
  pub paths : ArePaths job

-- writers that spare the set's copies spare this one
spares : (s : LogSet) (job : Job) (p q : Past) → IsOwnCopy s job → WritersSpareCopies s p q → WritersSpareCopy job p q
spares s job p q own only = since_as (λ x. (s.key x ≡ None) × (IsMembersPart s.naming x → ⊥)) (λ x. (x ≢ job.part) × (x ≢ job.to)) p q
    (λ x h. ((λ same. h.1 (job.to, own.to_is, same ∙ own.part_is)), (λ same. own.aside.member (ap s.key (sym same) ∙ h.0)))) only

module _ (s : LogSet) (p q : Past) (es : List Entry) (made : Made p es q) (j : IsJournal p) (only : WritersSpareCopies s p q) where
  abbrev waiting : Path
  waiting = aside_path s.log

  abbrev last : Entry
  last = Unlinks waiting

  -- since an earlier moment
  let_since : (b u : Past) → IsPrefix p b → IsLetGo s b u → IsLetGo s p u
  unfolding whole_since
  let_since b u i l = record { to = l.to; member = l.member; whole = whole_since waiting l.to p b u i l.whole; other = l.other }

  just : (u : Past) (w : IsOnWay p (u ▸ last) q es) → IsLast p u last w.old → UnlinksCopied (IsOwnCopy s) waiting (reverse es) → IsLetGo s p u
  just u w k f = go (f (reverse k.front) (reverse w.new) all_are)
    where
      all_are : reverse es ≡ reverse k.front ++ (last ∷ reverse w.new)
      all_are = ap reverse (w.es_are ∙ ap (λ us. w.new ++ us) k.es_are) ∙ (reverse-append w.new (last ∷ k.front) ∙ (ap (λ us. us ++ reverse w.new) (reverse-append (last ∷ []) k.front) ∙ append_assoc (reverse k.front) (last ∷ []) (reverse w.new)))

      -- writers spared the copy up to here
      only_u : (job : Job) → IsOwnCopy s job → WritersSpareCopy job p u
      only_u job own = since_before _ p u q k.front (w.new ++ last ∷ []) k.made (made_on u (u ▸ last) q (last ∷ []) w.new (by_tool at_first tt k.fits) w.behind) (spares s job p q own only)

      go : CopiedFrom (IsOwnCopy s) waiting (reverse k.front) → IsLetGo s p u
      go c = from_there (cut p u k.front (reverse c.named) (reverse c.front) in_two k.made)
        where
          in_two : k.front ≡ reverse c.named ++ reverse c.front
          in_two = sym (reverse-reverse k.front) ∙ (ap reverse c.joined ∙ reverse-append c.front c.named)

          from_there : Cut p u (reverse c.named) (reverse c.front) → IsLetGo s p u
          from_there d = let_since d.mid u (made_prefix p d.mid (reverse c.front) d.first)
              (may_go s c.job c.count d.mid u (reverse c.named) d.second (made_journal p d.mid (reverse c.front) d.first j) c.is.paths
              (since_behind _ p d.mid u (reverse c.front) (reverse c.named) d.first d.second (only_u c.job c.is)) c.is.aside (subst (Named c.job c.count) (sym (reverse-reverse c.named)) c.is_named))

  pub lets_go_whole : UnlinksCopied (IsOwnCopy s) waiting (reverse es) → LetsGoWhole s p q
  lets_go_whole f u since until = behind (on_way p (u ▸ last) q es made (shorter since) until)
    where
      behind : IsOnWay p (u ▸ last) q es → IsLetGo s p u
      behind w = just u w (is_last p u (u ▸ last) last w.old (λ i. i) since w.before refl) f

-- ---- the logs of a plan at the path where the set's log waits

-- the set reaches the path where its log waits
waits_reached : (s : LogSet) → s.naming.aside ≡ true → in_reach s (aside_path s.log) ≡ true
waits_reached s asked = or_left (is_unplaced s (aside_path s.log)) (is_some (s.key (aside_path s.log)))
    (or_right (bytes_eq s.log (aside_path s.log)) (s.naming.aside && bytes_eq (aside_path s.log) (aside_path s.log)) (both s.naming.aside (bytes_eq (aside_path s.log) (aside_path s.log)) asked ((bytes_eq-Decides (aside_path s.log) (aside_path s.log)).1 refl)))
  where
    both : (a b : Bool) → a ≡ true → b ≡ true → (a && b) ≡ true
    both true b x y = y
    both false b x y = cc

module _ (s : LogSet) (asked : s.naming.aside ≡ true) (t : Target) (k : IsKnownFor s t) where
  abbrev waits : Path
  waits = aside_path s.log

  -- of the set's own log no member has that path
  own_waits : t.log ≡ s.log → IsAsideOf s waits
  own_waits log = waits_at s t k.names log (k.naming log) (ap (λ (n : Naming). n.aside) (sym (k.naming log)) ∙ asked)

  same_or_not : (t.log ≡ s.log) ⊎ (t.log ≢ s.log)
  same_or_not = go (bytes_eq t.log s.log) refl
    where
      go : (b : Bool) → bytes_eq t.log s.log ≡ b → (t.log ≡ s.log) ⊎ (t.log ≢ s.log)
      go true e = inl ((bytes_eq-Decides t.log s.log).0 e)
      go false e = inr (λ same. not_both (bytes_eq t.log s.log) ((bytes_eq-Decides t.log s.log).1 same) e)

  -- a name of another log's family is outside of the set
  other_name : (y : Path) → t.log ≢ s.log → IsOwnName t.log t.naming y → y ≢ waits
  other_name y other own same = not_both (in_reach s y) (ap (in_reach s) same ∙ waits_reached s asked) (apart_outside s t.log t.naming y (k.apart other) (inl own))

  member_other : (y : Path) → IsMember t.naming y → y ≢ waits
  member_other y member = ⊎_elim own (λ other. other_name y other (member_own t.log t.naming y member)) same_or_not
    where
      own : t.log ≡ s.log → y ≢ waits
      own log same = keyless_no_member s waits (own_waits log).keyless (subst (IsMember s.naming) same (subst (λ (n : Naming). IsMember n y) (sym (k.naming log)) member))

  part_other : (job : Job) → t.job ≡ Some job → job.part ≢ waits
  part_other job is same = part_no_waiting t.ready.target s.log (sym (job_part t job k.names.family (target_member t k.names) (k.names.job job is)) ∙ same)

  -- the copy of the set's own log
  own_copy : (job : Job) → t.job ≡ Some job → t.aside ≡ Some waits → IsOwnCopy s job × (job.from ≡ waits) × (job.cut ≡ false)
  own_copy job is goes = ⊎_elim own other same_or_not
    where
      j : IsJob t job
      j = k.names.job job is

      from_is : job.from ≡ waits
      from_is = j.from_is ∙ ap (λ (a : Option Path). source_by a t.ready.log) goes

      uncut : HasWay t → job.cut ≡ false
      uncut (inl stays) = absurd (let none : Some waits ≡ None = sym goes ∙ stays.aside_is in cc)
      uncut (inr (asked, inl a)) = ap (λ (o : Job). o.cut) (one a.job job (sym a.job_is ∙ is)) ∙ a.uncut
        where
          one : (x y : Job) → Some x ≡ Some y → y ≡ x
          one x y e = cc
      uncut (inr (asked, inr taken)) = absurd (let none : None ≡ Some job = sym taken.no_job ∙ is in cc)

      to_member : IsMember t.naming job.to
      to_member = subst (IsMember t.naming) (sym j.to_is) (target_member t k.names)

      own : t.log ≡ s.log → IsOwnCopy s job × (job.from ≡ waits) × (job.cut ≡ false)
      own log = (
        record {
          aside = record { from_is = from_is; member = λ none. keyless_no_member s job.to none (subst (λ (n : Naming). IsMember n job.to) (sym (k.naming log)) to_member) };
          to_is = subst (λ (n : Naming). IsMember n job.to) (sym (k.naming log)) to_member;
          part_is = j.part_is;
          paths = k.paths job is;
        },
        from_is,
        uncut k.names.way,
      )

      other : t.log ≢ s.log → IsOwnCopy s job × (job.from ≡ waits) × (job.cut ≡ false)
      other log = absurd (other_name waits log (named_own t.log t.naming waits (aside_own t k.names waits goes)) refl)

  -- ---- its plan

  elsewhere : (rs : List Removal) → All (IsMember t.naming) (removal_paths (map bare_removal rs)) → AreElsewhere waits rs
  elsewhere [] a = All-nil (λ (r : Removal). r.path ≢ waits)
  elsewhere (r ∷ rs) a = All-cons (λ (r : Removal). r.path ≢ waits) r rs (member_other r.path (All-head (IsMember t.naming) r.path (removal_paths (map bare_removal rs)) a)) (elsewhere rs (All-tail (IsMember t.naming) r.path (removal_paths (map bare_removal rs)) a))

  pub may_let_go : (log : LogPlan) → IsReadyFor t log → MayLetGo (IsOwnCopy s) waits log
  may_let_go log r = record {
    leftovers = elsewhere log.ready.leftovers (subst (λ (ready : Ready). All (IsMember t.naming) (removal_paths ready.leftovers)) (sym r.ready_is) (family_members t k.names).early);
    retire = elsewhere log.ready.retire (subst (λ (ready : Ready). All (IsMember t.naming) (removal_paths ready.retire)) (sym r.ready_is) (family_members t k.names).gone);
    part = λ job is. part_other job (sym r.job_is ∙ is);
    waits = λ job is goes. own_copy job (sym r.job_is ∙ is) (sym r.aside_is ∙ goes);
  }

-- of all logs of a plan
module _ (s : LogSet) (asked : s.naming.aside ≡ true) where
  abbrev M : LogPlan → Type 0
  M = MayLetGo (IsOwnCopy s) (aside_path s.log)

  logs_may : (ts : List Target) (logs : List LogPlan) → AreReadyFor ts logs → ((t : Target) → IsIn t ts → IsKnownFor s t) → All M logs
  logs_may [] [] r known = All-nil M
  logs_may [] (l ∷ ls) r known = absurd r
  logs_may (t ∷ ts) [] r known = absurd r
  logs_may (t ∷ ts) (l ∷ ls) r known = All-cons M l ls (may_let_go s asked t (known t (inl refl)) l r.0) (logs_may ts ls r.1 (λ x i. known x (inr i)))

  pub sets_may : (groups : List (List Target)) (sets : List SetPlan) → HaveLogs groups sets → ((t : Target) → IsIn t (flat_map (λ ts. ts) groups) → IsKnownFor s t) → MayAllLetGo (IsOwnCopy s) (aside_path s.log) sets
  sets_may [] [] h known = All-nil (λ (set : SetPlan). All M set.logs)
  sets_may [] (set ∷ sets) h known = absurd h
  sets_may (ts ∷ groups) [] h known = absurd h
  sets_may (ts ∷ groups) (set ∷ sets) h known = All-cons (λ (set : SetPlan). All M set.logs) set sets
      (logs_may ts set.logs h.0 (λ t i. known t (in_front t ts (flat_map (λ us. us) groups) i)))
      (sets_may groups sets h.1 (λ t i. known t (in_back t ts (flat_map (λ us. us) groups) i)))

-- ---- a run

-- what only looks unlinks nothing
quiet_spares : (x : Path) (e : Entry) → IsQuiet e → Spares x e
quiet_spares x (Unlinks y) i = absurd (let is : true ≡ false = i.1 in cc)
quiet_spares x _ i = tt

pub quiet_lets : (P : Job → Type 0) (x : Path) (ts : List Entry) → AreQuiet ts → UnlinksCopied P x ts
quiet_lets P x ts quiet = spared_copied P x ts (each_as IsQuiet (Spares x) ts (quiet_spares x) quiet)

module _ (state : Path) (rules : Rules) (clock : Clock) (asked : Asked) (s : LogSet) (aside : s.naming.aside ≡ true) (p q : Past) (es : List Entry) (journal : IsJournal p) (safe : IsSafe s p) (m : Made p es q) (st : IsSteadyBy RenameCopy s q) where
  abbrev P : Job → Type 0
  P = IsOwnCopy s

  abbrev at_rest : Path
  at_rest = aside_path s.log

  quiet_none : (ts : List Entry) → AreQuiet ts → UnlinksCopied P at_rest ts
  quiet_none ts quiet = quiet_lets P at_rest ts quiet

  module _ (before between : List Entry) (entries : reverse es ≡ before ++ (Starts state clock.now rules ∷ (between ++ Ends ∷ []))) (quiet : AreQuiet before) (l : Looked state rules.sets between) where
    abbrev planned : Plan
    planned = plan_in state rules.sets between l clock asked

    abbrev decide : Rule → LogLook → Due
    decide = decision l.remembered.table clock.now asked.force

    abbrev seen_first : List Entry
    seen_first = l.reads ++ l.looks

    parts : between ++ Ends ∷ [] ≡ (l.reads ++ l.looks) ++ (l.acts ++ Ends ∷ [])
    parts = ap (λ (ts : List Entry). ts ++ Ends ∷ []) (looked_parts state rules.sets between l) ∙ append_assoc (l.reads ++ l.looks) l.acts (Ends ∷ [])

    known : (t : Target) → IsIn t (all_targets clock decide rules.sets l.sets) → IsKnownFor s t
    known = known_targets clock RenameCopy s p q es before (between ++ Ends ∷ []) (l.reads ++ l.looks) (l.acts ++ Ends ∷ []) state rules entries quiet parts (seen_quiet state rules.sets between l) journal safe m st (all_targets clock decide rules.sets l.sets)
        (seen_later rules clock l.reads l.looks (all_targets clock decide rules.sets l.sets) (targets_seen rules l.sets l.of_looks l.looks clock decide l.shown))

    may : MayAllLetGo P at_rest planned.sets
    may = sets_may s aside (groups_of clock decide rules.sets l.sets) planned.sets (plans_have_logs rules.sets l.sets l.of_looks l.looks clock asked.mailer decide l.shown) known

    state_other : state_part state ≢ at_rest
    state_other same = part_apart clock RenameCopy s p q es before (between ++ Ends ∷ []) (l.reads ++ l.looks) (l.acts ++ Ends ∷ []) state rules entries quiet parts (seen_quiet state rules.sets between l) journal safe m st (inl (set_aside aside same))

    acts_let : (acts : List Entry) → UnlinksCopied P at_rest acts → UnlinksCopied P at_rest ((l.reads ++ l.looks) ++ acts)
    acts_let acts e = both_copied P at_rest (l.reads ++ l.looks) acts (quiet_none (l.reads ++ l.looks) (seen_quiet state rules.sets between l)) e

  module _ (before between : List Entry) (entries : reverse es ≡ before ++ (Starts state clock.now rules ∷ (between ++ Ends ∷ []))) (quiet : AreQuiet before) where
    worked_let : (own : List Fault) → Worked state rules.sets clock asked own between → UnlinksCopied P at_rest between
    worked_let own w =
        let acted = w.acted.entries.entries in
        same_copied P at_rest (((w.looked.reads ++ w.looked.looks) ++ acted.front) ++ acted.back) between (in_parts state rules.sets clock asked own between w)
        (both_copied P at_rest ((w.looked.reads ++ w.looked.looks) ++ acted.front) acted.back
        (acts_let before between entries quiet w.looked acted.front
        (sets_letting P at_rest (steps_of_plan (planned before between entries quiet w.looked)) (plan_lets P at_rest (planned before between entries quiet w.looked).sets (may before between entries quiet w.looked)) w.acted.marks w.acted.entries.of_plan acted.front acted.first))
        (state_letting P at_rest state w.looked.remembered.stale w.acted.dirs _ (state_other before between entries quiet w.looked) [] w.acted.entries.of_state acted.back acted.second))

    works_let : (plan : Option Plan) (own : List Fault) → Works state rules.sets clock asked plan own between → UnlinksCopied P at_rest between
    works_let plan own (not_known sights f known lost is shown) = quiet_none between (state_quiet state 65_536 sights between shown)
    works_let plan own (too_big l big lost is none) = quiet_none between (subst AreQuiet (sym (l.joined ∙ (ap (λ xs. l.reads ++ (l.looks ++ xs)) none ∙ ap (λ xs. l.reads ++ xs) (append-nil l.looks)))) (seen_quiet state rules.sets between l))
    works_let plan own (worked w is) = worked_let own w

    broke_let : BrokeOff state rules.sets clock asked between → UnlinksCopied P at_rest between
    broke_let b = same_copied P at_rest ((b.looked.reads ++ b.looked.looks) ++ b.looked.acts) between (looked_parts state rules.sets between b.looked)
        (acts_let before between entries quiet b.looked b.looked.acts
        (sets_cut_letting P at_rest (steps_of_plan (planned before between entries quiet b.looked)) (plan_lets P at_rest (planned before between entries quiet b.looked).sets (may before between entries quiet b.looked)) b.marks b.of_acts b.looked.acts b.part))

    -- between the begin and the end
    within : UnlinksCopied P at_rest between → UnlinksCopied P at_rest (reverse es)
    within c = same_copied P at_rest (before ++ (Starts state clock.now rules ∷ (between ++ Ends ∷ []))) (reverse es) entries
        (both_copied P at_rest before (Starts state clock.now rules ∷ (between ++ Ends ∷ [])) (quiet_none before quiet)
        (both_copied P at_rest (Starts state clock.now rules ∷ []) (between ++ Ends ∷ []) (spared_copied P at_rest (Starts state clock.now rules ∷ []) (tt, tt))
        (both_copied P at_rest between (Ends ∷ []) c (spared_copied P at_rest (Ends ∷ []) (tt, tt)))))

  pub runs_let : (plan : Option Plan) (own : List Fault) → Runs state asked clock rules plan own (reverse es) → UnlinksCopied P at_rest (reverse es)
  runs_let plan own (no_directory lost e sees) = quiet_none (reverse es) (sees_quiet (parent_of state) _ (reverse es) sees)
  runs_let plan own (not_seen lost e none) = quiet_none (reverse es) (subst AreQuiet (sym none) tt)
  runs_let plan own (not_begun lost e t) = same_copied P at_rest (t.front ++ t.back) (reverse es) t.joined (both_copied P at_rest t.front t.back (quiet_none t.front (sees_quiet (parent_of state) IsDir t.front t.first)) (go t.second))
    where
      go : (t.back ≡ []) ⊎ (t.back ≡ Starts state clock.now rules ∷ []) → UnlinksCopied P at_rest t.back
      go (inl none) = same_copied P at_rest [] t.back none (spared_copied P at_rest [] tt)
      go (inr one) = same_copied P at_rest (Starts state clock.now rules ∷ []) t.back one (spared_copied P at_rest (Starts state clock.now rules ∷ []) (tt, tt))
  runs_let plan own (runs.began i) =
      let quiet = sees_quiet (parent_of state) IsDir i.before i.directory in
      within i.before i.between i.entries quiet (works_let i.before i.between i.entries quiet plan own i.within)

  pub answers_let : (earlier : List Fault) (r : Result Ran RunStop) → Answers state false asked clock rules earlier r (reverse es) → UnlinksCopied P at_rest (reverse es)
  answers_let earlier (Ok ran) h = runs_let ran.plan h.0 h.2
  answers_let earlier (Err stop.Held) h = quiet_none (reverse es) (sees_quiet (parent_of state) IsDir (reverse es) h)
  answers_let earlier (Err stop.Memory) (at_none e) = quiet_none (reverse es) (subst AreQuiet (sym e) tt)
  answers_let earlier (Err stop.Memory) (in_looks i) =
      let quiet = sees_quiet (parent_of state) IsDir i.before i.directory in
      within i.before i.between i.entries quiet (quiet_none i.between (some_quiet state rules.sets i.between i.within))
  answers_let earlier (Err stop.Memory) (in_acts i) =
      let quiet = sees_quiet (parent_of state) IsDir i.before i.directory in
      within i.before i.between i.entries quiet (broke_let i.before i.between i.entries quiet i.within)

-- ---- a call

-- one that only looks
pub quiet_moved : (when : LogSet → Past → Type 0) {o n : Option Journal} → Left AreQuiet o n → KeepsMovedWhere when o n
quiet_moved when not_told = tt
quiet_moved when (is_told {j = j} {k = k} {es = es} m quiet) = λ s aside so journal safe st. (
  quiet_call_safe_by RenameCopy when (Some j) (Some k) (is_told {j = j} {k = k} {es = es} m quiet) s so journal safe st,
  λ only. lets_go_whole s (past j) (past k) es m journal only (quiet_lets (IsOwnCopy s) (aside_path s.log) (reverse es) quiet),
)
