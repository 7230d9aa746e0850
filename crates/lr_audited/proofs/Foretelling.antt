-- What is told as going is what the steps of all logs of a plan unlink.
use Rattle.std.proofs.Common.{◌≡◌, ◌≢◌, ◌⊎◌, inl, inr, ⊎_elim, ℕ, ℤ, Bool, true, false, cond, not, ◌||◌, bytes_eq, List, [], ◌∷◌, ◌++◌, map, reverse, Option, Some, None, refl, sym, ap, ◌∙◌, subst}
use Rattle.std.specs.Prelude.{filter}
use Rattle.std.specs.List.{flat_map}
use Rattle.std.proofs.lemmas.Grind.{flat_map-append}
use Rattle.std.proofs.lemmas.List.{append-nil, map-append}
use Rattle.std.proofs.lemmas.List.Elements.{filter-append}
use Rattle.std.proofs.lemmas.Slice.Eq.{bytes_eq-Decides}
use Rattle.lr_rules.specs.declared.civil.Civil.{Civil}
use Rattle.lr_rules.specs.declared.civil.Moment.{Moment}
use Rattle.lr_rules.specs.declared.clock.Clock.{Clock}
use Rattle.lr_rules.specs.declared.fault.Fault.{Fault}
use Rattle.lr_rules.specs.declared.fault.Phase.TheVariants as phase
use Rattle.lr_rules.specs.declared.path.Path.{Path}
use Rattle.lr_rules.specs.declared.rule.Format.{Format}
use Rattle.lr_rules.specs.declared.rule.Make.{Make}
use Rattle.lr_rules.specs.declared.rule.Naming.{Naming}
use Rattle.lr_rules.specs.declared.rule.Rule.{Rule}
use Rattle.lr_rules.specs.declared.rules.Rules.{Rules}
use Rattle.lr_stamps.specs.Dated.{clock_seconds}
use Rattle.lr_host.specs.declared.entry.Entry.{Entry}
use Rattle.lr_host.specs.Lists.{IsIn, AreDistinct}
use Rattle.lr_host.specs.World.{in_list}
use Rattle.lr_host.proofs.Lists.{in_front, in_back, to_flat, of_flat}
use Rattle.lr_due.specs.declared.answer.Due.{Due}
use Rattle.lr_due.specs.declared.answer.Due.TheVariants as due
use Rattle.lr_due.specs.Due.{due_of}
use Rattle.lr_state.specs.Table.{StateEntry as Row, moment_of}
use Rattle.lr_family.specs.declared.stand.Member.{Member}
use Rattle.lr_family.specs.declared.stand.Stand.{Stand}
use Rattle.lr_family.specs.Parts.{IsMember}
use Rattle.lr_family.proofs.Names.{member_own}
use Rattle.lr_scripts.specs.declared.removal.Removal.{Removal}
use Rattle.lr_scripts.specs.Commands.{with_programs}
use Rattle.lr_copy.specs.declared.job.Job.{Job}
use Rattle.lr_chain.specs.declared.ready.Ready.{Ready}
use Rattle.lr_chain.specs.DatedReady.{dated_target}
use Rattle.lr_chain.specs.Hindrances.{what_hinders}
use Rattle.lr_chain.specs.Rotation.{places_of}
use Rattle.lr_chain.specs.Serials.{next_serial}
use Rattle.lr_chain.proofs.Either.{ready_numbers, ready_dates, hinders_numbers, free_there, target_at}
use Rattle.lr_chain.proofs.Falling.{falls_all}
use Rattle.lr_chain.proofs.Going.{going_are}
use Rattle.lr_chain.proofs.Serials.{is_next}
use Rattle.lr_plan.specs.Asked.{asking}
use Rattle.lr_plan.specs.declared.looks.LogLook.{LogLook}
use Rattle.lr_plan.specs.declared.looks.SetLooks.{SetLooks}
use Rattle.lr_plan.specs.declared.plan.LogPlan.{LogPlan}
use Rattle.lr_plan.specs.declared.plan.SetPlan.{SetPlan}
use Rattle.lr_plan.specs.declared.step.Step.{Step}
use Rattle.lr_plan.specs.Planned.{stand_for, aside_by, first_path, make_for, ready_for, hindrances, decision, log_plan, none_hinders, plans_of, where_due, log_plans, set_plan, all_plans, plan_of}
use Rattle.lr_plan.specs.Steps.{program, rotation_of, retirement_of, steps_of_log, shared_steps, by_logs, steps_of_set}
use Rattle.lr_looks.specs.Shown.{ShowsLooks}
use Rattle.lr_laws_family.proofs.Numbers.{rising}
use Rattle.lr_laws_rotations.proofs.Ready.{have_next}
use Rattle.lr_laws_rotations.specs.AllTurns.{job_part_paths}
use Rattle.lr_laws_rotations.specs.Apart.{HasNames, TargetsHaveNames}
use Rattle.lr_laws_rotations.specs.Rotation.{removal_paths}
use Rattle.lr_laws_rotations.specs.Target.{Target, HasWay}
use Rattle.lr_laws_rotations.proofs.Own.{named_own, target_member, part_file_own}
use Rattle.lr_laws_rotations.proofs.PartFile.{job_part, job_no_member}
use Rattle.lr_laws_rotations.proofs.Way.{first_own}
use Rattle.lr_laws_acts.specs.Fitting.{NoneMeets, DontMeet}
use Rattle.lr_laws_acts.proofs.Fits.{NamesOf}
use Rattle.lr_laws_looks.specs.Planned.{target_in, targets_of_sets}
use Rattle.lr_laws_looks.specs.Targets.{target_of, where_free, targets_of, groups_of, all_targets}
use Rattle.lr_laws_looks.proofs.Apart.{targets_dont_meet}
use Rattle.lr_laws_looks.proofs.Hindrances.{free_of_members}
use Rattle.lr_laws_looks.proofs.Planned.{plan_targets}
use Rattle.lr_laws_looks.proofs.Seen.{targets_have_names}
use Rattle.lr_audited.specs.declared.line.WhyGone.{WhyGone}
use Rattle.lr_audited.specs.Audits.{going_of}
use Rattle.lr_audited.specs.Removed.{aside_going, newest_going, left_over, leftovers_of, retired_of, log_removed, set_removed, removed_by}
use Rattle.lr_audited.specs.Unlinked.{Origins, own_names, unlinked, set_steps, set_parts, going_paths, files_unlinked}
use Rattle.lr_audited.proofs.Retiring.{log_from, Retires, numbered_retires, numbered_left, dated_retires}
use Rattle.lr_audited.proofs.Tracing.{run, run_both, unlinked_both, AllTouch, touch_both, touch_as, left_alone, unlinked_program, unlinked_by_program, touch_program}
use Rattle.lr_audited.proofs.Unlinking.{IsAsBefore, rotation_touches, retirement_touches, rotation_unlinks, retirement_unlinks}

-- ---- the plan of one log

module _ (clock : Clock) (mailer : Path) (rule : Rule) (look : LogLook) (h : HasNames (target_of clock rule look)) (free : hindrances clock rule look ≡ []) where
  abbrev its_naming : Naming
  its_naming = look.family.naming

  abbrev its_stand : Stand
  its_stand = stand_for rule look

  abbrev its_members : List Member
  its_members = (stand_for rule look).members

  abbrev its_make : Make
  its_make = make_for rule look

  abbrev its_first : Path
  its_first = first_path rule.way look.path look.tmp

  abbrev its_ready : Ready
  its_ready = ready_for clock rule look

  abbrev its_job : Option Job
  its_job = (target_of clock rule look).job

  abbrev its_plan : LogPlan
  its_plan = log_plan clock mailer rule look

  abbrev its_moment : ℤ
  its_moment = clock_seconds look.family.naming.dated clock

  abbrev its_serial : ℕ
  its_serial = next_serial (stand_for rule look).members (clock_seconds look.family.naming.dated clock)

  -- no member hinders it
  alone : what_hinders its_naming rule.count clock its_stand ≡ []
  alone = free_of_members clock rule look free

  -- what is told of it is what goes behind its way
  retires_by : (d : Option Format) → look.family.naming.dated ≡ d → Retires its_naming (log_from its_job its_ready.log) (removal_paths its_ready.leftovers) its_ready.moves its_ready.target (removal_paths its_ready.retire) (going_paths (reverse (newest_going look.family.naming.dated clock its_plan)))
  retires_by None e =
      let rises = rising its_naming e its_members h.named h.newest_first in
      subst (λ (d : Option Format). Retires its_naming (log_from its_job its_ready.log) (removal_paths its_ready.leftovers) its_ready.moves its_ready.target (removal_paths its_ready.retire) (going_paths (reverse (newest_going d clock its_plan)))) (sym e)
      (subst (λ (r : Ready). Retires its_naming (log_from its_job its_ready.log) (removal_paths r.leftovers) r.moves r.target (removal_paths r.retire) (going_paths (reverse (newest_going None clock its_plan)))) (sym (ready_numbers its_first its_naming rule.count rule.maxage clock its_make its_members e))
      (numbered_retires its_ready.log its_first its_job its_naming rule.count rule.maxage clock.now.seconds its_make its_members e h.named
      (have_next its_naming rule.count its_members e h.start h.count h.named (sym (hinders_numbers its_naming rule.count clock its_stand e (free_there its_naming rule.count clock its_stand alone)) ∙ alone))
      (going_are rule.count rule.maxage clock.now.seconds its_members rises) (falls_all (places_of its_members) rises)))
  retires_by (Some f) e =
      subst (λ (d : Option Format). Retires its_naming (log_from its_job its_ready.log) (removal_paths its_ready.leftovers) its_ready.moves its_ready.target (removal_paths its_ready.retire) (going_paths (reverse (newest_going d clock its_plan)))) (sym e)
      (subst (λ (r : Ready). Retires its_naming (log_from its_job its_ready.log) (removal_paths r.leftovers) r.moves r.target (removal_paths r.retire) (going_paths (reverse (newest_going (Some f) clock its_plan)))) (sym (ready_dates its_first its_naming rule.count rule.maxage clock its_make its_members f e))
      (dated_retires its_ready.log (dated_target its_naming clock its_members) its_job rule.count rule.maxage clock.now.seconds its_moment its_serial its_naming its_members h.family.format h.named h.newest_first (is_next its_members its_moment)
      (target_at its_naming rule.count clock its_stand alone f e h.family.format h.named)))

  -- what is left over has paths of its own
  left_by : (d : Option Format) → look.family.naming.dated ≡ d → AreDistinct (removal_paths (ready_for clock rule look).leftovers)
  left_by None e =
      let rises = rising its_naming e its_members h.named h.newest_first in
      subst (λ (r : Ready). AreDistinct (removal_paths r.leftovers)) (sym (ready_numbers its_first its_naming rule.count rule.maxage clock its_make its_members e))
      (numbered_left its_ready.log its_first its_job its_naming rule.count rule.maxage clock.now.seconds its_make its_members e h.named
      (have_next its_naming rule.count its_members e h.start h.count h.named (sym (hinders_numbers its_naming rule.count clock its_stand e (free_there its_naming rule.count clock its_stand alone)) ∙ alone))
      (going_are rule.count rule.maxage clock.now.seconds its_members rises) (falls_all (places_of its_members) rises))
  left_by (Some f) e = subst (λ (r : Ready). AreDistinct (removal_paths r.leftovers)) (sym (ready_dates its_first its_naming rule.count rule.maxage clock its_make its_members f e)) tt

  pub log_retires : Retires look.family.naming (log_from (target_of clock rule look).job (ready_for clock rule look).log) (removal_paths (ready_for clock rule look).leftovers) (ready_for clock rule look).moves (ready_for clock rule look).target (removal_paths (ready_for clock rule look).retire)
      (going_paths (reverse (newest_going look.family.naming.dated clock (log_plan clock mailer rule look))))
  log_retires = retires_by look.family.naming.dated refl

  pub log_left : AreDistinct (removal_paths (ready_for clock rule look).leftovers)
  log_left = left_by look.family.naming.dated refl

leftover_paths : (xs : List Removal) → removal_paths xs ≡ going_paths (map left_over xs)
leftover_paths [] = refl
leftover_paths (x ∷ xs) = ap (λ (ps : List Path). x.path ∷ ps) (leftover_paths xs)

-- The test passes the members of the target and where the log's file stood, and no part file of its copy.
record Sorts (p : Path → Bool) (t : Target) : Type 0 where
  keeps : (x : Path) → (x ≡ t.ready.log) ⊎ IsMember t.naming x → p x ≡ true
  drops : (job : Job) → t.job ≡ Some job → p job.part ≡ false

-- The log's plan changes the target's own names alone, and of what passes the test it unlinks what is told of it.
record IsFine (p : Path → Bool) (clock : Clock) (t : Target) (log : LogPlan) : Type 0 where
  rotates : AllTouch (NamesOf t) (rotation_of log)
  ends : AllTouch (NamesOf t) (retirement_of log)
  first : (came : Origins) → IsAsBefore t came → filter p (unlinked came (rotation_of log)) ≡ going_paths (leftovers_of log)
  last : (came other : Origins) → IsAsBefore t came → ((x : Path) → NamesOf t x → other x ≡ run came (rotation_of log) x) → filter p (unlinked other (retirement_of log)) ≡ going_paths (retired_of clock log)

log_fine : (p : Path → Bool) (clock : Clock) (mailer : Path) (rule : Rule) (look : LogLook) → HasNames (target_of clock rule look) → Sorts p (target_of clock rule look) → hindrances clock rule look ≡ [] → IsFine p clock (target_of clock rule look) (log_plan clock mailer rule look)
log_fine p clock mailer rule look h sorts free = record {
  rotates = rotation_touches t h rule mailer;
  ends = retirement_touches t h rule mailer (log_plan clock mailer rule look).first_mail;
  first = λ came before. rotation_unlinks t h rule mailer told (log_retires clock mailer rule look h free) p sorts.keeps sorts.drops (log_left clock mailer rule look h free) came before
      ∙ leftover_paths (log_plan clock mailer rule look).ready.leftovers;
  last = λ came other before same. retirement_unlinks t h rule mailer told (log_retires clock mailer rule look h free) p sorts.keeps sorts.drops came other before same (log_plan clock mailer rule look).first_mail
      ∙ sym (map-append (λ (g : Path × WhyGone). g.0) (aside_going t.aside t.log) (reverse (newest_going look.family.naming.dated clock (log_plan clock mailer rule look))));
}
  where
    t : Target
    t = target_of clock rule look

    told : List Path
    told = going_paths (reverse (newest_going look.family.naming.dated clock (log_plan clock mailer rule look)))

-- ---- all logs of a plan

abbrev AreFine : (Path → Bool) → Clock → List Target → List LogPlan → Type 0
AreFine p clock [] [] = Unit {0}
AreFine p clock (t ∷ ts) (log ∷ logs) = IsFine p clock t log × AreFine p clock ts logs
AreFine p clock _ _ = ⊥

abbrev AllFine : (Path → Bool) → Clock → List (List Target) → List SetPlan → Type 0
AllFine p clock [] [] = Unit {0}
AllFine p clock (ts ∷ groups) (set ∷ sets) = AreFine p clock ts set.logs × AllFine p clock groups sets
AllFine p clock _ _ = ⊥

fine_both : (p : Path → Bool) (clock : Clock) (ts us : List Target) (xs ys : List LogPlan) → AreFine p clock ts xs → AreFine p clock us ys → AreFine p clock (ts ++ us) (xs ++ ys)
fine_both p clock [] us [] ys a b = b
fine_both p clock [] us (x ∷ xs) ys a b = absurd a
fine_both p clock (t ∷ ts) us [] ys a b = absurd a
fine_both p clock (t ∷ ts) us (x ∷ xs) ys a b = (a.0, fine_both p clock ts us xs ys a.1 b)

module _ (p : Path → Bool) (clock : Clock) (mailer : Path) where
  one_fine : (rule : Rule) (look : LogLook) (d : Due) (fs : List Fault) → hindrances clock rule look ≡ fs → ((t : Target) → IsIn t (where_due d (where_free fs (target_of clock rule look))) → HasNames t × Sorts p t)
      → AreFine p clock (where_due d (where_free fs (target_of clock rule look))) (where_due d (none_hinders fs (log_plan clock mailer rule look ∷ [])))
  one_fine rule look (due.Yes why) [] e ok = let o = ok (target_of clock rule look) (inl refl) in (log_fine p clock mailer rule look o.0 o.1 e, tt)
  one_fine rule look (due.Yes why) (f ∷ fs) e ok = tt
  one_fine rule look (due.No why) fs e ok = tt

  logs_fine : (rule : Rule) (decide : LogLook → Due) (looks : List LogLook) → ((t : Target) → IsIn t (targets_of clock rule decide looks) → HasNames t × Sorts p t) → AreFine p clock (targets_of clock rule decide looks) (log_plans clock mailer rule decide looks)
  logs_fine rule decide [] ok = tt
  logs_fine rule decide (look ∷ looks) ok =
      fine_both p clock (where_due (decide look) (where_free (hindrances clock rule look) (target_of clock rule look))) (targets_of clock rule decide looks) (where_due (decide look) (plans_of clock mailer rule look)) (log_plans clock mailer rule decide looks)
      (one_fine rule look (decide look) (hindrances clock rule look) refl (λ t i. ok t (in_front t (where_due (decide look) (where_free (hindrances clock rule look) (target_of clock rule look))) (targets_of clock rule decide looks) i)))
      (logs_fine rule decide looks (λ t i. ok t (in_back t (where_due (decide look) (where_free (hindrances clock rule look) (target_of clock rule look))) (targets_of clock rule decide looks) i)))

  groups_fine : (decide : Rule → LogLook → Due) (rules : List Rule) (sets : List SetLooks) → ((t : Target) → IsIn t (all_targets clock decide rules sets) → HasNames t × Sorts p t) → AllFine p clock (groups_of clock decide rules sets) (all_plans clock mailer decide rules sets)
  groups_fine decide [] [] ok = tt
  groups_fine decide [] (set ∷ sets) ok = tt
  groups_fine decide (rule ∷ rules) [] ok = tt
  groups_fine decide (rule ∷ rules) (set ∷ sets) ok = (
    logs_fine rule (decide rule) set.logs (λ t i. ok t (in_front t (targets_of clock rule (decide rule) set.logs) (all_targets clock decide rules sets) i)),
    groups_fine decide rules sets (λ t i. ok t (in_back t (targets_of clock rule (decide rule) set.logs) (all_targets clock decide rules sets) i)),
  )

-- ---- logs that don't meet

abbrev ShareNone : Target → Target → Type 0
ShareNone t u = (x : Path) → NamesOf t x → NamesOf u x → ⊥

none_share : (t : Target) (ts : List Target) → NoneMeets t ts → (u : Target) → IsIn u ts → ShareNone t u
none_share t [] h u i x a b = i
none_share t (y ∷ ys) h u (inl e) x a b = h.0 (x, inl (subst (λ (z : Target). NamesOf z x) (sym e) b, inl a))
none_share t (y ∷ ys) h u (inr i) x a b = none_share t ys h.1 u i x a b

two_share : (ts : List Target) → DontMeet ts → (t u : Target) → IsIn t ts → IsIn u ts → (t ≡ u) ⊎ ShareNone t u
two_share [] d t u i j = absurd i
two_share (y ∷ ys) d t u (inl e) (inl f) = inl (sym e ∙ f)
two_share (y ∷ ys) d t u (inl e) (inr j) = inr (λ x a b. none_share y ys d.0 u j x (subst (λ (z : Target). NamesOf z x) (sym e) a) b)
two_share (y ∷ ys) d t u (inr i) (inl f) = inr (λ x a b. none_share y ys d.0 t i x (subst (λ (z : Target). NamesOf z x) (sym f) b) a)
two_share (y ∷ ys) d t u (inr i) (inr j) = two_share ys d.1 t u i j

none_front : (t : Target) (ts us : List Target) → NoneMeets t (ts ++ us) → NoneMeets t ts
none_front t [] us h = tt
none_front t (y ∷ ys) us h = (h.0, none_front t ys us h.1)

meet_front : (ts us : List Target) → DontMeet (ts ++ us) → DontMeet ts
meet_front [] us d = tt
meet_front (t ∷ ts) us d = (none_front t ts us d.0, meet_front ts us d.1)

meet_back : (ts us : List Target) → DontMeet (ts ++ us) → DontMeet us
meet_back [] us d = d
meet_back (t ∷ ts) us d = meet_back ts us d.1

share_across : (ts us : List Target) → DontMeet (ts ++ us) → (t u : Target) → IsIn t ts → IsIn u us → ShareNone t u
share_across [] us d t u i j x a b = i
share_across (y ∷ ys) us d t u (inl e) j x a b = none_share y (ys ++ us) d.0 u (in_back u ys us j) x (subst (λ (z : Target). NamesOf z x) (sym e) a) b
share_across (y ∷ ys) us d t u (inr i) j x a b = share_across ys us d.1 t u i j x a b

-- the path is a name of one of them
abbrev OfOne : List Target → Path → Type 0
OfOne ts x = (t : Target) × IsIn t ts × NamesOf t x

-- at all of their names stand the files that stood there as the steps began
abbrev AreAsBefore : List Target → Origins → Type 0
AreAsBefore ts came = (t : Target) → IsIn t ts → IsAsBefore t came

as_before : (P : Path → Type 0) (steps : List Step) (came : Origins) (ts : List Target) → AllTouch P steps → ((t : Target) → IsIn t ts → (x : Path) → NamesOf t x → P x → ⊥) → AreAsBefore ts came → AreAsBefore ts (run came steps)
as_before P steps came ts touch apart before t i x own = left_alone P steps came x touch (apart t i x own) ∙ before t i x own

-- ---- the steps of one definition

module _ (p : Path → Bool) (clock : Clock) where
  -- ---- each log by itself

  log_touches : (t : Target) (log : LogPlan) → IsFine p clock t log → AllTouch (NamesOf t) (steps_of_log log)
  log_touches t log f = touch_both (NamesOf t) (program phase.Pre log.pre) (rotation_of log ++ (program phase.Post log.post ++ retirement_of log)) (touch_program (NamesOf t) phase.Pre log.pre)
      (touch_both (NamesOf t) (rotation_of log) (program phase.Post log.post ++ retirement_of log) f.rotates
      (touch_both (NamesOf t) (program phase.Post log.post) (retirement_of log) (touch_program (NamesOf t) phase.Post log.post) f.ends))

  log_so : (t : Target) (log : LogPlan) (came : Origins) → IsFine p clock t log → IsAsBefore t came → filter p (unlinked came (steps_of_log log)) ≡ going_paths (log_removed clock log)
  log_so t log came f before =
      ap (filter p) (unlinked_program phase.Pre log.pre (rotation_of log ++ (program phase.Post log.post ++ retirement_of log)) came
      ∙ (unlinked_both came (rotation_of log) (program phase.Post log.post ++ retirement_of log)
      ∙ ap (λ (xs : List Path). unlinked came (rotation_of log) ++ xs) (unlinked_program phase.Post log.post (retirement_of log) (run came (rotation_of log)))))
      ∙ (filter-append p (unlinked came (rotation_of log)) (unlinked (run came (rotation_of log)) (retirement_of log))
      ∙ (ap (λ (xs : List Path). xs ++ filter p (unlinked (run came (rotation_of log)) (retirement_of log))) (f.first came before)
      ∙ (ap (λ (xs : List Path). going_paths (leftovers_of log) ++ xs) (f.last came (run came (rotation_of log)) before (λ x own. refl))
      ∙ sym (map-append (λ (g : Path × WhyGone). g.0) (leftovers_of log) (retired_of clock log)))))

  abbrev each_steps : List LogPlan → List Step
  each_steps logs = flat_map (λ (steps : List Step). steps) (map steps_of_log logs)

  each_touches : (ts : List Target) (logs : List LogPlan) → AreFine p clock ts logs → AllTouch (OfOne ts) (each_steps logs)
  each_touches [] [] f = tt
  each_touches [] (log ∷ logs) f = absurd f
  each_touches (t ∷ ts) [] f = absurd f
  each_touches (t ∷ ts) (log ∷ logs) f = touch_both (OfOne (t ∷ ts)) (steps_of_log log) (each_steps logs)
      (touch_as (NamesOf t) (OfOne (t ∷ ts)) (steps_of_log log) (λ x own. (t, inl refl, own)) (log_touches t log f.0))
      (touch_as (OfOne ts) (OfOne (t ∷ ts)) (each_steps logs) (λ x one. (one.0, inr one.1, one.2)) (each_touches ts logs f.1))

  each_so : (ts : List Target) (logs : List LogPlan) (came : Origins) → AreFine p clock ts logs → DontMeet ts → AreAsBefore ts came → filter p (unlinked came (each_steps logs)) ≡ going_paths (flat_map (log_removed clock) logs)
  each_so [] [] came f d before = refl
  each_so [] (log ∷ logs) came f d before = absurd f
  each_so (t ∷ ts) [] came f d before = absurd f
  each_so (t ∷ ts) (log ∷ logs) came f d before =
      ap (filter p) (unlinked_both came (steps_of_log log) (each_steps logs))
      ∙ (filter-append p (unlinked came (steps_of_log log)) (unlinked (run came (steps_of_log log)) (each_steps logs))
      ∙ (ap (λ (xs : List Path). xs ++ filter p (unlinked (run came (steps_of_log log)) (each_steps logs))) (log_so t log came f.0 (before t (inl refl)))
      ∙ (ap (λ (xs : List Path). going_paths (log_removed clock log) ++ xs) (each_so ts logs (run came (steps_of_log log)) f.1 d.1
      (as_before (NamesOf t) (steps_of_log log) came ts (log_touches t log f.0) (λ u i x own of_t. none_share t ts d.0 u i x of_t own) (λ u i. before u (inr i))))
      ∙ sym (map-append (λ (g : Path × WhyGone). g.0) (log_removed clock log) (flat_map (log_removed clock) logs)))))

  -- ---- logs that share their scripts

  -- what goes behind the rotations is told, wherever the files stand at the log's names as here
  abbrev EndsFrom : Origins → Target → LogPlan → Type 0
  EndsFrom came t log = (other : Origins) → ((x : Path) → NamesOf t x → other x ≡ came x) → filter p (unlinked other (retirement_of log)) ≡ going_paths (retired_of clock log)

  abbrev EndFrom : Origins → List Target → List LogPlan → Type 0
  EndFrom came [] [] = Unit {0}
  EndFrom came (t ∷ ts) (log ∷ logs) = EndsFrom came t log × EndFrom came ts logs
  EndFrom came _ _ = ⊥

  ends_as : (ts : List Target) (logs : List LogPlan) (came now : Origins) → ((t : Target) → IsIn t ts → (x : Path) → NamesOf t x → now x ≡ came x) → EndFrom came ts logs → EndFrom now ts logs
  ends_as [] [] came now same e = tt
  ends_as [] (log ∷ logs) came now same e = absurd e
  ends_as (t ∷ ts) [] came now same e = absurd e
  ends_as (t ∷ ts) (log ∷ logs) came now same e = ((λ other alike. e.0 other (λ x own. alike x own ∙ same t (inl refl) x own)), ends_as ts logs came now (λ u i. same u (inr i)) e.1)

  rotations_touch : (ts : List Target) (logs : List LogPlan) → AreFine p clock ts logs → AllTouch (OfOne ts) (flat_map rotation_of logs)
  rotations_touch [] [] f = tt
  rotations_touch [] (log ∷ logs) f = absurd f
  rotations_touch (t ∷ ts) [] f = absurd f
  rotations_touch (t ∷ ts) (log ∷ logs) f = touch_both (OfOne (t ∷ ts)) (rotation_of log) (flat_map rotation_of logs)
      (touch_as (NamesOf t) (OfOne (t ∷ ts)) (rotation_of log) (λ x own. (t, inl refl, own)) f.0.rotates)
      (touch_as (OfOne ts) (OfOne (t ∷ ts)) (flat_map rotation_of logs) (λ x one. (one.0, inr one.1, one.2)) (rotations_touch ts logs f.1))

  retirements_touch : (ts : List Target) (logs : List LogPlan) → AreFine p clock ts logs → AllTouch (OfOne ts) (flat_map retirement_of logs)
  retirements_touch [] [] f = tt
  retirements_touch [] (log ∷ logs) f = absurd f
  retirements_touch (t ∷ ts) [] f = absurd f
  retirements_touch (t ∷ ts) (log ∷ logs) f = touch_both (OfOne (t ∷ ts)) (retirement_of log) (flat_map retirement_of logs)
      (touch_as (NamesOf t) (OfOne (t ∷ ts)) (retirement_of log) (λ x own. (t, inl refl, own)) f.0.ends)
      (touch_as (OfOne ts) (OfOne (t ∷ ts)) (flat_map retirement_of logs) (λ x one. (one.0, inr one.1, one.2)) (retirements_touch ts logs f.1))

  -- behind its rotation each other log finds its files as they stood
  on_from : (t : Target) (ts : List Target) (log : LogPlan) (came : Origins) → IsFine p clock t log → NoneMeets t ts → AreAsBefore (t ∷ ts) came → AreAsBefore ts (run came (rotation_of log))
  on_from t ts log came f none before = as_before (NamesOf t) (rotation_of log) came ts f.rotates (λ u i x own of_t. none_share t ts none u i x of_t own) (λ u i. before u (inr i))

  rotations_so : (ts : List Target) (logs : List LogPlan) (came : Origins) → AreFine p clock ts logs → DontMeet ts → AreAsBefore ts came → filter p (unlinked came (flat_map rotation_of logs)) ≡ going_paths (flat_map leftovers_of logs)
  rotations_so [] [] came f d before = refl
  rotations_so [] (log ∷ logs) came f d before = absurd f
  rotations_so (t ∷ ts) [] came f d before = absurd f
  rotations_so (t ∷ ts) (log ∷ logs) came f d before =
      ap (filter p) (unlinked_both came (rotation_of log) (flat_map rotation_of logs))
      ∙ (filter-append p (unlinked came (rotation_of log)) (unlinked (run came (rotation_of log)) (flat_map rotation_of logs))
      ∙ (ap (λ (xs : List Path). xs ++ filter p (unlinked (run came (rotation_of log)) (flat_map rotation_of logs))) (f.0.first came (before t (inl refl)))
      ∙ (ap (λ (xs : List Path). going_paths (leftovers_of log) ++ xs) (rotations_so ts logs (run came (rotation_of log)) f.1 d.1 (on_from t ts log came f.0 d.0 before))
      ∙ sym (map-append (λ (g : Path × WhyGone). g.0) (leftovers_of log) (flat_map leftovers_of logs)))))

  rotations_end : (ts : List Target) (logs : List LogPlan) (came : Origins) → AreFine p clock ts logs → DontMeet ts → AreAsBefore ts came → EndFrom (run came (flat_map rotation_of logs)) ts logs
  rotations_end [] [] came f d before = tt
  rotations_end [] (log ∷ logs) came f d before = absurd f
  rotations_end (t ∷ ts) [] came f d before = absurd f
  rotations_end (t ∷ ts) (log ∷ logs) came f d before = subst (λ (now : Origins). EndFrom now (t ∷ ts) (log ∷ logs)) (sym (run_both came (rotation_of log) (flat_map rotation_of logs))) (
    (λ other same. f.0.last came other (before t (inl refl)) (λ x own. same x own ∙ left_alone (OfOne ts) (flat_map rotation_of logs) (run came (rotation_of log)) x (rotations_touch ts logs f.1) (λ one. none_share t ts d.0 one.0 one.1 x own one.2))),
    rotations_end ts logs (run came (rotation_of log)) f.1 d.1 (on_from t ts log came f.0 d.0 before),
  )

  retirements_so : (ts : List Target) (logs : List LogPlan) (came : Origins) → AreFine p clock ts logs → DontMeet ts → EndFrom came ts logs → filter p (unlinked came (flat_map retirement_of logs)) ≡ going_paths (flat_map (retired_of clock) logs)
  retirements_so [] [] came f d e = refl
  retirements_so [] (log ∷ logs) came f d e = absurd f
  retirements_so (t ∷ ts) [] came f d e = absurd f
  retirements_so (t ∷ ts) (log ∷ logs) came f d e =
      ap (filter p) (unlinked_both came (retirement_of log) (flat_map retirement_of logs))
      ∙ (filter-append p (unlinked came (retirement_of log)) (unlinked (run came (retirement_of log)) (flat_map retirement_of logs))
      ∙ (ap (λ (xs : List Path). xs ++ filter p (unlinked (run came (retirement_of log)) (flat_map retirement_of logs))) (e.0 came (λ x own. refl))
      ∙ (ap (λ (xs : List Path). going_paths (retired_of clock log) ++ xs) (retirements_so ts logs (run came (retirement_of log)) f.1 d.1
      (ends_as ts logs came (run came (retirement_of log)) (λ u i x own. left_alone (NamesOf t) (retirement_of log) came x f.0.ends (λ of_t. none_share t ts d.0 u i x of_t own)) e.1))
      ∙ sym (map-append (λ (g : Path × WhyGone). g.0) (retired_of clock log) (flat_map (retired_of clock) logs)))))

  -- ---- one definition

  module _ (ts : List Target) (set : SetPlan) (f : AreFine p clock ts set.logs) where
    abbrev turn_steps : List Step
    turn_steps = flat_map rotation_of set.logs

    abbrev end_steps : List Step
    end_steps = flat_map retirement_of set.logs

    abbrev last_steps : List Step
    last_steps = program phase.Last set.last

    shared_touches : AllTouch (OfOne ts) (shared_steps set)
    shared_touches = touch_both (OfOne ts) (program phase.First set.first) (program phase.Pre set.pre ++ (turn_steps ++ (program phase.Post set.post ++ (end_steps ++ last_steps)))) (touch_program (OfOne ts) phase.First set.first)
        (touch_both (OfOne ts) (program phase.Pre set.pre) (turn_steps ++ (program phase.Post set.post ++ (end_steps ++ last_steps))) (touch_program (OfOne ts) phase.Pre set.pre)
        (touch_both (OfOne ts) turn_steps (program phase.Post set.post ++ (end_steps ++ last_steps)) (rotations_touch ts set.logs f)
        (touch_both (OfOne ts) (program phase.Post set.post) (end_steps ++ last_steps) (touch_program (OfOne ts) phase.Post set.post)
        (touch_both (OfOne ts) end_steps last_steps (retirements_touch ts set.logs f) (touch_program (OfOne ts) phase.Last set.last)))))

    single_touches : AllTouch (OfOne ts) (program phase.First set.first ++ (each_steps set.logs ++ program phase.Last set.last))
    single_touches = touch_both (OfOne ts) (program phase.First set.first) (each_steps set.logs ++ last_steps) (touch_program (OfOne ts) phase.First set.first)
        (touch_both (OfOne ts) (each_steps set.logs) last_steps (each_touches ts set.logs f) (touch_program (OfOne ts) phase.Last set.last))

    set_touches : AllTouch (OfOne ts) (set_steps (steps_of_set set))
    set_touches = by set.shared set.logs
      where
        by : (b : Bool) (logs : List LogPlan) → AllTouch (OfOne ts) (set_steps (by_logs b logs set))
        by true [] = tt
        by false [] = tt
        by true (log ∷ logs) = subst (AllTouch (OfOne ts)) (sym (append-nil (shared_steps set))) shared_touches
        by false (log ∷ logs) = single_touches

    module _ (d : DontMeet ts) (came : Origins) (before : AreAsBefore ts came) where
      abbrev turned : Origins
      turned = run came (flat_map rotation_of set.logs)

      shared_so : filter p (unlinked came (shared_steps set)) ≡ going_paths (flat_map leftovers_of set.logs ++ flat_map (retired_of clock) set.logs)
      shared_so =
          ap (filter p) (unlinked_program phase.First set.first (program phase.Pre set.pre ++ (turn_steps ++ (program phase.Post set.post ++ (end_steps ++ last_steps)))) came
          ∙ (unlinked_program phase.Pre set.pre (turn_steps ++ (program phase.Post set.post ++ (end_steps ++ last_steps))) came
          ∙ (unlinked_both came turn_steps (program phase.Post set.post ++ (end_steps ++ last_steps))
          ∙ ap (λ (xs : List Path). unlinked came turn_steps ++ xs) (unlinked_program phase.Post set.post (end_steps ++ last_steps) turned
          ∙ (unlinked_both turned end_steps last_steps ∙ (ap (λ (xs : List Path). unlinked turned end_steps ++ xs) (unlinked_by_program phase.Last set.last (run turned end_steps)) ∙ append-nil (unlinked turned end_steps)))))))
          ∙ (filter-append p (unlinked came turn_steps) (unlinked turned end_steps)
          ∙ (ap (λ (xs : List Path). xs ++ filter p (unlinked turned end_steps)) (rotations_so ts set.logs came f d before)
          ∙ (ap (λ (xs : List Path). going_paths (flat_map leftovers_of set.logs) ++ xs) (retirements_so ts set.logs turned f d (rotations_end ts set.logs came f d before))
          ∙ sym (map-append (λ (g : Path × WhyGone). g.0) (flat_map leftovers_of set.logs) (flat_map (retired_of clock) set.logs)))))

      single_so : filter p (unlinked came (program phase.First set.first ++ (each_steps set.logs ++ program phase.Last set.last))) ≡ going_paths (flat_map (log_removed clock) set.logs)
      single_so =
          ap (filter p) (unlinked_program phase.First set.first (each_steps set.logs ++ last_steps) came
          ∙ (unlinked_both came (each_steps set.logs) last_steps
          ∙ (ap (λ (xs : List Path). unlinked came (each_steps set.logs) ++ xs) (unlinked_by_program phase.Last set.last (run came (each_steps set.logs))) ∙ append-nil (unlinked came (each_steps set.logs)))))
          ∙ each_so ts set.logs came f d before

      set_so : filter p (unlinked came (set_steps (steps_of_set set))) ≡ going_paths (set_removed clock set)
      set_so = by set.shared set.logs refl
        where
          by : (b : Bool) (logs : List LogPlan) → set.logs ≡ logs → filter p (unlinked came (set_steps (by_logs b logs set))) ≡ going_paths (cond b (flat_map leftovers_of set.logs ++ flat_map (retired_of clock) set.logs) (flat_map (log_removed clock) set.logs))
          by true [] e = ap (λ (ls : List LogPlan). going_paths (flat_map leftovers_of ls ++ flat_map (retired_of clock) ls)) (sym e)
          by false [] e = ap (λ (ls : List LogPlan). going_paths (flat_map (log_removed clock) ls)) (sym e)
          by true (log ∷ logs) e = ap (λ (steps : List Step). filter p (unlinked came steps)) (append-nil (shared_steps set)) ∙ shared_so
          by false (log ∷ logs) e = single_so

  -- ---- all definitions

  sets_so : (groups : List (List Target)) (sets : List SetPlan) (came : Origins) → AllFine p clock groups sets → DontMeet (flat_map (λ ts. ts) groups) → AreAsBefore (flat_map (λ ts. ts) groups) came
      → filter p (unlinked came (flat_map set_steps (map steps_of_set sets))) ≡ going_paths (removed_by clock sets)
  sets_so [] [] came f d before = refl
  sets_so [] (set ∷ sets) came f d before = absurd f
  sets_so (ts ∷ groups) [] came f d before = absurd f
  sets_so (ts ∷ groups) (set ∷ sets) came f d before =
      ap (filter p) (unlinked_both came (set_steps (steps_of_set set)) (flat_map set_steps (map steps_of_set sets)))
      ∙ (filter-append p (unlinked came (set_steps (steps_of_set set))) (unlinked (run came (set_steps (steps_of_set set))) (flat_map set_steps (map steps_of_set sets)))
      ∙ (ap (λ (xs : List Path). xs ++ filter p (unlinked (run came (set_steps (steps_of_set set))) (flat_map set_steps (map steps_of_set sets))))
      (set_so ts set f.0 (meet_front ts (flat_map (λ us. us) groups) d) came (λ t i. before t (in_front t ts (flat_map (λ us. us) groups) i)))
      ∙ (ap (λ (xs : List Path). going_paths (set_removed clock set) ++ xs) (sets_so groups sets (run came (set_steps (steps_of_set set))) f.1 (meet_back ts (flat_map (λ us. us) groups) d)
      (as_before (OfOne ts) (set_steps (steps_of_set set)) came (flat_map (λ us. us) groups) (set_touches ts set f.0)
      (λ u i x own one. share_across ts (flat_map (λ us. us) groups) d one.0 u one.1 i x one.2 own) (λ u i. before u (in_back u ts (flat_map (λ us. us) groups) i))))
      ∙ sym (map-append (λ (g : Path × WhyGone). g.0) (set_removed clock set) (flat_map (set_removed clock) sets)))))

-- ---- part files

abbrev target_parts : Target → List Path
target_parts t = job_part_paths t.job

flat_of_map : {A B C : Type 0} (f : B → List C) (g : A → B) (xs : List A) → flat_map f (map g xs) ≡ flat_map (λ x. f (g x)) xs
flat_of_map f g [] = refl
flat_of_map f g (x ∷ xs) = ap (λ ys. f (g x) ++ ys) (flat_of_map f g xs)

parts_are : (sets : List SetPlan) → flat_map set_parts sets ≡ flat_map target_parts (targets_of_sets sets)
parts_are [] = refl
parts_are (set ∷ sets) =
    ap (λ (xs : List Path). set_parts set ++ xs) (parts_are sets)
    ∙ (ap (λ (xs : List Path). xs ++ flat_map target_parts (targets_of_sets sets)) (sym (flat_of_map target_parts target_in set.logs))
    ∙ sym (flat_map-append target_parts (map target_in set.logs) (targets_of_sets sets)))

is_listed : (xs : List Path) (x : Path) → IsIn x xs → in_list xs x ≡ true
is_listed [] x i = absurd i
is_listed (y ∷ ys) x (inl e) = ap (λ (b : Bool). b || in_list ys x) ((bytes_eq-Decides y x).1 e)
is_listed (y ∷ ys) x (inr i) = by (bytes_eq y x) (is_listed ys x i)
  where
    by : (b : Bool) → in_list ys x ≡ true → (b || in_list ys x) ≡ true
    by true e = refl
    by false e = e

not_listed : (xs : List Path) (x : Path) → ((y : Path) → IsIn y xs → y ≢ x) → in_list xs x ≡ false
not_listed [] x h = refl
not_listed (y ∷ ys) x h = by (bytes_eq y x) refl (not_listed ys x (λ z i. h z (inr i)))
  where
    by : (b : Bool) → bytes_eq y x ≡ b → in_list ys x ≡ false → (b || in_list ys x) ≡ false
    by true e f = absurd (h y (inl refl) ((bytes_eq-Decides y x).0 e))
    by false e f = f

in_names : (ts : List Target) (t : Target) → TargetsHaveNames ts → IsIn t ts → HasNames t
in_names [] t h i = absurd i
in_names (y ∷ ys) t h (inl e) = subst HasNames e h.0
in_names (y ∷ ys) t h (inr i) = in_names ys t h.1 i

-- the part file of its copy is no member, and not where the log's file stood
part_no_first : (t : Target) (job : Job) → HasNames t → t.job ≡ Some job → job.part ≢ t.ready.log
part_no_first t job h is same = go h.way
  where
    at_log : t.ready.log ≡ t.log → ⊥
    at_log first = h.parts t.ready.target (target_member t h) (sym (job_part t job h.family (target_member t h) (h.job job is)) ∙ (same ∙ first))

    go : HasWay t → ⊥
    go (inl stays) = at_log stays.first_is
    go (inr (asked, inl aside)) = at_log aside.first_is
    go (inr (asked, inr taken)) = let none : Some job ≡ None = sym is ∙ taken.no_job in cc

module _ (ts : List Target) (names : TargetsHaveNames ts) (d : DontMeet ts) where
  part_apart : (t : Target) (job : Job) → IsIn t ts → t.job ≡ Some job → (x : Path) → (x ≡ t.ready.log) ⊎ IsMember t.naming x → job.part ≢ x
  part_apart t job i is x (inl first) same = part_no_first t job (in_names ts t names i) is (same ∙ first)
  part_apart t job i is x (inr member) same =
      let h = in_names ts t names i in
      job_no_member t job h.family (target_member t h) (h.job job is) (subst (IsMember t.naming) (sym same) member)

  own_of : (t : Target) → IsIn t ts → (x : Path) → (x ≡ t.ready.log) ⊎ IsMember t.naming x → NamesOf t x
  own_of t i x (inl first) = subst (NamesOf t) (sym first) (named_own t.log t.naming t.ready.log (first_own t (in_names ts t names i)))
  own_of t i x (inr member) = member_own t.log t.naming x member

  of_job : (t : Target) (y : Path) (j : Option Job) → t.job ≡ j → IsIn y (job_part_paths j) → (job : Job) × (t.job ≡ Some job) × (job.part ≡ y)
  of_job t y None e i = absurd i
  of_job t y (Some job) e (inl same) = (job, e, same)
  of_job t y (Some job) e (inr none) = absurd none

  sorts : (t : Target) → IsIn t ts → Sorts (λ (x : Path). not (in_list (flat_map target_parts ts) x)) t
  sorts t i = record { keeps = keeps; drops = drops }
    where
      other : (x y : Path) → (x ≡ t.ready.log) ⊎ IsMember t.naming x → IsIn y (flat_map target_parts ts) → y ≢ x
      other x y h j same =
          let u = of_flat target_parts ts y j in
          let job = of_job u.0 y u.0.job refl u.2 in
          ⊎_elim (λ (e : t ≡ u.0). part_apart t job.0 i (ap (λ (z : Target). z.job) e ∙ job.1) x h (job.2 ∙ same))
          (λ (none : ShareNone t u.0). none x (own_of t i x h) (subst (NamesOf u.0) (job.2 ∙ same) (part_file_own u.0 (in_names ts u.0 names u.1) job.0 job.1)))
          (two_share ts d t u.0 i u.1)

      keeps : (x : Path) → (x ≡ t.ready.log) ⊎ IsMember t.naming x → not (in_list (flat_map target_parts ts) x) ≡ true
      keeps x h = ap not (not_listed (flat_map target_parts ts) x (λ y j. other x y h j))

      drops : (job : Job) → t.job ≡ Some job → not (in_list (flat_map target_parts ts) job.part) ≡ false
      drops job is = ap not (is_listed (flat_map target_parts ts) job.part (to_flat target_parts ts t job.part i (subst (λ (j : Option Job). IsIn job.part (job_part_paths j)) (sym is) (inl refl))))

-- ---- the state and the mailer make no difference to what goes

-- by force each log is decided on by itself
by_force : (rule : Rule) (size : ℕ) (mtime : ℤ) (last other : Option Civil) (now : Moment) → due_of rule size mtime last now true ≡ due_of rule size mtime other now true
unfolding due_of
by_force rule size mtime last other now = refl

-- the same is told of two logs
abbrev SameTold : Clock → List LogPlan → List LogPlan → Type 0
SameTold clock [] [] = Unit {0}
SameTold clock (x ∷ xs) (y ∷ ys) = ((leftovers_of x ≡ leftovers_of y) × (retired_of clock x ≡ retired_of clock y)) × SameTold clock xs ys
SameTold clock _ _ = ⊥

told_both : (clock : Clock) (xs ys us vs : List LogPlan) → SameTold clock xs ys → SameTold clock us vs → SameTold clock (xs ++ us) (ys ++ vs)
told_both clock [] [] us vs a b = b
told_both clock [] (y ∷ ys) us vs a b = absurd a
told_both clock (x ∷ xs) [] us vs a b = absurd a
told_both clock (x ∷ xs) (y ∷ ys) us vs a b = (a.0, told_both clock xs ys us vs a.1 b)

two_are : {A : Type 0} (a a' b b' : List A) → a ≡ a' → b ≡ b' → a ++ b ≡ a' ++ b'
two_are a a' b b' e f = ap (λ xs. xs ++ b) e ∙ ap (λ xs. a' ++ xs) f

lefts_told : (clock : Clock) (xs ys : List LogPlan) → SameTold clock xs ys → flat_map leftovers_of xs ≡ flat_map leftovers_of ys
lefts_told clock [] [] a = refl
lefts_told clock [] (y ∷ ys) a = absurd a
lefts_told clock (x ∷ xs) [] a = absurd a
lefts_told clock (x ∷ xs) (y ∷ ys) a = two_are (leftovers_of x) (leftovers_of y) (flat_map leftovers_of xs) (flat_map leftovers_of ys) a.0.0 (lefts_told clock xs ys a.1)

retired_told : (clock : Clock) (xs ys : List LogPlan) → SameTold clock xs ys → flat_map (retired_of clock) xs ≡ flat_map (retired_of clock) ys
retired_told clock [] [] a = refl
retired_told clock [] (y ∷ ys) a = absurd a
retired_told clock (x ∷ xs) [] a = absurd a
retired_told clock (x ∷ xs) (y ∷ ys) a = two_are (retired_of clock x) (retired_of clock y) (flat_map (retired_of clock) xs) (flat_map (retired_of clock) ys) a.0.1 (retired_told clock xs ys a.1)

logs_told : (clock : Clock) (xs ys : List LogPlan) → SameTold clock xs ys → flat_map (log_removed clock) xs ≡ flat_map (log_removed clock) ys
logs_told clock [] [] a = refl
logs_told clock [] (y ∷ ys) a = absurd a
logs_told clock (x ∷ xs) [] a = absurd a
logs_told clock (x ∷ xs) (y ∷ ys) a = two_are (log_removed clock x) (log_removed clock y) (flat_map (log_removed clock) xs) (flat_map (log_removed clock) ys)
    (two_are (leftovers_of x) (leftovers_of y) (retired_of clock x) (retired_of clock y) a.0.0 a.0.1) (logs_told clock xs ys a.1)

module _ (clock : Clock) (mailer other : Path) where
  lefts_same : (rule : Rule) (log : Path) (rs : List Removal) → map left_over (map (with_programs rule mailer log) rs) ≡ map left_over (map (with_programs rule other log) rs)
  lefts_same rule log [] = refl
  lefts_same rule log (r ∷ rs) = ap (λ (xs : List (Path × WhyGone)). left_over r ∷ xs) (lefts_same rule log rs)

  newest_same : (rule : Rule) (look : LogLook) (d : Option Format) → newest_going d clock (log_plan clock mailer rule look) ≡ newest_going d clock (log_plan clock other rule look)
  newest_same rule look None = refl
  newest_same rule look (Some f) = refl

  one_told : (rule : Rule) (look : LogLook) (d : Due) (fs : List Fault) → SameTold clock (where_due d (none_hinders fs (log_plan clock mailer rule look ∷ []))) (where_due d (none_hinders fs (log_plan clock other rule look ∷ [])))
  one_told rule look (due.Yes why) [] = (
    (
      lefts_same rule look.path (ready_for clock rule look).leftovers,
      ap (λ (xs : List (Path × WhyGone)). aside_going (aside_by rule.way look.path look.tmp) look.path ++ reverse xs) (newest_same rule look look.family.naming.dated),
    ),
    tt,
  )
  one_told rule look (due.Yes why) (f ∷ fs) = tt
  one_told rule look (due.No why) fs = tt

  same_logs : (rule : Rule) (decide decide' : LogLook → Due) (looks : List LogLook) → ((look : LogLook) → decide look ≡ decide' look) → SameTold clock (log_plans clock mailer rule decide looks) (log_plans clock other rule decide' looks)
  same_logs rule decide decide' [] same = tt
  same_logs rule decide decide' (look ∷ looks) same =
      told_both clock (where_due (decide look) (plans_of clock mailer rule look)) (where_due (decide' look) (plans_of clock other rule look)) (log_plans clock mailer rule decide looks) (log_plans clock other rule decide' looks)
      (subst (λ (d : Due). SameTold clock (where_due (decide look) (plans_of clock mailer rule look)) (where_due d (plans_of clock other rule look))) (same look) (one_told rule look (decide look) (hindrances clock rule look)))
      (same_logs rule decide decide' looks same)

  set_told : (rule : Rule) (xs ys : List LogPlan) → SameTold clock xs ys → set_removed clock (set_plan rule xs) ≡ set_removed clock (set_plan rule ys)
  set_told rule xs ys same = by rule.shared
    where
      by : (b : Bool) → cond b (flat_map leftovers_of xs ++ flat_map (retired_of clock) xs) (flat_map (log_removed clock) xs) ≡ cond b (flat_map leftovers_of ys ++ flat_map (retired_of clock) ys) (flat_map (log_removed clock) ys)
      by true = two_are (flat_map leftovers_of xs) (flat_map leftovers_of ys) (flat_map (retired_of clock) xs) (flat_map (retired_of clock) ys) (lefts_told clock xs ys same) (retired_told clock xs ys same)
      by false = logs_told clock xs ys same

  all_told : (decide decide' : Rule → LogLook → Due) (rules : List Rule) (sets : List SetLooks) → ((rule : Rule) (look : LogLook) → decide rule look ≡ decide' rule look) → removed_by clock (all_plans clock mailer decide rules sets) ≡ removed_by clock (all_plans clock other decide' rules sets)
  all_told decide decide' [] [] same = refl
  all_told decide decide' [] (set ∷ sets) same = refl
  all_told decide decide' (rule ∷ rules) [] same = refl
  all_told decide decide' (rule ∷ rules) (set ∷ sets) same =
      two_are (set_removed clock (set_plan rule (log_plans clock mailer rule (decide rule) set.logs))) (set_removed clock (set_plan rule (log_plans clock other rule (decide' rule) set.logs)))
      (removed_by clock (all_plans clock mailer decide rules sets)) (removed_by clock (all_plans clock other decide' rules sets))
      (set_told rule (log_plans clock mailer rule (decide rule) set.logs) (log_plans clock other rule (decide' rule) set.logs) (same_logs rule (decide rule) (decide' rule) set.logs (same rule)))
      (all_told decide decide' rules sets same)

-- ---- the law

pub all_foretold : (reserved : List Path) (rules : Rules) (sets : List SetLooks) (faults : List Fault) (looks : List Entry) (table : List Row) (clock : Clock) (mailer other : Path) → ShowsLooks reserved rules.sets sets faults looks
    → files_unlinked (plan_of rules.sets sets table clock (asking true mailer)) ≡ going_paths (going_of rules.sets sets clock other)
all_foretold reserved rules sets faults looks table clock mailer other shown =
    ap (λ (parts : List Path). filter (λ (x : Path). not (in_list parts x)) (unlinked own_names (flat_map set_steps (map steps_of_set (all_plans clock mailer decide rules.sets sets)))))
    (parts_are (all_plans clock mailer decide rules.sets sets) ∙ ap (flat_map target_parts) (plan_targets rules.sets sets table clock (asking true mailer)))
    ∙ (sets_so p clock (groups_of clock decide rules.sets sets) (all_plans clock mailer decide rules.sets sets) own_names
    (groups_fine p clock mailer decide rules.sets sets (λ t i. (in_names (all_targets clock decide rules.sets sets) t names i, sorts (all_targets clock decide rules.sets sets) names apart t i)))
    apart (λ t i x own. refl)
    ∙ ap going_paths (all_told clock mailer other decide (decision [] clock.now true) rules.sets sets (λ rule look. by_force rule look.seen.size look.seen.mtime (moment_of table look.path) (moment_of [] look.path) clock.now)))
  where
    decide : Rule → LogLook → Due
    decide = decision table clock.now true

    names : TargetsHaveNames (all_targets clock decide rules.sets sets)
    names = targets_have_names rules sets faults looks clock decide shown

    apart : DontMeet (all_targets clock decide rules.sets sets)
    apart = targets_dont_meet rules.sets sets faults looks clock decide shown

    p : Path → Bool
    p x = not (in_list (flat_map target_parts (all_targets clock decide rules.sets sets)) x)
