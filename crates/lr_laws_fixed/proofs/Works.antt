-- The work of two runs that left the same entries met the same faults.
use Rattle.std.proofs.Common.{◌≡◌, ◌≤◌, ◌<◌, true, Option, List, [], ◌∷◌, ◌++◌, length, map, Ok, Err, refl, sym, ap, ◌∙◌, subst, arith}
use Rattle.std.proofs.lemmas.List.{append-nil}
use Rattle.std.proofs.lemmas.List.Elements.{filter-append}
use Rattle.std.specs.List.{list_all}
use Rattle.lr_rules.specs.Limits.{meets_limits}
use Rattle.lr_rules.specs.declared.clock.Clock.{Clock}
use Rattle.lr_rules.specs.declared.fault.Fault.{Fault}
use Rattle.lr_rules.specs.declared.fault.Fault.TheVariants as fault
use Rattle.lr_rules.specs.declared.fault.StateKind.TheVariants as kind
use Rattle.lr_rules.specs.declared.path.Path.{Path}
use Rattle.lr_rules.specs.declared.rule.Rule.{Rule}
use Rattle.lr_rules.specs.declared.rules.Rules.{Rules}
use Rattle.lr_rules.specs.StatePath.{state_part}
use Rattle.lr_host.specs.declared.entry.Entry.{Entry}
use Rattle.lr_host.specs.Counted.{calls_in}
use Rattle.lr_plan.specs.Asked.{Asked}
use Rattle.lr_plan.specs.declared.plan.SetPlan.{SetPlan}
use Rattle.lr_plan.specs.declared.step.SetSteps.{SetSteps}
use Rattle.lr_plan.specs.Done.{SetsDone}
use Rattle.lr_plan.specs.Planned.{decision}
use Rattle.lr_plan.specs.Steps.{steps_of_set, steps_of_plan}
use Rattle.lr_state.specs.declared.remembered.Remembered.{Remembered}
use Rattle.lr_state.specs.Known.{Known, IsKnown}
use Rattle.lr_state.specs.Sights.{StateSights, ShowsState}
use Rattle.lr_plan.specs.declared.plan.Plan.{Plan}
use Rattle.lr_run.specs.InternalRuns.{Looked, Worked, Works, not_known, too_big, worked, plan_in, measured_in}
use Rattle.lr_run.proofs.Called.{none_before, none_behind}
use Rattle.lr_run.proofs.Stating.{state_writing}
use Rattle.lr_run.proofs.Works.{steps_simple}
use Rattle.lr_laws_fixed.proofs.Agreeing.{acts_agree}
use Rattle.lr_laws_fixed.proofs.Called.{one_uncalled}
use Rattle.lr_laws_fixed.proofs.Keys.{shown, Agree}
use Rattle.lr_laws_fixed.proofs.LookedOne.{looks_are, acts_are, plans_are, sets_are, measured_is}
use Rattle.lr_laws_fixed.proofs.Makes.{acts_make_none}
use Rattle.lr_laws_fixed.proofs.Ends.{shows_end, ends_in, sets_fixed}
use Rattle.lr_laws_fixed.proofs.StateEndsNone.{state_ends_none}
use Rattle.lr_laws_fixed.proofs.StateRead.{state_one}
use Rattle.lr_laws_fixed.proofs.Writing.{is_make, makes_in, told_by, state_told}

-- ---- one that acted

module _ (state : Path) (rules : List Rule) (clock : Clock) (asked : Asked) (own : List Fault) (ts : List Entry) (limits : list_all meets_limits rules ≡ true) (w : Worked state rules clock asked own ts) (c : calls_in own ≡ 0) where
  abbrev given : Rules
  given = record { sets = rules; limits = limits }

  -- no call failed behind the looks
  no_call : calls_in ((plan_in state rules ts w.looked clock asked).faults ++ w.acted.of_acts) ≡ 0
  no_call = none_behind own w.looked.of_looks _ w.acted.faults_are c

  -- nor at the writing
  no_call_written : calls_in w.acted.entries.of_state ≡ 0
  no_call_written = none_behind w.acted.of_acts w.acted.entries.of_plan w.acted.entries.of_state w.acted.entries.faults_are (none_behind _ (plan_in state rules ts w.looked clock asked).faults w.acted.of_acts refl no_call)

  -- the files that were made are those of the writing
  made_is : makes_in (state_part state) w.looked.acts ≡ makes_in (state_part state) w.acted.entries.entries.back
  made_is =
      ap (makes_in (state_part state)) w.acted.entries.entries.joined
      ∙ (filter-append (is_make (state_part state)) w.acted.entries.entries.front w.acted.entries.entries.back
      ∙ ap (λ es. es ++ makes_in (state_part state) w.acted.entries.entries.back) (acts_make_none state given w.looked.sets clock asked.mailer (decision w.looked.remembered.table clock.now asked.force) w.looked.of_looks w.looked.looks w.acted.marks w.acted.entries.of_plan w.acted.entries.entries.front w.looked.shown w.acted.entries.entries.first))

  -- by them the faults of the writing are told
  written_told : w.acted.entries.of_state ≡ told_by (state_part state) (makes_in (state_part state) w.looked.acts)
  written_told =
      state_told state w.looked.remembered.stale w.acted.dirs _ [] w.acted.entries.of_state w.acted.entries.entries.back w.acted.entries.entries.second no_call_written
      ∙ sym (ap (told_by (state_part state)) made_is)

  -- nor at the acts of the plan
  no_call_acted : calls_in w.acted.entries.of_plan ≡ 0
  no_call_acted = none_before w.acted.of_acts w.acted.entries.of_plan w.acted.entries.of_state w.acted.entries.faults_are (none_behind _ (plan_in state rules ts w.looked clock asked).faults w.acted.of_acts refl no_call)

  -- the ends that are shown are those of the plan's steps
  ends_are : ends_in w.looked.acts ≡ ends_in w.acted.entries.entries.front ++ []
  ends_are =
      ap ends_in w.acted.entries.entries.joined
      ∙ (filter-append shows_end w.acted.entries.entries.front w.acted.entries.entries.back
      ∙ ap (λ es. ends_in w.acted.entries.entries.front ++ es) (state_ends_none state w.looked.remembered.stale w.acted.dirs _ w.acted.entries.of_state w.acted.entries.entries.back w.acted.entries.entries.second))

  -- nothing that the faults of the plan's acts deny was done
  agreed : Agree (shown w.looked.acts) w.acted.entries.of_plan w.acted.entries.entries.front
  agreed = acts_agree state given w.looked.sets w.looked.of_looks w.looked.looks clock asked.mailer (decision w.looked.remembered.table clock.now asked.force) w.looked.shown w.acted.marks w.acted.entries.of_plan w.looked.acts w.acted.entries.entries.front w.acted.entries.entries.back
      w.acted.entries.entries.joined w.acted.entries.entries.first (state_writing state w.looked.remembered.stale w.acted.dirs _ w.acted.entries.of_state w.acted.entries.entries.back w.acted.entries.entries.second)

-- ---- one that knew its state, and one that didn't

err_same : (f g : Fault) (k l : Known) → k ≡ Err f → l ≡ Err g → k ≡ l → f ≡ g
err_same f g k l p q e = cc

ok_or_err : (r : Remembered) (f : Fault) (k l : Known) → k ≡ Err f → l ≡ Ok r → k ≡ l → ⊥
ok_or_err r f k l p q e = cc

-- the same entries aren't those of both
known_or_not : (state : Path) (rules : List Rule) (own : List Fault) (ts us : List Entry) (a : StateSights) (f : Fault) → IsKnown state a (Err f) → own ≡ f ∷ [] → ShowsState state 65_536 a ts → Looked state rules us → ts ≡ us → calls_in own ≡ 0 → ⊥
known_or_not state rules own ts us a f x is shown w e c = ok_or_err w.remembered f (Err f) (Ok w.remembered) refl refl
    (state_one state 65_536 a w.sights (Err f) (Ok w.remembered) ts w.reads [] (w.looks ++ w.acts) shown w.read x w.known (one_uncalled own f is c) tt (append-nil ts ∙ (e ∙ w.joined))).known_is

-- ---- two works

module _ (state : Path) (rules : List Rule) (clock : Clock) (asked : Asked) (own more : List Fault) (ts us : List Entry) (e : ts ≡ us) (c : calls_in own ≡ 0) (d : calls_in more ≡ 0) (limits : list_all meets_limits rules ≡ true) where
  -- neither knew its state
  unknown_one : (a b : StateSights) (f g : Fault) → IsKnown state a (Err f) → IsKnown state b (Err g) → own ≡ f ∷ [] → more ≡ g ∷ [] → ShowsState state 65_536 a ts → ShowsState state 65_536 b us → own ≡ more
  unknown_one a b f g x y is are h k = is ∙ (ap (λ (z : Fault). z ∷ []) same ∙ sym are)
    where
      same : f ≡ g
      same = err_same f g (Err f) (Err g) refl refl (state_one state 65_536 a b (Err f) (Err g) ts us [] [] h k x y (one_uncalled own f is c) (one_uncalled more g are d) (append-nil ts ∙ (e ∙ sym (append-nil us)))).known_is

  -- both worked
  worked_one : Worked state rules clock asked own ts → Worked state rules clock asked more us → own ≡ more
  worked_one v w = v.acted.faults_are ∙ (ap (λ fs. fs ++ (v_plan ++ v.acted.of_acts)) looks ∙ (ap (λ fs. w.looked.of_looks ++ (fs ++ v.acted.of_acts)) plans ∙ (ap (λ fs. w.looked.of_looks ++ (w_plan ++ fs)) of_acts ∙ sym w.acted.faults_are)))
    where
      v_plan : List Fault
      v_plan = (plan_in state rules ts v.looked clock asked).faults

      w_plan : List Fault
      w_plan = (plan_in state rules us w.looked clock asked).faults

      no_v : calls_in v.looked.of_looks ≡ 0
      no_v = none_before own v.looked.of_looks _ v.acted.faults_are c

      no_w : calls_in w.looked.of_looks ≡ 0
      no_w = none_before more w.looked.of_looks _ w.acted.faults_are d

      looks : v.looked.of_looks ≡ w.looked.of_looks
      looks = (looks_are state rules clock asked ts us v.looked w.looked e no_v no_w limits).1

      plans : v_plan ≡ w_plan
      plans = plans_are state rules clock asked ts us v.looked w.looked e no_v no_w limits

      acts : v.looked.acts ≡ w.looked.acts
      acts = acts_are state rules clock asked ts us v.looked w.looked e no_v no_w limits

      -- the steps of the one are those of the other
      steps : List SetSteps
      steps = steps_of_plan (plan_in state rules us w.looked clock asked)

      done : SetsDone steps v.acted.marks v.acted.entries.of_plan v.acted.entries.entries.front
      done = subst (λ (ps : List SetPlan). SetsDone (map steps_of_set ps) v.acted.marks v.acted.entries.of_plan v.acted.entries.entries.front) (sets_are state rules clock asked ts us v.looked w.looked e no_v no_w limits) v.acted.entries.entries.first

      of_plan : v.acted.entries.of_plan ≡ w.acted.entries.of_plan
      of_plan = (sets_fixed (shown v.looked.acts) steps (steps_simple rules w.looked.sets w.looked.remembered.table clock asked) v.acted.marks w.acted.marks v.acted.entries.of_plan w.acted.entries.of_plan v.acted.entries.entries.front w.acted.entries.entries.front [] [] done w.acted.entries.entries.first
          (no_call_acted state rules clock asked own ts limits v c) (no_call_acted state rules clock asked more us limits w d)
          (agreed state rules clock asked own ts limits v c) (subst (λ (es : List Entry). Agree (shown es) w.acted.entries.of_plan w.acted.entries.entries.front) (sym acts) (agreed state rules clock asked more us limits w d))
          (sym (ends_are state rules clock asked own ts limits v c) ∙ (ap ends_in acts ∙ ends_are state rules clock asked more us limits w d))).faults_are

      of_state : v.acted.entries.of_state ≡ w.acted.entries.of_state
      of_state = written_told state rules clock asked own ts limits v c ∙ (ap (λ es. told_by (state_part state) (makes_in (state_part state) es)) acts ∙ sym (written_told state rules clock asked more us limits w d))

      of_acts : v.acted.of_acts ≡ w.acted.of_acts
      of_acts = v.acted.entries.faults_are ∙ (ap (λ fs. fs ++ v.acted.entries.of_state) of_plan ∙ (ap (λ fs. w.acted.entries.of_plan ++ fs) of_state ∙ sym w.acted.entries.faults_are))

  -- the text of both could become too big
  big_one : (v : Looked state rules ts) (w : Looked state rules us) → own ≡ v.of_looks ++ fault.State 0 kind.TooBig ∷ [] → more ≡ w.of_looks ++ fault.State 0 kind.TooBig ∷ [] → own ≡ more
  big_one v w is are = is ∙ (ap (λ fs. fs ++ fault.State 0 kind.TooBig ∷ []) (looks_are state rules clock asked ts us v w e (none_before own v.of_looks _ is c) (none_before more w.of_looks _ are d) limits).1 ∙ sym are)

  -- it couldn't become so for one alone
  big_or_not : (v : Looked state rules ts) (w : Looked state rules us) → calls_in v.of_looks ≡ 0 → calls_in w.of_looks ≡ 0 → 67_108_864 < length (measured_in state rules ts v clock asked) → length (measured_in state rules us w clock asked) ≤ 67_108_864 → ⊥
  big_or_not v w no_v no_w big small = let same : length (measured_in state rules ts v clock asked) ≡ length (measured_in state rules us w clock asked) = ap length (measured_is state rules clock asked ts us v w e no_v no_w limits) in omega (arith, same, big, small)

  small_or_not : (v : Looked state rules ts) (w : Looked state rules us) → calls_in v.of_looks ≡ 0 → calls_in w.of_looks ≡ 0 → length (measured_in state rules ts v clock asked) ≤ 67_108_864 → 67_108_864 < length (measured_in state rules us w clock asked) → ⊥
  small_or_not v w no_v no_w small big = let same : length (measured_in state rules ts v clock asked) ≡ length (measured_in state rules us w clock asked) = ap length (measured_is state rules clock asked ts us v w e no_v no_w limits) in omega (arith, same, big, small)

  pub works_one : {plan other : Option Plan} → Works state rules clock asked plan own ts → Works state rules clock asked other more us → own ≡ more
  works_one (not_known a f x lost is h) (not_known b g y gone are k) = unknown_one a b f g x y is are h k
  works_one (not_known a f x lost is h) (too_big w big gone are none) = absurd (known_or_not state rules own ts us a f x is h w e c)
  works_one (not_known a f x lost is h) (worked w lies) = absurd (known_or_not state rules own ts us a f x is h w.looked e c)
  works_one (too_big v big lost is none) (not_known b g y gone are k) = absurd (known_or_not state rules more us ts b g y are k v (sym e) d)
  works_one (too_big v big lost is none) (too_big w great gone are nothing) = big_one v w is are
  works_one (too_big v big lost is none) (worked w lies) = absurd (big_or_not v w.looked (none_before own v.of_looks _ is c) (none_before more w.looked.of_looks _ w.acted.faults_are d) big w.acted.small)
  works_one (worked v tells) (not_known b g y gone are k) = absurd (known_or_not state rules more us ts b g y are k v.looked (sym e) d)
  works_one (worked v tells) (too_big w big gone are none) = absurd (small_or_not v.looked w (none_before own v.looked.of_looks _ v.acted.faults_are c) (none_before more w.of_looks _ are d) v.acted.small big)
  works_one (worked v tells) (worked w lies) = worked_one v w
