-- In a plan each file is made by one step alone, and each log is read by one alone.
use Rattle.std.proofs.Common.{◌≡◌, ◌≢◌, inl, inr, ⊎_elim, Bool, true, false, List, [], ◌∷◌, ◌++◌, map, Option, Some, None, refl, sym, ap, ◌∙◌, subst}
use Rattle.std.specs.List.{flat_map}
use Rattle.lr_rules.specs.declared.clock.Clock.{Clock}
use Rattle.lr_rules.specs.declared.fault.Fault.{Fault}
use Rattle.lr_rules.specs.declared.path.Path.{Path}
use Rattle.lr_rules.specs.declared.rule.Make.{Make}
use Rattle.lr_rules.specs.declared.rule.Make.TheVariants as make
use Rattle.lr_rules.specs.declared.rule.Rule.{Rule}
use Rattle.lr_rules.specs.declared.rules.Rules.{Rules}
use Rattle.lr_rules.specs.Names.{the_log, IsOwnName, Meet}
use Rattle.lr_due.specs.declared.answer.Due.{Due}
use Rattle.lr_host.specs.declared.entry.Entry.{Entry}
use Rattle.lr_host.specs.Lists.{AreDistinct, IsIn}
use Rattle.lr_host.proofs.Lists.{in_front, in_back, in_append}
use Rattle.lr_chain.specs.declared.ready.Ready.{Ready}
use Rattle.lr_copy.specs.declared.job.Job.{Job}
use Rattle.lr_plan.specs.declared.looks.LogLook.{LogLook}
use Rattle.lr_plan.specs.declared.looks.SetLooks.{SetLooks}
use Rattle.lr_plan.specs.declared.plan.LogPlan.{LogPlan}
use Rattle.lr_plan.specs.declared.plan.SetPlan.{SetPlan}
use Rattle.lr_plan.specs.Planned.{all_plans}
use Rattle.lr_plan.specs.Steps.{steps_of_set}
use Rattle.lr_acts.specs.Making.{all_of_sets}
use Rattle.lr_looks.specs.Shown.{ShowsLooks}
use Rattle.lr_laws_rotations.specs.Target.{Target, source_of}
use Rattle.lr_laws_rotations.specs.Apart.{HasNames, TargetsHaveNames}
use Rattle.lr_laws_acts.specs.Fitting.{NoneMeets, DontMeet}
use Rattle.lr_laws_acts.specs.Planned.{IsReadyFor, AreReadyFor, HaveLogs}
use Rattle.lr_laws_looks.specs.Free.{IsFreeOf}
use Rattle.lr_laws_looks.specs.Targets.{groups_of, all_targets}
use Rattle.lr_laws_looks.proofs.Apart.{targets_dont_meet}
use Rattle.lr_laws_looks.proofs.Elements.{in_each}
use Rattle.lr_laws_looks.proofs.Free.{targets_free}
use Rattle.lr_laws_looks.proofs.Ready.{plans_have_logs}
use Rattle.lr_laws_looks.proofs.Seen.{targets_have_names}
use Rattle.lr_laws_fixed.proofs.Keys.{Key, Made, WasRead, keys_of, HaveNoneOf, once_both}
use Rattle.lr_laws_fixed.proofs.StepKeys.{anew_keys, copy_keys, first_keys, second_keys, first_of, second_of, plan_keys, all_keys, sets_are}
use Rattle.lr_run.proofs.Members.{has_members, part_no_log, meets_none}
use Rattle.lr_laws_rotations.proofs.Own.{named_own, part_file_own}
use Rattle.lr_laws_rotations.proofs.Way.{source_own}

-- ---- what is done to each log, by the targets

abbrev first_in : Target → List Key
first_in t = first_keys t.ready.make t.log t.job t.aside

abbrev second_in : Target → List Key
second_in t = second_keys t.job t.aside

abbrev both_in : Target → List Key
both_in t = first_in t ++ second_in t

abbrev target_keys : Bool → List Target → List Key
target_keys true ts = flat_map first_in ts ++ flat_map second_in ts
target_keys false ts = flat_map both_in ts

-- the programs before removals make no difference
first_is : (t : Target) (l : LogPlan) → IsReadyFor t l → first_of l ≡ first_in t
first_is t l r =
    ap (λ (ready : Ready). first_keys ready.make l.log l.job l.aside) r.ready_is
    ∙ (ap (λ (x : Path). first_keys t.ready.make x l.job l.aside) r.log_is
    ∙ (ap (λ (j : Option Job). first_keys t.ready.make t.log j l.aside) r.job_is
    ∙ ap (λ (a : Option Path). first_keys t.ready.make t.log t.job a) r.aside_is))

second_is : (t : Target) (l : LogPlan) → IsReadyFor t l → second_of l ≡ second_in t
second_is t l r = ap (λ (j : Option Job). second_keys j l.aside) r.job_is ∙ ap (λ (a : Option Path). second_keys t.job a) r.aside_is

both_is : (t : Target) (l : LogPlan) → IsReadyFor t l → first_of l ++ second_of l ≡ both_in t
both_is t l r = ap (λ (ks : List Key). ks ++ second_of l) (first_is t l r) ∙ ap (λ (ks : List Key). first_in t ++ ks) (second_is t l r)

flat_same : (f : LogPlan → List Key) (g : Target → List Key) → ((t : Target) (l : LogPlan) → IsReadyFor t l → f l ≡ g t) → (ts : List Target) (logs : List LogPlan) → AreReadyFor ts logs → flat_map f logs ≡ flat_map g ts
flat_same f g same [] [] h = refl
flat_same f g same [] (l ∷ ls) h = absurd h
flat_same f g same (t ∷ ts) [] h = absurd h
flat_same f g same (t ∷ ts) (l ∷ ls) h = ap (λ (ks : List Key). ks ++ flat_map f ls) (same t l h.0) ∙ ap (λ (ks : List Key). g t ++ ks) (flat_same f g same ts ls h.1)

-- each definition has its logs
group_are : (b : Bool) (ts : List Target) (logs : List LogPlan) → AreReadyFor ts logs → plan_keys b logs ≡ target_keys b ts
group_are true ts logs h = ap (λ (ks : List Key). ks ++ flat_map second_of logs) (flat_same first_of first_in first_is ts logs h) ∙ ap (λ (ks : List Key). flat_map first_in ts ++ ks) (flat_same second_of second_in second_is ts logs h)
group_are false ts logs h = flat_same (λ (l : LogPlan). first_of l ++ second_of l) both_in both_is ts logs h

abbrev groups_keys : List (List Target) → List SetPlan → List Key
groups_keys (g ∷ gs) (s ∷ ss) = target_keys s.shared g ++ groups_keys gs ss
groups_keys _ _ = []

groups_are : (groups : List (List Target)) (sets : List SetPlan) → HaveLogs groups sets → all_keys sets ≡ groups_keys groups sets
groups_are [] [] h = refl
groups_are [] (s ∷ ss) h = absurd h
groups_are (g ∷ gs) [] h = absurd h
groups_are (g ∷ gs) (s ∷ ss) h = ap (λ (ks : List Key). ks ++ all_keys ss) (group_are s.shared g s.logs h.0) ∙ ap (λ (ks : List Key). target_keys s.shared g ++ ks) (groups_are gs ss h.1)

-- ---- what is done to one log

-- what is made, and what is read, has a name of the log
abbrev IsKeyOf : Target → Key → Type 0
IsKeyOf t (Made x) = IsOwnName t.log t.naming x
IsKeyOf t (WasRead x) = IsOwnName t.log t.naming x

anew_of : (t : Target) (m : Make) (k : Key) → IsIn k (anew_keys m t.log) → IsKeyOf t k
anew_of t make.No k i = absurd i
anew_of t (make.Yes mode) k (inl is) = subst (IsKeyOf t) is (the_log refl)
anew_of t (make.Yes mode) k (inr none) = absurd none

copy_of : (t : Target) (h : HasNames t) (job : Job) → t.job ≡ Some job → (k : Key) → IsIn k (copy_keys job) → IsKeyOf t k
copy_of t h job is k (inl e) = subst (IsKeyOf t) e (part_file_own t h job is)
copy_of t h job is k (inr (inl e)) = subst (IsKeyOf t) e (subst (IsOwnName t.log t.naming) (sym (h.job job is).from_is) (named_own t.log t.naming (source_of t) (source_own t h)))
copy_of t h job is k (inr (inr none)) = absurd none

-- of a half, that each key of it is of the log
abbrev AreOwn : (Target → List Key) → Type 0
AreOwn f = (t : Target) → HasNames t → (k : Key) → IsIn k (f t) → IsKeyOf t k

first_own : AreOwn first_in
first_own t h k i = go t.job t.aside refl i
  where
    go : (o : Option Job) (a : Option Path) → t.job ≡ o → IsIn k (first_keys t.ready.make t.log o a) → IsKeyOf t k
    go None a is x = anew_of t t.ready.make k x
    go (Some job) None is x = copy_of t h job is k x
    go (Some job) (Some path) is x = anew_of t t.ready.make k x

second_own : AreOwn second_in
second_own t h k i = go t.job t.aside refl i
  where
    go : (o : Option Job) (a : Option Path) → t.job ≡ o → IsIn k (second_keys o a) → IsKeyOf t k
    go None a is x = absurd x
    go (Some job) None is x = absurd x
    go (Some job) (Some path) is x = copy_of t h job is k x

both_own : AreOwn both_in
both_own t h k i = ⊎_elim (λ a. first_own t h k a) (λ b. second_own t h k b) (in_append k (first_in t) (second_in t) i)

-- ---- each of it once

made_same : (x y : Path) → Made x ≡ Made y → x ≡ y
made_same x y e = cc

read_or_made : (x y : Path) → WasRead x ≡ Made y → ⊥
read_or_made x y e = cc

anew_once : (m : Make) (log : Path) → AreDistinct (anew_keys m log)
anew_once make.No log = tt
anew_once (make.Yes mode) log = (tt, tt)

copy_once : (job : Job) → AreDistinct (copy_keys job)
copy_once job = (((λ e. read_or_made job.from job.part (sym e)), tt), (tt, tt))

-- the log that is made anew is no part file
anew_or_copy : (m : Make) (log : Path) (job : Job) → job.part ≢ log → HaveNoneOf (anew_keys m log) (copy_keys job)
anew_or_copy make.No log job other k i j = i
anew_or_copy (make.Yes mode) log job other k (inl e) (inl f) = other (made_same job.part log (f ∙ sym e))
anew_or_copy (make.Yes mode) log job other k (inl e) (inr (inl f)) = read_or_made job.from log (f ∙ sym e)
anew_or_copy (make.Yes mode) log job other k (inl e) (inr (inr none)) = none
anew_or_copy (make.Yes mode) log job other k (inr none) j = none

-- of a half, that each of it is done once
abbrev AreOnce : (Target → List Key) → Type 0
AreOnce f = (t : Target) → HasNames t → AreDistinct (f t)

first_once : AreOnce first_in
first_once t h = go t.job t.aside
  where
    go : (o : Option Job) (a : Option Path) → AreDistinct (first_keys t.ready.make t.log o a)
    go None a = anew_once t.ready.make t.log
    go (Some job) None = copy_once job
    go (Some job) (Some path) = anew_once t.ready.make t.log

second_once : AreOnce second_in
second_once t h = go t.job t.aside
  where
    go : (o : Option Job) (a : Option Path) → AreDistinct (second_keys o a)
    go None a = tt
    go (Some job) None = tt
    go (Some job) (Some path) = copy_once job

-- the two halves of a log have nothing in common
half_off : (t : Target) → HasNames t → HaveNoneOf (first_in t) (second_in t)
half_off t h k i j = go t.job t.aside refl i j
  where
    go : (o : Option Job) (a : Option Path) → t.job ≡ o → IsIn k (first_keys t.ready.make t.log o a) → IsIn k (second_keys o a) → ⊥
    go None a is x y = y
    go (Some job) None is x y = y
    go (Some job) (Some path) is x y = anew_or_copy t.ready.make t.log job (part_no_log t (has_members t h) job is) k x y

both_once : AreOnce both_in
both_once t h = once_both (first_in t) (second_in t) (first_once t h) (second_once t h) (half_off t h)

-- ---- of logs that don't meet

-- what the rotation of another log may do is something else
key_off : (t u : Target) (k : Key) → (Meet u.log u.naming t.log t.naming → ⊥) → IsKeyOf t k → IsKeyOf u k → ⊥
key_off t u (Made x) apart i j = apart (x, inl (j, inl i))
key_off t u (WasRead x) apart i j = apart (x, inl (j, inl i))

-- it is done to one of these
abbrev IsOfSome : List Target → Key → Type 0
IsOfSome ts k = (t : Target) × IsIn t ts × IsKeyOf t k

module _ (f : Target → List Key) (own : AreOwn f) where
  some_own : (ts : List Target) (k : Key) → TargetsHaveNames ts → IsIn k (flat_map f ts) → IsOfSome ts k
  some_own [] k h i = absurd i
  some_own (t ∷ ts) k h i = ⊎_elim (λ a. (t, inl refl, own t h.0 k a)) (λ b. let r = some_own ts k h.1 b in (r.0, inr r.1, r.2)) (in_append k (f t) (flat_map f ts) i)

  -- what is done to a log that meets none of these is none of theirs
  keys_off : (t : Target) (us : List Target) (k : Key) → NoneMeets t us → TargetsHaveNames us → IsKeyOf t k → IsIn k (flat_map f us) → ⊥
  keys_off t us k m h i j = let r = some_own us k h j in key_off t r.0 k (meets_none t r.0 us m r.1) i r.2

  half_once : AreOnce f → (ts : List Target) → DontMeet ts → TargetsHaveNames ts → AreDistinct (flat_map f ts)
  half_once once [] d h = tt
  half_once once (t ∷ ts) d h = once_both (f t) (flat_map f ts) (once t h.0) (half_once once ts d.1 h.1) (λ k i j. keys_off t ts k d.0 h.1 (own t h.0 k i) j)

halves_off : (ts : List Target) → DontMeet ts → TargetsHaveNames ts → HaveNoneOf (flat_map first_in ts) (flat_map second_in ts)
halves_off [] d h k i j = i
halves_off (t ∷ ts) d h k i j = ⊎_elim
    (λ a. ⊎_elim (λ b. half_off t h.0 k a b) (λ b. keys_off second_in second_own t ts k d.0 h.1 (first_own t h.0 k a) b) (in_append k (second_in t) (flat_map second_in ts) j))
    (λ a. ⊎_elim (λ b. keys_off first_in first_own t ts k d.0 h.1 (second_own t h.0 k b) a) (λ b. halves_off ts d.1 h.1 k a b) (in_append k (second_in t) (flat_map second_in ts) j))
    (in_append k (first_in t) (flat_map first_in ts) i)

-- of a definition
group_once : (b : Bool) (ts : List Target) → DontMeet ts → TargetsHaveNames ts → AreDistinct (target_keys b ts)
group_once true ts d h = once_both (flat_map first_in ts) (flat_map second_in ts) (half_once first_in first_own first_once ts d h) (half_once second_in second_own second_once ts d h) (halves_off ts d h)
group_once false ts d h = half_once both_in both_own both_once ts d h

group_own : (b : Bool) (ts : List Target) (k : Key) → TargetsHaveNames ts → IsIn k (target_keys b ts) → IsOfSome ts k
group_own true ts k h i = ⊎_elim (λ a. some_own first_in first_own ts k h a) (λ b. some_own second_in second_own ts k h b) (in_append k (flat_map first_in ts) (flat_map second_in ts) i)
group_own false ts k h i = some_own both_in both_own ts k h i

-- ---- of all definitions

abbrev all_of : List (List Target) → List Target
all_of groups = flat_map (λ (ts : List Target). ts) groups

names_split : (xs ys : List Target) → TargetsHaveNames (xs ++ ys) → TargetsHaveNames xs × TargetsHaveNames ys
names_split [] ys h = (tt, h)
names_split (x ∷ xs) ys h = let r = names_split xs ys h.1 in ((h.0, r.0), r.1)

front_meets : (t : Target) (xs ys : List Target) → NoneMeets t (xs ++ ys) → NoneMeets t xs
front_meets t [] ys m = tt
front_meets t (x ∷ xs) ys m = (m.0, front_meets t xs ys m.1)

-- none of the second meets one of the first
abbrev AreOff : List Target → List Target → Type 0
AreOff ts us = (t u : Target) → IsIn t ts → IsIn u us → Meet u.log u.naming t.log t.naming → ⊥

off_split : (xs ys : List Target) → DontMeet (xs ++ ys) → DontMeet xs × DontMeet ys × AreOff xs ys
off_split [] ys d = (tt, d, λ t u i j. absurd i)
off_split (x ∷ xs) ys d = let r = off_split xs ys d.1 in (
  (front_meets x xs ys d.0, r.0),
  r.1,
  λ t u i j m. ⊎_elim
      (λ (e : x ≡ t). meets_none x u (xs ++ ys) d.0 (in_back u xs ys j) (subst (λ (v : Target). Meet u.log u.naming v.log v.naming) (sym e) m))
      (λ l. r.2 t u l j m) i,
)

groups_own : (groups : List (List Target)) (sets : List SetPlan) (k : Key) → TargetsHaveNames (all_of groups) → IsIn k (groups_keys groups sets) → IsOfSome (all_of groups) k
groups_own [] ss k h i = absurd i
groups_own (g ∷ gs) [] k h i = absurd i
groups_own (g ∷ gs) (s ∷ ss) k h i = let n = names_split g (all_of gs) h in ⊎_elim
    (λ a. let r = group_own s.shared g k n.0 a in (r.0, in_front r.0 g (all_of gs) r.1, r.2))
    (λ b. let r = groups_own gs ss k n.1 b in (r.0, in_back r.0 g (all_of gs) r.1, r.2))
    (in_append k (target_keys s.shared g) (groups_keys gs ss) i)

groups_once : (groups : List (List Target)) (sets : List SetPlan) → DontMeet (all_of groups) → TargetsHaveNames (all_of groups) → AreDistinct (groups_keys groups sets)
groups_once [] ss d h = tt
groups_once (g ∷ gs) [] d h = tt
groups_once (g ∷ gs) (s ∷ ss) d h =
    let m = off_split g (all_of gs) d in
    let n = names_split g (all_of gs) h in
    once_both (target_keys s.shared g) (groups_keys gs ss) (group_once s.shared g m.0 n.0) (groups_once gs ss m.1 n.1)
    (λ k i j. let a = group_own s.shared g k n.0 i in let b = groups_own gs ss k n.1 j in key_off a.0 b.0 k (m.2 a.0 b.0 a.1 b.1) a.2 b.2)

-- ---- the plan

module _ {reserved : List Path} (rules : Rules) (sets : List SetLooks) (faults : List Fault) (ts : List Entry) (clock : Clock) (mailer : Path) (decide : Rule → LogLook → Due) (shown : ShowsLooks reserved rules.sets sets faults ts) where
  abbrev groups : List (List Target)
  groups = groups_of clock decide rules.sets sets

  abbrev plans : List SetPlan
  plans = all_plans clock mailer decide rules.sets sets

  keys_are : keys_of (all_of_sets (map steps_of_set (all_plans clock mailer decide rules.sets sets))) ≡ groups_keys (groups_of clock decide rules.sets sets) (all_plans clock mailer decide rules.sets sets)
  keys_are = sets_are plans ∙ groups_are groups plans (plans_have_logs rules.sets sets faults ts clock mailer decide shown)

  names : TargetsHaveNames (all_targets clock decide rules.sets sets)
  names = targets_have_names rules sets faults ts clock decide shown

  pub plan_once : AreDistinct (keys_of (all_of_sets (map steps_of_set (all_plans clock mailer decide rules.sets sets))))
  plan_once = subst AreDistinct (sym keys_are) (groups_once groups plans (targets_dont_meet rules.sets sets faults ts clock decide shown) names)

  -- it makes no file at a path that is reserved
  pub none_reserved : (x : Path) → IsIn x reserved → IsIn (Made x) (keys_of (all_of_sets (map steps_of_set (all_plans clock mailer decide rules.sets sets)))) → ⊥
  none_reserved x r i =
      let s = groups_own groups plans (Made x) names (subst (IsIn (Made x)) keys_are i) in
      in_each (IsFreeOf reserved) (all_targets clock decide rules.sets sets) s.0 (targets_free rules.sets sets faults ts clock decide shown) s.1 x r (inl s.2)
