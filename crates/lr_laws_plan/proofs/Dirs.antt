-- The directories that a run makes: each is of one log of its plan, no log and not the state has its path, so no act gives it a file; and an act that found another kind of thing there saw it.
use Rattle.std.proofs.Common.{◌≡◌, inl, inr, ⊎_elim, ◌∙◌, ℕ, Bool, true, false, cond, refl, sym, ap, subst, List, [], ◌∷◌, Option, Some, None}
use Rattle.std.specs.Prelude.{filter}
use Rattle.std.specs.List.{flat_map, AllByRecursion}
use Rattle.lr_rules.specs.declared.fault.Fault.{Fault}
use Rattle.lr_rules.specs.declared.fault.Fault.TheVariants as fault
use Rattle.lr_rules.specs.declared.path.Path.{Path}
use Rattle.lr_rules.specs.Names.{IsOwnName, the_log}
use Rattle.lr_rules.specs.StatePath.{state_part}
use Rattle.lr_host.specs.declared.entry.Entry.{Entry}
use Rattle.lr_host.specs.declared.entry.Entry.TheVariants as entry
use Rattle.lr_host.specs.declared.thing.Seen.{Seen}
use Rattle.lr_host.specs.Lists.{IsIn}
use Rattle.lr_host.specs.Looks.{IsNoDir}
use Rattle.lr_host.specs.Steps.{is_change}
use Rattle.lr_host.specs.Told.{Each}
use Rattle.lr_host.proofs.Lists.{of_flat}
use Rattle.lr_chain.specs.declared.ready.Ready.{Ready}
use Rattle.lr_copy.specs.declared.job.BytesStop.TheVariants as broke
use Rattle.lr_plan.specs.declared.mark.Mark.{Mark}
use Rattle.lr_plan.specs.declared.plan.LogPlan.{LogPlan}
use Rattle.lr_plan.specs.declared.plan.SetPlan.{SetPlan}
use Rattle.lr_plan.specs.declared.step.Step.{Step}
use Rattle.lr_plan.specs.declared.step.Step.TheVariants as step
use Rattle.lr_plan.specs.Course.{Course}
use Rattle.lr_chain.specs.declared.directory.DirStop.TheVariants as unmade
use Rattle.lr_plan.specs.Outcomes.{Fails, badly, not_run, maybe_run, bytes_fault}
use Rattle.lr_writing.specs.Synced.{made_of, to_make_of, all_to_make_of}
use Rattle.lr_laws_family.proofs.Weaving.{each_in}
use Rattle.lr_laws_rotations.specs.AllTurns.{IsStatePath, IsOfState, IsItsDir, IsOf, IsOfSome}
use Rattle.lr_laws_rotations.specs.Target.{Target, HasDir, target_entries}
use Rattle.lr_laws_rotations.specs.Own.{ChangesOwn}
use Rattle.lr_laws_rotations.specs.Apart.{HasNames, TargetsHaveNames}
use Rattle.lr_laws_acts.specs.Fitting.{DontMeet}
use Rattle.lr_laws_acts.specs.Planned.{IsReadyFor, AreReadyFor}
use Rattle.lr_laws_rotations.proofs.Own.{own_paths}
use Rattle.lr_laws_looks.proofs.Elements.{in_each}
use Rattle.lr_laws_looks.proofs.Dirs.{from_made}
use Rattle.lr_laws_plan.proofs.Making.{GivesNoFile, SawOther, other_back}
use Rattle.lr_run.proofs.Members.{HasMembers, HaveMembers, part_own, meets_none}
use Rattle.lr_run.proofs.Guarding.{IsOfOne}
use Rattle.lr_laws_plan.proofs.Once.{each_ready}

-- ---- whose they are

-- each is that of one of the logs
pub made_by_one : (ts : List Target) (sets : List SetPlan) (dir : Path) → AreReadyFor ts (flat_map (λ (set : SetPlan). set.logs) sets) → IsIn dir (all_to_make_of sets) → IsOfOne ts dir
made_by_one ts sets dir r i =
    let s : (set : SetPlan) × IsIn set sets × IsIn dir (to_make_of set.logs) = of_flat (λ (set : SetPlan). to_make_of set.logs) sets dir i in
    let l : (log : LogPlan) × IsIn log s.0.logs × IsIn dir (made_of log.ready.dir) = of_flat (λ (log : LogPlan). made_of log.ready.dir) s.0.logs dir s.2 in
    in_each G s.0.logs l.0 (in_each (λ (set : SetPlan). AllByRecursion G set.logs) sets s.0 (each_ready G ts sets r of_log) s.1) l.1 l.2
  where
    G : LogPlan → Type 0
    G log = IsIn dir (made_of log.ready.dir) → IsOfOne ts dir

    of_log : (t : Target) (log : LogPlan) → IsIn t ts → IsReadyFor t log → G log
    of_log t log one ready j =
        let d : (mode : Option ℕ) × (log.ready.dir ≡ Some (dir, mode)) = from_made log.ready.dir dir j in
        record { target = t; one = one; its = (d.0, sym (ap (λ (y : Ready). y.dir) ready.ready_is) ∙ d.1) }

-- none of the logs has the path of the directory that one of them makes
pub dir_apart : (ts : List Target) → DontMeet ts → (u t : Target) (dir : Path) → IsIn u ts → IsIn t ts → HasDir u → IsItsDir u dir → IsOwnName t.log t.naming dir → ⊥
dir_apart [] d u t dir i j h its own = i
dir_apart (v ∷ ts) d u t dir (inl a) (inl b) h its own = (h dir its.0 its.1).1 (subst (λ (w : Target). IsOwnName w.log w.naming dir) (sym b ∙ a) own)
dir_apart (v ∷ ts) d u t dir (inl a) (inr j) h its own = meets_none v t ts d.0 j (dir, inl (own, inr (subst (λ (w : Target). dir ≡ w.naming.dir) (sym a) (h dir its.0 its.1).0)))
dir_apart (v ∷ ts) d u t dir (inr i) (inl b) h its own = meets_none v u ts d.0 i (dir, inr (inr (h dir its.0 its.1).0, subst (λ (w : Target). IsOwnName w.log w.naming dir) (sym b) own))
dir_apart (v ∷ ts) d u t dir (inr i) (inr j) h its own = dir_apart ts d.1 u t dir i j h its own

-- ---- what is done

module _ (x : Path) where
  -- to a log that doesn't have the path
  one_gives : (t : Target) → HasNames t → HasMembers t → (IsOwnName t.log t.naming x → ⊥) → (e : Entry) → IsOf t e → GivesNoFile x e
  one_gives t h members none (entry.Renames from to) (inl i) = λ same. none (subst (IsOwnName t.log t.naming) same (each_in (ChangesOwn t.log t.naming) (target_entries t) (entry.Renames from to) (own_paths t h) i to (inr (inl refl))))
  one_gives t h members none (entry.Renames from to) (inr nothing) = absurd nothing
  one_gives t h members none (entry.Makes y mode) (inl i) = λ same. none (subst (IsOwnName t.log t.naming) same (each_in (ChangesOwn t.log t.naming) (target_entries t) (entry.Makes y mode) (own_paths t h) i y (inl refl)))
  one_gives t h members none (entry.Makes y mode) (inr (inl is)) = λ same. none (the_log (sym same ∙ is))
  one_gives t h members none (entry.Makes y mode) (inr (inr p)) = λ same. none (subst (IsOwnName t.log t.naming) (sym p.2 ∙ same) (part_own t members p.0 p.1))
  one_gives t h members none _ i = tt

  pub some_give : (ts : List Target) → TargetsHaveNames ts → HaveMembers ts → ((t : Target) → IsIn t ts → IsOwnName t.log t.naming x → ⊥) → (e : Entry) → IsOfSome ts e → GivesNoFile x e
  some_give [] h members none e i = absurd i
  some_give (t ∷ ts) h members none e (inl i) = one_gives t h.0 (members t (inl refl)) (none t (inl refl)) e i
  some_give (t ∷ ts) h members none e (inr i) = some_give ts h.1 (λ u j. members u (inr j)) (λ u j. none u (inr j)) e i

  -- to the state, which doesn't have it
  other_path : (state y : Path) → (state ≡ x → ⊥) → (state_part state ≡ x → ⊥) → IsStatePath state y → y ≡ x → ⊥
  other_path state y no_state no_part (inl is) same = no_state (sym is ∙ same)
  other_path state y no_state no_part (inr is) same = no_part (sym is ∙ same)

  pub state_gives : (state : Path) → (state ≡ x → ⊥) → (state_part state ≡ x → ⊥) → (e : Entry) → IsOfState state e → GivesNoFile x e
  state_gives state no_state no_part (entry.Renames from to) i = other_path state to no_state no_part i.1
  state_gives state no_state no_part (entry.Makes y mode) i = other_path state y no_state no_part i
  state_gives state no_state no_part _ i = tt

  -- and what is no change gives it none
  pub calm_gives : (e : Entry) → is_change e ≡ false → GivesNoFile x e
  calm_gives (entry.Renames from to) i = absurd (cc)
  calm_gives (entry.Makes y mode) i = absurd (cc)
  calm_gives _ i = tt

  pub of_changes : (ts : List Entry) → Each (GivesNoFile x) (filter is_change ts) → Each (GivesNoFile x) ts
  of_changes [] a = tt
  of_changes (e ∷ ts) a = go (is_change e) refl (of_changes ts) a
    where
      go : (b : Bool) → is_change e ≡ b → (Each (GivesNoFile x) (filter is_change ts) → Each (GivesNoFile x) ts) → Each (GivesNoFile x) (cond b (e ∷ filter is_change ts) (filter is_change ts)) → Each (GivesNoFile x) (e ∷ ts)
      go true is rest a = (a.0, rest a.1)
      go false is rest a = (calm_gives e is, rest a)

  -- ---- what failed

  -- the step that fails so is the making of the directory, and it saw what stands there
  saw_it : (path : Path) (seen : Option Seen) (ts : List Entry) → path ≡ x → IsNoDir seen → ts ≡ entry.Look path seen ∷ [] → SawOther x ts
  saw_it path None ts same is look = absurd is
  saw_it path (Some seen) ts same is look = record { seen = seen; other = is; look = subst (IsIn (entry.Look x (Some seen))) (sym look) (inl (ap (λ (y : Path). entry.Look y (Some seen)) same)) }

  step_saw : (s : Step) (f : Fault) (ts : List Entry) → f ≡ fault.NotFile x → Fails s f ts → SawOther x ts
  step_saw (step.Runs phase on command) f ts is (badly end ne same one) = absurd (cc)
  step_saw (step.Runs phase on command) f ts is (not_run same none) = absurd (cc)
  step_saw (step.Runs phase on command) f ts is (maybe_run end same one) = absurd (cc)
  step_saw (step.Removes path) f ts is h = let same = h.0 in absurd (cc)
  step_saw (step.MakesDir path mode) f ts is (unmade.Make, same, made) = absurd (cc)
  step_saw (step.MakesDir path mode) f ts is (unmade.Look, same, none) = absurd (cc)
  step_saw (step.MakesDir path mode) f ts is (unmade.NotDir, same, saw) = saw_it path saw.seen ts (let both : fault.NotFile path ≡ fault.NotFile x = sym same ∙ is in cc) saw.is saw.look
  step_saw (step.Renames from to) f ts is h = let same = h.0 in absurd (cc)
  step_saw (step.Creates path mode) f ts is h = let same = h.0 in absurd (cc)
  step_saw (step.Takes path mode) f ts is h = ⊎_elim (λ a. let same = a.0 in absurd (cc)) (λ t. let same = t.0 in absurd (cc)) h
  step_saw (step.Copies from to limit) f ts is h = absurd (no_bytes h.0 h.1)
    where
      no_bytes : (why : _) → f ≡ bytes_fault from to why → ⊥
      no_bytes broke.Read same = cc
      no_bytes broke.Append same = cc
      no_bytes broke.TooLong same = cc
  step_saw (step.Appends path text) f ts is h = let same = h.0 in absurd (cc)
  step_saw (step.SyncsFile path) f ts is h = let same = h.0 in absurd (cc)
  step_saw (step.SyncsDir path) f ts is h = let same = h.0 in absurd (cc)
  step_saw (step.Truncates path) f ts is h = let same = h.0 in absurd (cc)
  step_saw (step.Rotated log) f ts is h = absurd h

  pub course_saw : (steps : List Step) (ms : List Mark) (fs : List Fault) (ts : List Entry) → Course steps ms fs ts → IsIn (fault.NotFile x) fs → SawOther x ts
  course_saw [] ms fs ts c i = absurd (subst (IsIn (fault.NotFile x)) c.1 i)
  course_saw (s ∷ ss) ms fs ts (inl h) i = step_saw s h.fault ts (⊎_elim (λ same. same) (λ none. absurd none) (subst (IsIn (fault.NotFile x)) h.told i)) h.failed
  course_saw (s ∷ ss) ms fs ts (inr g) i = subst (SawOther x) (sym g.entries.joined) (other_back x g.entries.front g.entries.back (course_saw ss g.later fs g.entries.back g.entries.second i))
