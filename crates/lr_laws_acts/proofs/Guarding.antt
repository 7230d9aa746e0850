-- The steps of a plan leave what their marks allow.
use Rattle.std.proofs.Common.{◌≡◌, inl, inr, ℕ, Bool, true, false, refl, sym, ◌∙◌, ap, subst, Option, Some, None, List, [], ◌∷◌, ◌++◌, map, append_assoc, append-nil}
use Rattle.std.specs.Prelude.{filter}
use Rattle.std.specs.List.{flat_map}
use Rattle.std.proofs.lemmas.Grind.{flat_map-append}
use Rattle.lr_rules.specs.declared.fault.Fault.{Fault}
use Rattle.lr_rules.specs.declared.fault.Phase.{Phase}
use Rattle.lr_rules.specs.declared.fault.Phase.TheVariants as phase
use Rattle.lr_rules.specs.declared.path.Path.{Path}
use Rattle.lr_host.specs.declared.entry.Entry.{Entry}
use Rattle.lr_host.specs.declared.entry.Entry.TheVariants as entry
use Rattle.lr_host.specs.Lists.{IsIn}
use Rattle.lr_host.specs.Steps.{is_change}
use Rattle.lr_host.specs.Told.{Each}
use Rattle.lr_host.proofs.Each.{each_as, each_first, each_last}
use Rattle.lr_host.proofs.Lists.{in_front, in_back}
use Rattle.lr_scripts.specs.declared.command.Command.{Command}
use Rattle.lr_scripts.specs.declared.removal.Removal.{Removal}
use Rattle.lr_chain.specs.declared.ready.Ready.{Ready}
use Rattle.lr_plan.specs.declared.mark.Mark.{Mark}
use Rattle.lr_plan.specs.declared.mark.Mark.TheVariants as mark
use Rattle.lr_plan.specs.declared.plan.LogPlan.{LogPlan}
use Rattle.lr_plan.specs.declared.plan.SetPlan.{SetPlan}
use Rattle.lr_plan.specs.declared.step.Step.{Step}
use Rattle.lr_plan.specs.declared.step.Step.TheVariants as step
use Rattle.lr_plan.specs.Done.{SetsDone}
use Rattle.lr_plan.specs.Outcomes.{marks_of}
use Rattle.lr_plan.specs.Steps.{program, removals, directory, move, transfer, made_anew, rotation_of as rotation, retirement_of as retirement, steps_of_log, shared_steps, by_logs, steps_of_set}
use Rattle.lr_laws_rotations.specs.AllTurns.{AlsoDoes, IsOf}
use Rattle.lr_laws_rotations.specs.Target.{Target, target_entries}
use Rattle.lr_laws_acts.proofs.Allowed.{HasAll, Allowed, AllowsMore, AllowsLog}
use Rattle.lr_laws_acts.specs.Parts.{change_of, changes_by, IsPlainStep, ArePlain}
use Rattle.lr_laws_acts.specs.Planned.{bare_removal, IsReadyFor, AreReadyFor, HaveLogs}
use Rattle.lr_laws_acts.proofs.Guarded.{has_front, has_back, has_on, IsGuarded, AreGuarded, EachGuarded, IsGuardedSet, AreGuardedSets, sets_guarded}
use Rattle.lr_laws_acts.proofs.Halves.{front_of, back_of, halves}
use Rattle.lr_laws_acts.proofs.Planning.{dir_is, each_every, front_is, back_is, front_plain, back_plain}

-- ---- steps of one log

plain_as : (P Q : Entry → Type 0) (s : Step) → ((e : Entry) → P e → Q e) → IsPlainStep P s → IsPlainStep Q s
plain_as P Q (step.Creates path mode) f i = f (entry.Makes path mode) i
plain_as P Q (step.MakesDir path mode) f i = f (entry.MakesDir path mode) i
plain_as P Q (step.Takes path mode) f i = f (entry.Makes path mode) i
plain_as P Q (step.Copies from to limit) f i = λ piece. f (entry.Appends to piece) (i piece)
plain_as P Q (step.Appends path text) f i = i
plain_as P Q (step.Truncates path) f i = f (entry.Truncates path) i
plain_as P Q _ f i = tt

-- the entry is one of the renames and unlinks of the rotation
abbrev IsTurnOf : Target → Entry → Type 0
IsTurnOf t e = IsIn e (target_entries t)

all_turns : (t : Target) → Each (IsTurnOf t) (target_entries t)
all_turns t = each_every (IsTurnOf t) (target_entries t) (λ e i. i)

front_turns : (t : Target) (log : LogPlan) → IsReadyFor t log → Each (IsTurnOf t) (changes_by (rotation log))
front_turns t log r = subst (Each (IsTurnOf t)) (sym (front_is t log r)) (each_first (IsTurnOf t) (front_of t) (back_of t) (subst (Each (IsTurnOf t)) (sym (halves t)) (all_turns t)))

back_turns : (t : Target) (log : LogPlan) → IsReadyFor t log → Each (IsTurnOf t) (changes_by (retirement log))
back_turns t log r = subst (Each (IsTurnOf t)) (sym (back_is t log r)) (each_last (IsTurnOf t) (front_of t) (back_of t) (subst (Each (IsTurnOf t)) (sym (halves t)) (all_turns t)))

-- the marks tell of the directory that the rotation makes, if any
abbrev TellsDir : Target → List Mark → Type 0
TellsDir t marks = (dir : Path) (mode : Option ℕ) → t.ready.dir ≡ Some (dir, mode) → IsIn (mark.Directory dir) marks

no_removals : (rs : List Removal) → map bare_removal rs ≡ [] → rs ≡ []
no_removals [] e = refl
no_removals (r ∷ rs) e = absurd (cc)

module _ (P : Allowed) (allows : AllowsMore P) where
  one_more : (more fewer : List Mark) (s : Step) → HasAll more fewer → IsGuarded (P fewer) s → IsGuarded (P more) s
  one_more more fewer s has g = (plain_as (P fewer) (P more) s (allows more fewer has) g.0, each_as (P fewer) (P more) (change_of s) (allows more fewer has) g.1)

  guarded_both : (marks : List Mark) (xs ys : List Step) → AreGuarded P marks xs → AreGuarded P (marks ++ flat_map marks_of xs) ys → AreGuarded P marks (xs ++ ys)
  guarded_both marks [] ys g h = subst (λ (ms : List Mark). AreGuarded P ms ys) (append-nil marks) h
  guarded_both marks (x ∷ xs) ys g h = (g.0, guarded_both (marks ++ marks_of x) xs ys g.1 (subst (λ (ms : List Mark). AreGuarded P ms ys) (sym (append_assoc marks (marks_of x) (flat_map marks_of xs))) h))

  program_guarded : (marks : List Mark) (p : Phase) (c : Option Command) → AreGuarded P marks (program p c)
  program_guarded marks p None = tt
  program_guarded marks p (Some command) = ((tt, tt), tt)

  -- steps that do what is done to the log, where all of that is allowed from here on
  all_guarded : (t : Target) (ss : List Step) (marks : List Mark) → ArePlain (AlsoDoes t) ss → Each (IsTurnOf t) (changes_by ss) → ((more : List Mark) → HasAll more marks → (e : Entry) → IsOf t e → P more e) → AreGuarded P marks ss
  all_guarded t [] marks plain turns f = tt
  all_guarded t (s ∷ ss) marks plain turns f = (
    (
      plain_as (AlsoDoes t) (P marks) s (λ e also. f marks (λ m i. i) e (inr also)) plain.0,
      each_as (IsTurnOf t) (P marks) (change_of s) (λ e i. f marks (λ m i. i) e (inl i)) (each_first (IsTurnOf t) (change_of s) (changes_by ss) turns),
    ),
    all_guarded t ss (marks ++ marks_of s) plain.1 (each_last (IsTurnOf t) (change_of s) (changes_by ss) turns) (λ more has e o. f more (has_on more (marks ++ marks_of s) marks has (has_front marks (marks_of s))) e o),
  )

  module _ (t : Target) (log : LogPlan) (r : IsReadyFor t log) (a : AllowsLog P t) where
    -- behind the directory
    abbrev rest : List Step
    rest = map move log.ready.moves ++ (transfer log.ready.log log.ready.target log.job log.aside ++ (step.Rotated log.log ∷ made_anew log.ready.make log.log log.job log.aside))

    begins : (dir : Path) (mode : Option ℕ) → t.ready.dir ≡ Some (dir, mode) → rotation log ≡ step.MakesDir dir mode ∷ rest
    begins dir mode is =
        ap (λ (rs : List Removal). removals rs ++ (directory log.ready.dir ++ rest)) (no_removals log.ready.leftovers (ap (λ (x : Ready). x.leftovers) r.ready_is ∙ a.no_leftovers dir mode is))
        ∙ ap (λ (d : Option (Path × Option ℕ)). directory d ++ rest) (dir_is t log r ∙ is)

    rotation_guarded : (marks : List Mark) → AreGuarded P marks (rotation log)
    rotation_guarded marks = go t.ready.dir refl
      where
        go : (d : Option (Path × Option ℕ)) → t.ready.dir ≡ d → AreGuarded P marks (rotation log)
        go None none = all_guarded t (rotation log) marks (front_plain (AlsoDoes t) t log (λ e also. also) r) (front_turns t log r) (λ more has e o. a.plain none more e o)
        go (Some (dir, mode)) is =
            let eq = begins dir mode is in
            let plain = subst (ArePlain (AlsoDoes t)) eq (front_plain (AlsoDoes t) t log (λ e also. also) r) in
            let turns = subst (λ ss. Each (IsTurnOf t) (changes_by ss)) eq (front_turns t log r) in
            subst (AreGuarded P marks) (sym eq) (
              (a.made dir mode is marks, tt),
              all_guarded t rest (marks ++ mark.Directory dir ∷ []) plain.1 turns
                  (λ more has e o. a.behind dir mode is more (has (mark.Directory dir) (in_back (mark.Directory dir) marks (mark.Directory dir ∷ []) (inl refl))) e o),
            )

    -- the rotation tells of its directory
    rotation_tells : TellsDir t (flat_map marks_of (rotation log))
    rotation_tells dir mode is = subst (λ ss. IsIn (mark.Directory dir) (flat_map marks_of ss)) (sym (begins dir mode is)) (inl refl)

    allowed : (marks : List Mark) → TellsDir t marks → (e : Entry) → IsOf t e → P marks e
    allowed marks tells e o = go t.ready.dir refl
      where
        go : (d : Option (Path × Option ℕ)) → t.ready.dir ≡ d → P marks e
        go None none = a.plain none marks e o
        go (Some (dir, mode)) is = a.behind dir mode is marks (tells dir mode is) e o

    retirement_guarded : (marks : List Mark) → TellsDir t marks → AreGuarded P marks (retirement log)
    retirement_guarded marks tells = all_guarded t (retirement log) marks (back_plain (AlsoDoes t) t log (λ e also. also) r) (back_turns t log r) (λ more has e o. allowed more (λ dir mode is. has (mark.Directory dir) (tells dir mode is)) e o)

    log_guarded : AreGuarded P [] (steps_of_log log)
    log_guarded =
        guarded_both [] (program phase.Pre log.pre) (rotation log ++ (program phase.Post log.post ++ retirement log)) (program_guarded [] phase.Pre log.pre)
        (guarded_both one (rotation log) (program phase.Post log.post ++ retirement log) (rotation_guarded one)
        (guarded_both two (program phase.Post log.post) (retirement log) (program_guarded two phase.Post log.post)
        (retirement_guarded (two ++ flat_map marks_of (program phase.Post log.post)) (λ dir mode is. in_front (mark.Directory dir) two (flat_map marks_of (program phase.Post log.post)) (in_back (mark.Directory dir) one (flat_map marks_of (rotation log)) (rotation_tells dir mode is))))))
      where
        one : List Mark
        one = flat_map marks_of (program phase.Pre log.pre)

        two : List Mark
        two = one ++ flat_map marks_of (rotation log)

  -- ---- one definition

  abbrev AllowLogs : List Target → Type 0
  AllowLogs [] = Unit {0}
  AllowLogs (t ∷ ts) = AllowsLog P t × AllowLogs ts

  -- the marks tell of all directories that these make
  abbrev TellDirs : List Target → List Mark → Type 0
  TellDirs [] marks = Unit {0}
  TellDirs (t ∷ ts) marks = TellsDir t marks × TellDirs ts marks

  tell_more : (ts : List Target) (more fewer : List Mark) → HasAll more fewer → TellDirs ts fewer → TellDirs ts more
  tell_more [] more fewer has tells = tt
  tell_more (t ∷ ts) more fewer has tells = (λ dir mode is. has (mark.Directory dir) (tells.0 dir mode is), tell_more ts more fewer has tells.1)

  rotations_guarded : (ts : List Target) (logs : List LogPlan) (marks : List Mark) → AreReadyFor ts logs → AllowLogs ts → AreGuarded P marks (flat_map rotation logs)
  rotations_guarded [] [] marks r a = tt
  rotations_guarded [] (log ∷ logs) marks r a = absurd r
  rotations_guarded (t ∷ ts) [] marks r a = tt
  rotations_guarded (t ∷ ts) (log ∷ logs) marks r a = guarded_both marks (rotation log) (flat_map rotation logs) (rotation_guarded t log r.0 a.0 marks) (rotations_guarded ts logs (marks ++ flat_map marks_of (rotation log)) r.1 a.1)

  rotations_tell : (ts : List Target) (logs : List LogPlan) → AreReadyFor ts logs → AllowLogs ts → TellDirs ts (flat_map marks_of (flat_map rotation logs))
  rotations_tell [] [] r a = tt
  rotations_tell [] (log ∷ logs) r a = absurd r
  rotations_tell (t ∷ ts) [] r a = absurd r
  rotations_tell (t ∷ ts) (log ∷ logs) r a = subst (TellDirs (t ∷ ts)) (sym (flat_map-append marks_of (rotation log) (flat_map rotation logs))) (
    λ dir mode is. in_front (mark.Directory dir) (flat_map marks_of (rotation log)) (flat_map marks_of (flat_map rotation logs)) (rotation_tells t log r.0 a.0 dir mode is),
    tell_more ts (flat_map marks_of (rotation log) ++ flat_map marks_of (flat_map rotation logs)) (flat_map marks_of (flat_map rotation logs)) (has_back (flat_map marks_of (rotation log)) (flat_map marks_of (flat_map rotation logs))) (rotations_tell ts logs r.1 a.1),
  )

  retirements_guarded : (ts : List Target) (logs : List LogPlan) (marks : List Mark) → AreReadyFor ts logs → AllowLogs ts → TellDirs ts marks → AreGuarded P marks (flat_map retirement logs)
  retirements_guarded [] [] marks r a tells = tt
  retirements_guarded [] (log ∷ logs) marks r a tells = absurd r
  retirements_guarded (t ∷ ts) [] marks r a tells = tt
  retirements_guarded (t ∷ ts) (log ∷ logs) marks r a tells = guarded_both marks (retirement log) (flat_map retirement logs) (retirement_guarded t log r.0 a.0 marks tells.0)
      (retirements_guarded ts logs (marks ++ flat_map marks_of (retirement log)) r.1 a.1 (tell_more ts (marks ++ flat_map marks_of (retirement log)) marks (has_front marks (flat_map marks_of (retirement log))) tells.1))

  shared_guarded : (set : SetPlan) (ts : List Target) → AreReadyFor ts set.logs → AllowLogs ts → AreGuarded P [] (shared_steps set)
  shared_guarded set ts r a =
      guarded_both [] (program phase.First set.first) _ (program_guarded [] phase.First set.first)
      (guarded_both one (program phase.Pre set.pre) _ (program_guarded one phase.Pre set.pre)
      (guarded_both two (flat_map rotation set.logs) _ (rotations_guarded ts set.logs two r a)
      (guarded_both three (program phase.Post set.post) _ (program_guarded three phase.Post set.post)
      (guarded_both four (flat_map retirement set.logs) (program phase.Last set.last) (retirements_guarded ts set.logs four r a
      (tell_more ts four three (has_front three (flat_map marks_of (program phase.Post set.post))) (tell_more ts three (flat_map marks_of (flat_map rotation set.logs)) (has_back two (flat_map marks_of (flat_map rotation set.logs))) (rotations_tell ts set.logs r a))))
      (program_guarded (four ++ flat_map marks_of (flat_map retirement set.logs)) phase.Last set.last)))))
    where
      one : List Mark
      one = flat_map marks_of (program phase.First set.first)

      two : List Mark
      two = one ++ flat_map marks_of (program phase.Pre set.pre)

      three : List Mark
      three = two ++ flat_map marks_of (flat_map rotation set.logs)

      four : List Mark
      four = three ++ flat_map marks_of (program phase.Post set.post)

  single_guarded : (ts : List Target) (logs : List LogPlan) → AreReadyFor ts logs → AllowLogs ts → EachGuarded P allows (map steps_of_log logs)
  single_guarded [] [] r a = tt
  single_guarded [] (log ∷ logs) r a = absurd r
  single_guarded (t ∷ ts) [] r a = tt
  single_guarded (t ∷ ts) (log ∷ logs) r a = (log_guarded t log r.0 a.0, single_guarded ts logs r.1 a.1)

  set_guarded : (set : SetPlan) (ts : List Target) → AreReadyFor ts set.logs → AllowLogs ts → IsGuardedSet P allows (steps_of_set set)
  set_guarded set ts r a = go set.shared set.logs
    where
      go : (shared : Bool) (logs : List LogPlan) → IsGuardedSet P allows (by_logs shared logs set)
      go shared [] = record { first = tt; each = tt; last = tt }
      go true (log ∷ logs) = record { first = shared_guarded set ts r a; each = tt; last = tt }
      go false (log ∷ logs) = record { first = program_guarded [] phase.First set.first; each = single_guarded ts set.logs r a; last = program_guarded [] phase.Last set.last }

  -- ---- all definitions

  allow_split : (xs ys : List Target) → ((t : Target) → IsIn t (xs ++ ys) → AllowsLog P t) → AllowLogs xs × ((t : Target) → IsIn t ys → AllowsLog P t)
  allow_split [] ys f = (tt, f)
  allow_split (x ∷ xs) ys f = let more = allow_split xs ys (λ t i. f t (inr i)) in ((f x (inl refl), more.0), more.1)

  plan_guarded : (groups : List (List Target)) (sets : List SetPlan) → HaveLogs groups sets → ((t : Target) → IsIn t (flat_map (λ ts. ts) groups) → AllowsLog P t) → AreGuardedSets P allows (map steps_of_set sets)
  plan_guarded [] [] h f = tt
  plan_guarded [] (s ∷ sets) h f = absurd h
  plan_guarded (g ∷ gs) [] h f = tt
  plan_guarded (g ∷ gs) (s ∷ sets) h f = let both = allow_split g (flat_map (λ ts. ts) gs) f in (set_guarded s g h.0 both.0, plan_guarded gs sets h.1 both.1)

  pub acts_guarded : (groups : List (List Target)) (sets : List SetPlan) (marks : List Mark) (faults : List Fault) (ts : List Entry) → HaveLogs groups sets → ((t : Target) → IsIn t (flat_map (λ ts. ts) groups) → AllowsLog P t) → SetsDone (map steps_of_set sets) marks faults ts
      → Each (P marks) (filter is_change ts)
  acts_guarded groups sets marks faults ts h f done = sets_guarded P allows (map steps_of_set sets) marks faults ts (plan_guarded groups sets h f) done
