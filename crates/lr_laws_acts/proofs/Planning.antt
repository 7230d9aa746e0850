-- The changes of a plan whose rotations are ready are those rotations.
use Rattle.std.proofs.Common.{◌≡◌, ◌≢◌, inl, inr, ⊎_elim, ℕ, Bool, true, false, cond, refl, sym, ◌∙◌, ap, subst, Option, Some, None, List, [], ◌∷◌, ◌++◌, map, append_assoc, append-nil}
use Rattle.std.specs.List.{flat_map}
use Rattle.std.proofs.lemmas.Grind.{flat_map-append}
use Rattle.lr_rules.specs.declared.path.Path.{Path}
use Rattle.lr_rules.specs.declared.fault.Phase.{Phase}
use Rattle.lr_rules.specs.declared.fault.Phase.TheVariants as phase
use Rattle.lr_rules.specs.declared.rule.Make.{Make}
use Rattle.lr_rules.specs.declared.rule.Make.TheVariants as make
use Rattle.lr_rules.proofs.Bools.{not_both}
use Rattle.lr_host.specs.declared.entry.Entry.{Entry}
use Rattle.lr_host.specs.declared.entry.Entry.TheVariants as entry
use Rattle.lr_host.specs.Lists.{IsIn}
use Rattle.lr_host.specs.Told.{Each}
use Rattle.lr_host.proofs.Each.{each_append, each_first, each_last}
use Rattle.lr_host.proofs.Lists.{in_append}
use Rattle.lr_scripts.specs.declared.command.Command.{Command}
use Rattle.lr_scripts.specs.declared.removal.Removal.{Removal}
use Rattle.lr_copy.specs.declared.job.Job.{Job}
use Rattle.lr_copy.specs.Copying.{clearing}
use Rattle.lr_chain.specs.declared.ready.Move.{Move}
use Rattle.lr_chain.specs.declared.ready.Ready.{Ready}
use Rattle.lr_chain.specs.Ready.{move_step, dir_calls}
use Rattle.lr_plan.specs.declared.plan.LogPlan.{LogPlan}
use Rattle.lr_plan.specs.declared.plan.SetPlan.{SetPlan}
use Rattle.lr_plan.specs.declared.step.Step.{Step}
use Rattle.lr_plan.specs.declared.step.Step.TheVariants as step
use Rattle.lr_plan.specs.Asking.{asks}
use Rattle.lr_plan.specs.Steps.{on_of, program, removal, removals, directory, move, step_if, copy, transfer, anew, made_anew, rotation_of as rotation, finishing, retirement_of as retirement, steps_of_log, shared_steps, by_logs, steps_of_set}
use Rattle.lr_laws_family.specs.Weave.{Weave}
use Rattle.lr_laws_rotations.specs.Steps.{unlinks}
use Rattle.lr_laws_rotations.specs.Target.{Target, source_by, HasWay, target_entries, IsJob, TargetHasJob}
use Rattle.lr_laws_rotations.specs.AllTurns.{AlsoDoes, IsOf, IsOfSome, IsOfOther}
use Rattle.lr_laws_rotations.proofs.Rotating.{two}
use Rattle.lr_laws_family.proofs.Weaving.{weave_on, weave_own, weave_others}
use Rattle.lr_laws_rotations.proofs.Both.{own_first}
use Rattle.lr_laws_acts.specs.Parts.{change_of, changes_by, ArePlain, EachPlain, IsPlainSet, ArePlainSets, MakesOne, parts_of_set, parts_of_sets, AllOf, InOnePart, ArePlanned}
use Rattle.lr_laws_acts.specs.Planned.{bare_removal, bare, IsReadyFor, AreReadyFor, HaveLogs, NoneHas, LogsDiffer}
use Rattle.lr_laws_acts.proofs.Halves.{own_way, letting_go, front_of, back_of, halves, own_calls, letting_calls, front_calls}
use Rattle.lr_laws_acts.proofs.Parting.{none_has, of_other}

-- ---- what the steps of one log ask for

-- what is listed for the making of a directory, if any
abbrev made_by : (Path → Option ℕ → List Entry) → Option (Path × Option ℕ) → List Entry
made_by making None = []
made_by making (Some (x, mode)) = making x mode

-- of each kind of step a list: none of a program and of the making of a log, just their entries of removals and renames
module _ (f : Step → List Entry) (runs : (p : Phase) (on : List ℕ) (c : Command) → f (step.Runs p on c) ≡ []) (removes : (x : Path) → f (step.Removes x) ≡ entry.Unlinks x ∷ []) (renames : (x y : Path) → f (step.Renames x y) ≡ entry.Renames x y ∷ []) (creates : (x : Path) (mode : Option ℕ) → f (step.Creates x mode) ≡ [])
    (rotated : (x : Path) → f (step.Rotated x) ≡ []) (making : Path → Option ℕ → List Entry) (makes : (x : Path) (mode : Option ℕ) → f (step.MakesDir x mode) ≡ making x mode) where
  on_by : (xs ys : List Step) → flat_map f (xs ++ ys) ≡ flat_map f xs ++ flat_map f ys
  on_by xs ys = flat_map-append f xs ys

  one_by : (s : Step) (ss : List Step) (es : List Entry) → f s ≡ es → flat_map f (s ∷ ss) ≡ es ++ flat_map f ss
  one_by s ss es e = ap (λ xs. xs ++ flat_map f ss) e

  program_by : (p : Phase) (o : Option Command) → flat_map f (program p o) ≡ []
  program_by p None = refl
  program_by p (Some command) = one_by (step.Runs p (on_of p command) command) [] [] (runs p (on_of p command) command)

  removal_by : (r : Removal) → flat_map f (removal r) ≡ entry.Unlinks r.path ∷ []
  removal_by r =
      on_by (program phase.Preremove r.preremove) (program phase.Mail r.mail ++ step.Removes r.path ∷ [])
      ∙ two (program_by phase.Preremove r.preremove) (on_by (program phase.Mail r.mail) (step.Removes r.path ∷ []) ∙ two (program_by phase.Mail r.mail) (one_by (step.Removes r.path) [] (entry.Unlinks r.path ∷ []) (removes r.path)))

  removals_by : (rs : List Removal) → flat_map f (removals rs) ≡ unlinks rs
  removals_by [] = refl
  removals_by (r ∷ rs) = on_by (removal r) (removals rs) ∙ two (removal_by r) (removals_by rs)

  moves_by : (ms : List Move) → flat_map f (map move ms) ≡ map move_step ms
  moves_by [] = refl
  moves_by (m ∷ ms) = one_by (step.Renames m.from m.to) (map move ms) (entry.Renames m.from m.to ∷ []) (renames m.from m.to) ∙ ap (λ xs. entry.Renames m.from m.to ∷ xs) (moves_by ms)

  dir_by : (d : Option (Path × Option ℕ)) → flat_map f (directory d) ≡ made_by making d
  dir_by None = refl
  dir_by (Some (x, mode)) = one_by (step.MakesDir x mode) [] (making x mode) (makes x mode) ∙ append-nil (making x mode)

  new_by : (m : Make) (log : Path) → flat_map f (anew m log) ≡ []
  new_by make.No log = refl
  new_by (make.Yes mode) log = one_by (step.Creates log mode) [] [] (creates log mode)

  anew_by : (m : Make) (log : Path) (j : Option Job) (a : Option Path) → flat_map f (made_anew m log j a) ≡ []
  anew_by m log None a = new_by m log
  anew_by m log (Some job) None = refl
  anew_by m log (Some job) (Some path) = new_by m log

  rotation_by : (log : LogPlan) (es : List Entry) → flat_map f (transfer log.ready.log log.ready.target log.job log.aside) ≡ es → flat_map f (rotation log) ≡ unlinks log.ready.leftovers ++ (made_by making log.ready.dir ++ (map move_step log.ready.moves ++ es))
  rotation_by log es e =
      on_by (removals log.ready.leftovers) (directory log.ready.dir ++ (map move log.ready.moves ++ (way ++ rest)))
      ∙ two (removals_by log.ready.leftovers)
      (on_by (directory log.ready.dir) (map move log.ready.moves ++ (way ++ rest))
      ∙ two (dir_by log.ready.dir)
      (on_by (map move log.ready.moves) (way ++ rest)
      ∙ two (moves_by log.ready.moves)
      (on_by way rest ∙ (two e (one_by (step.Rotated log.log) (made_anew log.ready.make log.log log.job log.aside) [] (rotated log.log) ∙ anew_by log.ready.make log.log log.job log.aside) ∙ append-nil es))))
    where
      way : List Step
      way = transfer log.ready.log log.ready.target log.job log.aside

      rest : List Step
      rest = step.Rotated log.log ∷ made_anew log.ready.make log.log log.job log.aside

  retirement_by : (log : LogPlan) (es : List Entry) → flat_map f (finishing log.job log.aside) ≡ es → flat_map f (retirement log) ≡ es ++ unlinks log.ready.retire
  retirement_by log es e =
      on_by (finishing log.job log.aside) (program phase.Mail log.first_mail ++ removals log.ready.retire)
      ∙ two e (on_by (program phase.Mail log.first_mail) (removals log.ready.retire) ∙ two (program_by phase.Mail log.first_mail) (removals_by log.ready.retire))

  log_by : (log : LogPlan) (xs ys : List Entry) → flat_map f (rotation log) ≡ xs → flat_map f (retirement log) ≡ ys → flat_map f (steps_of_log log) ≡ xs ++ ys
  log_by log xs ys a b =
      on_by (program phase.Pre log.pre) (rotation log ++ (program phase.Post log.post ++ retirement log))
      ∙ two (program_by phase.Pre log.pre)
      (on_by (rotation log) (program phase.Post log.post ++ retirement log) ∙ two a (on_by (program phase.Post log.post) (retirement log) ∙ two (program_by phase.Post log.post) b))

-- ---- their changes of names

on : (xs ys : List Step) → changes_by (xs ++ ys) ≡ changes_by xs ++ changes_by ys
on xs ys = flat_map-append change_of xs ys

pub program_none : (p : Phase) (o : Option Command) → changes_by (program p o) ≡ []
program_none p o = program_by change_of (λ p on c. refl) (λ x. refl) (λ x y. refl) (λ x mode. refl) (λ x. refl) (λ x mode. []) (λ x mode. refl) p o

copy_changes : (job : Job) (b c : Bool) → changes_by (step_if b (step.Removes job.part) ++ (step.Takes job.part job.mode ∷ step.Copies job.from job.part job.limit ∷ step.SyncsFile job.part ∷ step.Renames job.part job.to ∷ step.SyncsDir job.dir ∷ step_if c (step.Truncates job.from)))
    ≡ cond b (entry.Unlinks job.part ∷ []) [] ++ entry.Renames job.part job.to ∷ []
copy_changes job true true = refl
copy_changes job true false = refl
copy_changes job false true = refl
copy_changes job false false = refl

transfer_is : (ready : Ready) (j : Option Job) (a : Option Path) → changes_by (transfer ready.log ready.target j a) ≡ own_way ready j a
transfer_is ready None a = refl
transfer_is ready (Some job) None = copy_changes job job.stale job.cut
transfer_is ready (Some job) (Some path) = refl

finishing_is : (j : Option Job) (a : Option Path) → changes_by (finishing j a) ≡ letting_go j a
finishing_is None a = refl
finishing_is (Some job) None = refl
finishing_is (Some job) (Some path) =
    on (copy job) (step.Removes path ∷ [])
    ∙ (ap (λ es. es ++ entry.Unlinks path ∷ []) (copy_changes job job.stale job.cut) ∙ append_assoc (clearing job) (entry.Renames job.part job.to ∷ []) (entry.Unlinks path ∷ []))

-- the programs before them make no difference to what is removed
bare_unlinks : (rs : List Removal) → unlinks rs ≡ unlinks (map bare_removal rs)
bare_unlinks [] = refl
bare_unlinks (r ∷ rs) = ap (λ es. entry.Unlinks r.path ∷ es) (bare_unlinks rs)

-- what is left is by the copy, and by where the log waits
by_both : (t : Target) (log : LogPlan) (f : Option Job → Option Path → List Entry) → IsReadyFor t log → f log.job log.aside ≡ f t.job t.aside
by_both t log f r = ap (λ (j : Option Job). f j log.aside) r.job_is ∙ ap (λ (a : Option Path). f t.job a) r.aside_is

-- nor to what is done first, and then to what is left
front_as : (t : Target) (log : LogPlan) (g : Option (Path × Option ℕ) → List Entry) (f : Ready → Option Job → Option Path → List Entry) → IsReadyFor t log → ((j : Option Job) (a : Option Path) → f log.ready j a ≡ f (bare log.ready) j a)
    → unlinks log.ready.leftovers ++ (g log.ready.dir ++ (map move_step log.ready.moves ++ f log.ready log.job log.aside)) ≡ unlinks t.ready.leftovers ++ (g t.ready.dir ++ (map move_step t.ready.moves ++ f t.ready t.job t.aside))
front_as t log g f r same =
    ap (λ es. es ++ (g log.ready.dir ++ (map move_step log.ready.moves ++ f log.ready log.job log.aside))) (bare_unlinks log.ready.leftovers)
    ∙ (ap (λ es. unlinks (map bare_removal log.ready.leftovers) ++ (g log.ready.dir ++ (map move_step log.ready.moves ++ es))) (same log.job log.aside)
    ∙ (ap (λ (x : Ready). unlinks x.leftovers ++ (g x.dir ++ (map move_step x.moves ++ f x log.job log.aside))) r.ready_is
    ∙ ap (λ es. unlinks t.ready.leftovers ++ (g t.ready.dir ++ (map move_step t.ready.moves ++ es))) (by_both t log (f t.ready) r)))

retired_as : (t : Target) (log : LogPlan) → IsReadyFor t log → unlinks log.ready.retire ≡ unlinks t.ready.retire
retired_as t log r = bare_unlinks log.ready.retire ∙ ap (λ (x : Ready). unlinks x.retire) r.ready_is

-- nor to the directory that is made
pub dir_is : (t : Target) (log : LogPlan) → IsReadyFor t log → log.ready.dir ≡ t.ready.dir
dir_is t log r = ap (λ (x : Ready). x.dir) r.ready_is

none_made : (d : Option (Path × Option ℕ)) → made_by (λ x mode. []) d ≡ []
none_made None = refl
none_made (Some (x, mode)) = refl

bare_way : (ready : Ready) (j : Option Job) (a : Option Path) → own_way ready j a ≡ own_way (bare ready) j a
bare_way ready None a = refl
bare_way ready (Some job) None = refl
bare_way ready (Some job) (Some path) = refl

pub front_is : (t : Target) (log : LogPlan) → IsReadyFor t log → changes_by (rotation log) ≡ front_of t
front_is t log r =
    rotation_by change_of (λ p on c. refl) (λ x. refl) (λ x y. refl) (λ x mode. refl) (λ x. refl) (λ x mode. []) (λ x mode. refl) log (own_way log.ready log.job log.aside) (transfer_is log.ready log.job log.aside)
    ∙ (ap (λ ds. unlinks log.ready.leftovers ++ (ds ++ (map move_step log.ready.moves ++ own_way log.ready log.job log.aside))) (none_made log.ready.dir) ∙ front_as t log (λ d. []) own_way r (bare_way log.ready))

pub back_is : (t : Target) (log : LogPlan) → IsReadyFor t log → changes_by (retirement log) ≡ back_of t
back_is t log r =
    retirement_by change_of (λ p on c. refl) (λ x. refl) (λ x y. refl) (λ x mode. refl) (λ x. refl) (λ x mode. []) (λ x mode. refl) log (letting_go log.job log.aside) (finishing_is log.job log.aside)
    ∙ two (by_both t log letting_go r) (retired_as t log r)

pub log_is : (t : Target) (log : LogPlan) → IsReadyFor t log → changes_by (steps_of_log log) ≡ target_entries t
log_is t log r = log_by change_of (λ p on c. refl) (λ x. refl) (λ x y. refl) (λ x mode. refl) (λ x. refl) (λ x mode. []) (λ x mode. refl) log (front_of t) (back_of t) (front_is t log r) (back_is t log r) ∙ halves t

-- ---- and their calls

-- The calls by which a step asks for names and changes them: none of a program, and none of the making of a log, which may be left out.
abbrev pub calls_of_step : Step → List Entry
calls_of_step (step.Runs p on command) = []
calls_of_step (step.Creates path mode) = []
calls_of_step s = asks s

abbrev pub calls_by : List Step → List Entry
calls_by ss = flat_map calls_of_step ss

dirs_made : (d : Option (Path × Option ℕ)) → made_by (λ x mode. entry.MakesDir x mode ∷ []) d ≡ dir_calls d
dirs_made None = refl
dirs_made (Some (x, mode)) = refl

pub program_asks : (p : Phase) (o : Option Command) → calls_by (program p o) ≡ []
program_asks p o = program_by calls_of_step (λ p on c. refl) (λ x. refl) (λ x y. refl) (λ x mode. refl) (λ x. refl) (λ x mode. entry.MakesDir x mode ∷ []) (λ x mode. refl) p o

copy_asks : (job : Job) (b c : Bool) → calls_by (step_if b (step.Removes job.part) ++ (step.Takes job.part job.mode ∷ step.Copies job.from job.part job.limit ∷ step.SyncsFile job.part ∷ step.Renames job.part job.to ∷ step.SyncsDir job.dir ∷ step_if c (step.Truncates job.from)))
    ≡ cond b (entry.Unlinks job.part ∷ []) [] ++ (entry.Makes job.part job.mode ∷ entry.Reads job.from 0 [] ∷ entry.Appends job.part [] ∷ entry.SyncsFile job.part ∷ entry.Renames job.part job.to ∷ entry.SyncsDir job.dir ∷ cond c (entry.Truncates job.from ∷ []) [])
copy_asks job true true = refl
copy_asks job true false = refl
copy_asks job false true = refl
copy_asks job false false = refl

transfer_asks : (ready : Ready) (j : Option Job) (a : Option Path) → calls_by (transfer ready.log ready.target j a) ≡ own_calls ready j a
transfer_asks ready None a = refl
transfer_asks ready (Some job) None = copy_asks job job.stale job.cut
transfer_asks ready (Some job) (Some path) = refl

bare_calls : (ready : Ready) (j : Option Job) (a : Option Path) → own_calls ready j a ≡ own_calls (bare ready) j a
bare_calls ready None a = refl
bare_calls ready (Some job) None = refl
bare_calls ready (Some job) (Some path) = refl

pub front_asks : (t : Target) (log : LogPlan) → IsReadyFor t log → calls_by (rotation log) ≡ front_calls t
front_asks t log r =
    rotation_by calls_of_step (λ p on c. refl) (λ x. refl) (λ x y. refl) (λ x mode. refl) (λ x. refl) (λ x mode. entry.MakesDir x mode ∷ []) (λ x mode. refl) log (own_calls log.ready log.job log.aside) (transfer_asks log.ready log.job log.aside)
    ∙ (ap (λ ds. unlinks log.ready.leftovers ++ (ds ++ (map move_step log.ready.moves ++ own_calls log.ready log.job log.aside))) (dirs_made log.ready.dir) ∙ front_as t log dir_calls own_calls r (bare_calls log.ready))

-- what is left to do for what waits
letting_asks : (j : Option Job) (a : Option Path) → calls_by (finishing j a) ≡ letting_calls j a
letting_asks None a = refl
letting_asks (Some job) None = refl
letting_asks (Some job) (Some path) = flat_map-append calls_of_step (copy job) (step.Removes path ∷ []) ∙ ap (λ es. es ++ entry.Unlinks path ∷ []) (copy_asks job job.stale job.cut)

pub finishing_asks : (t : Target) (log : LogPlan) → IsReadyFor t log → calls_by (finishing log.job log.aside) ≡ letting_calls t.job t.aside
finishing_asks t log r = letting_asks log.job log.aside ∙ by_both t log letting_calls r

pub removals_ask : (t : Target) (log : LogPlan) → IsReadyFor t log → calls_by (removals log.ready.retire) ≡ unlinks t.ready.retire
removals_ask t log r = removals_by calls_of_step (λ p on c. refl) (λ x. refl) (λ x y. refl) (λ x mode. refl) (λ x. refl) (λ x mode. entry.MakesDir x mode ∷ []) (λ x mode. refl) log.ready.retire ∙ retired_as t log r

-- ---- plain steps

plain_on : (P : Entry → Type 0) (xs ys : List Step) → ArePlain P xs → ArePlain P ys → ArePlain P (xs ++ ys)
plain_on P [] ys a b = b
plain_on P (x ∷ xs) ys a b = (a.0, plain_on P xs ys a.1 b)

pub program_plain : (P : Entry → Type 0) (p : Phase) (o : Option Command) → ArePlain P (program p o)
program_plain P p None = tt
program_plain P p (Some command) = (tt, tt)

removals_plain : (P : Entry → Type 0) (rs : List Removal) → ArePlain P (removals rs)
removals_plain P [] = tt
removals_plain P (r ∷ rs) = plain_on P (program phase.Preremove r.preremove ++ (program phase.Mail r.mail ++ step.Removes r.path ∷ [])) (removals rs)
    (plain_on P (program phase.Preremove r.preremove) (program phase.Mail r.mail ++ step.Removes r.path ∷ []) (program_plain P phase.Preremove r.preremove)
    (plain_on P (program phase.Mail r.mail) (step.Removes r.path ∷ []) (program_plain P phase.Mail r.mail) (tt, tt))) (removals_plain P rs)

moves_plain : (P : Entry → Type 0) (ms : List Move) → ArePlain P (map move ms)
moves_plain P [] = tt
moves_plain P (m ∷ ms) = (tt, moves_plain P ms)

-- P holds of what the rotation does besides
abbrev pub OfMaking : (Entry → Type 0) → Target → Type 0
OfMaking P t = (e : Entry) → AlsoDoes t e → P e

dir_plain : (P : Entry → Type 0) (t : Target) (d : Option (Path × Option ℕ)) → OfMaking P t → t.ready.dir ≡ d → ArePlain P (directory d)
dir_plain P t None h is = tt
dir_plain P t (Some (x, mode)) h is = (h (entry.MakesDir x mode) (mode, is), tt)

copy_plain : (P : Entry → Type 0) (t : Target) (job : Job) (b c : Bool) → OfMaking P t → t.job ≡ Some job → (c ≡ true → (job.from ≡ t.log) × (job.cut ≡ true))
    → ArePlain P (step_if b (step.Removes job.part) ++ (step.Takes job.part job.mode ∷ step.Copies job.from job.part job.limit ∷ step.SyncsFile job.part ∷ step.Renames job.part job.to ∷ step.SyncsDir job.dir ∷ step_if c (step.Truncates job.from)))
copy_plain P t job b c h is cut = plain_on P (step_if b (step.Removes job.part)) _ (removed b) (taken, (filled, (tt, (tt, (tt, emptied c cut)))))
  where
    removed : (b : Bool) → ArePlain P (step_if b (step.Removes job.part))
    removed true = (tt, tt)
    removed false = tt

    taken : P (entry.Makes job.part job.mode)
    taken = h (entry.Makes job.part job.mode) (inr (job, is, refl))

    filled : (piece : List ℕ) → P (entry.Appends job.part piece)
    filled piece = h (entry.Appends job.part piece) (job, is, refl)

    emptied : (c : Bool) → (c ≡ true → (job.from ≡ t.log) × (job.cut ≡ true)) → ArePlain P (step_if c (step.Truncates job.from))
    emptied true so = (let both = so refl in h (entry.Truncates job.from) ((job, is, both.1), both.0), tt)
    emptied false so = tt

-- a copy that empties what it copies is of the log where it stands
cut_none : (a b : Job) → Some a ≡ Some b → a.cut ≡ true → b.cut ≡ false → ⊥
cut_none a b same cut uncut = not_both b.cut (ap (λ (j : Job). j.cut) (one same) ∙ cut) uncut
  where
    one : Some a ≡ Some b → b ≡ a
    one e = cc

cut_from : (t : Target) (job : Job) → HasWay t → IsJob t job → t.job ≡ Some job → job.cut ≡ true → job.from ≡ t.log
cut_from t job (inl stays) shape is cut = shape.from_is ∙ (ap (λ (a : Option Path). source_by a t.ready.log) stays.aside_is ∙ stays.first_is)
cut_from t job (inr (asked, inl aside)) shape is cut = absurd (cut_none job aside.job (sym is ∙ aside.job_is) cut aside.uncut)
cut_from t job (inr (asked, inr taken)) shape is cut = absurd (let none : None ≡ Some job = sym taken.no_job ∙ is in cc)

-- the copy that there is, if any
own_copy_plain : (P : Entry → Type 0) (t : Target) (job : Job) → OfMaking P t → HasWay t → TargetHasJob t → t.job ≡ Some job → ArePlain P (copy job)
own_copy_plain P t job h way shape is = copy_plain P t job job.stale job.cut h is (λ cut. (cut_from t job way (shape job is) is cut, cut))

transfer_plain : (P : Entry → Type 0) (t : Target) (from target : Path) (j : Option Job) (a : Option Path) → OfMaking P t → HasWay t → TargetHasJob t → t.job ≡ j → ArePlain P (transfer from target j a)
transfer_plain P t from target None a h way shape is = (tt, tt)
transfer_plain P t from target (Some job) None h way shape is = own_copy_plain P t job h way shape is
transfer_plain P t from target (Some job) (Some path) h way shape is = (tt, (tt, tt))

new_plain : (P : Entry → Type 0) (t : Target) (log : Path) (m : Make) → OfMaking P t → log ≡ t.log → ArePlain P (anew m log)
new_plain P t log make.No h is = tt
new_plain P t log (make.Yes mode) h is = (h (entry.Makes log mode) (inl is), tt)

anew_plain : (P : Entry → Type 0) (t : Target) (log : Path) (m : Make) (j : Option Job) (a : Option Path) → OfMaking P t → log ≡ t.log → ArePlain P (made_anew m log j a)
anew_plain P t log m None a h is = new_plain P t log m h is
anew_plain P t log m (Some job) None h is = tt
anew_plain P t log m (Some job) (Some path) h is = new_plain P t log m h is

pub front_plain : (P : Entry → Type 0) (t : Target) (log : LogPlan) → OfMaking P t → IsReadyFor t log → ArePlain P (rotation log)
front_plain P t log h r =
    plain_on P (removals log.ready.leftovers) _ (removals_plain P log.ready.leftovers)
    (plain_on P (directory log.ready.dir) _ (dir_plain P t log.ready.dir h (sym (dir_is t log r)))
    (plain_on P (map move log.ready.moves) _ (moves_plain P log.ready.moves)
    (plain_on P (transfer log.ready.log log.ready.target log.job log.aside) _ (transfer_plain P t log.ready.log log.ready.target log.job log.aside h r.way r.job (sym r.job_is))
    (tt, anew_plain P t log.log log.ready.make log.job log.aside h r.log_is))))

finishing_plain : (P : Entry → Type 0) (t : Target) (j : Option Job) (a : Option Path) → OfMaking P t → HasWay t → TargetHasJob t → t.job ≡ j → ArePlain P (finishing j a)
finishing_plain P t None a h way shape is = tt
finishing_plain P t (Some job) None h way shape is = tt
finishing_plain P t (Some job) (Some path) h way shape is = plain_on P (copy job) (step.Removes path ∷ []) (own_copy_plain P t job h way shape is) (tt, tt)

pub back_plain : (P : Entry → Type 0) (t : Target) (log : LogPlan) → OfMaking P t → IsReadyFor t log → ArePlain P (retirement log)
back_plain P t log h r =
    plain_on P (finishing log.job log.aside) _ (finishing_plain P t log.job log.aside h r.way r.job (sym r.job_is))
    (plain_on P (program phase.Mail log.first_mail) (removals log.ready.retire) (program_plain P phase.Mail log.first_mail) (removals_plain P log.ready.retire))

pub log_plain : (P : Entry → Type 0) (t : Target) (log : LogPlan) → OfMaking P t → IsReadyFor t log → ArePlain P (steps_of_log log)
log_plain P t log h r =
    plain_on P (program phase.Pre log.pre) _ (program_plain P phase.Pre log.pre)
    (plain_on P (rotation log) _ (front_plain P t log h r) (plain_on P (program phase.Post log.post) (retirement log) (program_plain P phase.Post log.post) (back_plain P t log h r)))

-- ---- one definition

-- so of each of these logs
abbrev pub OfMakings : (Entry → Type 0) → List Target → Type 0
OfMakings P [] = Unit {0}
OfMakings P (t ∷ ts) = OfMaking P t × OfMakings P ts

fronts : (P : Entry → Type 0) (ts : List Target) (logs : List LogPlan) → OfMakings P ts → AreReadyFor ts logs → (changes_by (flat_map rotation logs) ≡ flat_map front_of ts) × ArePlain P (flat_map rotation logs)
fronts P [] [] m r = (refl, tt)
fronts P [] (log ∷ logs) m r = absurd r
fronts P (t ∷ ts) [] m r = absurd r
fronts P (t ∷ ts) (log ∷ logs) m r = let h = fronts P ts logs m.1 r.1 in (on (rotation log) (flat_map rotation logs) ∙ two (front_is t log r.0) h.0, plain_on P (rotation log) (flat_map rotation logs) (front_plain P t log m.0 r.0) h.1)

backs : (P : Entry → Type 0) (ts : List Target) (logs : List LogPlan) → OfMakings P ts → AreReadyFor ts logs → (changes_by (flat_map retirement logs) ≡ flat_map back_of ts) × ArePlain P (flat_map retirement logs)
backs P [] [] m r = (refl, tt)
backs P [] (log ∷ logs) m r = absurd r
backs P (t ∷ ts) [] m r = absurd r
backs P (t ∷ ts) (log ∷ logs) m r = let h = backs P ts logs m.1 r.1 in (on (retirement log) (flat_map retirement logs) ∙ two (back_is t log r.0) h.0, plain_on P (retirement log) (flat_map retirement logs) (back_plain P t log m.0 r.0) h.1)

eachs : (P : Entry → Type 0) (ts : List Target) (logs : List LogPlan) → OfMakings P ts → AreReadyFor ts logs → (map changes_by (map steps_of_log logs) ≡ map target_entries ts) × EachPlain P (map steps_of_log logs)
eachs P [] [] m r = (refl, tt)
eachs P [] (log ∷ logs) m r = absurd r
eachs P (t ∷ ts) [] m r = absurd r
eachs P (t ∷ ts) (log ∷ logs) m r = let h = eachs P ts logs m.1 r.1 in (ap (λ x. x ∷ map changes_by (map steps_of_log logs)) (log_is t log r.0) ∙ ap (λ xs. target_entries t ∷ xs) h.0, (log_plain P t log m.0 r.0, h.1))

shared_is : (P : Entry → Type 0) (set : SetPlan) (ts : List Target) → OfMakings P ts → AreReadyFor ts set.logs → (changes_by (shared_steps set) ≡ flat_map front_of ts ++ flat_map back_of ts) × ArePlain P (shared_steps set)
shared_is P set ts m r = (
  on (program phase.First set.first) _ ∙ two (program_none phase.First set.first)
      (on (program phase.Pre set.pre) _ ∙ two (program_none phase.Pre set.pre)
      (on (flat_map rotation set.logs) _ ∙ two (fronts P ts set.logs m r).0
      (on (program phase.Post set.post) _ ∙ two (program_none phase.Post set.post)
      (on (flat_map retirement set.logs) (program phase.Last set.last) ∙ (two (backs P ts set.logs m r).0 (program_none phase.Last set.last) ∙ append-nil (flat_map back_of ts)))))),
  plain_on P (program phase.First set.first) _ (program_plain P phase.First set.first)
      (plain_on P (program phase.Pre set.pre) _ (program_plain P phase.Pre set.pre)
      (plain_on P (flat_map rotation set.logs) _ (fronts P ts set.logs m r).1
      (plain_on P (program phase.Post set.post) _ (program_plain P phase.Post set.post)
      (plain_on P (flat_map retirement set.logs) (program phase.Last set.last) (backs P ts set.logs m r).1 (program_plain P phase.Last set.last))))),
)

-- the parts of a definition's changes: those of all its logs in one, or each log's in its own
pub data ArePartsOf (ts : List Target) (ps : List (List Entry)) : Type 0 where
  together : ps ≡ (flat_map front_of ts ++ flat_map back_of ts) ∷ [] ∷ [] → ArePartsOf ts ps
  by_logs_each : ps ≡ [] ∷ (map target_entries ts ++ [] ∷ []) → ArePartsOf ts ps

three : (a a' : List Entry) (b b' : List (List Entry)) (c c' : List Entry) → a ≡ a' → b ≡ b' → c ≡ c' → a ∷ (b ++ c ∷ []) ≡ a' ∷ (b' ++ c' ∷ [])
three a a' b b' c c' p q r = ap (λ x. x ∷ (b ++ c ∷ [])) p ∙ (ap (λ x. a' ∷ (x ++ c ∷ [])) q ∙ ap (λ x. a' ∷ (b' ++ x ∷ [])) r)

pub set_is : (P : Entry → Type 0) (set : SetPlan) (ts : List Target) → OfMakings P ts → AreReadyFor ts set.logs → ArePartsOf ts (parts_of_set (steps_of_set set)) × IsPlainSet P (steps_of_set set)
set_is P set ts m r = go set.shared set.logs r
  where
    no_logs : (us : List Target) → AreReadyFor us [] → us ≡ []
    no_logs [] q = refl
    no_logs (u ∷ us) q = absurd q

    go : (shared : Bool) (logs : List LogPlan) → AreReadyFor ts logs → ArePartsOf ts (parts_of_set (by_logs shared logs set)) × IsPlainSet P (by_logs shared logs set)
    go shared [] q = (by_logs_each (ap (λ (us : List Target). [] ∷ (map target_entries us ++ [] ∷ [])) (sym (no_logs ts q))), record { first = tt; each = tt; last = tt })
    go true (log ∷ logs) q = (
      together (three (changes_by (shared_steps set)) (flat_map front_of ts ++ flat_map back_of ts) [] [] [] [] (shared_is P set ts m r).0 refl refl),
      record { first = (shared_is P set ts m r).1; each = tt; last = tt },
    )
    go false (log ∷ logs) q = (
      by_logs_each (three (changes_by (program phase.First set.first)) [] (map changes_by (map steps_of_log set.logs)) (map target_entries ts) (changes_by (program phase.Last set.last)) [] (program_none phase.First set.first) (eachs P ts set.logs m r).0 (program_none phase.Last set.last)),
      record { first = program_plain P phase.First set.first; each = (eachs P ts set.logs m r).1; last = program_plain P phase.Last set.last },
    )

-- whatever is made
abbrev pub Anything : Entry → Type 0
Anything e = Unit {0}

pub anything : (ts : List Target) → OfMakings Anything ts
anything [] = tt
anything (t ∷ ts) = (λ e also. tt, anything ts)

-- ---- seen from one log

-- P holds of all steps of these logs
abbrev pub AllLogs : (Entry → Type 0) → List Target → Type 0
AllLogs P [] = Unit {0}
AllLogs P (t ∷ ts) = Each P (target_entries t) × AllLogs P ts

-- or of all but this log's
abbrev AllBut : (Entry → Type 0) → Path → List Target → Type 0
AllBut P log [] = Unit {0}
AllBut P log (t ∷ ts) = (t.log ≢ log → Each P (target_entries t)) × AllBut P log ts

all_of : (P : Entry → Type 0) (log : Path) (ts : List Target) → NoneHas log ts → AllBut P log ts → AllLogs P ts
all_of P log [] n a = tt
all_of P log (t ∷ ts) n a = (a.0 n.0, all_of P log ts n.1 a.1)

in_front : (P : Entry → Type 0) (t : Target) → Each P (target_entries t) → Each P (front_of t)
in_front P t a = each_first P (front_of t) (back_of t) (subst (Each P) (sym (halves t)) a)

in_back : (P : Entry → Type 0) (t : Target) → Each P (target_entries t) → Each P (back_of t)
in_back P t a = each_last P (front_of t) (back_of t) (subst (Each P) (sym (halves t)) a)

flat_fronts : (P : Entry → Type 0) (ts : List Target) → AllLogs P ts → Each P (flat_map front_of ts)
flat_fronts P [] a = tt
flat_fronts P (t ∷ ts) a = each_append P (front_of t) (flat_map front_of ts) (in_front P t a.0) (flat_fronts P ts a.1)

flat_backs : (P : Entry → Type 0) (ts : List Target) → AllLogs P ts → Each P (flat_map back_of ts)
flat_backs P [] a = tt
flat_backs P (t ∷ ts) a = each_append P (back_of t) (flat_map back_of ts) (in_back P t a.0) (flat_backs P ts a.1)

map_all : (P : Entry → Type 0) (ts : List Target) → AllLogs P ts → AllOf P (map target_entries ts)
map_all P [] a = tt
map_all P (t ∷ ts) a = (a.0, map_all P ts a.1)

all_on : (P : Entry → Type 0) (ps qs : List (List Entry)) → AllOf P ps → AllOf P qs → AllOf P (ps ++ qs)
all_on P [] qs a b = b
all_on P (p ∷ ps) qs a b = (a.0, all_on P ps qs a.1 b)

-- a definition without the log
pub set_out : (P : Entry → Type 0) (ts : List Target) (ps : List (List Entry)) → ArePartsOf ts ps → AllLogs P ts → AllOf P ps
set_out P ts ps (together e) a = subst (AllOf P) (sym e) (each_append P (flat_map front_of ts) (flat_map back_of ts) (flat_fronts P ts a) (flat_backs P ts a), (tt, tt))
set_out P ts ps (by_logs_each e) a = subst (AllOf P) (sym e) (tt, all_on P (map target_entries ts) ([] ∷ []) (map_all P ts a) (tt, tt))

weave_fronts : (P : Entry → Type 0) (ts : List Target) (t : Target) → IsIn t ts → LogsDiffer ts → AllBut P t.log ts → Weave P (front_of t) (flat_map front_of ts)
weave_fronts P [] t i ap a = absurd i
weave_fronts P (x ∷ xs) t (inl is) ap a = subst (λ (y : Target). AllBut P y.log xs → Weave P (front_of y) (front_of x ++ flat_map front_of xs)) is (λ b. own_first P (front_of x) (flat_map front_of xs) (flat_fronts P xs (all_of P x.log xs ap.0 b))) a.1
weave_fronts P (x ∷ xs) t (inr i) ap a = weave_on P [] (front_of x) (front_of t) (flat_map front_of xs) (weave_others P (front_of x) (in_front P x (a.0 (λ e. none_has x.log xs t ap.0 i (sym e))))) (weave_fronts P xs t i ap.1 a.1)

weave_backs : (P : Entry → Type 0) (ts : List Target) (t : Target) → IsIn t ts → LogsDiffer ts → AllBut P t.log ts → Weave P (back_of t) (flat_map back_of ts)
weave_backs P [] t i ap a = absurd i
weave_backs P (x ∷ xs) t (inl is) ap a = subst (λ (y : Target). AllBut P y.log xs → Weave P (back_of y) (back_of x ++ flat_map back_of xs)) is (λ b. own_first P (back_of x) (flat_map back_of xs) (flat_backs P xs (all_of P x.log xs ap.0 b))) a.1
weave_backs P (x ∷ xs) t (inr i) ap a = weave_on P [] (back_of x) (back_of t) (flat_map back_of xs) (weave_others P (back_of x) (in_back P x (a.0 (λ e. none_has x.log xs t ap.0 i (sym e))))) (weave_backs P xs t i ap.1 a.1)

more_before : (P : Entry → Type 0) (steps p : List Entry) (ps : List (List Entry)) → Each P p → InOnePart P steps ps → InOnePart P steps (p ∷ ps)
more_before P steps p ps a o = record { before = p ∷ o.before; part = o.part; after = o.after; parts_are = ap (λ xs. p ∷ xs) o.parts_are; first = (a, o.first); woven = o.woven; rest = o.rest }

all_before : (P : Entry → Type 0) (steps : List Entry) (qs ps : List (List Entry)) → AllOf P qs → InOnePart P steps ps → InOnePart P steps (qs ++ ps)
all_before P steps [] ps a o = o
all_before P steps (q ∷ qs) ps a o = more_before P steps q (qs ++ ps) a.0 (all_before P steps qs ps a.1 o)

all_behind : (P : Entry → Type 0) (steps : List Entry) (ps qs : List (List Entry)) → InOnePart P steps ps → AllOf P qs → InOnePart P steps (ps ++ qs)
all_behind P steps ps qs o a = record {
  before = o.before;
  part = o.part;
  after = o.after ++ qs;
  parts_are = ap (λ xs. xs ++ qs) o.parts_are ∙ append_assoc o.before (o.part ∷ o.after) qs;
  first = o.first;
  woven = o.woven;
  rest = all_on P o.after qs o.rest a;
}

one_of_map : (P : Entry → Type 0) (ts : List Target) (t : Target) → IsIn t ts → LogsDiffer ts → AllBut P t.log ts → InOnePart P (target_entries t) (map target_entries ts)
one_of_map P [] t i ap a = absurd i
one_of_map P (x ∷ xs) t (inl is) ap a = subst (λ (y : Target). AllBut P y.log xs → InOnePart P (target_entries y) (target_entries x ∷ map target_entries xs)) is
    (λ b. record { before = []; part = target_entries x; after = map target_entries xs; parts_are = refl; first = tt; woven = weave_own P (target_entries x); rest = map_all P xs (all_of P x.log xs ap.0 b) }) a.1
one_of_map P (x ∷ xs) t (inr i) ap a = more_before P (target_entries t) (target_entries x) (map target_entries xs) (a.0 (λ e. none_has x.log xs t ap.0 i (sym e))) (one_of_map P xs t i ap.1 a.1)

-- the definition with the log
set_in : (P : Entry → Type 0) (ts : List Target) (ps : List (List Entry)) (t : Target) → ArePartsOf ts ps → IsIn t ts → LogsDiffer ts → AllBut P t.log ts → InOnePart P (target_entries t) ps
set_in P ts ps t (together e) i ap a = subst (InOnePart P (target_entries t)) (sym e) (record {
  before = [];
  part = flat_map front_of ts ++ flat_map back_of ts;
  after = [] ∷ [];
  parts_are = refl;
  first = tt;
  woven = subst (λ os. Weave P os (flat_map front_of ts ++ flat_map back_of ts)) (halves t) (weave_on P (front_of t) (flat_map front_of ts) (back_of t) (flat_map back_of ts) (weave_fronts P ts t i ap a) (weave_backs P ts t i ap a));
  rest = (tt, tt);
})
set_in P ts ps t (by_logs_each e) i ap a = subst (InOnePart P (target_entries t)) (sym e)
    (more_before P (target_entries t) [] (map target_entries ts ++ [] ∷ []) tt (all_behind P (target_entries t) (map target_entries ts) ([] ∷ []) (one_of_map P ts t i ap a) (tt, tt)))

-- ---- all definitions

abbrev all_targets : List (List Target) → List Target
all_targets groups = flat_map (λ ts. ts) groups

nin_append : (log : Path) (xs ys : List Target) → NoneHas log (xs ++ ys) → NoneHas log xs × NoneHas log ys
nin_append log [] ys n = (tt, n)
nin_append log (x ∷ xs) ys n = let r = nin_append log xs ys n.1 in ((n.0, r.0), r.1)

apart_split : (xs ys : List Target) → LogsDiffer (xs ++ ys) → LogsDiffer xs × LogsDiffer ys
apart_split [] ys ap = (tt, ap)
apart_split (x ∷ xs) ys ap = let r = apart_split xs ys ap.1 in (((nin_append x.log xs ys ap.0).0, r.0), r.1)

but_split : (P : Entry → Type 0) (log : Path) (xs ys : List Target) → AllBut P log (xs ++ ys) → AllBut P log xs × AllBut P log ys
but_split P log [] ys a = (tt, a)
but_split P log (x ∷ xs) ys a = let r = but_split P log xs ys a.1 in ((a.0, r.0), r.1)

-- a log of the first isn't among the second, nor the other way
not_behind : (t : Target) (xs ys : List Target) → LogsDiffer (xs ++ ys) → IsIn t xs → NoneHas t.log ys
not_behind t [] ys ap i = absurd i
not_behind t (x ∷ xs) ys ap (inl is) = subst (λ (u : Target). NoneHas u.log ys) is (nin_append x.log xs ys ap.0).1
not_behind t (x ∷ xs) ys ap (inr i) = not_behind t xs ys ap.1 i

not_before : (t : Target) (xs ys : List Target) → LogsDiffer (xs ++ ys) → IsIn t ys → NoneHas t.log xs
not_before t [] ys ap i = tt
not_before t (x ∷ xs) ys ap i = ((λ e. none_has x.log ys t (nin_append x.log xs ys ap.0).1 i (sym e)), not_before t xs ys ap.1 i)

sets_out : (P : Entry → Type 0) (groups : List (List Target)) (sets : List SetPlan) → HaveLogs groups sets → AllLogs P (all_targets groups) → AllOf P (parts_of_sets (map steps_of_set sets))
sets_out P [] [] h a = tt
sets_out P [] (s ∷ sets) h a = absurd h
sets_out P (g ∷ gs) [] h a = absurd h
sets_out P (g ∷ gs) (s ∷ sets) h a = let r = logs_split g (flat_map (λ ts. ts) gs) a in all_on P (parts_of_set (steps_of_set s)) (parts_of_sets (map steps_of_set sets)) (set_out P g (parts_of_set (steps_of_set s)) (set_is Anything s g (anything g) h.0).0 r.0) (sets_out P gs sets h.1 r.1)
  where
    logs_split : (xs ys : List Target) → AllLogs P (xs ++ ys) → AllLogs P xs × AllLogs P ys
    logs_split [] ys a = (tt, a)
    logs_split (x ∷ xs) ys a = let r = logs_split xs ys a.1 in ((a.0, r.0), r.1)

sets_in : (P : Entry → Type 0) (groups : List (List Target)) (sets : List SetPlan) (t : Target) → HaveLogs groups sets → IsIn t (all_targets groups) → LogsDiffer (all_targets groups) → AllBut P t.log (all_targets groups)
    → InOnePart P (target_entries t) (parts_of_sets (map steps_of_set sets))
sets_in P [] sets t h i ap a = absurd i
sets_in P (g ∷ gs) [] t h i ap a = absurd h
sets_in P (g ∷ gs) (s ∷ sets) t h i ap a = ⊎_elim
    (λ here. all_behind P (target_entries t) (parts_of_set (steps_of_set s)) (parts_of_sets (map steps_of_set sets))
    (set_in P g (parts_of_set (steps_of_set s)) t (set_is Anything s g (anything g) h.0).0 here (apart_split g (all_targets gs) ap).0 (but_split P t.log g (all_targets gs) a).0)
    (sets_out P gs sets h.1 (all_of P t.log (all_targets gs) (not_behind t g (all_targets gs) ap here) (but_split P t.log g (all_targets gs) a).1)))
    (λ there. all_before P (target_entries t) (parts_of_set (steps_of_set s)) (parts_of_sets (map steps_of_set sets))
    (set_out P g (parts_of_set (steps_of_set s)) (set_is Anything s g (anything g) h.0).0 (all_of P t.log g (not_before t g (all_targets gs) ap there) (but_split P t.log g (all_targets gs) a).0))
    (sets_in P gs sets t h.1 there (apart_split g (all_targets gs) ap).1 (but_split P t.log g (all_targets gs) a).1))
    (in_append t g (all_targets gs) i)

makings_split : (P : Entry → Type 0) (xs ys : List Target) → OfMakings P (xs ++ ys) → OfMakings P xs × OfMakings P ys
makings_split P [] ys m = (tt, m)
makings_split P (x ∷ xs) ys m = let r = makings_split P xs ys m.1 in ((m.0, r.0), r.1)

sets_plain : (P : Entry → Type 0) (groups : List (List Target)) (sets : List SetPlan) → OfMakings P (all_targets groups) → HaveLogs groups sets → ArePlainSets P (map steps_of_set sets)
sets_plain P [] [] m h = tt
sets_plain P [] (s ∷ sets) m h = absurd h
sets_plain P (g ∷ gs) [] m h = absurd h
sets_plain P (g ∷ gs) (s ∷ sets) m h = let k = makings_split P g (all_targets gs) m in ((set_is P s g k.0 h.0).1, sets_plain P gs sets k.1 h.1)

-- ---- P of the others

pub each_every : (P : Entry → Type 0) (es : List Entry) → ((e : Entry) → IsIn e es → P e) → Each P es
each_every P [] f = tt
each_every P (x ∷ xs) f = (f x (inl refl), each_every P xs (λ e i. f e (inr i)))

of_some : (ts : List Target) (t : Target) (e : Entry) → IsIn t ts → IsIn e (target_entries t) → IsOfSome ts e
of_some [] t e i h = absurd i
of_some (x ∷ xs) t e (inl is) h = inl (subst (λ (y : Target). IsOf y e) (sym is) (inl h))
of_some (x ∷ xs) t e (inr i) h = inr (of_some xs t e i h)

others : (log : Path) (all ts : List Target) → ((t : Target) → IsIn t ts → IsIn t all) → AllBut (IsOfOther log all) log ts
others log all [] f = tt
others log all (t ∷ ts) f = ((λ ne. each_every (IsOfOther log all) (target_entries t) (λ e i. of_other log all t e (f t (inl refl)) ne (inl i))), others log all ts (λ x i. f x (inr i)))

somes : (all ts : List Target) → ((t : Target) → IsIn t ts → IsIn t all) → AllLogs (IsOfSome all) ts
somes all [] f = tt
somes all (t ∷ ts) f = (each_every (IsOfSome all) (target_entries t) (λ e i. of_some all t e (f t (inl refl)) i), somes all ts (λ x i. f x (inr i)))

one_made : (ts : List Target) (t : Target) (e : Entry) → IsIn t ts → AlsoDoes t e → MakesOne ts e
one_made [] t e i h = absurd i
one_made (x ∷ xs) t e (inl is) h = inl (subst (λ (y : Target). AlsoDoes y e) (sym is) h)
one_made (x ∷ xs) t e (inr i) h = inr (one_made xs t e i h)

pub own_makings : (all ts : List Target) → ((t : Target) → IsIn t ts → IsIn t all) → OfMakings (MakesOne all) ts
own_makings all [] f = tt
own_makings all (t ∷ ts) f = (λ e h. one_made all t e (f t (inl refl)) h, own_makings all ts (λ x i. f x (inr i)))

-- a plan whose rotations are ready, of logs of which none stands twice, is planned
pub ready_planned : (groups : List (List Target)) (sets : List SetPlan) → HaveLogs groups sets → LogsDiffer (flat_map (λ ts. ts) groups) → ArePlanned (flat_map (λ ts. ts) groups) (map steps_of_set sets)
ready_planned groups sets h ap = record {
  apart = ap;
  plain = sets_plain (MakesOne (flat_map (λ ts. ts) groups)) groups sets (own_makings (flat_map (λ ts. ts) groups) (flat_map (λ ts. ts) groups) (λ t i. i)) h;
  all = sets_out (IsOfSome (flat_map (λ ts. ts) groups)) groups sets h (somes (flat_map (λ ts. ts) groups) (flat_map (λ ts. ts) groups) (λ t i. i));
  each = λ t i. sets_in (IsOfOther t.log (flat_map (λ ts. ts) groups)) groups sets t h i ap (others t.log (flat_map (λ ts. ts) groups) (flat_map (λ ts. ts) groups) (λ x j. j));
}
