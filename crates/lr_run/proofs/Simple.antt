-- The steps of a plan: unlinks, renames, makings of logs, the steps of copies, programs and marks alone.
use Rattle.std.proofs.Common.{ℕ, Bool, true, false, not, List, [], ◌∷◌, ◌++◌, map, Option, Some, None, refl}
use Rattle.std.specs.Prelude.{if◌then◌else◌}
use Rattle.lr_rules.specs.Names.{aside_path}
use Rattle.std.specs.List.{flat_map}
use Rattle.lr_rules.specs.declared.clock.Clock.{Clock}
use Rattle.lr_rules.specs.declared.fault.Fault.{Fault}
use Rattle.lr_rules.specs.declared.fault.Phase.{Phase}
use Rattle.lr_rules.specs.declared.fault.Phase.TheVariants as phase
use Rattle.lr_rules.specs.declared.path.Path.{Path}
use Rattle.lr_rules.specs.declared.rule.Make.{Make}
use Rattle.lr_rules.specs.declared.rule.Make.TheVariants as make
use Rattle.lr_rules.specs.declared.rule.Rule.{Rule}
use Rattle.lr_rules.specs.declared.rule.Way.{Way}
use Rattle.lr_rules.specs.declared.rule.Way.TheVariants as way
use Rattle.lr_rules.specs.Match.{part_end, EndsWith}
use Rattle.lr_due.specs.declared.answer.Due.{Due}
use Rattle.lr_due.specs.declared.answer.Due.TheVariants as due
use Rattle.lr_family.specs.Parts.{part_of}
use Rattle.lr_chain.specs.declared.ready.Move.{Move}
use Rattle.lr_chain.specs.declared.ready.Ready.{Ready}
use Rattle.lr_scripts.specs.declared.removal.Removal.{Removal}
use Rattle.lr_scripts.specs.Commands.{script_command, where_so, mail, with_programs}
use Rattle.lr_copy.specs.declared.job.Job.{Job}
use Rattle.lr_plan.specs.declared.looks.LogLook.{LogLook}
use Rattle.lr_plan.specs.declared.looks.SetLooks.{SetLooks}
use Rattle.lr_plan.specs.declared.plan.LogPlan.{LogPlan}
use Rattle.lr_plan.specs.declared.plan.SetPlan.{SetPlan}
use Rattle.lr_plan.specs.declared.step.Step.{Step}
use Rattle.lr_plan.specs.declared.step.Step.TheVariants.{Runs, Removes, MakesDir, Renames, Creates, Takes, Copies, SyncsFile, SyncsDir, Truncates, Rotated}
use Rattle.lr_plan.specs.Planned.{is_seen_file, aside_by, from_path, copy_job, job_by, hindrances, standing, ready_for, plan_with, log_plan, none_hinders, plans_of, where_due, log_plans, set_plan, all_plans}
use Rattle.lr_plan.specs.Steps.{program, removal, removals, directory, move, step_if, copy, transfer, anew, made_anew, finishing, rotation_of, retirement_of, steps_of_log, shared_steps, by_logs, steps_of_set}
use Rattle.lr_acts.specs.Making.{all_of_each, all_of_set, all_of_sets}

-- ---- what holds of each of some steps

abbrev pub EachStep : (Step → Type 0) → List Step → Type 0
EachStep P [] = Unit {0}
EachStep P (step ∷ steps) = P step × EachStep P steps

pub step_both : (P : Step → Type 0) (xs ys : List Step) → EachStep P xs → EachStep P ys → EachStep P (xs ++ ys)
step_both P [] ys h g = g
step_both P (x ∷ xs) ys h g = (h.0, step_both P xs ys h.1 g)

pub step_split : (P : Step → Type 0) (xs ys : List Step) → EachStep P (xs ++ ys) → EachStep P xs × EachStep P ys
step_split P [] ys h = (tt, h)
step_split P (x ∷ xs) ys h = let r = step_split P xs ys h.1 in ((h.0, r.0), r.1)

-- ---- what holds of the steps of each plan, where Q holds of the texts of its scripts and of its addresses

-- P holds of an unlink, a rename, the making of a log or of a directory and a mark, of the steps of a copy, whose part file has the ending of one, and of the programs of a script and of an address of which Q holds
pub record IsOfSteps (P : Step → Type 0) (Q : Option (List ℕ) → Type 0) : Type 0 where
  pub removes : (path : Path) → P (Removes path)
  pub renames : (from to : Path) → P (Renames from to)
  pub creates : (path : Path) (mode : Option ℕ) → P (Creates path mode)
  pub makes_dir : (path : Path) (mode : Option ℕ) → P (MakesDir path mode)
  pub takes : (path : Path) (mode : Option ℕ) → P (Takes (part_of path) mode)
  pub copies : (from to : Path) (limit : ℕ) → P (Copies from to limit)
  pub syncs_file : (path : Path) → P (SyncsFile path)
  pub syncs_dir : (path : Path) → P (SyncsDir path)
  pub truncates : (path : Path) → P (Truncates path)
  pub rotated : (log : Path) → P (Rotated log)
  pub runs : (p : Phase) (text : Option (List ℕ)) (args : List (List ℕ)) → Q text → EachStep P (program p (script_command text args))
  pub mails : (mailer : Path) (address : Option (List ℕ)) (log file : Path) → Q address → EachStep P (program phase.Mail (mail mailer address log file))

-- Q holds of the scripts of the rule, and of the address that it mails to
pub record IsOfScripts (Q : Option (List ℕ) → Type 0) (rule : Rule) : Type 0 where
  pub first : Q rule.scripts.first
  pub pre : Q rule.scripts.pre
  pub post : Q rule.scripts.post
  pub last : Q rule.scripts.last
  pub preremove : Q rule.scripts.preremove
  pub mail : Q rule.mail

abbrev pub AreOfScripts : (Option (List ℕ) → Type 0) → List Rule → Type 0
AreOfScripts Q [] = Unit {0}
AreOfScripts Q (rule ∷ rules) = IsOfScripts Q rule × AreOfScripts Q rules

module _ (P : Step → Type 0) (Q : Option (List ℕ) → Type 0) (k : IsOfSteps P Q) where
  -- ---- one log

  where_runs : (b : Bool) (p : Phase) (text : Option (List ℕ)) (args : List (List ℕ)) → Q text → EachStep P (program p (where_so b (script_command text args)))
  where_runs true p text args q = k.runs p text args q
  where_runs false p text args q = tt

  where_mails : (b : Bool) (mailer : Path) (address : Option (List ℕ)) (log file : Path) → Q address → EachStep P (program phase.Mail (where_so b (mail mailer address log file)))
  where_mails true mailer address log file q = k.mails mailer address log file q
  where_mails false mailer address log file q = tt

  removals_so : (mailer : Path) (rule : Rule) (log : Path) (rs : List Removal) → IsOfScripts Q rule → EachStep P (removals (map (with_programs rule mailer log) rs))
  removals_so mailer rule log [] h = tt
  removals_so mailer rule log (r ∷ rs) h =
      step_both P (removal (with_programs rule mailer log r)) _
      (step_both P (program phase.Preremove (script_command rule.scripts.preremove (r.path ∷ []))) _ (k.runs phase.Preremove rule.scripts.preremove (r.path ∷ []) h.preremove)
      (step_both P (program phase.Mail (where_so (not rule.mailfirst) (mail mailer rule.mail log r.path))) _ (where_mails (not rule.mailfirst) mailer rule.mail log r.path h.mail) (k.removes _, tt)))
      (removals_so mailer rule log rs h)

  moves_so : (ms : List Move) → EachStep P (map move ms)
  moves_so [] = tt
  moves_so (m ∷ ms) = (k.renames _ _, moves_so ms)

  directory_so : (dir : Option (Path × Option ℕ)) → EachStep P (directory dir)
  directory_so None = tt
  directory_so (Some (path, mode)) = (k.makes_dir path mode, tt)

  anew_so : (m : Make) (log : Path) → EachStep P (anew m log)
  anew_so make.No log = tt
  anew_so (make.Yes mode) log = (k.creates log mode, tt)

  step_where : (b : Bool) (s : Step) → P s → EachStep P (step_if b s)
  step_where true s p = (p, tt)
  step_where false s p = tt

  copy_so : (from : Path) (look : LogLook) (target : Path) (cut : Bool) → EachStep P (copy (from_path from (copy_job look target cut)))
  copy_so from look target cut = step_both P (step_if (copy_job look target cut).stale (Removes (copy_job look target cut).part)) _ (step_where (copy_job look target cut).stale _ (k.removes _))
      (k.takes target _, (k.copies _ _ _, (k.syncs_file _, (k.renames _ _, (k.syncs_dir _, step_where cut _ (k.truncates _))))))

  -- by rename or by copy, or set aside
  transfer_so : (w : Way) (look : LogLook) (log target : Path) → EachStep P (transfer log target (job_by w look target) (aside_by w look.path look.tmp))
  transfer_so way.Rename look log target = (k.renames log target, tt)
  transfer_so way.Copy look log target = copy_so look.path look target false
  transfer_so way.CopyTruncate look log target = copy_so look.path look target true
  transfer_so way.RenameCopy look log target = go (is_seen_file look.tmp)
    where
      go : (b : Bool) → EachStep P (transfer log target (if b then None else Some (from_path (aside_path look.path) (copy_job look target false))) (if b then None else Some (aside_path look.path)))
      go true = (k.renames log target, tt)
      go false = (k.syncs_dir _, (k.renames log _, tt))

  made_so : (m : Make) (log : Path) (job : Option Job) (aside : Option Path) → EachStep P (made_anew m log job aside)
  made_so m log None aside = anew_so m log
  made_so m log (Some job) None = tt
  made_so m log (Some job) (Some path) = anew_so m log

  finishing_so : (w : Way) (look : LogLook) (target : Path) → EachStep P (finishing (job_by w look target) (aside_by w look.path look.tmp))
  finishing_so way.Rename look target = tt
  finishing_so way.Copy look target = tt
  finishing_so way.CopyTruncate look target = tt
  finishing_so way.RenameCopy look target = go (is_seen_file look.tmp)
    where
      go : (b : Bool) → EachStep P (finishing (if b then None else Some (from_path (aside_path look.path) (copy_job look target false))) (if b then None else Some (aside_path look.path)))
      go true = tt
      go false = step_both P (copy (from_path (aside_path look.path) (copy_job look target false))) (Removes (aside_path look.path) ∷ []) (copy_so (aside_path look.path) look target false) (k.removes _, tt)

  -- of each log: its rotation, its retirement, and its programs
  record IsLogSo (log : LogPlan) : Type 0 where
    rotation : EachStep P (rotation_of log)
    retirement : EachStep P (retirement_of log)
    pre : EachStep P (program phase.Pre log.pre)
    post : EachStep P (program phase.Post log.post)

  abbrev AreLogsSo : List LogPlan → Type 0
  AreLogsSo [] = Unit {0}
  AreLogsSo (log ∷ logs) = IsLogSo log × AreLogsSo logs

  -- by a rotation
  with_so : (mailer : Path) (rule : Rule) (look : LogLook) (ready : Ready) → IsOfScripts Q rule → IsLogSo (plan_with mailer rule look ready)
  with_so mailer rule look ready h = record {
    rotation = step_both P (removals (map (with_programs rule mailer look.path) ready.leftovers)) _ (removals_so mailer rule look.path ready.leftovers h)
        (step_both P (directory ready.dir) _ (directory_so ready.dir)
        (step_both P (map move ready.moves) _ (moves_so ready.moves)
        (step_both P (transfer ready.log ready.target (job_by rule.way look ready.target) (aside_by rule.way look.path look.tmp)) _ (transfer_so rule.way look ready.log ready.target)
        (k.rotated _, made_so ready.make look.path (job_by rule.way look ready.target) (aside_by rule.way look.path look.tmp)))));
    retirement = step_both P (finishing (job_by rule.way look ready.target) (aside_by rule.way look.path look.tmp)) _ (finishing_so rule.way look ready.target)
        (step_both P (program phase.Mail (where_so rule.mailfirst (mail mailer rule.mail look.path ready.target))) _
        (where_mails rule.mailfirst mailer rule.mail look.path ready.target h.mail)
        (removals_so mailer rule look.path ready.retire h));
    pre = where_runs (not rule.shared) phase.Pre rule.scripts.pre _ h.pre;
    post = where_runs (not rule.shared) phase.Post rule.scripts.post _ h.post;
  }

  log_so : (clock : Clock) (mailer : Path) (rule : Rule) (look : LogLook) → IsOfScripts Q rule → IsLogSo (log_plan clock mailer rule look)
  log_so clock mailer rule look h = with_so mailer rule (standing rule look) (ready_for clock rule look) h

  logs_both : (xs ys : List LogPlan) → AreLogsSo xs → AreLogsSo ys → AreLogsSo (xs ++ ys)
  logs_both [] ys h g = g
  logs_both (x ∷ xs) ys h g = (h.0, logs_both xs ys h.1 g)

  free_so : (fs : List Fault) (log : LogPlan) → IsLogSo log → AreLogsSo (none_hinders fs (log ∷ []))
  free_so [] log h = (h, tt)
  free_so (f ∷ fs) log h = tt

  due_so : (d : Due) (logs : List LogPlan) → AreLogsSo logs → AreLogsSo (where_due d logs)
  due_so (due.Yes why) logs h = h
  due_so (due.No why) logs h = tt

  logs_so : (clock : Clock) (mailer : Path) (rule : Rule) (decide : LogLook → Due) (looks : List LogLook) → IsOfScripts Q rule → AreLogsSo (log_plans clock mailer rule decide looks)
  logs_so clock mailer rule decide [] h = tt
  logs_so clock mailer rule decide (l ∷ ls) h =
      logs_both (where_due (decide l) (plans_of clock mailer rule l)) (log_plans clock mailer rule decide ls) (due_so (decide l) (plans_of clock mailer rule l) (free_so (hindrances clock rule l) (log_plan clock mailer rule l) (log_so clock mailer rule l h))) (logs_so clock mailer rule decide ls h)

  -- ---- one definition

  log_steps : (log : LogPlan) → IsLogSo log → EachStep P (steps_of_log log)
  log_steps log h = step_both P (program phase.Pre log.pre) _ h.pre (step_both P (rotation_of log) _ h.rotation (step_both P (program phase.Post log.post) _ h.post h.retirement))

  each_steps : (logs : List LogPlan) → AreLogsSo logs → EachStep P (all_of_each (map steps_of_log logs))
  each_steps [] h = tt
  each_steps (l ∷ ls) h = step_both P (steps_of_log l) _ (log_steps l h.0) (each_steps ls h.1)

  rotations_so : (logs : List LogPlan) → AreLogsSo logs → EachStep P (flat_map rotation_of logs)
  rotations_so [] h = tt
  rotations_so (l ∷ ls) h = step_both P (rotation_of l) _ h.0.rotation (rotations_so ls h.1)

  retirements_so : (logs : List LogPlan) → AreLogsSo logs → EachStep P (flat_map retirement_of logs)
  retirements_so [] h = tt
  retirements_so (l ∷ ls) h = step_both P (retirement_of l) _ h.0.retirement (retirements_so ls h.1)

  -- its own programs
  record IsSetSo (set : SetPlan) : Type 0 where
    first : EachStep P (program phase.First set.first)
    pre : EachStep P (program phase.Pre set.pre)
    post : EachStep P (program phase.Post set.post)
    last : EachStep P (program phase.Last set.last)

  shared_so : (set : SetPlan) → IsSetSo set → AreLogsSo set.logs → EachStep P (shared_steps set)
  shared_so set n h = step_both P (program phase.First set.first) _ n.first (step_both P (program phase.Pre set.pre) _ n.pre
      (step_both P (flat_map rotation_of set.logs) _ (rotations_so set.logs h) (step_both P (program phase.Post set.post) _ n.post
      (step_both P (flat_map retirement_of set.logs) _ (retirements_so set.logs h) n.last))))

  set_so : (set : SetPlan) → IsSetSo set → AreLogsSo set.logs → EachStep P (all_of_set (steps_of_set set))
  set_so set n h = go set.shared set.logs
    where
      go : (b : Bool) (logs : List LogPlan) → EachStep P (all_of_set (by_logs b logs set))
      go b [] = tt
      go true (l ∷ ls) = step_both P (shared_steps set) [] (shared_so set n h) tt
      go false (l ∷ ls) = step_both P (program phase.First set.first) _ n.first (step_both P (all_of_each (map steps_of_log set.logs)) _ (each_steps set.logs h) n.last)

  own_so : (rule : Rule) (logs : List LogPlan) → IsOfScripts Q rule → IsSetSo (set_plan rule logs)
  own_so rule logs h = record {
    first = k.runs phase.First rule.scripts.first _ h.first;
    pre = where_runs rule.shared phase.Pre rule.scripts.pre _ h.pre;
    post = where_runs rule.shared phase.Post rule.scripts.post _ h.post;
    last = k.runs phase.Last rule.scripts.last _ h.last;
  }

  -- ---- all definitions

  pub plan_so : (clock : Clock) (mailer : Path) (decide : Rule → LogLook → Due) (rules : List Rule) (sets : List SetLooks) → AreOfScripts Q rules → EachStep P (all_of_sets (map steps_of_set (all_plans clock mailer decide rules sets)))
  plan_so clock mailer decide [] [] h = tt
  plan_so clock mailer decide [] (s ∷ ss) h = tt
  plan_so clock mailer decide (r ∷ rs) [] h = tt
  plan_so clock mailer decide (r ∷ rs) (s ∷ ss) h = step_both P (all_of_set (steps_of_set (set_plan r (log_plans clock mailer r (decide r) s.logs)))) _
      (set_so (set_plan r (log_plans clock mailer r (decide r) s.logs)) (own_so r (log_plans clock mailer r (decide r) s.logs) h.0) (logs_so clock mailer r (decide r) s.logs h.0)) (plan_so clock mailer decide rs ss h.1)

-- ---- simple steps

-- an unlink, a rename, the making of a log, a step of a copy, a program, or no call: it fails by a call, by a program that ends badly, or by a part file's name that is taken or a log that is too long
abbrev pub IsSimple : Step → Type 0
IsSimple (Runs phase on command) = Unit {0}
IsSimple (Removes path) = Unit {0}
IsSimple (Renames from to) = Unit {0}
IsSimple (Creates path mode) = Unit {0}
IsSimple (MakesDir path mode) = Unit {0}
IsSimple (Takes path mode) = EndsWith path part_end
IsSimple (Copies from to limit) = Unit {0}
IsSimple (SyncsFile path) = Unit {0}
IsSimple (SyncsDir path) = Unit {0}
IsSimple (Truncates path) = Unit {0}
IsSimple (Rotated log) = Unit {0}
IsSimple _ = ⊥

abbrev pub AreSimple : List Step → Type 0
AreSimple steps = EachStep IsSimple steps

pub simple_split : (xs ys : List Step) → AreSimple (xs ++ ys) → AreSimple xs × AreSimple ys
simple_split xs ys h = step_split IsSimple xs ys h

-- so are the programs of all scripts and addresses
abbrev Any : Option (List ℕ) → Type 0
Any text = Unit {0}

program_simple : (p : Phase) (text : Option (List ℕ)) (args : List (List ℕ)) → Any text → AreSimple (program p (script_command text args))
program_simple p None args q = tt
program_simple p (Some text) args q = (tt, tt)

mail_simple : (mailer : Path) (address : Option (List ℕ)) (log file : Path) → Any address → AreSimple (program phase.Mail (mail mailer address log file))
mail_simple mailer None log file q = tt
mail_simple mailer (Some address) log file q = (tt, tt)

simple_steps : IsOfSteps IsSimple Any
simple_steps = record {
  removes = λ path. tt;
  renames = λ from to. tt;
  creates = λ path mode. tt;
  makes_dir = λ path mode. tt;
  takes = λ path mode. (path, refl);
  copies = λ from to limit. tt;
  syncs_file = λ path. tt;
  syncs_dir = λ path. tt;
  truncates = λ path. tt;
  rotated = λ log. tt;
  runs = program_simple;
  mails = mail_simple;
}

any_scripts : (rules : List Rule) → AreOfScripts Any rules
any_scripts [] = tt
any_scripts (rule ∷ rules) = (record { first = tt; pre = tt; post = tt; last = tt; preremove = tt; mail = tt }, any_scripts rules)

pub plan_simple : (clock : Clock) (mailer : Path) (decide : Rule → LogLook → Due) (rules : List Rule) (sets : List SetLooks) → AreSimple (all_of_sets (map steps_of_set (all_plans clock mailer decide rules sets)))
plan_simple clock mailer decide rules sets = plan_so IsSimple Any simple_steps clock mailer decide rules sets (any_scripts rules)
