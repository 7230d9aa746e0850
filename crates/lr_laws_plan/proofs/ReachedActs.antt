-- What the acts of a plan are told of ends no run.
use Rattle.std.proofs.Common.{◌≡◌, inl, inr, Bool, true, false, if◌then◌else◌, Some, None, List, [], ◌∷◌, map, refl, sym, subst}
use Rattle.lr_rules.specs.declared.clock.Clock.{Clock}
use Rattle.lr_rules.specs.declared.fault.Fault.{Fault}
use Rattle.lr_rules.specs.declared.path.Path.{Path}
use Rattle.lr_rules.specs.declared.rule.Rule.{Rule}
use Rattle.lr_due.specs.declared.answer.Due.{Due}
use Rattle.lr_due.specs.declared.answer.Due.TheVariants as due
use Rattle.lr_host.specs.declared.entry.Entry.{Entry}
use Rattle.lr_host.specs.Lists.{IsIn}
use Rattle.lr_host.proofs.Lists.{of_flat}
use Rattle.lr_plan.specs.declared.looks.LogLook.{LogLook}
use Rattle.lr_plan.specs.declared.looks.SetLooks.{SetLooks}
use Rattle.lr_plan.specs.declared.mark.Mark.{Mark}
use Rattle.lr_plan.specs.declared.plan.LogPlan.{LogPlan}
use Rattle.lr_plan.specs.declared.plan.SetPlan.{SetPlan}
use Rattle.lr_plan.specs.declared.step.Step.{Step}
use Rattle.lr_plan.specs.declared.step.Step.TheVariants.{Runs, Removes, MakesDir, Renames, Creates, Takes, Copies, SyncsFile, SyncsDir, Truncates, Rotated}
use Rattle.lr_plan.specs.Done.{SetsDone}
use Rattle.lr_plan.specs.Planned.{rule_mode, makes_dir as is_made, hindrances, log_plan, none_hinders, plans_of, where_due, log_plans, all_plans}
use Rattle.lr_plan.specs.Steps.{steps_of_set}
use Rattle.lr_acts.specs.Making.{all_of_sets}
use Rattle.lr_writing.specs.Synced.{made_of, to_make_of, all_to_make_of}
use Rattle.lr_writing.proofs.Telling.{MakesAmong, EachAmong, plan_among}
use Rattle.lr_run.proofs.Folded.{Folds, acts_fold}
use Rattle.lr_run.proofs.Simple.{EachStep, IsSimple, AreSimple, plan_simple}
use Rattle.lr_laws_plan.specs.Ending.{NoneEnds}
use Rattle.lr_laws_plan.proofs.Ends.{none_both}
use Rattle.lr_laws_plan.proofs.Plainly.{FailsPlainly, IsAside, runs, removes, makes_dir, renames, creates, takes, copies, syncs_file, syncs_dir, truncates, rotated}

-- the directories of the families that were looked at are aside of the state
abbrev pub AreAside : Path → List SetLooks → Type 0
AreAside state sets = (set : SetLooks) (look : LogLook) → IsIn set sets → IsIn look set.logs → IsAside state look.family.naming.dir

-- ---- the directories that a plan makes

in_due : (d : Due) (logs : List LogPlan) (log : LogPlan) → IsIn log (where_due d logs) → IsIn log logs
in_due (due.Yes why) logs log i = i
in_due (due.No why) logs log i = absurd i

in_free : (fs : List Fault) (plan log : LogPlan) → IsIn log (none_hinders fs (plan ∷ [])) → plan ≡ log
in_free [] plan log (inl e) = e
in_free [] plan log (inr none) = absurd none
in_free (f ∷ fs) plan log i = absurd i

module _ (state : Path) (clock : Clock) (mailer : Path) (decide : Rule → LogLook → Due) where
  look_aside : (rule : Rule) (look : LogLook) → IsAside state look.family.naming.dir → (dir : Path) → IsIn dir (made_of (log_plan clock mailer rule look).ready.dir) → IsAside state dir
  look_aside rule look aside dir i = go (is_made rule look) i
    where
      go : (made : Bool) → IsIn dir (made_of (if made then Some (look.family.naming.dir, rule_mode rule.createolddir) else None)) → IsAside state dir
      go true (inl e) = subst (IsAside state) e aside
      go true (inr none) = absurd none
      go false none = absurd none

  logs_aside : (rule : Rule) (looks : List LogLook) → ((look : LogLook) → IsIn look looks → IsAside state look.family.naming.dir) → (dir : Path) → IsIn dir (to_make_of (log_plans clock mailer rule (decide rule) looks)) → IsAside state dir
  logs_aside rule looks aside dir i =
      let log = of_flat (λ (l : LogPlan). made_of l.ready.dir) (log_plans clock mailer rule (decide rule) looks) dir i in
      let look = of_flat (λ (l : LogLook). where_due (decide rule l) (plans_of clock mailer rule l)) looks log.0 log.1 in
      let same = in_free (hindrances clock rule look.0) (log_plan clock mailer rule look.0) log.0 (in_due (decide rule look.0) (plans_of clock mailer rule look.0) log.0 look.2) in
      look_aside rule look.0 (aside look.0 look.1) dir (subst (λ (l : LogPlan). IsIn dir (made_of l.ready.dir)) (sym same) log.2)

  plans_aside : (rules : List Rule) (sets : List SetLooks) → AreAside state sets → (plan : SetPlan) → IsIn plan (all_plans clock mailer decide rules sets) → (dir : Path) → IsIn dir (to_make_of plan.logs) → IsAside state dir
  plans_aside [] [] aside plan i = absurd i
  plans_aside [] (s ∷ ss) aside plan i = absurd i
  plans_aside (r ∷ rs) [] aside plan i = absurd i
  plans_aside (r ∷ rs) (s ∷ ss) aside plan (inl e) = subst (λ (p : SetPlan). (dir : Path) → IsIn dir (to_make_of p.logs) → IsAside state dir) e (logs_aside r s.logs (λ look j. aside s look (inl refl) j))
  plans_aside (r ∷ rs) (s ∷ ss) aside plan (inr i) = plans_aside rs ss (λ set look at j. aside set look (inr at) j) plan i

  dirs_aside : (rules : List Rule) (sets : List SetLooks) → AreAside state sets → (dir : Path) → IsIn dir (all_to_make_of (all_plans clock mailer decide rules sets)) → IsAside state dir
  dirs_aside rules sets aside dir i = let p = of_flat (λ (set : SetPlan). to_make_of set.logs) (all_plans clock mailer decide rules sets) dir i in plans_aside rules sets aside p.0 p.1 dir p.2

-- ---- the acts

-- They are unlinks, renames, makings of logs and of directories, the steps of copies and programs. These fail by a call, by a bad end, as a copy does, or since another thing has the directory's path.
simple_plain : (state : Path) (dirs : List Path) → ((dir : Path) → IsIn dir dirs → IsAside state dir) → (s : Step) → IsSimple s → MakesAmong dirs s → FailsPlainly state s
simple_plain state dirs aside (Runs p on command) i g = runs state p on command
simple_plain state dirs aside (Removes path) i g = removes state path
simple_plain state dirs aside (MakesDir path mode) i g = makes_dir state path mode (aside path g)
simple_plain state dirs aside (Renames from to) i g = renames state from to
simple_plain state dirs aside (Creates path mode) i g = creates state path mode
simple_plain state dirs aside (Takes path mode) i g = takes state path mode
simple_plain state dirs aside (Copies from to limit) i g = copies state from to limit
simple_plain state dirs aside (SyncsFile path) i g = syncs_file state path
simple_plain state dirs aside (SyncsDir path) i g = syncs_dir state path
simple_plain state dirs aside (Truncates path) i g = truncates state path
simple_plain state dirs aside (Rotated log) i g = rotated state log
simple_plain state dirs aside _ i g = absurd i

each_plain : (state : Path) (dirs : List Path) → ((dir : Path) → IsIn dir dirs → IsAside state dir) → (ss : List Step) → AreSimple ss → EachAmong dirs ss → EachStep (FailsPlainly state) ss
each_plain state dirs aside [] i g = tt
each_plain state dirs aside (s ∷ ss) i g = (simple_plain state dirs aside s i.0 g.0, each_plain state dirs aside ss i.1 g.1)

none_folds : (state : Path) → Folds (FailsPlainly state) (λ fs ts. NoneEnds state fs)
none_folds state = record {
  none = tt;
  made = λ s ts i h. tt;
  failed = λ s f ts i h. i f ts h;
  both = λ fs gs ts us h g. none_both state fs gs h g;
}

pub acts_none : (state : Path) (rules : List Rule) (sets : List SetLooks) (clock : Clock) (mailer : Path) (decide : Rule → LogLook → Due) (ms : List Mark) (fs : List Fault) (ts : List Entry) → AreAside state sets
    → SetsDone (map steps_of_set (all_plans clock mailer decide rules sets)) ms fs ts → NoneEnds state fs
acts_none state rules sets clock mailer decide ms fs ts aside h = acts_fold (FailsPlainly state) (λ gs us. NoneEnds state gs) (none_folds state) (map steps_of_set plans) ms fs ts
    (each_plain state (all_to_make_of plans) (dirs_aside state clock mailer decide rules sets aside) (all_of_sets (map steps_of_set plans)) (plan_simple clock mailer decide rules sets) (plan_among plans)) h
  where
    plans : List SetPlan
    plans = all_plans clock mailer decide rules sets
