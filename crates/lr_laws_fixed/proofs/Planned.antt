-- The faults of a plan and what is done by it are those of looks that are alike.
use Rattle.std.proofs.Common.{◌≡◌, ◌+◌, ℕ, Bool, List, [], ◌∷◌, ◌++◌, map, Option, if◌then◌else◌, refl, ap, ◌∙◌}
use Rattle.std.specs.List.{flat_map}
use Rattle.lr_rules.specs.declared.civil.Moment.{Moment}
use Rattle.lr_rules.specs.declared.clock.Clock.{Clock}
use Rattle.lr_rules.specs.declared.fault.Fault.{Fault}
use Rattle.lr_rules.specs.declared.path.Path.{Path}
use Rattle.lr_rules.specs.declared.rule.Make.{Make}
use Rattle.lr_rules.specs.declared.rule.Make.TheVariants as make
use Rattle.lr_rules.specs.declared.rule.Naming.{Naming}
use Rattle.lr_rules.specs.declared.rule.Rule.{Rule}
use Rattle.lr_rules.specs.declared.rule.Way.{Way}
use Rattle.lr_rules.specs.declared.rule.Way.TheVariants as way
use Rattle.lr_due.specs.declared.answer.Due.{Due}
use Rattle.lr_host.specs.declared.thing.Seen.{Seen}
use Rattle.lr_state.specs.Table.{StateEntry as Row}
use Rattle.lr_family.specs.declared.stand.Stand.{Stand}
use Rattle.lr_chain.specs.declared.ready.Ready.{Ready}
use Rattle.lr_chain.specs.Hindrances.{what_hinders}
use Rattle.lr_chain.specs.Prepared.{ready_of}
use Rattle.lr_chain.specs.Ready.{with_dir}
use Rattle.lr_plan.specs.Asked.{Asked}
use Rattle.lr_plan.specs.declared.looks.LogLook.{LogLook}
use Rattle.lr_plan.specs.declared.looks.SetLooks.{SetLooks}
use Rattle.lr_plan.specs.declared.plan.LogPlan.{LogPlan}
use Rattle.lr_plan.specs.Planned.{decision, dir_of, stand_for, standing, or_else, takes_up, first_path, aside_by, aside_hinders, hindrances, make_of, make_for, ready_for, job_by, plan_with, log_plan, none_hinders, plans_of, where_due, log_plans, unfinished, due_faults, log_faults, set_plan, all_plans, all_faults}
use Rattle.lr_looks.specs.Families.{LookedLog}
use Rattle.lr_looks.specs.Sets.{looked_in}
use Rattle.lr_laws_fixed.specs.Alike.{AreAlikeFrom, AreAlike}

-- ---- one log

-- the log, as if this had been seen of its family
abbrev looked_with : Stand → LookedLog → LookedLog
looked_with stand l = record { set = l.set; path = l.path; naming = l.naming; seen = l.seen; stand = stand; tmp = l.tmp }

-- the rotation of a log by its parts, and by this of its rule
abbrev rotation_with : Clock → Rule → Option (Path × Option ℕ) → Path → Naming → Make → Stand → Ready
rotation_with clock rule dir first n anew stand = with_dir dir (ready_of first n rule.count rule.maxage clock anew stand.members)

-- the same faults of two kinds
either_same : (fs gs hs ks : List Fault) → fs ≡ gs → hs ≡ ks → or_else fs hs ≡ or_else gs ks
either_same fs gs hs ks p q = ap (λ (xs : List Fault). or_else xs hs) p ∙ ap (or_else gs) q

-- two looks that saw the same of a log
module _ (set : ℕ) (x y : LogLook) (e : looked_in set x ≡ looked_in set y) where
  path_is : x.path ≡ y.path
  path_is = ap (λ (l : LookedLog). l.path) e

  naming_is : x.family.naming ≡ y.family.naming
  naming_is = ap (λ (l : LookedLog). l.naming) e

  seen_is : x.seen ≡ y.seen
  seen_is = ap (λ (l : LookedLog). l.seen) e

  stand_is : x.stand ≡ y.stand
  stand_is = ap (λ (l : LookedLog). l.stand) e

  tmp_is : x.tmp ≡ y.tmp
  tmp_is = ap (λ (l : LookedLog). l.tmp) e

  -- what goes by the path and by what was seen where the log waits is the same
  beside_same : {A : Type 0} (f : Path → Option Seen → A) → f x.path x.tmp ≡ f y.path y.tmp
  beside_same f = ap (λ (p : Path). f p x.tmp) path_is ∙ ap (f y.path) tmp_is

  -- by them it is due, or isn't
  due_same : (table : List Row) (now : Moment) (force : Bool) (rule : Rule) → decision table now force rule x ≡ decision table now force rule y
  due_same table now force rule = rw (path_is, seen_is) refl

  -- its copy is the same
  job_same : (w : Way) (target : Path) → job_by w x target ≡ job_by w y target
  job_same way.Rename target = refl
  job_same way.Copy target = rw (path_is, naming_is, seen_is, stand_is) refl
  job_same way.CopyTruncate target = rw (path_is, naming_is, seen_is, stand_is) refl
  job_same way.RenameCopy target = rw (path_is, naming_is, seen_is, stand_is, tmp_is) refl

  -- so what is done with it is the same
  done_same : (mailer : Path) (rule : Rule) (ready : Ready) → plan_with mailer rule x ready ≡ plan_with mailer rule y ready
  done_same mailer rule ready = rw (job_same rule.way ready.target, beside_same (aside_by rule.way), path_is, naming_is, stand_is) refl

  -- the rotation makes the same directory
  dir_same : (rule : Rule) → dir_of rule x ≡ dir_of rule y
  dir_same rule = rw (path_is, naming_is, stand_is) refl

  standing_same : (rule : Rule) → stand_for rule x ≡ stand_for rule y
  standing_same rule = rw (path_is, naming_is, stand_is) refl

  -- and makes the log anew the same
  anew_same : (rule : Rule) → make_for rule x ≡ make_for rule y
  anew_same rule = ap (λ (o : Option Seen). if takes_up rule.way o then make.No else make_of rule.create x.seen) tmp_is ∙ ap (λ (s : Seen). if takes_up rule.way y.tmp then make.No else make_of rule.create s) seen_is

-- two looks that saw the same of a log, as their rotations go by it
module _ (set : ℕ) (x y : LogLook) (e : looked_in set x ≡ looked_in set y) where
  looks_same : (rule : Rule) → looked_in set (standing rule x) ≡ looked_in set (standing rule y)
  looks_same rule = ap (looked_with (stand_for rule x)) e ∙ ap (λ (s : Stand). looked_with s (looked_in set y)) (standing_same set x y e rule)

  -- what stands hinders the same
  members_same : (clock : Clock) (rule : Rule) → what_hinders x.family.naming rule.count clock (stand_for rule x) ≡ what_hinders y.family.naming rule.count clock (stand_for rule y)
  members_same clock rule =
      ap (λ (n : Naming). what_hinders n rule.count clock (stand_for rule x)) (naming_is set x y e)
      ∙ ap (what_hinders y.family.naming rule.count clock) (standing_same set x y e rule)

  hindered_same : (clock : Clock) (rule : Rule) → hindrances clock rule x ≡ hindrances clock rule y
  hindered_same clock rule = either_same (what_hinders x.family.naming rule.count clock (stand_for rule x)) (what_hinders y.family.naming rule.count clock (stand_for rule y)) (aside_hinders rule.way x.path x.tmp) (aside_hinders rule.way y.path y.tmp)
      (members_same clock rule) (beside_same set x y e (aside_hinders rule.way))

  told_same : (clock : Clock) (rule : Rule) → due_faults clock rule x ≡ due_faults clock rule y
  told_same clock rule = either_same (hindrances clock rule x) (hindrances clock rule y) (unfinished rule.way x.path x.tmp) (unfinished rule.way y.path y.tmp) (hindered_same clock rule) (beside_same set x y e (unfinished rule.way))

  rotated_same : (clock : Clock) (rule : Rule) → ready_for clock rule x ≡ ready_for clock rule y
  rotated_same clock rule =
      ap (λ d. rotation_with clock rule d (first_path rule.way x.path x.tmp) x.family.naming (make_for rule x) (stand_for rule x)) (dir_same set x y e rule)
      ∙ (ap (λ p. rotation_with clock rule (dir_of rule y) p x.family.naming (make_for rule x) (stand_for rule x)) (beside_same set x y e (first_path rule.way))
      ∙ (ap (λ n. rotation_with clock rule (dir_of rule y) (first_path rule.way y.path y.tmp) n (make_for rule x) (stand_for rule x)) (naming_is set x y e)
      ∙ (ap (λ m. rotation_with clock rule (dir_of rule y) (first_path rule.way y.path y.tmp) y.family.naming m (stand_for rule x)) (anew_same set x y e rule)
      ∙ ap (rotation_with clock rule (dir_of rule y) (first_path rule.way y.path y.tmp) y.family.naming (make_for rule y)) (standing_same set x y e rule))))

  planned_same : (clock : Clock) (mailer : Path) (rule : Rule) → log_plan clock mailer rule x ≡ log_plan clock mailer rule y
  planned_same clock mailer rule = ap (plan_with mailer rule (standing rule x)) (rotated_same clock rule) ∙ done_same set (standing rule x) (standing rule y) (looks_same rule) mailer rule (ready_for clock rule y)

  plans_same : (clock : Clock) (mailer : Path) (rule : Rule) → plans_of clock mailer rule x ≡ plans_of clock mailer rule y
  plans_same clock mailer rule =
      ap (λ fs. none_hinders fs (log_plan clock mailer rule x ∷ [])) (hindered_same clock rule)
      ∙ ap (λ (l : LogPlan). none_hinders (hindrances clock rule y) (l ∷ [])) (planned_same clock mailer rule)

  where_same : {A : Type 0} (table : List Row) (now : Moment) (force : Bool) (rule : Rule) (xs ys : List A) → xs ≡ ys → where_due (decision table now force rule x) xs ≡ where_due (decision table now force rule y) ys
  where_same table now force rule xs ys h = ap (λ (d : Due). where_due d xs) (due_same set x y e table now force rule) ∙ ap (where_due (decision table now force rule y)) h

-- ---- the logs of a definition

first_looked : (set : ℕ) (x y : LogLook) (xs ys : List LogLook) → map (looked_in set) (x ∷ xs) ≡ map (looked_in set) (y ∷ ys) → looked_in set x ≡ looked_in set y
first_looked set x y xs ys e = cc

others_looked : (set : ℕ) (x y : LogLook) (xs ys : List LogLook) → map (looked_in set) (x ∷ xs) ≡ map (looked_in set) (y ∷ ys) → map (looked_in set) xs ≡ map (looked_in set) ys
others_looked set x y xs ys e = cc

-- what each of two looks that are alike gives alike, lists of such looks give alike
all_same : {A : Type 0} (set : ℕ) (f : LogLook → List A) → ((x y : LogLook) → looked_in set x ≡ looked_in set y → f x ≡ f y) → (xs ys : List LogLook) → map (looked_in set) xs ≡ map (looked_in set) ys → flat_map f xs ≡ flat_map f ys
all_same set f h [] [] e = refl
all_same set f h [] (y ∷ ys) e = absurd (cc)
all_same set f h (x ∷ xs) [] e = absurd (cc)
all_same set f h (x ∷ xs) (y ∷ ys) e = ap (λ zs. zs ++ flat_map f xs) (h x y (first_looked set x y xs ys e)) ∙ ap (λ zs. f y ++ zs) (all_same set f h xs ys (others_looked set x y xs ys e))

-- ---- all definitions

module _ (table : List Row) (clock : Clock) (asked : Asked) where
  abbrev decide : Rule → LogLook → Due
  decide = decision table clock.now asked.force

  faults_same : (set : ℕ) (rule : Rule) (xs ys : List LogLook) → map (looked_in set) xs ≡ map (looked_in set) ys → log_faults clock rule (decide rule) xs ≡ log_faults clock rule (decide rule) ys
  faults_same set rule xs ys e = all_same set (λ (l : LogLook). where_due (decide rule l) (due_faults clock rule l)) (λ x y h. where_same set x y h table clock.now asked.force rule (due_faults clock rule x) (due_faults clock rule y) (told_same set x y h clock rule)) xs ys e

  logs_same : (set : ℕ) (rule : Rule) (xs ys : List LogLook) → map (looked_in set) xs ≡ map (looked_in set) ys → log_plans clock asked.mailer rule (decide rule) xs ≡ log_plans clock asked.mailer rule (decide rule) ys
  logs_same set rule xs ys e = all_same set (λ (l : LogLook). where_due (decide rule l) (plans_of clock asked.mailer rule l)) (λ x y h. where_same set x y h table clock.now asked.force rule (plans_of clock asked.mailer rule x) (plans_of clock asked.mailer rule y) (plans_same set x y h clock asked.mailer rule)) xs ys e

  all_faults_same : (set : ℕ) (rules : List Rule) (sets others : List SetLooks) → AreAlikeFrom set sets others → all_faults clock decide rules sets ≡ all_faults clock decide rules others
  all_faults_same set rules [] [] a = refl
  all_faults_same set rules [] (y ∷ ys) a = absurd a
  all_faults_same set rules (x ∷ xs) [] a = absurd a
  all_faults_same set [] (x ∷ xs) (y ∷ ys) a = refl
  all_faults_same set (r ∷ rs) (x ∷ xs) (y ∷ ys) a =
      ap (λ fs. fs ++ all_faults clock decide rs xs) (faults_same set r x.logs y.logs a.0) ∙ ap (λ fs. log_faults clock r (decide r) y.logs ++ fs) (all_faults_same (set + 1) rs xs ys a.1)

  -- looks that are alike have the same faults of their plans
  pub faults_alike : (rules : List Rule) (sets others : List SetLooks) → AreAlike sets others → all_faults clock decide rules sets ≡ all_faults clock decide rules others
  faults_alike rules sets others a = all_faults_same 0 rules sets others a

  all_plans_same : (set : ℕ) (rules : List Rule) (sets others : List SetLooks) → AreAlikeFrom set sets others → all_plans clock asked.mailer decide rules sets ≡ all_plans clock asked.mailer decide rules others
  all_plans_same set rules [] [] a = refl
  all_plans_same set rules [] (y ∷ ys) a = absurd a
  all_plans_same set rules (x ∷ xs) [] a = absurd a
  all_plans_same set [] (x ∷ xs) (y ∷ ys) a = refl
  all_plans_same set (r ∷ rs) (x ∷ xs) (y ∷ ys) a =
      ap (λ ls. set_plan r ls ∷ all_plans clock asked.mailer decide rs xs) (logs_same set r x.logs y.logs a.0)
      ∙ ap (λ ps. set_plan r (log_plans clock asked.mailer r (decide r) y.logs) ∷ ps) (all_plans_same (set + 1) rs xs ys a.1)

  -- looks that are alike have the same plans of their definitions
  pub plans_alike : (rules : List Rule) (sets others : List SetLooks) → AreAlike sets others → all_plans clock asked.mailer decide rules sets ≡ all_plans clock asked.mailer decide rules others
  plans_alike rules sets others a = all_plans_same 0 rules sets others a
