-- The plan has the logs of the targets, each ready, and programs that read no file but the one that is mailed.
use Rattle.std.proofs.Common.{◌≡◌, ◌⊎◌, inl, inr, ℕ, suc, Bool, true, false, not, List, [], ◌∷◌, ◌++◌, Option, Some, None, refl, sym, ap, ◌∙◌, subst, map}
use Rattle.std.specs.Prelude.{if◌then◌else◌}
use Rattle.lr_rules.specs.declared.clock.Clock.{Clock}
use Rattle.lr_rules.specs.declared.fault.Fault.{Fault}
use Rattle.lr_rules.specs.declared.path.Path.{Path}
use Rattle.lr_rules.specs.declared.rule.Count.{Count}
use Rattle.lr_rules.specs.declared.rule.Format.{Format}
use Rattle.lr_rules.specs.declared.rule.Make.{Make}
use Rattle.lr_rules.specs.declared.rule.Naming.{Naming}
use Rattle.lr_rules.specs.declared.rule.Rule.{Rule}
use Rattle.lr_rules.specs.declared.rule.Way.{Way}
use Rattle.lr_rules.specs.declared.rule.Way.TheVariants as way
use Rattle.lr_rules.specs.Names.{aside_path, is_aside}
use Rattle.lr_due.specs.declared.answer.Due.{Due}
use Rattle.lr_due.specs.declared.answer.Due.TheVariants as due
use Rattle.lr_family.specs.declared.stand.Member.{Member}
use Rattle.lr_scripts.specs.declared.command.Command.{Command}
use Rattle.lr_scripts.specs.declared.removal.Removal.{Removal}
use Rattle.lr_chain.specs.declared.ready.Ready.{Ready}
use Rattle.lr_chain.specs.Prepared.{ready_by, ready_of}
use Rattle.lr_chain.specs.Ready.{removal_at, with_dir}
use Rattle.lr_chain.specs.Rotation.{places_of, leftovers, going, retired}
use Rattle.lr_copy.specs.declared.job.Job.{Job}
use Rattle.lr_host.specs.declared.entry.Entry.{Entry}
use Rattle.lr_host.specs.Lists.{IsIn}
use Rattle.lr_plan.specs.declared.looks.LogLook.{LogLook}
use Rattle.lr_plan.specs.declared.looks.SetLooks.{SetLooks}
use Rattle.lr_plan.specs.declared.plan.LogPlan.{LogPlan}
use Rattle.lr_scripts.specs.Commands.{spaced, script_command, where_so, mail, with_programs}
use Rattle.lr_plan.specs.Planned.{dir_of, stand_for, standing, is_seen_file, first_path, aside_by, make_for, copy_job, from_path, job_by, ready_for, with_removals, dressed, hindrances, plan_with, log_plan, none_hinders, plans_of, where_due, log_plans, all_plans}
use Rattle.lr_looks.specs.Shown.{ShowsLooks}
use Rattle.lr_chain.specs.DatedRotation.{Ranked}
use Rattle.lr_chain.specs.DatedReady.{removal_of}
use Rattle.lr_laws_rotations.specs.Target.{Target, IsReadyBy, IsJob, TargetHasJob, StaysBefore, IsTargetAside, IsTakenUp, GoesBy, source_by}
use Rattle.lr_laws_rotations.proofs.Way.{has_way}
use Rattle.lr_laws_acts.specs.Fitting.{ReadsNothing, ReadsThis, ReadThemselves, ReadsOwn, ReadOwn, ReadOnlyOwn}
use Rattle.lr_laws_acts.specs.Planned.{bare_removal, bare, IsReadyFor, AreReadyFor, HaveLogs}
use Rattle.lr_laws_looks.specs.Targets.{target_of, where_free, targets_of, groups_of}
use Rattle.lr_laws_looks.proofs.Coming.{AskSo, asks_so}

-- ---- programs

reads_script : (text : Option (List ℕ)) (args : List (List ℕ)) → ReadsNothing (script_command text args)
reads_script None args = tt
reads_script (Some text) args = refl

reads_where : (b : Bool) (o : Option Command) → ReadsNothing o → ReadsNothing (where_so b o)
reads_where true o h = h
reads_where false o h = tt

reads_mail : (b : Bool) (mailer : Path) (address : Option (List ℕ)) (log file : Path) → ReadsThis file (where_so b (mail mailer address log file))
reads_mail false mailer address log file = tt
reads_mail true mailer None log file = tt
reads_mail true mailer (Some address) log file = refl

read_themselves : (mailer : Path) (rule : Rule) (log : Path) (rs : List Removal) → ReadThemselves (map (with_programs rule mailer log) rs)
read_themselves mailer rule log [] = tt
read_themselves mailer rule log (r ∷ rs) = (reads_script rule.scripts.preremove (r.path ∷ []), reads_mail (not rule.mailfirst) mailer rule.mail log r.path, read_themselves mailer rule log rs)

asks : (mailer : Path) (rule : Rule) (look : LogLook) (ready : Ready) → ReadsOwn (plan_with mailer rule look ready)
asks mailer rule look ready = record {
  pre = reads_where (not rule.shared) (script_command rule.scripts.pre (look.path ∷ [])) (reads_script rule.scripts.pre (look.path ∷ []));
  post = reads_where (not rule.shared) (script_command rule.scripts.post (look.path ∷ ready.target ∷ [])) (reads_script rule.scripts.post (look.path ∷ ready.target ∷ []));
  first_mail = reads_mail rule.mailfirst mailer rule.mail look.path ready.target;
  leftovers = read_themselves mailer rule look.path ready.leftovers;
  retire = read_themselves mailer rule look.path ready.retire;
}

ask_both : (xs ys : List LogPlan) → ReadOwn xs → ReadOwn ys → ReadOwn (xs ++ ys)
ask_both [] ys a b = b
ask_both (x ∷ xs) ys a b = (a.0, ask_both xs ys a.1 b)

ask_free : (clock : Clock) (fs : List Fault) (mailer : Path) (rule : Rule) (look : LogLook) → ReadOwn (none_hinders fs (log_plan clock mailer rule look ∷ []))
ask_free clock [] mailer rule look = (asks mailer rule (standing rule look) (ready_for clock rule look), tt)
ask_free clock (f ∷ fs) mailer rule look = tt

ask_where : (d : Due) (xs : List LogPlan) → ReadOwn xs → ReadOwn (where_due d xs)
ask_where (due.Yes why) xs h = h
ask_where (due.No why) xs h = tt

ask_logs : (clock : Clock) (mailer : Path) (rule : Rule) (decide : LogLook → Due) (looks : List LogLook) → ReadOwn (log_plans clock mailer rule decide looks)
ask_logs clock mailer rule decide [] = tt
ask_logs clock mailer rule decide (look ∷ looks) =
    ask_both (where_due (decide look) (plans_of clock mailer rule look)) (log_plans clock mailer rule decide looks) (ask_where (decide look) (plans_of clock mailer rule look) (ask_free clock (hindrances clock rule look) mailer rule look)) (ask_logs clock mailer rule decide looks)

read_own : (clock : Clock) (mailer : Path) (rules : List Rule) (sets : List SetLooks) (decide : Rule → LogLook → Due) → ReadOnlyOwn (all_plans clock mailer decide rules sets)
read_own clock mailer [] [] decide = tt
read_own clock mailer [] (set ∷ sets) decide = tt
read_own clock mailer (rule ∷ rules) [] decide = tt
read_own clock mailer (rule ∷ rules) (set ∷ sets) decide = (
  record {
    first = reads_script rule.scripts.first (spaced rule.words ∷ []);
    pre = reads_where rule.shared (script_command rule.scripts.pre (spaced rule.words ∷ [])) (reads_script rule.scripts.pre (spaced rule.words ∷ []));
    post = reads_where rule.shared (script_command rule.scripts.post (spaced rule.words ∷ [])) (reads_script rule.scripts.post (spaced rule.words ∷ []));
    last = reads_script rule.scripts.last (spaced rule.words ∷ []);
    logs = ask_logs clock mailer rule (decide rule) set.logs;
  },
  read_own clock mailer rules sets decide,
)

pub plans_read_own : (rules : List Rule) (sets : List SetLooks) (clock : Clock) (mailer : Path) (decide : Rule → LogLook → Due) → ReadOnlyOwn (all_plans clock mailer decide rules sets)
plans_read_own rules sets clock mailer decide = read_own clock mailer rules sets decide

-- ---- rotations

-- The rotation begins where the file stands, whatever the kind of its names.
at_log : (d : Option Format) (log : Path) (n : Naming) (c : Count) (maxage : Option ℕ) (clock : Clock) (anew : Make) (members : List Member) → (ready_by d log n c maxage clock anew members).log ≡ log
at_log None log n c maxage clock anew members = refl
at_log (Some format) log n c maxage clock anew members = refl

pub begins_at : (clock : Clock) (rule : Rule) (look : LogLook) → (ready_for clock rule look).log ≡ first_path rule.way look.path look.tmp
begins_at clock rule look = at_log look.family.naming.dated (first_path rule.way look.path look.tmp) look.family.naming rule.count rule.maxage clock (make_for rule look) (stand_for rule look).members

-- Where the log is copied, it is copied so: from where it stands, or from where it is set aside.
pub record IsCopyOf (w : Way) (look : LogLook) (target : Path) (job : Job) : Type 0 where
  pub from : Path
  pub cut : Bool
  pub is : from_path from (copy_job look target cut) ≡ job
  pub from_is : from ≡ source_by (aside_by w look.path look.tmp) (first_path w look.path look.tmp)

some_same : (a b : Job) → Some a ≡ Some b → a ≡ b
some_same a b e = cc

pub by_copy : (w : Way) (look : LogLook) (target : Path) (job : Job) → job_by w look target ≡ Some job → IsCopyOf w look target job
by_copy way.Rename look target job is = absurd (cc)
by_copy way.Copy look target job is = record { from = look.path; cut = false; is = some_same (copy_job look target false) job is; from_is = refl }
by_copy way.CopyTruncate look target job is = record { from = look.path; cut = true; is = some_same (copy_job look target true) job is; from_is = refl }
by_copy way.RenameCopy look target job is =
    let g = go (is_seen_file look.tmp) is in
    record { from = aside_path look.path; cut = false; is = g.0; from_is = g.1 }
  where
    go : (b : Bool) → (if b then None else Some (from_path (aside_path look.path) (copy_job look target false))) ≡ Some job
        → (from_path (aside_path look.path) (copy_job look target false) ≡ job)
        × (aside_path look.path ≡ source_by (if b then None else Some (aside_path look.path)) (if b then aside_path look.path else look.path))
    go true e = absurd (cc)
    go false e = (some_same (from_path (aside_path look.path) (copy_job look target false)) job e, refl)

pub target_job : (clock : Clock) (rule : Rule) (look : LogLook) → TargetHasJob (target_of clock rule look)
target_job clock rule look job is =
    let by = by_copy rule.way (standing rule look) (ready_for clock rule look).target job is in
    subst (IsJob (target_of clock rule look)) by.is
    (record { from_is = by.from_is ∙ ap (source_by (aside_by rule.way look.path look.tmp)) (sym (begins_at clock rule look)); to_is = refl; part_is = refl; dir_is = refl })

-- ---- the way that the rule asks for

module _ (clock : Clock) (rule : Rule) (look : LogLook) where
  abbrev goal : Path
  goal = (ready_for clock rule look).target

  abbrev aside_job : Job
  aside_job = from_path (aside_path look.path) (copy_job (standing rule look) (ready_for clock rule look).target false)

  stays_by : (w : Way) → rule.way ≡ w → aside_by w look.path look.tmp ≡ None → first_path w look.path look.tmp ≡ look.path → StaysBefore (target_of clock rule look)
  stays_by w is none first = record {
    aside_is = ap (λ (w : Way). aside_by w look.path look.tmp) is ∙ none;
    first_is = begins_at clock rule look ∙ (ap (λ (w : Way). first_path w look.path look.tmp) is ∙ first);
  }

  job_is_by : (w : Way) (j : Option Job) → rule.way ≡ w → job_by w (standing rule look) (ready_for clock rule look).target ≡ j → job_by rule.way (standing rule look) (ready_for clock rule look).target ≡ j
  job_is_by w j is e = ap (λ (w : Way). job_by w (standing rule look) (ready_for clock rule look).target) is ∙ e

  aside_or_taken : (b : Bool) → is_seen_file look.tmp ≡ b → rule.way ≡ way.RenameCopy → IsTargetAside (target_of clock rule look) ⊎ IsTakenUp (target_of clock rule look)
  aside_or_taken false none is = inl (record {
    aside_is = ap (λ (w : Way). aside_by w look.path look.tmp) is ∙ ap (λ (b : Bool). if b then None else Some (aside_path look.path)) none;
    first_is = begins_at clock rule look ∙ (ap (λ (w : Way). first_path w look.path look.tmp) is ∙ ap (λ (b : Bool). if b then aside_path look.path else look.path) none);
    job = aside_job;
    job_is = job_is_by way.RenameCopy (Some aside_job) is (ap (λ (b : Bool). if b then None else Some aside_job) none);
    uncut = refl;
  })
  aside_or_taken true file is = inr (record {
    aside_is = ap (λ (w : Way). aside_by w look.path look.tmp) is ∙ ap (λ (b : Bool). if b then None else Some (aside_path look.path)) file;
    first_is = begins_at clock rule look ∙ (ap (λ (w : Way). first_path w look.path look.tmp) is ∙ ap (λ (b : Bool). if b then aside_path look.path else look.path) file);
    no_job = job_is_by way.RenameCopy None is (ap (λ (b : Bool). if b then None else Some aside_job) file);
  })

  goes_by : (w : Way) → rule.way ≡ w → look.family.naming.aside ≡ is_aside w → GoesBy w (target_of clock rule look)
  goes_by way.Rename is asked = (stays_by way.Rename is refl refl, job_is_by way.Rename None is refl)
  goes_by way.Copy is asked = (stays_by way.Copy is refl refl, (copy_job (standing rule look) goal false, job_is_by way.Copy (Some (copy_job (standing rule look) goal false)) is refl))
  goes_by way.CopyTruncate is asked = (stays_by way.CopyTruncate is refl refl, (copy_job (standing rule look) goal true, job_is_by way.CopyTruncate (Some (copy_job (standing rule look) goal true)) is refl))
  goes_by way.RenameCopy is asked = (asked, aside_or_taken (is_seen_file look.tmp) refl is)

  -- it goes so, where its naming is that of the rule
  pub goes_by_rule : look.family.naming.aside ≡ is_aside rule.way → GoesBy rule.way (target_of clock rule look)
  goes_by_rule asked = goes_by rule.way refl asked

-- without their programs the removals are those of the rotation
bare_are : (mailer : Path) (rule : Rule) (log : Path) (rs : List Removal) → map bare_removal (map (with_programs rule mailer log) rs) ≡ map bare_removal rs
bare_are mailer rule log [] = refl
bare_are mailer rule log (r ∷ rs) = ap (λ xs. bare_removal r ∷ xs) (bare_are mailer rule log rs)

-- the removals of a rotation that is ready have no programs: of numbered members, and of dated ones
bare_numbers : (n : Naming) (places : List ℕ) → map bare_removal (map (removal_at n) places) ≡ map (removal_at n) places
bare_numbers n [] = refl
bare_numbers n (k ∷ ks) = ap (λ rs. removal_at n k ∷ rs) (bare_numbers n ks)

bare_days : (ms : List Ranked) → map bare_removal (map removal_of ms) ≡ map removal_of ms
bare_days [] = refl
bare_days (m ∷ ms) = ap (λ rs. removal_of m ∷ rs) (bare_days ms)

bare_leftovers : (d : Option Format) (log : Path) (n : Naming) (c : Count) (maxage : Option ℕ) (clock : Clock) (anew : Make) (members : List Member)
    → map bare_removal (ready_by d log n c maxage clock anew members).leftovers ≡ (ready_by d log n c maxage clock anew members).leftovers
bare_leftovers None log n c maxage clock anew members = bare_numbers n (leftovers c (places_of members))
bare_leftovers (Some format) log n c maxage clock anew members = refl

bare_retired : (d : Option Format) (log : Path) (n : Naming) (c : Count) (maxage : Option ℕ) (clock : Clock) (anew : Make) (members : List Member)
    → map bare_removal (ready_by d log n c maxage clock anew members).retire ≡ (ready_by d log n c maxage clock anew members).retire
bare_retired None log n c maxage clock anew members = bare_numbers n (retired c (going c maxage clock.now.seconds members))
bare_retired (Some format) log n c maxage clock anew members = bare_days _

ready_bare : (mailer : Path) (rule : Rule) (log : Path) (ready : Ready) → map bare_removal ready.leftovers ≡ ready.leftovers → map bare_removal ready.retire ≡ ready.retire → bare (dressed rule mailer log ready) ≡ ready
ready_bare mailer rule log ready first last =
    ap (λ (rs : List Removal). with_removals rs (map bare_removal (map (with_programs rule mailer log) ready.retire)) ready) (bare_are mailer rule log ready.leftovers ∙ first)
    ∙ ap (λ (rs : List Removal). with_removals ready.leftovers rs ready) (bare_are mailer rule log ready.retire ∙ last)

-- without the directory that it makes it is the same
less_dir : (dir : Option (Path × Option ℕ)) (d : Option Format) (log : Path) (n : Naming) (c : Count) (maxage : Option ℕ) (clock : Clock) (anew : Make) (members : List Member)
    → with_dir None (with_dir dir (ready_by d log n c maxage clock anew members)) ≡ ready_by d log n c maxage clock (ready_by d log n c maxage clock anew members).make members
less_dir dir None log n c maxage clock anew members = refl
less_dir dir (Some format) log n c maxage clock anew members = refl

module _ (clock : Clock) (rule : Rule) (look : LogLook) where
  abbrev n : Naming
  n = look.family.naming

  abbrev anew : Make
  anew = make_for rule look

  abbrev first : Path
  first = first_path rule.way look.path look.tmp

  abbrev members : List Member
  members = (stand_for rule look).members

  pub ready_by_clock : IsReadyBy clock (target_of clock rule look)
  ready_by_clock = less_dir (dir_of rule look) n.dated first n rule.count rule.maxage clock anew members
      ∙ ap (λ (x : Path). ready_of x n rule.count rule.maxage clock (ready_for clock rule look).make members) (sym (begins_at clock rule look))

  pub bare_log : (mailer : Path) → bare (log_plan clock mailer rule look).ready ≡ ready_for clock rule look
  bare_log mailer = ready_bare mailer rule look.path (ready_for clock rule look)
      (bare_leftovers n.dated first n rule.count rule.maxage clock anew members) (bare_retired n.dated first n rule.count rule.maxage clock anew members)

  ready_log : (mailer : Path) → look.family.naming.aside ≡ is_aside rule.way → IsReadyFor (target_of clock rule look) (log_plan clock mailer rule look)
  ready_log mailer asked = record {
    way = has_way rule.way (target_of clock rule look) (goes_by_rule clock rule look asked);
    log_is = refl;
    job = target_job clock rule look;
    ready_is = bare_log mailer;
    job_is = refl;
    aside_is = refl;
  }

pub ready_both : (ts us : List Target) (xs ys : List LogPlan) → AreReadyFor ts xs → AreReadyFor us ys → AreReadyFor (ts ++ us) (xs ++ ys)
ready_both [] us [] ys a b = b
ready_both [] us (x ∷ xs) ys a b = absurd a
ready_both (t ∷ ts) us [] ys a b = absurd a
ready_both (t ∷ ts) us (x ∷ xs) ys a b = (a.0, ready_both ts us xs ys a.1 b)

ready_free : (clock : Clock) (fs : List Fault) (mailer : Path) (rule : Rule) (look : LogLook) → look.family.naming.aside ≡ is_aside rule.way → AreReadyFor (where_free fs (target_of clock rule look)) (none_hinders fs (log_plan clock mailer rule look ∷ []))
ready_free clock [] mailer rule look asked = (ready_log clock rule look mailer asked, tt)
ready_free clock (f ∷ fs) mailer rule look asked = tt

ready_where : (d : Due) (ts : List Target) (xs : List LogPlan) → AreReadyFor ts xs → AreReadyFor (where_due d ts) (where_due d xs)
ready_where (due.Yes why) ts xs h = h
ready_where (due.No why) ts xs h = tt

ready_logs : (clock : Clock) (mailer : Path) (rule : Rule) (decide : LogLook → Due) (looks : List LogLook) → ((look : LogLook) → IsIn look looks → look.family.naming.aside ≡ is_aside rule.way) → AreReadyFor (targets_of clock rule decide looks) (log_plans clock mailer rule decide looks)
ready_logs clock mailer rule decide [] asked = tt
ready_logs clock mailer rule decide (look ∷ looks) asked =
    ready_both (where_due (decide look) (where_free (hindrances clock rule look) (target_of clock rule look))) (targets_of clock rule decide looks) (where_due (decide look) (plans_of clock mailer rule look)) (log_plans clock mailer rule decide looks)
    (ready_where (decide look) (where_free (hindrances clock rule look) (target_of clock rule look)) (plans_of clock mailer rule look) (ready_free clock (hindrances clock rule look) mailer rule look (asked look (inl refl))))
    (ready_logs clock mailer rule decide looks (λ l i. asked l (inr i)))

have_logs : (clock : Clock) (mailer : Path) (rules : List Rule) (sets : List SetLooks) (decide : Rule → LogLook → Due) → AskSo rules sets → HaveLogs (groups_of clock decide rules sets) (all_plans clock mailer decide rules sets)
have_logs clock mailer [] [] decide asked = tt
have_logs clock mailer [] (set ∷ sets) decide asked = tt
have_logs clock mailer (rule ∷ rules) [] decide asked = tt
have_logs clock mailer (rule ∷ rules) (set ∷ sets) decide asked =
    (ready_logs clock mailer rule (decide rule) set.logs (λ look i. asked 0 rule set look refl refl i), have_logs clock mailer rules sets decide (λ k r s look at_rule at_set i. asked (suc k) r s look at_rule at_set i))

pub plans_have_logs : {reserved : List Path} (rules : List Rule) (sets : List SetLooks) (faults : List Fault) (ts : List Entry) (clock : Clock) (mailer : Path) (decide : Rule → LogLook → Due) → ShowsLooks reserved rules sets faults ts → HaveLogs (groups_of clock decide rules sets) (all_plans clock mailer decide rules sets)
plans_have_logs rules sets faults ts clock mailer decide shown = have_logs clock mailer rules sets decide (asks_so rules sets faults ts shown)
