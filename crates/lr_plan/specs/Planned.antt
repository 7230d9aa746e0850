-- The plan that the rules, what was seen of their logs, the table of the state, the clock of the run, `--force` and the
-- program that mails files make together.
use Rattle.std.specs.Prelude.{◌≡◌, ◌≤◌, ◌&&◌, ◌||◌, ℕ, Bool, true, false, not, List, [], ◌∷◌, ◌++◌, length, map, All, Option}
use Rattle.std.specs.Prelude.{Some, None}
use Rattle.std.specs.Prelude.{if◌then◌else◌}
use Rattle.std.specs.List.{flat_map, list_any}
use Rattle.std.specs.Str.{bytes_eq}
use Rattle.lr_rules.specs.declared.path.Path.{Path}
use Rattle.lr_rules.specs.declared.civil.Moment.{Moment}
use Rattle.lr_rules.specs.declared.clock.Clock.{Clock}
use Rattle.lr_rules.specs.declared.fault.Fault.{Fault}
use Rattle.lr_rules.specs.declared.fault.Fault.TheVariants as fault
use Rattle.lr_rules.specs.declared.rule.Make.{Make}
use Rattle.lr_rules.specs.declared.rule.Make.TheVariants as make
use Rattle.lr_rules.specs.declared.rule.Naming.{Naming}
use Rattle.lr_rules.specs.declared.rule.Rule.{Rule}
use Rattle.lr_rules.specs.declared.rule.Way.{Way}
use Rattle.lr_rules.specs.declared.rule.Way.TheVariants as way
use Rattle.lr_rules.specs.Limits.{is_format, or_none, IsCount}
use Rattle.lr_rules.specs.Names.{aside_path}
use Rattle.lr_host.specs.declared.thing.Seen.{Seen}
use Rattle.lr_host.specs.Listing.{is_file_kind}
use Rattle.lr_scripts.specs.declared.removal.Removal.{Removal}
use Rattle.lr_due.specs.declared.answer.Due.{Due}
use Rattle.lr_due.specs.declared.answer.Due.TheVariants as due
use Rattle.lr_due.specs.Due.{due_of}
use Rattle.lr_state.specs.Table.{StateEntry, moment_of}
use Rattle.lr_family.specs.declared.stand.Member.{Member}
use Rattle.lr_family.specs.declared.stand.Stand.{Stand}
use Rattle.lr_family.specs.Parts.{part_of}
use Rattle.lr_family.specs.Places.{AreNamed}
use Rattle.lr_family.specs.Stands.{AreNewestFirst}
use Rattle.lr_scripts.specs.Commands.{spaced, script_command, where_so, mail, with_programs}
use Rattle.lr_chain.specs.declared.ready.Ready.{Ready}
use Rattle.lr_chain.specs.Hindrances.{what_hinders}
use Rattle.lr_chain.specs.Prepared.{ready_of}
use Rattle.lr_chain.specs.Ready.{with_dir}
use Rattle.lr_copy.specs.declared.job.Job.{Job}
use Rattle.lr_plan.specs.Asked.{Asked}
use Rattle.lr_plan.specs.declared.looks.LogLook.{LogLook}
use Rattle.lr_plan.specs.declared.looks.SetLooks.{SetLooks}
use Rattle.lr_plan.specs.declared.plan.LogPlan.{LogPlan}
use Rattle.lr_plan.specs.declared.plan.SetPlan.{SetPlan}
use Rattle.lr_plan.specs.declared.plan.Plan.{Plan}

-- ---- one log

-- whether the log is due, by the moment that the table has for it
abbrev pub decision : List StateEntry → Moment → Bool → Rule → LogLook → Due
decision table now force rule look = due_of rule look.seen.size look.seen.mtime (moment_of table look.path) now force

-- ---- the family's directory

-- a directory is made where the rule says so
abbrev pub is_made : Make → Bool
is_made make.No = false
is_made (make.Yes mode) = true

-- with this mode, where the rule gives one
abbrev pub rule_mode : Make → Option ℕ
rule_mode make.No = None
rule_mode (make.Yes mode) = mode

-- the family's directory has the log's path, or that where the log waits that is set aside
abbrev pub dir_is_log : Naming → Path → Bool
dir_is_log n log = bytes_eq n.dir log || (n.aside && bytes_eq n.dir (aside_path log))

-- The rotation makes the family's directory: the rule says so, and where the directory would stand there was nothing, in a
-- directory that was there. No path of the log's own file is made a directory.
abbrev pub makes_dir : Rule → LogLook → Bool
makes_dir rule look = is_made rule.createolddir && (not look.stand.there &&
    (look.stand.parent && not (dir_is_log look.family.naming look.path)))

-- the directory that the rotation makes, if any, and the mode that the rule gives it
abbrev pub dir_of : Rule → LogLook → Option (Path × Option ℕ)
dir_of rule look = if makes_dir rule look then Some (look.family.naming.dir, rule_mode rule.createolddir) else None

-- what stands of a family whose directory was just made: no member, and no part file
abbrev pub empty_stand : Stand
empty_stand = record { there = true; parent = true; members = []; parts = [] }

-- what stands of the log's family once its directory is made, where the rotation makes it; else what was seen
abbrev pub stand_for : Rule → LogLook → Stand
stand_for rule look = if makes_dir rule look then empty_stand else look.stand

-- the look, as if this had been seen of the family
abbrev pub with_stand : Stand → LogLook → LogLook
with_stand stand look = record { path = look.path; seen = look.seen; family = look.family; stand = stand; tmp = look.tmp }

-- the look that the rotation goes by: a directory that it makes is there, and empty
abbrev pub standing : Rule → LogLook → LogLook
standing rule look = with_stand (stand_for rule look) look

-- ---- a log that is set aside, or was

-- a file was seen
abbrev pub is_seen_file : Option Seen → Bool
is_seen_file None = false
is_seen_file (Some seen) = is_file_kind seen.kind

-- another thing was seen at this path
abbrev pub other_thing : Path → Option Seen → List Fault
other_thing path None = []
other_thing path (Some seen) = if is_file_kind seen.kind then [] else fault.NotFile path ∷ []

-- these; where there are none, those
abbrev pub or_else : List Fault → List Fault → List Fault
or_else [] gs = gs
or_else (f ∷ fs) gs = f ∷ fs

-- Where the rule's way sets logs aside, and a file was seen where such a log waits, a run broke off before that was copied. It is
-- taken up: the rotation turns it, and leaves the log.
abbrev pub takes_up : Way → Option Seen → Bool
takes_up way.RenameCopy tmp = is_seen_file tmp
takes_up _ tmp = false

-- where the file stands that is turned
abbrev pub first_path : Way → Path → Option Seen → Path
first_path way log tmp = if takes_up way tmp then aside_path log else log

-- the path to which the log is set aside, where it is
abbrev pub aside_by : Way → Path → Option Seen → Option Path
aside_by way.RenameCopy log tmp = if is_seen_file tmp then None else Some (aside_path log)
aside_by _ log tmp = None

-- ---- what hinders, and what is made ready

-- another thing than a file stands where the log is set aside to
abbrev pub aside_hinders : Way → Path → Option Seen → List Fault
aside_hinders way.RenameCopy log tmp = other_thing (aside_path log) tmp
aside_hinders _ log tmp = []

-- what hinders its rotation, of which a directory that it makes is there
abbrev pub hindrances : Clock → Rule → LogLook → List Fault
hindrances clock rule look = or_else (what_hinders look.family.naming rule.count clock (stand_for rule look))
    (aside_hinders rule.way look.path look.tmp)

-- where the log is made anew, with which mode: the one that the rule gives, else the one that was seen
abbrev pub make_of : Make → Seen → Make
make_of make.No seen = make.No
make_of (make.Yes None) seen = make.Yes seen.mode
make_of (make.Yes (Some mode)) seen = make.Yes (Some mode)

-- a log that stays is not made anew
abbrev pub make_for : Rule → LogLook → Make
make_for rule look = if takes_up rule.way look.tmp then make.No else make_of rule.create look.seen

-- Its rotation, with all its paths, and with the directory that it makes; each removal is without the programs before it.
abbrev pub ready_for : Clock → Rule → LogLook → Ready
ready_for clock rule look =
    with_dir (dir_of rule look) (ready_of (first_path rule.way look.path look.tmp) look.family.naming rule.count rule.maxage clock
    (make_for rule look) (stand_for rule look).members)

-- the rotation of the file from this path
abbrev pub with_log : Path → Ready → Ready
with_log log ready = record {
  leftovers = ready.leftovers;
  dir = ready.dir;
  moves = ready.moves;
  log = log;
  target = ready.target;
  make = ready.make;
  retire = ready.retire;
}

-- the rotation with these removals, the first ones and those at the end
abbrev pub with_removals : List Removal → List Removal → Ready → Ready
with_removals leftovers retire ready = record {
  leftovers = leftovers;
  dir = ready.dir;
  moves = ready.moves;
  log = ready.log;
  target = ready.target;
  make = ready.make;
  retire = retire;
}

-- the rotation with the programs of its definition before each removal, of which a mail has the log's path as its subject
abbrev pub dressed : Rule → Path → Path → Ready → Ready
dressed rule mailer log ready = with_removals (map (with_programs rule mailer log) ready.leftovers)
    (map (with_programs rule mailer log) ready.retire) ready

-- the part file is among these
abbrev pub has_part : List Path → Path → Bool
has_part parts part = list_any (bytes_eq part) parts

-- The copy of the log to this final path, by the part file beside that: an old one that was seen goes before, and the new one has
-- the log's mode, as that was seen. It takes 2^40 bytes at most.
abbrev pub copy_job : LogLook → Path → Bool → Job
copy_job look target cut = record {
  from = look.path;
  part = part_of target;
  to = target;
  dir = look.family.naming.dir;
  stale = has_part look.stand.parts (part_of target);
  mode = look.seen.mode;
  cut = cut;
  limit = 1099511627776;
}

-- the same copy from another path
abbrev pub from_path : Path → Job → Job
from_path from job = record {
  from = from;
  part = job.part;
  to = job.to;
  dir = job.dir;
  stale = job.stale;
  mode = job.mode;
  cut = job.cut;
  limit = job.limit;
}

-- The copy in place of the log's rename, where the rule's way is one; the log is emptied behind it, or stays as it is, or is copied
-- from where it is set aside.
abbrev pub job_by : Way → LogLook → Path → Option Job
job_by way.Rename look target = None
job_by way.Copy look target = Some (copy_job look target false)
job_by way.CopyTruncate look target = Some (copy_job look target true)
job_by way.RenameCopy look target = if is_seen_file look.tmp then None
    else Some (from_path (aside_path look.path) (copy_job look target false))

-- what is done with it: its own scripts where the definition doesn't share them, this rotation, by rename or by copy, and with
-- `mailfirst` the mail of the file that was the log; and what the rotation goes by, the naming, the rule's count and age, and what
-- stands of the family
abbrev pub plan_with : Path → Rule → LogLook → Ready → LogPlan
plan_with mailer rule look ready = record {
  log = look.path;
  pre = where_so (not rule.shared) (script_command rule.scripts.pre (look.path ∷ []));
  post = where_so (not rule.shared) (script_command rule.scripts.post (look.path ∷ ready.target ∷ []));
  first_mail = where_so rule.mailfirst (mail mailer rule.mail look.path ready.target);
  ready = dressed rule mailer look.path ready;
  job = job_by rule.way look ready.target;
  aside = aside_by rule.way look.path look.tmp;
  naming = look.family.naming;
  count = rule.count;
  maxage = rule.maxage;
  stand = look.stand;
}

abbrev pub log_plan : Clock → Path → Rule → LogLook → LogPlan
log_plan clock mailer rule look = plan_with mailer rule (standing rule look) (ready_for clock rule look)

abbrev pub none_hinders : List Fault → List LogPlan → List LogPlan
none_hinders [] plans = plans
none_hinders (f ∷ fs) plans = []

-- of a log that is due: its plan, or what hinders it
abbrev pub plans_of : Clock → Path → Rule → LogLook → List LogPlan
plans_of clock mailer rule look = none_hinders (hindrances clock rule look) (log_plan clock mailer rule look ∷ [])

abbrev pub where_due : {A : Type 0} → Due → List A → List A
where_due (due.Yes why) xs = xs
where_due (due.No why) xs = []

-- ---- one definition

abbrev pub decisions_of : (LogLook → Due) → List LogLook → List (Path × Due)
decisions_of decide looks = map (λ look. (look.path, decide look)) looks

abbrev pub log_plans : Clock → Path → Rule → (LogLook → Due) → List LogLook → List LogPlan
log_plans clock mailer rule decide looks = flat_map (λ look. where_due (decide look) (plans_of clock mailer rule look)) looks

-- a log that is taken up is told
abbrev pub unfinished : Way → Path → Option Seen → List Fault
unfinished way log tmp = if takes_up way tmp then fault.Unfinished log ∷ [] else []

-- of a log that is due: what hinders it, or that it is taken up
abbrev pub due_faults : Clock → Rule → LogLook → List Fault
due_faults clock rule look = or_else (hindrances clock rule look) (unfinished rule.way look.path look.tmp)

abbrev pub log_faults : Clock → Rule → (LogLook → Due) → List LogLook → List Fault
log_faults clock rule decide looks = flat_map (λ look. where_due (decide look) (due_faults clock rule look)) looks

-- its scripts, of which those of the rotations are its own where they are shared, and its logs that are due
abbrev pub set_plan : Rule → List LogPlan → SetPlan
set_plan rule logs = record {
  first = script_command rule.scripts.first (spaced rule.words ∷ []);
  pre = where_so rule.shared (script_command rule.scripts.pre (spaced rule.words ∷ []));
  post = where_so rule.shared (script_command rule.scripts.post (spaced rule.words ∷ []));
  last = script_command rule.scripts.last (spaced rule.words ∷ []);
  shared = rule.shared;
  logs = logs;
}

-- ---- all definitions

abbrev pub all_decisions : (Rule → LogLook → Due) → List Rule → List SetLooks → List (Path × Due)
all_decisions decide (rule ∷ rules) (set ∷ sets) = decisions_of (decide rule) set.logs ++ all_decisions decide rules sets
all_decisions decide _ _ = []

abbrev pub all_plans : Clock → Path → (Rule → LogLook → Due) → List Rule → List SetLooks → List SetPlan
all_plans clock mailer decide (rule ∷ rules) (set ∷ sets) = set_plan rule (log_plans clock mailer rule (decide rule) set.logs) ∷
    all_plans clock mailer decide rules sets
all_plans clock mailer decide _ _ = []

abbrev pub all_faults : Clock → (Rule → LogLook → Due) → List Rule → List SetLooks → List Fault
all_faults clock decide (rule ∷ rules) (set ∷ sets) = log_faults clock rule (decide rule) set.logs
    ++ all_faults clock decide rules sets
all_faults clock decide _ _ = []

-- The plan: each log that was looked at whole, and whether it is due; what is done with those that are; what hinders some.
abbrev pub plan_of : List Rule → List SetLooks → List StateEntry → Clock → Asked → Plan
plan_of rules sets table clock asked = record {
  decisions = all_decisions (decision table clock.now asked.force) rules sets;
  sets = all_plans clock asked.mailer (decision table clock.now asked.force) rules sets;
  faults = all_faults clock (decision table clock.now asked.force) rules sets;
}

-- ---- what is asked of rules and looks

-- a rule runs no program: it has no script, and mails nothing
pub record RunsNothing (rule : Rule) : Type 0 where
  pub first : rule.scripts.first ≡ None
  pub pre : rule.scripts.pre ≡ None
  pub post : rule.scripts.post ≡ None
  pub last : rule.scripts.last ≡ None
  pub preremove : rule.scripts.preremove ≡ None
  pub mail : rule.mail ≡ None

-- Each member has the path of its place, they stand in order, the newest first, and a format of dates meets its limits.
pub record AreMembersOf (n : Naming) (members : List Member) : Type 0 where
  pub format : or_none is_format n.dated ≡ true
  pub named : AreNamed n members
  pub newest : AreNewestFirst members

-- The look is one at the log, whose path is short, and its members are those of the log's naming, numbered or dated.
pub record CanPlan (look : LogLook) : Type 0 where
  pub log : look.family.log ≡ look.path
  pub size : length look.path ≤ 2048
  pub start : look.family.naming.start ≤ 999999
  pub members : AreMembersOf look.family.naming look.stand.members

-- the count is one that a rule can have, and each of its looks can be planned for
pub record CanPlanSet (rule : Rule) (looks : List LogLook) : Type 0 where
  pub count : IsCount rule.count
  pub each : All CanPlan looks

-- the same of all rules, of which each has its looks
abbrev pub CanPlanAll : List Rule → List SetLooks → Type 0
CanPlanAll [] [] = Unit {0}
CanPlanAll (rule ∷ rules) (set ∷ sets) = CanPlanSet rule set.logs × CanPlanAll rules sets
CanPlanAll _ _ = ⊥
