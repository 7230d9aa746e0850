-- The logs that a run may rotate, and what it saw of each.
use Rattle.std.specs.Prelude.{◌≡◌, ◌≢◌, ◌⊎◌, ℕ, true, false, List, [], ◌∷◌, ◌++◌, map, reverse, Option, Some, None, Contains}
use Rattle.lr_rules.specs.declared.clock.Clock.{Clock}
use Rattle.lr_rules.specs.declared.path.Path.{Path}
use Rattle.lr_rules.specs.declared.rule.Count.{Count}
use Rattle.lr_rules.specs.declared.rule.Naming.{Naming}
use Rattle.lr_rules.specs.declared.rule.Rule.{Rule}
use Rattle.lr_rules.specs.declared.rule.Way.{Way}
use Rattle.lr_rules.specs.declared.rule.Way.TheVariants as way
use Rattle.lr_rules.specs.Match.{WordGives, is_wildcard}
use Rattle.lr_rules.specs.Names.{naming_of, aside_path, IsOwnName}
use Rattle.lr_rules.specs.Path.{path_fault, parent_of}
use Rattle.lr_host.specs.declared.entry.Entry.{Entry}
use Rattle.lr_host.specs.declared.entry.Entry.TheVariants as entry
use Rattle.lr_host.specs.declared.entry.Entry.TheVariants.{Renames, Unlinks}
use Rattle.lr_host.specs.Fits.{IsFileAt}
use Rattle.lr_host.specs.Lists.{IsIn}
use Rattle.lr_host.specs.Looks.{Sees, IsFile}
use Rattle.lr_host.specs.Opening.{IsJournal}
use Rattle.lr_host.specs.Runs.{SomeRule}
use Rattle.lr_host.specs.Told.{Made}
use Rattle.lr_host.specs.World.{Past, world, names}
use Rattle.lr_family.specs.declared.stand.Member.{Member}
use Rattle.lr_family.specs.declared.stand.Stand.{Stand}
use Rattle.lr_family.specs.Parts.{part_of, IsMember}
use Rattle.lr_copy.specs.declared.job.Job.{Job}
use Rattle.lr_copy.specs.Copying.{clearing}
use Rattle.lr_chain.specs.declared.ready.Ready.{Ready}
use Rattle.lr_chain.specs.Prepared.{ready_of}
use Rattle.lr_chain.specs.Ready.{with_dir, move_step}
use Rattle.lr_laws_family.specs.Shown.{SawDir}
use Rattle.lr_laws_rotations.specs.Steps.{unlinks}
use Rattle.lr_laws_family.specs.Weave.{Among}

-- What looks and listings tell of a log where they are true: this word of one of the rules gives it. Where the word is a wildcard
-- that gives another log too, which named a file before and of which it is a member, by numbers or dates, it is none by the naming
-- of a rule that gives that log.
pub record GivesLog (rules : List Rule) (rule : Rule) (word : List ℕ) (log : Path) (ts : List Entry) : Type 0 where
  pub gives : (p q : Past) (es : List Entry) → Made p es q → ts ≡ reverse es → WordGives word log
  pub alone : (p q : Past) (es : List Entry) → Made p es q → IsJournal p → ts ≡ reverse es → is_wildcard word ≡ true
      → (x : Path) → x ≢ log → path_fault x ≡ None → WordGives word x → IsFileAt (names (world p)) x
      → IsMember (naming_of rule x) log
      → SomeRule rules x (λ r. IsMember (naming_of r x) log → ⊥)

-- A log that a run may rotate: its naming, count and age in days, what stood of its family, its rotation, which is ready, the copy
-- that stands in the place of the log's rename, if any, and the path to which the log is set aside, if it is.
pub record Target : Type 0 where
  pub log : Path
  pub naming : Naming
  pub count : Count
  pub maxage : Option ℕ
  pub stand : Stand
  pub ready : Ready
  pub job : Option Job
  pub aside : Option Path

-- ---- the way of its file

-- from where the log comes to its final path: from where it stood at first, or from where it was set aside
abbrev pub source_by : Option Path → Path → Path
source_by None first = first
source_by (Some path) first = path

abbrev pub source_of : Target → Path
source_of t = source_by t.aside t.ready.log

-- it stays where it is up to its rename or its copy
pub record StaysBefore (t : Target) : Type 0 where
  pub aside_is : t.aside ≡ None
  pub first_is : t.ready.log ≡ t.log

-- it is set aside, to the path beside it, and copied from there, where it isn't emptied
pub record IsTargetAside (t : Target) : Type 0 where
  pub aside_is : t.aside ≡ Some (aside_path t.log)
  pub first_is : t.ready.log ≡ t.log
  pub job : Job
  pub job_is : t.job ≡ Some job
  pub uncut : job.cut ≡ false

-- it was set aside by a run that broke off, and is renamed from there
pub record IsTakenUp (t : Target) : Type 0 where
  pub aside_is : t.aside ≡ None
  pub first_is : t.ready.log ≡ aside_path t.log
  pub no_job : t.job ≡ None

-- one of the two, of a log that may be set aside
abbrev pub GoesAside : Target → Type 0
GoesAside t = (t.naming.aside ≡ true) × (IsTargetAside t ⊎ IsTakenUp t)

-- one of the three
abbrev pub HasWay : Target → Type 0
HasWay t = StaysBefore t ⊎ GoesAside t

-- it is the one that the rule's way asks for
abbrev pub GoesBy : Way → Target → Type 0
GoesBy way.Rename t = StaysBefore t × (t.job ≡ None)
GoesBy way.RenameCopy t = GoesAside t
GoesBy _ t = StaysBefore t × ((job : Job) × (t.job ≡ Some job))

-- ---- its steps

-- What brings the log to its final path: its rename; or, of a copy, the unlink of an old part file and the rename of the new one;
-- or, where the log is set aside, its rename to there, such a copy, and the unlink of what was copied.
abbrev pub transfer_of : Ready → Option Job → Option Path → List Entry
transfer_of ready None aside = Renames ready.log ready.target ∷ []
transfer_of ready (Some job) None = clearing job ++ Renames job.part job.to ∷ []
transfer_of ready (Some job) (Some path) = Renames ready.log path ∷ (clearing job ++ Renames job.part job.to ∷ Unlinks path ∷ [])

-- The renames and unlinks of its rotation, in order.
abbrev pub target_entries : Target → List Entry
target_entries t = unlinks t.ready.leftovers ++ (map move_step t.ready.moves ++ (transfer_of t.ready t.job t.aside
    ++ unlinks t.ready.retire))

-- the rotation that is ready is that of the members that stood, by this clock, whether a directory is made or not
abbrev pub IsReadyBy : Clock → Target → Type 0
IsReadyBy clock t = with_dir None t.ready ≡ ready_of t.ready.log t.naming t.count t.maxage clock t.ready.make t.stand.members

-- ---- what is known of it

-- One of the rules has a word that gives this log, as some of these looks tell. The rule gives the log this naming, this count and
-- this age in days, and has it go this way.
pub record IsGiven (rules : List Rule) (looks : List Entry) (t : Target) : Type 0 where
  pub rule : Rule
  pub word : List ℕ
  pub among : Contains rules rule
  pub has : Contains rule.words word
  pub given : Among (GivesLog rules rule word t.log) looks
  pub naming_is : naming_of rule t.log ≡ t.naming
  pub count_is : rule.count ≡ t.count
  pub maxage_is : rule.maxage ≡ t.maxage
  pub way_is : GoesBy rule.way t

-- These looks saw a file where the log's file stands at first; and nothing where the log is set aside to.
pub record IsWaySeen (t : Target) (looks : List Entry) : Type 0 where
  pub first : Among (Sees t.ready.log IsFile) looks
  pub free : (path : Path) → t.aside ≡ Some path → IsIn (entry.Look path None) looks

-- the directory that is made, if any, is that of the family, and no other name of the set
abbrev pub HasDir : Target → Type 0
HasDir t = (dir : Path) (mode : Option ℕ) → t.ready.dir ≡ Some (dir, mode)
    → (dir ≡ t.naming.dir) × (IsOwnName t.log t.naming dir → ⊥)

-- The directory is that of the family, and no other name of the set. These looks saw nothing at its path, and saw its parent, a
-- directory; so no member stood, and no part file.
pub record IsMissingDir (log : Path) (n : Naming) (members : List Member) (job : Option Job) (looks : List Entry)
    (dir : Path) : Type 0 where
  pub dir_is : dir ≡ n.dir
  pub apart : IsOwnName log n dir → ⊥
  pub gone : IsIn (entry.Look dir None) looks
  pub parent : SawDir (parent_of dir) looks
  pub no_members : members ≡ []
  pub not_stale : (j : Job) → job ≡ Some j → j.stale ≡ false

-- where no directory is made, these looks saw the family's; where one is, it was missing
abbrev pub IsDirSeenBy : Option (Path × Option ℕ) → Path → Naming → List Member → Option Job → List Entry → Type 0
IsDirSeenBy None log n members job looks = SawDir n.dir looks
IsDirSeenBy (Some (dir, mode)) log n members job looks = IsMissingDir log n members job looks dir

abbrev pub IsDirSeen : Target → List Entry → Type 0
IsDirSeen t looks = IsDirSeenBy t.ready.dir t.log t.naming t.stand.members t.job looks

-- The job copies the log's file, by a part file in the family's directory, to the final path.
pub record IsJob (t : Target) (job : Job) : Type 0 where
  pub from_is : job.from ≡ source_of t
  pub to_is : job.to ≡ t.ready.target
  pub part_is : job.part ≡ part_of job.to
  pub dir_is : job.dir ≡ t.naming.dir

-- where there is a job, it is such a one
abbrev pub TargetHasJob : Target → Type 0
TargetHasJob t = (job : Job) → t.job ≡ Some job → IsJob t job

-- and where an old part file goes, these looks saw one
abbrev pub IsTargetJob : Target → List Entry → Type 0
IsTargetJob t looks = (job : Job) → t.job ≡ Some job → IsJob t job × (job.stale ≡ true → Among (Sees job.part IsFile) looks)
