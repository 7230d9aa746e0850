-- What a call saw of a log's history, and the files that this has.
use Rattle.std.specs.Prelude.{◌≡◌, ◌⊎◌, Bool, true, false, List, [], ◌∷◌, ◌++◌, map, reverse, Option, Some, None, is_some}
use Rattle.std.specs.Prelude.{Result, Ok, Err, option_to_list}
use Rattle.lr_rules.specs.declared.path.Path.{Path}
use Rattle.lr_rules.specs.declared.rule.Naming.{Naming}
use Rattle.lr_rules.specs.declared.fault.CallKind.TheVariants as call
use Rattle.lr_rules.specs.declared.fault.Fault.{Fault}
use Rattle.lr_rules.specs.declared.fault.Fault.TheVariants as fault
use Rattle.lr_rules.specs.Names.{aside_path}
use Rattle.lr_host.specs.declared.entry.Entry.{Entry}
use Rattle.lr_host.specs.Looks.{Sees, IsFile, IsNoFile, IsNothing}
use Rattle.lr_host.specs.Told.{Then}
use Rattle.lr_family.specs.declared.stand.Member.{Member}
use Rattle.lr_family.specs.declared.stand.Stand.{Stand}
use Rattle.lr_family.specs.declared.stand.StandStop.{StandStop}
use Rattle.lr_family.specs.Standing.{ShowsStand, ShowsStop}
use Rattle.lr_looks.specs.Families.{stop_fault}
use Rattle.lr_cat.specs.Texts.{FileText, TextBreaksOff, ReadsAllOf}

-- ---- a file that may stand at a path

-- A look at the path, where there is one, saw a regular file, and so found it; or it saw nothing. Else nothing is looked at.
abbrev pub Finds : Option Path → Option Path → List Entry → Type 0
Finds None found ts = (found ≡ None) × (ts ≡ [])
Finds (Some path) None ts = Sees path IsNothing ts
Finds (Some path) (Some found) ts = (found ≡ path) × Sees path IsFile ts

-- It isn't known, as this fault tells: the look failed, or something else than a regular file stands there.
pub data FindsNot (path : Option Path) (f : Fault) (ts : List Entry) : Type 0 where
  not_looked : (x : Path) → path ≡ Some x → f ≡ fault.Call call.Look x → ts ≡ [] → FindsNot path f ts
  no_file : (x : Path) → path ≡ Some x → f ≡ fault.NotFile x → Sees x IsNoFile ts → FindsNot path f ts

-- ---- beside the members

-- where the log waits that is set aside, if its way does that
abbrev pub aside_of : Bool → Path → Option Path
aside_of true log = Some (aside_path log)
aside_of false log = None

-- a look there came first, and then one at the log
abbrev pub FindsBoth : Option Path → Path → Option Path → Option Path → List Entry → Type 0
FindsBoth aside log set own = Then (Finds aside set) (Finds (Some log) own)

-- it isn't known of the one, or only of the other
abbrev pub FindsNone : Option Path → Path → Fault → List Entry → Type 0
FindsNone aside log f ts = FindsNot aside f ts ⊎ ((set : Option Path) × Then (Finds aside set) (FindsNot (Some log) f) ts)

-- ---- all of it

-- What stands of the family; the path where the log waits that is set aside, if a file stands there; the log's own, if one does.
pub record FamilySaw : Type 0 where
  pub stand : Stand
  pub aside : Option Path
  pub log : Option Path

abbrev pub ShowsFamilySaw : Naming → Path → FamilySaw → List Entry → Type 0
ShowsFamilySaw n log saw = Then (ShowsStand n saw.stand) (FindsBoth (aside_of n.aside log) log saw.aside saw.log)

-- the log, where it is there, behind it what was set aside, and these members
abbrev pub files_behind : Option Path → Option Path → List Member → List Path
files_behind log aside members = option_to_list log ++ (option_to_list aside ++ map (λ m. m.path) members)

-- The files of the call: the members, the oldest first, then what was set aside and not yet copied, which is newer than they are,
-- and then the log, where it is there.
abbrev pub files_of : FamilySaw → List Path
files_of saw = reverse (files_behind saw.log saw.aside saw.stand.members)

-- It isn't known what stands, as this fault tells: of the family, or beside its members.
pub data SeesNone (n : Naming) (log : Path) (f : Fault) (ts : List Entry) : Type 0 where
  not_stood : (why : StandStop) → stop_fault why ≡ f ∷ [] → ShowsStop n why ts → SeesNone n log f ts
  not_found : (stand : Stand) → Then (ShowsStand n stand) (FindsNone (aside_of n.aside log) log f) ts → SeesNone n log f ts

-- Under the lock a call ended so, and read these texts: by a fault of its own, since what stands wasn't seen, or since the reading
-- of its files broke off; or it came to the end of them, and this tells whether the log waits that is set aside.
pub data Works (n : Naming) (log : Path) (how : Result Bool Fault) (texts : List FileText) (ts : List Entry) : Type 0 where
  not_seen : (f : Fault) → how ≡ Err f → texts ≡ [] → SeesNone n log f ts → Works n log how texts ts
  broke_off : (saw : FamilySaw) (f : Fault) → how ≡ Err f
      → Then (ShowsFamilySaw n log saw) (TextBreaksOff (files_of saw) f texts) ts
      → Works n log how texts ts
  read_all : (saw : FamilySaw) → how ≡ Ok (is_some saw.aside)
      → Then (ShowsFamilySaw n log saw) (ReadsAllOf (files_of saw) texts) ts
      → Works n log how texts ts
