-- Two logs, what stands of them, and the looks of a run at them: `/v/a.log`, of which two members are kept and stand, and
-- `/w/b.log`, of which one is kept and none stands.
use Rattle.std.specs.Prelude.{◌≡◌, ℕ, List, [], ◌∷◌, Some, None, pos, false, true, refl, codes}
use Rattle.std.specs.List.{list_all}
use Rattle.lr_rules.specs.declared.path.Path.{Path}
use Rattle.lr_rules.specs.declared.rule.Rule.{Rule}
use Rattle.lr_rules.specs.declared.rule.Naming.{Naming}
use Rattle.lr_rules.specs.declared.rule.Count.{Count}
use Rattle.lr_rules.specs.declared.rule.Count.TheVariants.{Keep}
use Rattle.lr_rules.specs.declared.rule.Criterion.TheVariants.{Daily}
use Rattle.lr_rules.specs.declared.rule.Way.TheVariants.{Rename}
use Rattle.lr_rules.specs.declared.rule.Make.TheVariants.{No}
use Rattle.lr_rules.specs.declared.rules.Rules.{Rules}
use Rattle.lr_rules.specs.Limits.{meets_limits}
use Rattle.lr_host.specs.declared.thing.Kind.TheVariants as kind
use Rattle.lr_host.specs.declared.thing.Seen.{Seen}
use Rattle.lr_host.specs.declared.entry.Entry.{Entry}
use Rattle.lr_host.specs.declared.entry.Entry.TheVariants as entry
use Rattle.lr_family.specs.declared.place.Place.TheVariants as at
use Rattle.lr_family.specs.declared.stand.Member.{Member}
use Rattle.lr_family.specs.declared.stand.Stand.{Stand}
use Rattle.lr_chain.specs.declared.ready.Ready.{Ready}
use Rattle.lr_laws_rotations.specs.Target.{Target}

-- ---- paths

-- the state, and its part file
abbrev pub state : Path
state = codes "/s/status"

abbrev pub part : Path
part = codes "/s/status.tmp"

abbrev pub a_log : Path
a_log = codes "/v/a.log"

abbrev pub a_first : Path
a_first = codes "/v/a.log.1"

abbrev pub a_second : Path
a_second = codes "/v/a.log.2"

abbrev pub a_third : Path
a_third = codes "/v/a.log.3"

abbrev pub b_log : Path
b_log = codes "/w/b.log"

abbrev pub b_first : Path
b_first = codes "/w/b.log.1"

-- ---- rules

-- the definition on this line, of one word: it keeps so many members beside the log
abbrev pub rule_of : ℕ → List ℕ → Count → Rule
rule_of line word count = record {
  file = codes "/c";
  line = line;
  words = word ∷ [];
  criterion = Daily;
  count = count;
  maxage = None;
  minage = None;
  minsize = None;
  maxsize = None;
  ifempty = true;
  missingok = false;
  ignore_duplicates = false;
  start = 1;
  extension = None;
  addextension = None;
  olddir = None;
  createolddir = No;
  way = Rename;
  create = No;
  mail = None;
  mailfirst = false;
  shared = false;
  scripts = record { first = None; pre = None; post = None; last = None; preremove = None };
  dated = None;
}

abbrev pub a_count : Count
a_count = Keep 2

abbrev pub b_count : Count
b_count = Keep 1

abbrev pub sets : List Rule
sets = rule_of 1 a_log a_count ∷ rule_of 2 b_log b_count ∷ []

-- they meet the limits of their values
pub within_limits : list_all meets_limits sets ≡ true
within_limits = refl

abbrev pub rules : Rules
rules = record { sets = sets; limits = within_limits }

-- the members stand beside their log, from number 1 on
abbrev pub a_naming : Naming
a_naming = record { dir = codes "/v"; base = codes "a.log"; ext = []; start = 1; dated = None; aside = false }

abbrev pub b_naming : Naming
b_naming = record { dir = codes "/w"; base = codes "b.log"; ext = []; start = 1; dated = None; aside = false }

-- ---- what stands

-- a file of one byte, and a directory
abbrev pub file : Seen
file = record { kind = kind.File; size = 1; mtime = pos 0; mode = None; exposed = false }

abbrev pub directory : Seen
directory = record { kind = kind.Dir; size = 0; mtime = pos 0; mode = None; exposed = false }

abbrev pub a_members : List Member
a_members = record { path = a_first; place = at.Number 0; seen = file } ∷
    record { path = a_second; place = at.Number 1; seen = file } ∷ []

abbrev pub a_stand : Stand
a_stand = record { there = true; parent = true; members = a_members; parts = [] }

abbrev pub b_stand : Stand
b_stand = record { there = true; parent = true; members = []; parts = [] }

-- ---- what is to be done

-- the place from which a member comes that goes
abbrev pub a_from : List ℕ
a_from = 1 ∷ []

abbrev pub a_ready : Ready
a_ready = record {
  leftovers = [];
  dir = None;
  moves = record { from = a_second; to = a_third } ∷ record { from = a_first; to = a_second } ∷ [];
  log = a_log;
  target = a_first;
  make = No;
  retire = record { path = a_third; preremove = None; mail = None } ∷ [];
}

abbrev pub b_ready : Ready
b_ready = record { leftovers = []; dir = None; moves = []; log = b_log; target = b_first; make = No; retire = [] }

abbrev pub a_target : Target
a_target = record {
  log = a_log;
  naming = a_naming;
  count = a_count;
  maxage = None;
  stand = a_stand;
  ready = a_ready;
  job = None;
  aside = None;
}

abbrev pub b_target : Target
b_target = record {
  log = b_log;
  naming = b_naming;
  count = b_count;
  maxage = None;
  stand = b_stand;
  ready = b_ready;
  job = None;
  aside = None;
}

-- ---- the looks

-- the names in `/v` and in `/w`, in the order in which the directories give them
abbrev pub a_listed : List (List ℕ)
a_listed = codes "a.log.2" ∷ codes "a.log" ∷ codes "a.log.1" ∷ []

abbrev pub b_listed : List (List ℕ)
b_listed = codes "b.log" ∷ []

-- at both words first, and then at both families
abbrev pub looks : List Entry
looks =
    entry.Look a_log (Some file) ∷ entry.Look b_log (Some file) ∷ entry.Look (codes "/v") (Some directory) ∷ entry.List (codes "/v")
    a_listed ∷ entry.Look a_first (Some file) ∷ entry.Look a_second (Some file)
    ∷ entry.Look (codes "/w") (Some directory) ∷ entry.List (codes "/w") b_listed ∷ []
