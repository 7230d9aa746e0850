-- A log with dates, what stands of it, and the looks of a run at it: `/w/b.log`, of which one member is kept, named by the seconds
-- since 1970, and none stands.
use Rattle.std.specs.Prelude.{List, [], ◌∷◌, Some, None, false, true, codes}
use Rattle.lr_rules.specs.declared.clock.Clock.{Clock}
use Rattle.lr_rules.specs.declared.path.Path.{Path}
use Rattle.lr_rules.specs.declared.rule.Back.TheVariants.{Now}
use Rattle.lr_rules.specs.declared.rule.Count.TheVariants.{Keep}
use Rattle.lr_rules.specs.declared.rule.Criterion.TheVariants.{Daily}
use Rattle.lr_rules.specs.declared.rule.Field.TheVariants as field
use Rattle.lr_rules.specs.declared.rule.Format.{Format}
use Rattle.lr_rules.specs.declared.rule.Make.TheVariants.{No}
use Rattle.lr_rules.specs.declared.rule.Naming.{Naming}
use Rattle.lr_rules.specs.declared.rule.Piece.TheVariants as piece
use Rattle.lr_rules.specs.declared.rule.Rule.{Rule}
use Rattle.lr_rules.specs.declared.rule.Way.TheVariants.{Rename}
use Rattle.lr_host.specs.declared.entry.Entry.{Entry}
use Rattle.lr_host.specs.declared.entry.Entry.TheVariants as entry
use Rattle.lr_family.specs.declared.stand.Stand.{Stand}
use Rattle.lr_chain.specs.DatedReady.{dated_path, dated_ready}
use Rattle.lr_laws_rotations.specs.Logs.{file, directory}
use Rattle.lr_laws_rotations.specs.Target.{Target}

abbrev pub log : Path
log = codes "/w/b.log"

-- a hyphen and the seconds since 1970, and a serial number where the name is taken
abbrev pub format : Format
format = record { pieces = piece.Byte 45 ∷ piece.Field field.Epoch ∷ []; back = Now; serial = true }

abbrev pub rule : Rule
rule = record {
  file = codes "/c";
  line = 1;
  words = log ∷ [];
  criterion = Daily;
  count = Keep 1;
  maxage = None;
  minage = None;
  minsize = None;
  maxsize = None;
  ifempty = true;
  missingok = false;
  ignore_duplicates = false;
  start = 1;
  extension = None;
  addextension = None;
  olddir = None;
  createolddir = No;
  way = Rename;
  create = No;
  mail = None;
  mailfirst = false;
  shared = false;
  scripts = record { first = None; pre = None; post = None; last = None; preremove = None };
  dated = Some format;
}

abbrev pub naming : Naming
naming = record { dir = codes "/w"; base = codes "b.log"; ext = []; start = 1; dated = Some format; aside = false }

abbrev pub stand : Stand
stand = record { there = true; parent = true; members = []; parts = [] }

-- the log and its rotation, by a clock
abbrev pub target : Clock → Target
target clock = record {
  log = log;
  naming = naming;
  count = Keep 1;
  maxage = None;
  stand = stand;
  ready = dated_ready log naming (Keep 1) None clock No [];
  job = None;
  aside = None;
}

-- the looks, and the rename to the clock's stamp
abbrev pub looks : List Entry
looks = entry.Look log (Some file) ∷ entry.Look (codes "/w") (Some directory) ∷ entry.List (codes "/w") [] ∷ []

abbrev pub turn : Clock → Entry
turn clock = entry.Renames log (dated_path naming clock 0)
