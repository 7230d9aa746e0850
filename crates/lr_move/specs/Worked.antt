-- A log that waits where it was set aside, and is let go too early: a disk with that alone, which goes to a path that is free.
use Rattle.std.specs.Prelude.{[], ◌∷◌, ◌++◌, codes, None}
use Rattle.lr_rules.specs.declared.path.Path.{Path}
use Rattle.lr_rules.specs.Match.{part_end}
use Rattle.lr_rules.specs.Names.{aside_path}
use Rattle.lr_host.specs.declared.entry.Entry.TheVariants.{Reads, Renames, Makes, Appends, Unlinks, SyncsFile, SyncsDir}
use Rattle.lr_host.specs.declared.journal.Opening.{Opening}
use Rattle.lr_host.specs.World.{Past, Opens, ◌▸◌}
use Rattle.lr_laws.specs.Chain.{log, first, worked_file}

abbrev pub tmp : Path
tmp = aside_path log

abbrev pub part : Path
part = first ++ part_end

-- the log waits, and holds C; its identity is 0
abbrev pub waiting : Opening
waiting = record {
  files = worked_file (codes "C") ∷ [];
  dirs = codes "/" ∷ codes "/v" ∷ [];
  others = [];
  names = (tmp, 0) ∷ [];
  holds = [];
}

abbrev pub start : Past
start = Opens waiting

-- the part file has the bytes of the log, which was read to its end
abbrev pub filled : Past
filled = start ▸ Makes part None ▸ Reads tmp 0 (codes "C") ▸ Appends part (codes "C") ▸ Reads tmp 1 []

-- it has the final path, durably, but its bytes aren't synced
abbrev pub bytes_pending : Past
bytes_pending = filled ▸ Renames part first ▸ SyncsDir (codes "/v")

-- the log is let go, and then they are
abbrev pub before_file_sync : Past
before_file_sync = bytes_pending ▸ Unlinks tmp ▸ SyncsFile first

-- it is synced and has the final path, but not durably
abbrev pub name_pending : Past
name_pending = filled ▸ SyncsFile part ▸ Renames part first

-- the log is let go, and then the directory is synced
abbrev pub before_dir_sync : Past
before_dir_sync = name_pending ▸ Unlinks tmp ▸ SyncsDir (codes "/v")
