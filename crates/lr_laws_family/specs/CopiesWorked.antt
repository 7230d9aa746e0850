-- A log that is copied, in several ways: a disk with a log and two members, whose log is copied to a path that is free.
use Rattle.std.specs.Prelude.{[], ◌++◌, codes, pos, true, false, None}
use Rattle.lr_rules.specs.declared.path.Path.{Path}
use Rattle.lr_host.specs.declared.entry.Entry.TheVariants.{Attach, Feed, Reads, Renames, Makes, Appends, SyncsFile, SyncsDir}
use Rattle.lr_host.specs.World.{Past, Opens, ◌▸◌}
use Rattle.lr_laws.specs.Chain.{log, third, found}
use Rattle.lr_copy.specs.declared.job.Job.{Job}

abbrev pub part : Path
part = third ++ codes ".logrotate-part"

abbrev pub job : Job
job = record { from = log; part = part; to = third; dir = codes "/v"; stale = false; mode = None; cut = true; limit = 1 }

-- the part file has the bytes of the log, which was read to its end
abbrev pub filled : Past
filled = Opens found ▸ Makes part None ▸ Reads log 0 (codes "C") ▸ Appends part (codes "C") ▸ Reads log 1 []

-- in order: it is synced, then gets the final path, then the directory is synced
abbrev pub in_order : Past
in_order = filled ▸ SyncsFile part ▸ Renames part third ▸ SyncsDir (codes "/v")

-- the directory isn't synced
abbrev pub name_pending : Past
name_pending = filled ▸ SyncsFile part ▸ Renames part third

-- the part file isn't synced
abbrev pub bytes_pending : Past
bytes_pending = filled ▸ Renames part third ▸ SyncsDir (codes "/v")

-- the log is fed behind its copy, and read on
abbrev pub fed_since : Past
fed_since = in_order ▸ Attach 0 log (pos 0) ▸ Feed 0 (codes "D") (pos 0)

abbrev pub read_on : Past
read_on = fed_since ▸ Reads log 1 (codes "D")
