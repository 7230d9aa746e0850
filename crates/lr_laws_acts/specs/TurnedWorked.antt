-- A log that is copied, and then unlinked; and one that is set aside, and copied, and then stays there: on the disk of the worked
-- copy.
use Rattle.std.specs.Prelude.{[], codes, None}
use Rattle.lr_rules.specs.declared.path.Path.{Path}
use Rattle.lr_rules.specs.Names.{aside_path}
use Rattle.lr_host.specs.declared.entry.Entry.TheVariants.{Reads, Renames, Makes, Appends, SyncsFile, SyncsDir, Unlinks}
use Rattle.lr_host.specs.World.{Past, Opens, ◌▸◌}
use Rattle.lr_laws.specs.Chain.{log, third, found}
use Rattle.lr_laws_family.specs.CopiesWorked.{part, in_order}

abbrev pub unlinked : Past
unlinked = in_order ▸ Unlinks log

abbrev pub aside : Path
aside = aside_path log

-- its copy is named, durably, and what was copied stands there still
abbrev pub left_aside : Past
left_aside = Opens found ▸ Renames log aside ▸ Makes part None ▸ Reads aside 0 (codes "C") ▸ Appends part (codes "C")
    ▸ Reads aside 1 []
    ▸ SyncsFile part ▸ Renames part third ▸ SyncsDir (codes "/v")
