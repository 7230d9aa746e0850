-- A state that is written behind one rename, in several ways. A text is written where no state was, of a disk with a log and
-- two members, of which the older is renamed.
use Rattle.std.specs.Prelude.{ℕ, List, None, codes, pos}
use Rattle.lr_rules.specs.declared.path.Path.{Path}
use Rattle.lr_rules.specs.StatePath.{state_part}
use Rattle.lr_host.specs.declared.entry.Entry.TheVariants.{Attach, Renames, Makes, Appends, Unlinks, SyncsFile, SyncsDir}
use Rattle.lr_host.specs.World.{Past, Opens, ◌▸◌}
use Rattle.lr_laws.specs.Chain.{second, third, found}

abbrev pub state : Path
state = codes "/s/status"

abbrev pub text : List ℕ
text = codes "new"

-- the part file has the text, and is synced
abbrev pub filled : Past → Past
filled p = p ▸ Makes (state_part state) None ▸ Appends (state_part state) text ▸ SyncsFile (state_part state)

-- in order: the directory of the rename is synced before the state gets its new file
abbrev pub in_order : Past
in_order = filled (Opens found ▸ Renames second third) ▸ SyncsDir (codes "/v") ▸ Renames (state_part state) state
    ▸ SyncsDir (codes "/s")

-- that directory isn't synced
abbrev pub not_synced : Past
not_synced = filled (Opens found ▸ Renames second third) ▸ Renames (state_part state) state

-- nor that of an unlink, of a file that a writer made in the call
abbrev pub made_since : Past
made_since = filled (Opens found ▸ Attach 0 third (pos 0) ▸ Unlinks third) ▸ Renames (state_part state) state

-- the state gets the file before this is synced
abbrev pub too_early : Past
too_early = Opens found ▸ Makes (state_part state) None ▸ Appends (state_part state) text ▸ Renames (state_part state) state

-- the text is written to the state's path itself, of which a first part stands
abbrev pub in_place : Past
in_place = Opens found ▸ Makes state None ▸ Appends state (codes "ne")
