-- A call that empties a log behind its copy, and one that empties it at once: on the disk of the worked copy.
use Rattle.std.specs.Prelude.{List, [], ◌∷◌, codes, None}
use Rattle.lr_host.specs.declared.entry.Entry.{Entry}
use Rattle.lr_host.specs.declared.entry.Entry.TheVariants.{Reads, Renames, Makes, Appends, Truncates, SyncsFile, SyncsDir}
use Rattle.lr_host.specs.declared.journal.Journal.{Journal}
use Rattle.lr_laws.specs.Chain.{log, third, found}
use Rattle.lr_laws_family.specs.CopiesWorked.{part}

-- the disk as it was found, and then these entries
abbrev pub behind : List Entry → Journal
behind entries = record { opening = found; entries = entries }

-- the log is copied, and then emptied
abbrev pub copied_first : List Entry
copied_first = Makes part None ∷ Reads log 0 (codes "C") ∷ Appends part (codes "C") ∷ Reads log 1 [] ∷ SyncsFile part ∷ Renames part
    third ∷ SyncsDir (codes "/v") ∷ Truncates log ∷ []

-- it is emptied
abbrev pub at_once : List Entry
at_once = Truncates log ∷ []
