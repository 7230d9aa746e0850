-- A directory that wasn't made.
use Rattle.std.proofs.Common.{Option}
use Rattle.lr_rules.specs.declared.path.Path.{Path}
use Rattle.lr_host.specs.declared.journal.Journal.{Journal}
use Rattle.lr_host.specs.Told.{Counts}
use Rattle.lr_chain.specs.declared.directory.DirStop.{DirStop}
use Rattle.lr_chain.specs.declared.directory.DirStop.TheVariants as unmade
use Rattle.lr_chain.specs.Directory.{DirCause}
use Rattle.lr_plan.specs.Outcomes.{dir_fault}
use Rattle.lr_acts.specs.Making.{FaultCause}

-- its fault has its cause
pub dir_caused : (path : Path) (why : DirStop) (before now : Counts) (told later : Option Journal) → DirCause why before now → FaultCause (dir_fault path why) before now told later
dir_caused path unmade.Make before now told later h = h
dir_caused path unmade.Look before now told later h = h
dir_caused path unmade.NotDir before now told later h = tt
