-- A copy of bytes that broke off.
use Rattle.lr_rules.specs.declared.path.Path.{Path}
use Rattle.std.proofs.Common.{Option}
use Rattle.lr_host.specs.declared.journal.Journal.{Journal}
use Rattle.lr_host.specs.Told.{Counts}
use Rattle.lr_copy.specs.declared.job.BytesStop.{BytesStop}
use Rattle.lr_copy.specs.declared.job.BytesStop.TheVariants as broke
use Rattle.lr_copy.specs.Bytes.{BytesCause}
use Rattle.lr_plan.specs.Outcomes.{bytes_fault}
use Rattle.lr_acts.specs.Making.{FaultCause}

-- its fault has its cause
pub bytes_caused : (from to : Path) (why : BytesStop) (before now : Counts) (told later : Option Journal) → BytesCause why before now → FaultCause (bytes_fault from to why) before now told later
bytes_caused from to broke.Read before now told later h = h
bytes_caused from to broke.Append before now told later h = h
bytes_caused from to broke.TooLong before now told later h = tt
