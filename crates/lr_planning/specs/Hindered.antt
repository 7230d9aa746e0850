-- The fault that tells why a rotation can't be prepared.
use Rattle.std.specs.Prelude.{Result, Ok, Err}
use Rattle.lr_rules.specs.declared.fault.Fault.{Fault}
use Rattle.lr_rules.specs.declared.fault.Fault.TheVariants as fault
use Rattle.lr_rules.specs.declared.memory.Memory.{Memory}
use Rattle.lr_chain.specs.declared.ready.PrepareStop.{PrepareStop}
use Rattle.lr_chain.specs.declared.ready.PrepareStop.TheVariants as prepare

abbrev pub prepare_fault : PrepareStop → Result Fault Memory
prepare_fault (prepare.Taken path) = Ok (fault.Taken path)
prepare_fault (prepare.TooHigh path) = Ok (fault.TooHigh path)
prepare_fault (prepare.NoDir path) = Ok (fault.NoDir path)
prepare_fault prepare.Memory = Err (record {})
