-- What a reading holds, and the kinds of its faults.
use Rattle.lr_rules.specs.declared.fault.CallKind.TheVariants as call
use Rattle.lr_rules.specs.declared.fault.Fault.{Fault}
use Rattle.lr_rules.specs.declared.fault.Fault.TheVariants as fault
use Rattle.lr_conf.specs.Meaning.{Meaning}
use Rattle.lr_include.specs.declared.reading.Reading.{Reading}

-- its rules, notices and faults
abbrev pub meaning_of : Reading → Meaning
meaning_of r = record { rules = r.rules.sets; notices = r.notices; faults = r.faults }

-- a fault of a file or of a line of it, or a call that failed: a look, a listing or a read
abbrev pub IsConfOrCall : Fault → Type 0
IsConfOrCall (fault.Conf file line kind) = Unit {0}
IsConfOrCall (fault.Call call.Look path) = Unit {0}
IsConfOrCall (fault.Call call.List path) = Unit {0}
IsConfOrCall (fault.Call call.Read path) = Unit {0}
IsConfOrCall f = ⊥
