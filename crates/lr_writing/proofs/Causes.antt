-- The causes of faults, over more calls.
use Rattle.std.proofs.Common.{arith, List, [], ◌∷◌, Option}
use Rattle.lr_rules.specs.declared.fault.Fault.{Fault}
use Rattle.lr_rules.specs.declared.fault.Fault.TheVariants as fault
use Rattle.lr_host.specs.declared.entry.Entry.{Entry}
use Rattle.lr_host.specs.declared.journal.Journal.{Journal}
use Rattle.lr_host.specs.Told.{Left, Counts, Onward}
use Rattle.lr_acts.specs.Making.{FaultCause}
use Rattle.lr_acts.proofs.Taking.{taken_later}
use Rattle.lr_writing.specs.Writes.{AreCaused}

cause_later : {P : List Entry → Type 0} {o m : Option Journal} (n : Option Journal) (f : Fault) (a b c : Counts) → Left P o m → Onward a b → FaultCause f b c m n → FaultCause f a c o n
cause_later n (fault.Call kind path) a b c before p h = omega (arith, p.0.0, h)
cause_later n (fault.Script phase on end) a b c before p h = omega (arith, p.0.1, h)
cause_later n (fault.Taken path) a b c before p h = taken_later path before h
cause_later n fault.Clock a b c before p h = absurd h
cause_later n (fault.Zone why) a b c before p h = absurd h
cause_later n fault.Out a b c before p h = absurd h
cause_later n _ a b c before p h = tt

-- the faults came behind other calls
pub caused_later : {P : List Entry → Type 0} {o m : Option Journal} (n : Option Journal) (fs : List Fault) (a b c : Counts) → Left P o m → Onward a b → AreCaused fs b c m n → AreCaused fs a c o n
caused_later n [] a b c before p h = tt
caused_later n (f ∷ fs) a b c before p h = (cause_later n f a b c before p h.0, caused_later n fs a b c before p h.1)
