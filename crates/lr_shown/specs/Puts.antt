-- What a call that puts a text leaves.
use Rattle.std.specs.Prelude.{◌≤◌, ℕ, List, Option, Result, OnOk, OnErr}
use Rattle.lr_host.specs.declared.sink.SinkFault.{SinkFault}
use Rattle.lr_host.specs.Told.{Rose}
use Rattle.lr_report.specs.Puts.{Took, TookPart}

-- All of it came where the call is Ok, and a first part of it in any case. It fails only where the sink's count of faults rose, and
-- that count never falls.
pub record Puts (text : List ℕ) (r : Result (Unit {0}) SinkFault) (before after : Option (List ℕ)) (low high : ℕ) : Type 0 where
  pub whole : OnOk r (Took text before after)
  pub part : TookPart text before after
  pub cause : OnErr r (Rose low high)
  pub counts : low ≤ high
