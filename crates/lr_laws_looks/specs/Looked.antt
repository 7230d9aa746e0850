-- What the looks of a run came to.
use Rattle.std.specs.Prelude.{List}
use Rattle.lr_rules.specs.declared.fault.Fault.{Fault}
use Rattle.lr_rules.specs.declared.path.Path.{Path}
use Rattle.lr_rules.specs.declared.rule.Rule.{Rule}
use Rattle.lr_host.specs.declared.entry.Entry.{Entry}
use Rattle.lr_plan.specs.declared.looks.SetLooks.{SetLooks}
use Rattle.lr_looks.specs.Shown.{ShowsLooks}

-- these logs were looked at whole, whatever the faults of the others
abbrev pub LooksCameTo : List Path → List Rule → List SetLooks → List Entry → Type 0
LooksCameTo reserved rules sets ts = (faults : List Fault) × ShowsLooks reserved rules sets faults ts
