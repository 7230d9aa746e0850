-- The logs that a run rotates, each by its plan.
use Rattle.std.specs.Prelude.{List}
use Rattle.lr_rules.specs.declared.path.Path.{Path}
use Rattle.lr_rules.specs.declared.clock.Clock.{Clock}
use Rattle.lr_rules.specs.declared.rule.Rule.{Rule}
use Rattle.lr_host.specs.Lists.{IsIn}
use Rattle.lr_host.specs.World.{Past, world, names}
use Rattle.lr_state.specs.Table.{StateEntry as Row}
use Rattle.lr_plan.specs.Asked.{Asked}
use Rattle.lr_plan.specs.declared.looks.SetLooks.{SetLooks}
use Rattle.lr_plan.specs.declared.plan.Plan.{Plan}
use Rattle.lr_plan.specs.Planned.{decision}
use Rattle.lr_laws_family.specs.Made.{AttachedFarOnly}
use Rattle.lr_laws_family.specs.Members.{AreThere}
use Rattle.lr_laws_family.specs.Turned.{IsTurned}
use Rattle.lr_laws_rotations.specs.AllTurns.{paths_beside}
use Rattle.lr_laws_rotations.specs.Rotation.{rotation_by}
use Rattle.lr_laws_rotations.specs.Target.{Target}
use Rattle.lr_laws_looks.specs.Planned.{targets_in}
use Rattle.lr_laws_looks.specs.Targets.{all_targets}

-- those of the plan that follows from these looks and this table
abbrev pub rotated_targets : List Rule → List Row → Clock → Asked → List SetLooks → List Target
rotated_targets rules table clock asked sets = all_targets clock (decision table clock.now asked.force) rules sets

-- Between the two pasts the log was rotated whole, by its rename or by a copy, where no writer was attached to a member, nor to
-- anything at the part file's path: the members that were seen are those that stood, and each file is where the rotation of its
-- plan takes it, by identity and with its bytes, while the tool's other changes were on the paths of the other logs and of the
-- state, and made the log's own directory, where that was missing.
abbrev pub IsTurnedAmong : Path → List Target → Past → Past → Target → Type 0
IsTurnedAmong state targets before after t =
    AttachedFarOnly t.naming (rotation_by t) before after → AreThere t.naming (names (world before)) t.stand.members
    × IsTurned (paths_beside state t targets) t.naming (rotation_by t) before after

-- So was each log of this plan.
abbrev pub TurnLogs : Path → Plan → Past → Past → Type 0
TurnLogs state plan before after = (t : Target) → IsIn t (targets_in plan) → IsTurnedAmong state (targets_in plan) before after t
