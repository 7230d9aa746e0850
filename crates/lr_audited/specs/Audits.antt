-- An audit: what each file is, which places are free, what the next forced run removes.
use Rattle.std.specs.Prelude.{◌≡◌, true, List, []}
use Rattle.lr_rules.specs.declared.clock.Clock.{Clock}
use Rattle.lr_rules.specs.declared.path.Path.{Path}
use Rattle.lr_rules.specs.declared.rule.Rule.{Rule}
use Rattle.lr_plan.specs.declared.looks.Looks.{Looks}
use Rattle.lr_plan.specs.declared.looks.SetLooks.{SetLooks}
use Rattle.lr_plan.specs.declared.plan.Plan.{Plan}
use Rattle.lr_plan.specs.Asked.{asking}
use Rattle.lr_plan.specs.Planned.{plan_of}
use Rattle.lr_audited.specs.declared.line.Audit.{Audit}
use Rattle.lr_audited.specs.declared.line.WhyGone.{WhyGone}
use Rattle.lr_audited.specs.Gaps.{gaps_of}
use Rattle.lr_audited.specs.Lines.{known_lines, AreLines}
use Rattle.lr_audited.specs.Removed.{removed_by}

-- the plan of a run by `--force` that knows nothing of earlier ones
abbrev pub forced_plan : List Rule → List SetLooks → Clock → Path → Plan
forced_plan rules sets clock mailer = plan_of rules sets [] clock (asking true mailer)

-- what it removes
abbrev pub going_of : List Rule → List SetLooks → Clock → Path → List (Path × WhyGone)
going_of rules sets clock mailer = removed_by clock (forced_plan rules sets clock mailer).sets

-- Each of these files has its line, by what the looks gave; the gaps are theirs, and what goes is what that plan removes.
pub record IsAudit (rules : List Rule) (looks : Looks) (clock : Clock) (mailer : Path) (files : List Path)
    (a : Audit) : Type 0 where
  pub lines : AreLines (known_lines rules looks) files a.lines
  pub gaps : a.gaps ≡ gaps_of looks.sets
  pub removed : a.removed ≡ going_of rules looks.sets clock mailer
