-- The logs of a plan: those that are due and that nothing hinders, definition by definition.
use Rattle.std.specs.Prelude.{List, [], ◌∷◌}
use Rattle.std.specs.List.{flat_map}
use Rattle.lr_rules.specs.declared.clock.Clock.{Clock}
use Rattle.lr_rules.specs.declared.fault.Fault.{Fault}
use Rattle.lr_rules.specs.declared.rule.Rule.{Rule}
use Rattle.lr_due.specs.declared.answer.Due.{Due}
use Rattle.lr_plan.specs.declared.looks.LogLook.{LogLook}
use Rattle.lr_plan.specs.declared.looks.SetLooks.{SetLooks}
use Rattle.lr_plan.specs.Planned.{standing, stand_for, ready_for, job_by, aside_by, hindrances, where_due}
use Rattle.lr_laws_rotations.specs.Target.{Target}

-- A log with the count and the age of its rule, what stands of its family as its rotation begins (a directory that this makes is
-- there, and empty), its rotation, its copy where the rule asks for one, and where it is set aside.
abbrev pub target_of : Clock → Rule → LogLook → Target
target_of clock rule look = record {
  log = look.path;
  naming = look.family.naming;
  count = rule.count;
  maxage = rule.maxage;
  stand = stand_for rule look;
  ready = ready_for clock rule look;
  job = job_by rule.way (standing rule look) (ready_for clock rule look).target;
  aside = aside_by rule.way look.path look.tmp;
}

-- where nothing hinders
abbrev pub where_free : List Fault → Target → List Target
where_free [] t = t ∷ []
where_free (f ∷ fs) t = []

-- those of one definition
abbrev pub targets_of : Clock → Rule → (LogLook → Due) → List LogLook → List Target
targets_of clock rule decide looks = flat_map (λ look. where_due (decide look)
    (where_free (hindrances clock rule look) (target_of clock rule look))) looks

abbrev pub groups_of : Clock → (Rule → LogLook → Due) → List Rule → List SetLooks → List (List Target)
groups_of clock decide (rule ∷ rules) (set ∷ sets) = targets_of clock rule (decide rule) set.logs ∷ groups_of clock decide rules
    sets
groups_of clock decide _ _ = []

-- those of all
abbrev pub all_targets : Clock → (Rule → LogLook → Due) → List Rule → List SetLooks → List Target
all_targets clock decide rules sets = flat_map (λ ts. ts) (groups_of clock decide rules sets)
