-- Rules without programs.
use Rattle.std.specs.Prelude.{List, [], ◌∷◌}
use Rattle.lr_rules.specs.declared.rule.Rule.{Rule}
use Rattle.lr_plan.specs.Planned.{RunsNothing}

-- none of the rules runs a program
abbrev pub RunNothing : List Rule → Type 0
RunNothing [] = Unit {0}
RunNothing (rule ∷ rules) = RunsNothing rule × RunNothing rules
