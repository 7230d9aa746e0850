-- What makes logs ready to be planned for.
use Rattle.std.specs.Prelude.{List, [], ◌∷◌, All}
use Rattle.lr_plan.specs.declared.looks.LogLook.{LogLook}
use Rattle.lr_plan.specs.declared.looks.SetLooks.{SetLooks}
use Rattle.lr_plan.specs.Planned.{CanPlan}

-- P holds of each of these logs
abbrev pub EachLook : (LogLook → Type 0) → List SetLooks → Type 0
EachLook P [] = Unit {0}
EachLook P (set ∷ sets) = All P set.logs × EachLook P sets

-- each can be planned for
abbrev pub AreReady : List SetLooks → Type 0
AreReady sets = EachLook CanPlan sets
