-- Acts without a fault turn each log whole.
use Rattle.std.proofs.Common.{inl, List, [], ◌++◌, map, sym, subst}
use Rattle.std.specs.Prelude.{filter}
use Rattle.lr_plan.specs.declared.mark.Mark.{Mark}
use Rattle.lr_rules.specs.declared.clock.Clock.{Clock}
use Rattle.lr_rules.specs.declared.path.Path.{Path}
use Rattle.lr_rules.specs.declared.rules.Rules.{Rules}
use Rattle.lr_host.specs.declared.entry.Entry.{Entry}
use Rattle.lr_host.specs.Quiet.{AreQuiet}
use Rattle.lr_plan.specs.declared.plan.SetPlan.{SetPlan}
use Rattle.lr_plan.specs.Steps.{steps_of_set}
use Rattle.lr_plan.specs.Done.{SetsDone}
use Rattle.lr_laws_rotations.specs.Target.{Target, target_entries}
use Rattle.lr_laws_rotations.specs.AllTurns.{IsOfOther, StandsBetween}
use Rattle.lr_laws_rotations.specs.Runs.{AllTurnedBy}
use Rattle.lr_laws_rotations.specs.Seen.{AreLogsSeen}
use Rattle.lr_laws_acts.specs.Parts.{takes_name, MakesOne, ArePlanned, parts_of_sets}
use Rattle.lr_laws_family.specs.Weave.{Weave}
use Rattle.lr_laws_acts.proofs.Parting.{only_as, made_between, sets_parts, weave_change, done_turns}
use Rattle.lr_laws_family.proofs.Weaving.{weave_as}
use Rattle.lr_laws_acts.proofs.ActsWhole.{done_whole, one_joined}

abbrev pub done_turned : (state : Path) (clock : Clock) (rules : Rules) (looks : List Entry) (targets : List Target) (sets : List SetPlan) (t : List Mark) (ts : List Entry) → AreQuiet looks → AreLogsSeen rules clock looks targets → ArePlanned targets (map steps_of_set sets)
    → SetsDone (map steps_of_set sets) t [] ts → AllTurnedBy state clock rules (looks ++ ts)
done_turned state clock rules looks targets sets t ts quiet seen planned d = record {
  turns = done_turns state clock rules looks targets (map steps_of_set sets) t [] ts quiet seen planned d;
  whole = λ x i. weave_change (StandsBetween state x targets) (target_entries x) ts
      (weave_as (IsOfOther x.log targets) (StandsBetween state x targets) (target_entries x) (filter takes_name ts) (λ e h. inl h)
      (subst (Weave (IsOfOther x.log targets) (target_entries x)) (sym (done_whole (MakesOne targets) sets t ts planned.plain d)) (one_joined (IsOfOther x.log targets) (target_entries x) (parts_of_sets (map steps_of_set sets)) (planned.each x i))))
      (only_as (MakesOne targets) (StandsBetween state x targets) ts (made_between state targets x planned.apart i) (sets_parts (MakesOne targets) (map steps_of_set sets) t [] ts planned.plain d).only);
}
