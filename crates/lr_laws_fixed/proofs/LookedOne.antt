-- Two runs that left the same entries read one table, looked at the same logs, and planned the same.
use Rattle.std.proofs.Common.{◌≡◌, true, List, [], ◌++◌, Ok, Err, sym, ap, ◌∙◌}
use Rattle.std.specs.List.{list_all}
use Rattle.lr_rules.specs.Limits.{meets_limits}
use Rattle.lr_rules.specs.declared.clock.Clock.{Clock}
use Rattle.lr_rules.specs.declared.path.Path.{Path}
use Rattle.lr_rules.specs.declared.rule.Rule.{Rule}
use Rattle.lr_host.specs.declared.entry.Entry.{Entry}
use Rattle.lr_state.specs.Table.{StateEntry as Row}
use Rattle.lr_host.specs.Counted.{calls_in}
use Rattle.lr_plan.specs.Asked.{Asked}
use Rattle.lr_plan.specs.Planned.{plan_of}
use Rattle.lr_state.specs.Known.{Known}
use Rattle.lr_state.specs.After.{after}
use Rattle.lr_state.specs.Measured.{measured_text}
use Rattle.lr_looks.specs.Reserved.{reserved_by}
use Rattle.lr_run.specs.InternalRuns.{Looked, plan_in, kept_in, measured_in}
use Rattle.lr_run.specs.Paths.{all_logs_of, logs_in}
use Rattle.lr_laws_fixed.specs.Alike.{AreAlike}
use Rattle.lr_laws_fixed.proofs.Planned.{faults_alike, plans_alike}
use Rattle.lr_laws_fixed.proofs.StateRead.{OneState, state_one}
use Rattle.lr_laws_fixed.proofs.Whole.{behind_looks, kept_paths, looks_one}

-- the table that is known
abbrev table_of : Known → List Row
table_of (Ok remembered) = remembered.table
table_of (Err f) = []

module _ (state : Path) (rules : List Rule) (clock : Clock) (asked : Asked) (ts us : List Entry) (v : Looked state rules ts) (w : Looked state rules us) (e : ts ≡ us) (c : calls_in v.of_looks ≡ 0) (d : calls_in w.of_looks ≡ 0) (limits : list_all meets_limits rules ≡ true) where
  -- the state was read the same
  reading : OneState (Ok v.remembered) (Ok w.remembered) (v.looks ++ v.acts) (w.looks ++ w.acts)
  reading = state_one state 65_536 v.sights w.sights (Ok v.remembered) (Ok w.remembered) v.reads w.reads (v.looks ++ v.acts) (w.looks ++ w.acts) v.read w.read v.known w.known tt tt (sym v.joined ∙ (e ∙ w.joined))

  table_is : v.remembered.table ≡ w.remembered.table
  table_is = ap table_of reading.known_is

  -- the looks are the same, and so are their faults
  pub looks_are : (v.looks ≡ w.looks) × (v.of_looks ≡ w.of_looks) × AreAlike v.sets w.sets
  looks_are = looks_one (reserved_by state) rules v.sets w.sets v.of_looks w.of_looks v.looks w.looks v.acts w.acts v.shown w.shown reading.rest_is c d limits

  -- what was done behind them
  pub acts_are : v.acts ≡ w.acts
  acts_are = behind_looks (reserved_by state) rules v.sets w.sets v.of_looks w.of_looks v.looks w.looks v.acts w.acts v.shown w.shown reading.rest_is c d limits

  -- the logs that are kept
  kept_are : kept_in state rules ts v ≡ kept_in state rules us w
  kept_are = kept_paths (reserved_by state) rules v.sets w.sets v.of_looks w.of_looks v.looks w.looks v.acts w.acts v.shown w.shown reading.rest_is c d limits

  -- the faults of the plans
  pub plans_are : (plan_in state rules ts v clock asked).faults ≡ (plan_in state rules us w clock asked).faults
  plans_are = ap (λ (t : List Row). (plan_of rules v.sets t clock asked).faults) table_is ∙ faults_alike w.remembered.table clock asked rules v.sets w.sets looks_are.2

  -- and what they do of each definition
  pub sets_are : (plan_in state rules ts v clock asked).sets ≡ (plan_in state rules us w clock asked).sets
  sets_are = ap (λ (t : List Row). (plan_of rules v.sets t clock asked).sets) table_is ∙ plans_alike w.remembered.table clock asked rules v.sets w.sets looks_are.2

  -- the logs that they rotate
  logs_are : logs_in (plan_in state rules ts v clock asked) ≡ logs_in (plan_in state rules us w clock asked)
  logs_are = ap all_logs_of sets_are

  -- the text that is measured
  pub measured_is : measured_in state rules ts v clock asked ≡ measured_in state rules us w clock asked
  measured_is =
      ap (λ ls. measured_text ls clock.now.civil (after v.remembered.table [] (kept_in state rules ts v) clock.now.civil)) logs_are
      ∙ (ap (λ (t : List Row). measured_text (logs_in (plan_in state rules us w clock asked)) clock.now.civil (after t [] (kept_in state rules ts v) clock.now.civil)) table_is
      ∙ ap (λ ks. measured_text (logs_in (plan_in state rules us w clock asked)) clock.now.civil (after w.remembered.table [] ks clock.now.civil)) kept_are)
