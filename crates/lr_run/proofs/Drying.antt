-- What a dry run leaves: looks, listings and reads alone.
use Rattle.std.proofs.Common.{◌≤◌, ℕ, Bool, true, false, List, [], length, Option, Err, refl, sym, subst}
use Rattle.lr_rules.specs.declared.path.Path.{Path}
use Rattle.lr_rules.specs.declared.clock.Clock.{Clock}
use Rattle.lr_rules.specs.declared.fault.Fault.{Fault}
use Rattle.lr_rules.specs.declared.memory.Memory.{Memory}
use Rattle.lr_rules.specs.declared.rule.Rule.{Rule}
use Rattle.lr_rules.specs.declared.rules.Rules.{Rules}
use Rattle.lr_rules.specs.Path.{parent_of}
use Rattle.lr_host.specs.declared.entry.Entry.{Entry}
use Rattle.lr_host.specs.declared.entry.Entry.TheVariants as entry
use Rattle.lr_host.specs.declared.thing.Seen.{Seen}
use Rattle.lr_host.specs.Looks.{IsDir, IsNoDir, IsNothing}
use Rattle.lr_host.specs.Quiet.{IsQuiet}
use Rattle.lr_host.specs.Told.{Each}
use Rattle.lr_state.specs.Table.{StateEntry as Row}
use Rattle.lr_plan.specs.Asked.{Asked}
use Rattle.lr_plan.specs.declared.plan.Plan.{Plan}
use Rattle.lr_laws_acts.specs.Emptied.{EmptiesCopied}
use Rattle.lr_laws_acts.proofs.Entries.{quiet_empties}
use Rattle.lr_laws_looks.proofs.Quiet.{whole_looking, part_looking}
use Rattle.lr_run.specs.declared.answer.RunStop.TheVariants as stop
use Rattle.lr_run.specs.InternalAnswers.{RunLeaves, Lacks}
use Rattle.lr_run.specs.Copied.{IsCopyBy}
use Rattle.lr_run.specs.InternalDry.{Plans, PlansBy, unknown, known, Tries, unseen, not_directory, by_none, by_state, LacksTry, before_all, amid_looks, amid_state}
use Rattle.lr_run.proofs.Emptying.{runs_copied, answers_copied}
use Rattle.lr_run.proofs.Made.{AreMade}
use Rattle.lr_run.proofs.Seeing.{state_so, looks_so, some_so}
use Rattle.lr_run.proofs.Sighted.{sees_so, then_so}

-- ---- looks, listings and reads alone

module _ (P : Entry → Type 0) (look : (x : Path) (seen : Option Seen) → P (entry.Look x seen)) (list : (x : Path) (names : List (List ℕ)) → P (entry.List x names)) (read : (x : Path) (place : ℕ) (piece : List ℕ) → length piece ≤ 65536 → P (entry.Reads x place piece)) where
  plans_so : (state : Path) (rules : List Rule) (table : List Row) (clock : Clock) (asked : Asked) (plan : Option Plan) (own : List Fault) (ts : List Entry) → Plans state rules table clock asked plan own ts → Each P ts
  plans_so state rules table clock asked plan own ts p = looks_so P look list read ts (whole_looking rules p.sets p.of_looks ts p.shown)

  plans_by_so : (state : Path) (rules : List Rule) (clock : Clock) (asked : Asked) (plan : Option Plan) (own : List Fault) (ts : List Entry) → PlansBy state rules clock asked plan own ts → Each P ts
  plans_by_so state rules clock asked plan own ts (unknown sights f k lost is shown) = state_so P look read state sights ts shown
  plans_by_so state rules clock asked plan own ts (known sights remembered k t) = then_so P look list read _ _ ts (λ us h. state_so P look read state sights us h) (λ us h. plans_so state rules remembered.table clock asked plan own us h) t

  pub tries_so : (state : Path) (rules : List Rule) (clock : Clock) (asked : Asked) (plan : Option Plan) (own : List Fault) (ts : List Entry) → Tries state rules clock asked plan own ts → Each P ts
  tries_so state rules clock asked plan own ts (unseen lost is none) = subst (Each P) (sym none) tt
  tries_so state rules clock asked plan own ts (not_directory lost is s) = sees_so P look list read (parent_of state) IsNoDir ts s
  tries_so state rules clock asked plan own ts (by_none t) = then_so P look list read _ _ ts (λ us h. sees_so P look list read (parent_of state) IsNothing us h) (λ us h. plans_so state rules [] clock asked plan own us h) t
  tries_so state rules clock asked plan own ts (by_state t) = then_so P look list read _ _ ts (λ us h. sees_so P look list read (parent_of state) IsDir us h) (λ us h. plans_by_so state rules clock asked plan own us h) t

  pub lacks_so : (state : Path) (rules : List Rule) (ts : List Entry) → LacksTry state rules ts → Each P ts
  lacks_so state rules ts (before_all none) = subst (Each P) (sym none) tt
  lacks_so state rules ts (amid_looks t) = then_so P look list read _ _ ts (λ us h. sees_so P look list read (parent_of state) IsNothing us h) (λ us h. looks_so P look list read us (part_looking rules us h)) t
  lacks_so state rules ts (amid_state t) = then_so P look list read _ _ ts (λ us h. sees_so P look list read (parent_of state) IsDir us h) (λ us h. some_so P look list read state rules us h) t

-- ---- a run that is dry, or isn't

-- each log that it empties it copied just before
pub leaves_copied : (debug : Bool) (state : Path) (rules : Rules) (clock : Clock) (asked : Asked) → (plan : Option Plan) (own : List Fault) (ts : List Entry) → AreMade ts → RunLeaves debug state asked clock rules plan own ts → EmptiesCopied (IsCopyBy rules.sets clock) ts
leaves_copied true state rules clock asked plan own ts made h = quiet_empties (IsCopyBy rules.sets clock) ts (tries_so IsQuiet (λ x seen. (tt, refl)) (λ x names. (tt, refl)) (λ x place piece short. (tt, refl)) state rules.sets clock asked plan own ts h)
leaves_copied false state rules clock asked plan own ts made h = runs_copied state rules clock asked plan own ts made h

pub lacks_copied : (debug : Bool) (state : Path) (rules : Rules) (clock : Clock) (asked : Asked) → (ts : List Entry) → AreMade ts → Lacks debug state asked clock rules ts → EmptiesCopied (IsCopyBy rules.sets clock) ts
lacks_copied true state rules clock asked ts made h = quiet_empties (IsCopyBy rules.sets clock) ts (lacks_so IsQuiet (λ x seen. (tt, refl)) (λ x names. (tt, refl)) (λ x place piece short. (tt, refl)) state rules.sets ts h)
lacks_copied false state rules clock asked ts made h = answers_copied state rules clock asked [] (Err stop.Memory) ts made h
