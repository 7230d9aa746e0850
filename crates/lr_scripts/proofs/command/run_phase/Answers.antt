use Rattle.std.proofs.Common.{rules, pos, ◌≡◌, ◌≢◌}
use Rattle.lr_rules.specs.declared.fault.CallKind.TheVariants as call
use Rattle.lr_rules.specs.declared.fault.Ended.TheVariants as ended
use Rattle.lr_scripts.proofs.Running.{ran_well, ran_badly, may_have_run}
use Rattle.lr_scripts.proofs.command.run_phase.Goals as goal

pub returns-then-eq-clause-told : goal.returns-then-eq-clause-told
returns-then-eq-clause-told g c =
    let zero : c.in-Ok.end ≡ ended.Exit (pos 0) = search rules in
    ran_well c.args.command.now c.as_slice.result.now _ c.as_slice.ensures c.as_ref-input.ensures.value zero c.in-Ok.ensures.told

pub returns-else-eq-clause-refused : goal.returns-else-eq-clause-refused
returns-else-eq-clause-refused g c =
    let not_zero : c.in-Ok.end ≢ ended.Exit (pos 0) = search rules in
    ran_badly c.args.command.now c.as_slice.result.now _ c.args.phase c.as_slice.ensures c.as_ref-input.ensures.value not_zero c.in-Ok.ensures.told

pub returns-in-Err-Failed-clause-refused : goal.returns-in-Err-Failed-clause-refused
returns-in-Err-Failed-clause-refused g c =
    may_have_run c.args.command.now c.as_slice.result.now _ call.Run c.as_slice.ensures c.as_ref-input.ensures.value c.in-Err-Failed.ensures.told
