use Rattle.std.proofs.Common.{rules, ◌≡◌, ◌++◌, Ok, Err, map, ap, List}
use Rattle.lr_plan.specs.Steps.{directory, move, removals}
use Rattle.lr_scripts.specs.declared.removal.Removal.{Removal}
use Rattle.lr_chain.specs.declared.ready.Move.{Move}
use Rattle.lr_shown.specs.Lines.{lines_of}
use Rattle.lr_shown.proofs.Joined.{puts_as, steps_on, steps_stop}
use Rattle.lr_shown.proofs.rotation.put_chain.Goals as goal

pub returns-in_err-put_removals : goal.returns-in_err-put_removals
returns-in_err-put_removals g c =
    let failed : c.from_residual.result ≡ Err c.in_err-put_removals.field-0.0 = search rules in
    steps_stop (removals c.args.ready.now.leftovers) (directory c.args.ready.now.dir ++ (map move c.args.ready.now.moves)) c.in_err-put_removals.field-0.0 c.in_err-put_removals.field-0.0 c.from_residual.result _ _ _ _ failed (puts_as _ (lines_of (removals c.args.ready.now.leftovers)) (Err c.in_err-put_removals.field-0.0) _ _ _ _ (ap (λ (xs : List Removal). lines_of (removals xs)) c.as_slice.ensures) c.in_err-put_removals.ensures)

pub returns-in_err-put_directory : goal.returns-in_err-put_directory
returns-in_err-put_directory g c =
    let failed : c.from_residual-in_err-put_directory.result ≡ Err c.in_err-put_directory.field-0.0 = search rules in
    steps_on (removals c.args.ready.now.leftovers) (directory c.args.ready.now.dir ++ (map move c.args.ready.now.moves)) c.from_residual-in_err-put_directory.result _ _ _ _ _ _ (puts_as _ (lines_of (removals c.args.ready.now.leftovers)) (Ok tt) _ _ _ _ (ap (λ (xs : List Removal). lines_of (removals xs)) c.as_slice.ensures) c.in_ok-put_removals.ensures)
    (steps_stop (directory c.args.ready.now.dir) (map move c.args.ready.now.moves) c.in_err-put_directory.field-0.0 c.in_err-put_directory.field-0.0 c.from_residual-in_err-put_directory.result _ _ _ _ failed c.in_err-put_directory.ensures)

pub returns : goal.returns
returns g c = steps_on (removals c.args.ready.now.leftovers) (directory c.args.ready.now.dir ++ (map move c.args.ready.now.moves)) c.put_moves.result _ _ _ _ _ _ (puts_as _ (lines_of (removals c.args.ready.now.leftovers)) (Ok tt) _ _ _ _ (ap (λ (xs : List Removal). lines_of (removals xs)) c.as_slice.ensures) c.in_ok-put_removals.ensures)
    (steps_on (directory c.args.ready.now.dir) (map move c.args.ready.now.moves) c.put_moves.result _ _ _ _ _ _ c.in_ok-put_directory.ensures
    (puts_as _ (lines_of (map move c.args.ready.now.moves)) c.put_moves.result _ _ _ _ (ap (λ (xs : List Move). lines_of (map move xs)) c.as_slice-2.ensures) c.put_moves.ensures))
