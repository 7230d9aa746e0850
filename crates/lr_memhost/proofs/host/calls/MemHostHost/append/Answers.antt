use Rattle.std.proofs.Common.{arith}
use Rattle.lr_memhost.proofs.TurnLemmas.{turned_left, turned_as, failed_part}
use Rattle.lr_memhost.proofs.host.calls.MemHostHost.append.Goals as goal

pub returns-in_err-change-in-Some-Part-clause-turned : goal.returns-in_err-change-in-Some-Part-clause-turned
returns-in_err-change-in-Some-Part-clause-turned c =
    let m = c.min-count.ensures in
    turned_as _ (failed_part _ c.args.path.now c.args.piece.now c.min-count.result c.from_residual.ensures.0 (omega arith)) (c.in_err-change-in-Some-Part.ensures.turned _ c.appends-entry.ensures)

pub returns-in_err-change-in-Some-Part-clause-told : goal.returns-in_err-change-in-Some-Part-clause-told
returns-in_err-change-in-Some-Part-clause-told c = turned_left (returns-in_err-change-in-Some-Part-clause-turned c)

pub returns-in_err-change-in_default-clause-turned : goal.returns-in_err-change-in_default-clause-turned
returns-in_err-change-in_default-clause-turned c =
    let m = c.min-count-in_default.ensures in
    turned_as _ (failed_part _ c.args.path.now c.args.piece.now c.min-count-in_default.result c.from_residual-in_err-change-in_default.ensures.0 (omega arith)) (c.in_err-change-in_default.ensures.turned _ c.appends-entry-in_default.ensures)

pub returns-in_err-change-in_default-clause-told : goal.returns-in_err-change-in_default-clause-told
returns-in_err-change-in_default-clause-told c = turned_left (returns-in_err-change-in_default-clause-turned c)

pub returns-in_ok-change-in_default-clause-turned : goal.returns-in_ok-change-in_default-clause-turned
returns-in_ok-change-in_default-clause-turned c = c.in_ok-change-in_default.ensures.turned _ c.appends-entry-in_default.ensures

pub returns-in_ok-change-in_default-clause-told : goal.returns-in_ok-change-in_default-clause-told
returns-in_ok-change-in_default-clause-told c = turned_left (returns-in_ok-change-in_default-clause-turned c)
