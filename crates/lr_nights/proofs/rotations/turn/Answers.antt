use Rattle.std.proofs.Common.{sym, ◌∙◌}
use Rattle.lr_nights.proofs.Entries.{turning_anew, turning_beside, turning_again, turning_first}
use Rattle.lr_nights.proofs.rotations.turn.Goals as goal

pub returns-then-starts-clause-turning : goal.returns-then-starts-clause-turning
returns-then-starts-clause-turning c = λ s p of is. turning_anew s p c.args.entry.now c.args.turning.now (sym c.starts.ensures ∙ c.if-starts.true) is

pub returns-then-not-turns_log-clause-turning : goal.returns-then-not-turns_log-clause-turning
returns-then-not-turns_log-clause-turning c = λ s p of is.
    turning_beside s p c.args.entry.now c.args.turning.now (sym c.starts.ensures ∙ c.if-starts.false) (sym c.if-not-turns_log.true ∙ c.turns_log.ensures s of) is

pub returns-then-turning-clause-turning : goal.returns-then-turning-clause-turning
returns-then-turning-clause-turning c = λ s p of is.
    turning_again s p c.args.entry.now c.args.turning.now (sym c.starts.ensures ∙ c.if-starts.false) c.if-turning.true (sym c.if-not-turns_log.false ∙ c.turns_log.ensures s of) is

pub returns-clause-turning : goal.returns-clause-turning
returns-clause-turning c = λ s p of is.
    turning_first s p c.args.entry.now c.args.turning.now (sym c.starts.ensures ∙ c.if-starts.false) c.if-turning.false (sym c.if-not-turns_log.false ∙ c.turns_log.ensures s of) is
