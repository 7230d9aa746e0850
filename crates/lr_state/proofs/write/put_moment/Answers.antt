use Rattle.lr_state.specs.Written.{moment_text}
use Rattle.lr_state.proofs.Pieces.{then_writes}
use Rattle.lr_state.proofs.write.put_moment.Goals as goal

pub returns-clause-written : goal.returns-clause-written
unfolding moment_text
returns-clause-written c =
    then_writes _ _ _ _ _ _ _ _ c.put_year-year.ensures.written (then_writes _ _ _ _ _ _ _ _ c.put_byte-dash.ensures
    (then_writes _ _ _ _ _ _ _ _ c.put_part-month.ensures.written (then_writes _ _ _ _ _ _ _ _ c.put_byte-dash-2.ensures
    (then_writes _ _ _ _ _ _ _ _ c.put_part-day.ensures.written (then_writes _ _ _ _ _ _ _ _ c.put_byte-dash-3.ensures
    (then_writes _ _ _ _ _ _ _ _ c.put_part-hour.ensures.written (then_writes _ _ _ _ _ _ _ _ c.put_byte-colon.ensures
    (then_writes _ _ _ _ _ _ _ _ c.put_part-minute.ensures.written (then_writes _ _ _ _ _ _ _ _ c.put_byte-colon-2.ensures
    c.put_part.ensures.written)))))))))
