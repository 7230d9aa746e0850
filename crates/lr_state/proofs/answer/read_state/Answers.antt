use Rattle.std.proofs.Common.{length}
use Rattle.lr_state.proofs.Joining.{state_found, state_refused}
use Rattle.lr_state.proofs.answer.read_state.Goals as goal

pub returns-in-Ok-clause-told : goal.returns-in-Ok-clause-told
returns-in-Ok-clause-told g c = state_found c.args.state.now (length c.args.buffer.now) c.in-Ok.there c.read_behind.result (rw c.in-Ok.is at c.look_at.ensures.told) c.read_behind.ensures.told

pub returns-in-Err-clause-told : goal.returns-in-Err-clause-told
returns-in-Err-clause-told g c = state_refused c.args.state.now (length c.args.buffer.now) c.in-Err.stop c.refused.result (rw c.in-Err.is at c.look_at.ensures.told) c.refused.ensures
