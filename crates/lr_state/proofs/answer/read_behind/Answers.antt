use Rattle.std.proofs.Common.{length}
use Rattle.lr_state.proofs.Joining.{finds_stay, part_found, part_refused}
use Rattle.lr_state.proofs.answer.read_behind.Goals as goal

pub read_text-requires-clause-file : goal.read_text-requires-clause-file
read_text-requires-clause-file g c = λ there. finds_stay c.look_at.ensures.told (c.requires.file there)

pub returns-in-Ok-clause-told : goal.returns-in-Ok-clause-told
returns-in-Ok-clause-told g c = part_found c.args.state.now c.args.part.now (length c.args.buffer.now) c.args.there c.in-Ok.stale c.read_text.result c.requires.part (rw c.in-Ok.is at c.look_at.ensures.told) c.read_text.ensures.told

pub returns-in-Err-clause-told : goal.returns-in-Err-clause-told
returns-in-Err-clause-told g c = part_refused c.args.state.now c.args.part.now (length c.args.buffer.now) c.args.there c.in-Err.stop c.refused.result c.requires.part (rw c.in-Err.is at c.look_at.ensures.told) c.refused.ensures
