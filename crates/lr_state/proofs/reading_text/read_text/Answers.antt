use Rattle.std.proofs.Common.{length}
use Rattle.lr_state.proofs.Joining.{text_empty}
use Rattle.lr_state.proofs.reading_text.read_text.Goals as goal

pub returns-else-there-clause-told : goal.returns-else-there-clause-told
returns-else-there-clause-told g c = text_empty c.args.state.now (length c.args.buffer.now) c.args.there c.args.stale c.new-table.result _ c.if-there.false c.new-table.ensures
