use Rattle.std.proofs.Common.{◌++◌, length}
use Rattle.lr_state.specs.Internal.{Stops}
use Rattle.lr_state.specs.ReadPieces.{bytes_of}
use Rattle.lr_state.specs.declared.reading_pieces.ReadStop.TheVariants as read
use Rattle.lr_state.proofs.Joining.{reader_known, broken_known, text_whole, text_stopped}
use Rattle.lr_state.proofs.reading_text.read_file.Goals as goal

pub returns-in-Ok-clause-told : goal.returns-in-Ok-clause-told
returns-in-Ok-clause-told g c =
    let r = c.in-Ok.ensures.told in
    text_whole c.args.state.now (length c.args.buffer.now) c.args.stale _ c.known.result r (reader_known c.args.stale (bytes_of r.pieces ++ r.last) c.finish.result c.known.result (c.finish.ensures.says (bytes_of r.pieces ++ r.last) r.taken)
    (λ said says. c.finish.ensures.only (bytes_of r.pieces ++ r.last) said r.taken says) c.known.ensures)

pub returns-in-Err-Call-clause-told : goal.returns-in-Err-Call-clause-told
returns-in-Err-Call-clause-told g c = text_stopped c.args.state.now (length c.args.buffer.now) c.args.stale c.not_read.result (Stops read.Call) (rw c.in-Err-Call.field-0-is at c.in-Err-Call.ensures.stopped)
    (λ r is. broken_known c.args.state.now c.args.stale c.not_read.result r c.not_read.ensures is)

pub returns-clause-told : goal.returns-clause-told
returns-clause-told g c = text_stopped c.args.state.now (length c.args.buffer.now) c.args.stale _ (Stops read.Memory) (rw c.in-Err-Memory.field-0-is at c.in-Err-Memory.ensures.stopped) (λ r is. tt)
