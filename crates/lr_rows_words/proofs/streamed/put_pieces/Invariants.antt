use Rattle.std.proofs.Common.{◌≡◌, ◌+◌, ◌<◌, ◌^◌, false, length}
use Rattle.lr_lex.specs.Streams.{StreamStands, given}
use Rattle.lr_rows_words.proofs.streamed.put_pieces.Given as goal

abbrev pub invariant-loop-rest : goal.invariant-loop-rest
invariant-loop-rest l = record { stands : StreamStands l.stream; open_ : l.stream.closed ≡ false; few : given l.stream + length l.rest < 2 ^ 32 }

abbrev pub decreases-loop-rest : goal.decreases-loop-rest
decreases-loop-rest l = length l.rest
