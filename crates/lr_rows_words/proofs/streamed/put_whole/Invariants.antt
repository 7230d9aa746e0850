use Rattle.std.proofs.Common.{◌≡◌, ◌≤◌}
use Rattle.lr_lex.specs.Streams.{StreamStands, given}
use Rattle.lr_rows_words.proofs.streamed.put_whole.Given as goal

abbrev pub invariant-loop : goal.invariant-loop
invariant-loop l = record { stands : StreamStands l.stream; closed : l.stream.closed ≡ l.initial.stream.closed; few : given l.stream ≤ given l.initial.stream }
