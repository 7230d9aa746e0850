use Rattle.std.proofs.Common.{◌≡◌, ◌≤◌, [], length}
use Rattle.lr_lex.specs.Streams.{StreamStands, still, given}
use Rattle.lr_include.specs.Taken.{KeepsTold}
use Rattle.lr_include.proofs.file_taking.Taking.take_whole.Given as goal

abbrev pub invariant-loop : goal.invariant-loop
invariant-loop l = record {
  stands : StreamStands l.self.stream;
  told : KeepsTold l.initial.self l.self;
  closed : l.self.stream.closed ≡ l.initial.self.stream.closed;
  few : given l.self.stream ≤ given l.initial.self.stream;
  size : l.self.size ≡ l.initial.self.size;
}

abbrev pub decreases-loop : goal.decreases-loop
decreases-loop l = length (still l.self.stream [])
