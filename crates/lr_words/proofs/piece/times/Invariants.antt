use Rattle.std.proofs.Common.{◌≡◌, ◌+◌, ◌≤◌, drop}
use Rattle.lr_rules.specs.Limits.{times}
use Rattle.lr_words.proofs.piece.times.Given as goal

abbrev pub invariant-loop-piece : goal.invariant-loop-piece
invariant-loop-piece l = record {
  bound : l.count ≤ l.piece-index;
  rest : l.count + times l.rank (drop l.piece-index l.pieces) ≡ times l.rank l.pieces;
}
