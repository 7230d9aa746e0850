use Rattle.std.proofs.Common.{◌≡◌, ◌++◌, drop}
use Rattle.lr_kept.specs.Fronts.{before_field}
use Rattle.lr_kept.proofs.fronts.add_before_field.Given as goal

abbrev pub invariant-loop-piece : goal.invariant-loop-piece
invariant-loop-piece l = record {
  so_far : l.bytes.items ++ before_field (drop l.piece-index l.pieces) ≡ l.initial.bytes.items ++ before_field l.pieces;
}
