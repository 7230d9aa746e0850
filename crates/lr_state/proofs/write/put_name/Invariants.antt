use Rattle.std.proofs.Common.{◌≤◌, ◌+◌, ◌*◌, take}
use Rattle.std.specs.List.{flat_map}
use Rattle.lr_state.specs.Piece.{WritesPiece}
use Rattle.lr_state.specs.Written.{escaped}
use Rattle.lr_state.proofs.write.put_name.Given as goal

abbrev pub invariant-loop-byte : goal.invariant-loop-byte
invariant-loop-byte l = record {
  bound : l.end ≤ l.at + 2 * l.byte-index;
  written : WritesPiece l.fn.into l.at l.into l.end (flat_map escaped (take l.byte-index l.name));
}
