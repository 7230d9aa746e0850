use Rattle.std.proofs.Common.{◌≡◌, ◌-◌, ℕ, List, [], length}
use Rattle.lr_host.specs.declared.entry.Entry.TheVariants as entry
use Rattle.lr_host.specs.Told.{Left, Are, Can, Onward}
use Rattle.lr_state.specs.Given.{HasTaken}
use Rattle.lr_state.specs.ReadPieces.{GoOn, bytes_of, reads_from}
use Rattle.lr_state.proofs.reading_pieces.read_pieces.Given as goal

abbrev pub invariant-loop-next : goal.invariant-loop-next
invariant-loop-next g l = record {
  pieces : List (List ℕ);
  goes : GoOn (length l.initial.buffer) pieces;
  place : l.at ≡ length (bytes_of pieces);
  taken : HasTaken l.reader (bytes_of pieces);
  told : Left (Are (reads_from l.path 0 pieces)) (g.H.Host.told l.initial.host) (g.H.Host.told l.host);
  file : Can (g.H.Host.told l.host) (entry.Reads l.path 0 []);
  size : length l.buffer ≡ length l.initial.buffer;
  counts : Onward (g.H.Host.counts l.initial.host) (g.H.Host.counts l.host);
}

abbrev pub decreases-loop-next : goal.decreases-loop-next
decreases-loop-next g l = 67_108_864 - l.at
