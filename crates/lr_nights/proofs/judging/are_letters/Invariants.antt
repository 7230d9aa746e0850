use Rattle.std.proofs.Common.{◌≡◌, take, replicate}
use Rattle.lr_nights.proofs.judging.are_letters.Given as goal

abbrev pub invariant-loop-byte : goal.invariant-loop-byte
invariant-loop-byte l = take l.byte-index l.bytes ≡ replicate l.byte-index l.letter
