use Rattle.std.proofs.Common.{◌≡◌}
use Rattle.lr_lex.proofs.Sofar.{so_far}
use Rattle.lr_lex.proofs.moving.move_all.Given as goal

abbrev pub invariant-loop-word : goal.invariant-loop-word
invariant-loop-word l = record { moved : l.word-items ≡ so_far l.by l.word-index l.initial.word-items }
