use Rattle.std.proofs.Common.{ℕ, List, ◌∷◌, Ok, take}
use Rattle.std.specs.List.{flat_map}
use Rattle.lr_shown.specs.Puts.{Puts}
use Rattle.lr_shown.proofs.programs.put_words.Given as goal

abbrev pub invariant-loop-word : goal.invariant-loop-word
invariant-loop-word g l = Puts (flat_map (λ (word : List ℕ). 32 ∷ word) (take l.word-index l.words)) (Ok tt) (g.K.Sink.taken l.initial.out) (g.K.Sink.taken l.out) (g.K.Sink.faults l.initial.out) (g.K.Sink.faults l.out)
