use Rattle.std.proofs.Common.{◌≡◌, length}
use Rattle.lr_lex.specs.Lexing.{coming_from}
use Rattle.lr_lex.proofs.lexer.Lexer.next.Given as goal

abbrev pub invariant-loop-self : goal.invariant-loop-self
invariant-loop-self l = coming_from l.initial.self.place ≡ coming_from l.self.place

abbrev pub decreases-loop-self : goal.decreases-loop-self
decreases-loop-self l = length l.self.place.rest.now
