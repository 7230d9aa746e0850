use Rattle.std.proofs.Common.{◌≡◌, drop, false}
use Rattle.lr_state.specs.Reading.{with_front, quoted}
use Rattle.lr_state.proofs.name.between_quotes.Given as goal

abbrev pub invariant-loop-at : goal.invariant-loop-at
invariant-loop-at l = with_front l.name.items (quoted l.escape (drop l.at l.text)) ≡ quoted false l.text
