use Rattle.std.proofs.Common.{◌≡◌, drop, false}
use Rattle.lr_rules.specs.Match.{has_sign}
use Rattle.lr_words.proofs.name.is_wildcard.Given as goal

abbrev pub invariant-loop-byte : goal.invariant-loop-byte
invariant-loop-byte l = has_sign false l.word ≡ has_sign l.escaped (drop l.byte-index l.word)
