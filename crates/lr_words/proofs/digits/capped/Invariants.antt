use Rattle.std.proofs.Common.{◌≡◌, ◌<◌, ◌≤◌, take}
use Rattle.lr_words.specs.Numbers.{number_of}
use Rattle.lr_words.proofs.digits.capped.Given as goal

abbrev pub invariant-loop-digit : goal.invariant-loop-digit
invariant-loop-digit l = record {
  small : number_of (take l.digit-index l.digits) ≤ l.limit → l.value ≡ number_of (take l.digit-index l.digits);
  large : l.limit < number_of (take l.digit-index l.digits) → l.limit < l.value;
}
