use Rattle.std.proofs.Common.{◌≡◌, ◌<◌, ◌^◌, take}
use Rattle.std.specs.Str.Parse.{digits_value}
use Rattle.lr_words.proofs.permissions.bits_of.Given as goal

abbrev pub invariant-loop-digit : goal.invariant-loop-digit
invariant-loop-digit l = record {
  value : l.bits ≡ digits_value 8 (take l.digit-index l.digits);
  bound : l.bits < 8 ^ l.digit-index;
}
