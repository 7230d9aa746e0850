use Rattle.std.proofs.Common.{◌≡◌, ◌≤◌, ◌+◌, ◌*◌, ◌∷◌, false, true, length}
use Rattle.std.specs.Str.{chars}
use denote.Shadow.{shadow}
use denote.Text.{Utf8}
use Rattle.lr_rules.specs.Match.{Matches}
use Rattle.lr_match.specs.Classes.{HasNoClass, spare}
use Rattle.lr_match.proofs.pattern.matches_dotted.Given as goal

abbrev pub invariant-loop-sign : goal.invariant-loop-sign
invariant-loop-sign g l = record {
  asked_text : shadow (Utf8 l.asked);
  on : Matches true (chars l.pattern) (46 ∷ chars l.rest) → Matches true (chars l.asked) (46 ∷ chars l.rest);
  back : Matches true (chars l.asked) (46 ∷ chars l.rest) → Matches true (chars l.pattern) (46 ∷ chars l.rest);
  asked_shorter : length (chars l.asked) ≤ length (chars l.pattern);
  closes : l.closes ≡ false → HasNoClass (chars l.asked);
  few : l.steps + 2 * length (chars l.asked) + spare l.closes (length (chars l.pattern) + 2) ≤ l.fn.steps + 2 * length (chars l.pattern) + (length (chars l.pattern) + 2);
}

abbrev pub decreases-loop-sign : goal.decreases-loop-sign
decreases-loop-sign g l = length (chars l.asked)
