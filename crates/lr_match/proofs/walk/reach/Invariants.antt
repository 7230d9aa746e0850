use Rattle.std.proofs.Common.{◌≡◌, ◌≤◌, ◌+◌, ◌*◌, ℕ, false, length}
use Rattle.std.specs.Str.{chars}
use denote.Shadow.{shadow}
use denote.Text.{Utf8}
use Rattle.lr_match.specs.Classes.{HasNoClass, spare}
use Rattle.lr_match.specs.Reached.{MatchLeadsTo}
use Rattle.lr_match.proofs.walk.reach.Given as goal

abbrev pub invariant-loop-sign : goal.invariant-loop-sign
invariant-loop-sign g l = record {
  asked_text : shadow (Utf8 l.asked);
  left_text : shadow (Utf8 l.left);
  leads : MatchLeadsTo (chars l.pattern) (chars l.name) (chars l.asked) (chars l.left);
  asked_shorter : length (chars l.asked) ≤ length (chars l.pattern);
  left_shorter : length (chars l.left) ≤ length (chars l.name);
  closes : l.closes ≡ false → HasNoClass (chars l.asked);
  few : (m : ℕ) → length (chars l.pattern) ≤ m → l.steps + 6 * length (chars l.asked) + spare l.closes (m + 2) ≤ l.fn.steps + 6 * length (chars l.pattern) + spare l.fn.closes (m + 2);
}

abbrev pub decreases-loop-sign : goal.decreases-loop-sign
decreases-loop-sign g l = length (chars l.asked)
