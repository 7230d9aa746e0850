use Rattle.std.proofs.Common.{◌≡◌, ◌≤◌, ◌+◌, ◌*◌, ◌∷◌, ℕ, false, length}
use Rattle.std.specs.Str.{chars}
use denote.Shadow.{shadow}
use denote.Text.{Utf8}
use Rattle.lr_rules.specs.Match.{Matches}
use Rattle.lr_match.specs.Classes.{HasNoClass, spare}
use Rattle.lr_match.specs.Reached.{reach_steps}
use Rattle.lr_match.proofs.walk.matches_somewhere.Given as goal

abbrev pub invariant-loop-behind : goal.invariant-loop-behind
invariant-loop-behind g l = record {
  asked_text : shadow (Utf8 l.asked);
  left_text : shadow (Utf8 l.left);
  on : Matches false (42 ∷ chars l.pattern) (chars l.name) → Matches false (42 ∷ chars l.asked) (chars l.left);
  back : Matches false (42 ∷ chars l.asked) (chars l.left) → Matches false (42 ∷ chars l.pattern) (chars l.name);
  asked_shorter : length (chars l.asked) ≤ length (chars l.pattern);
  closes : l.closing ≡ false → HasNoClass (chars l.asked);
  few : (m : ℕ) → length (chars l.pattern) ≤ m → l.steps + 8 * length (chars l.asked) + spare l.closing (m + 2) + reach_steps m * length (chars l.left) ≤ l.fn.steps + 8 * length (chars l.pattern) + spare l.closes (m + 2) + reach_steps m * length (chars l.name);
}

abbrev pub decreases-loop-behind : goal.decreases-loop-behind
decreases-loop-behind g l = length (chars l.asked) + length (chars l.left)
